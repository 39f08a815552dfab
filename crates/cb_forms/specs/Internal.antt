-- What only the code needs.
pub mod KeptBytes
pub mod ListStacks
pub mod OpenParts
pub mod ScanStates
pub mod Cuts
use Rattle.std.specs.Prelude.{◌≡◌, ℕ, ◌+◌, ◌-◌, ◌^◌, Bool, true, false, List, [], min}
use Rattle.cb_forms.specs.Items.{parts, last_part, whole, over}
use Rattle.cb_forms.specs.Internal.OpenParts.{IsKept}
use Rattle.cb_forms.specs.Lines.{open_line}
use Rattle.cb_forms.specs.Trees.{Reading}
use Rattle.cb_forms.specs.declared.open_part.OpenPart.{OpenPart}

-- so many lines further
abbrev pub line_with : ℕ → ℕ → ℕ
line_with line more = min (line + more) (2 ^ 64 - 1)

-- What is kept is the open part of the text stepped, until an item is too long: then nothing is.
pub record IsInStep (limit : ℕ) (stepped : List ℕ) (given : List Reading) (part : OpenPart) (is_over : Bool) (line : ℕ) : Type 0 where
  pub over_is : is_over ≡ over limit stepped
  pub cleared : is_over ≡ true → part.bytes ≡ []
  pub given_is : is_over ≡ false → given ≡ whole stepped
  pub spelled : is_over ≡ false → part.spelled.items ≡ last_part (parts stepped)
  pub kept : is_over ≡ false → IsKept part
  pub line_is : is_over ≡ false → line ≡ open_line stepped
