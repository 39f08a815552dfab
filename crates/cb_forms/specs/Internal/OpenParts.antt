-- What is kept of the part that a text so far ends with.
use Rattle.std.specs.Prelude.{◌≡◌, ◌≤◌, ℕ, true, false, List, [], ◌∷◌, ◌++◌, ⊤, Bool, length, take}
use Rattle.cb_forms.specs.Cuts.{is_too_long}
use Rattle.cb_forms.specs.Internal.Cuts.{cut_readings, open_bytes, part_with, readings_before}
use Rattle.cb_forms.specs.Items.{ended_readings, is_longer}
use Rattle.cb_forms.specs.Internal.ScanStates.{IsStateIn}
use Rattle.cb_forms.specs.Trees.{Reading}
use Rattle.cb_forms.specs.declared.cut.Cut.{Cut}
use Rattle.cb_forms.specs.declared.cut.Cut.TheVariants as cut
use Rattle.cb_forms.specs.declared.open_part.OpenPart.{OpenPart}

-- the bytes of the part where it is an open item, and the state after its last byte
pub record IsKept (part : OpenPart) : Type 0 where
  pub state_is : IsStateIn part.spelled.items part.state.mode part.state.depth
  pub bytes_are : part.bytes ≡ open_bytes part.spelled.items
  pub depth_fits : part.state.depth ≤ length part.bytes

-- A byte has made w the part that the text ends with, and given an item that ended before it.
pub record Reaches (limit : ℕ) (w : List ℕ) (before : List Reading) (given : Cut) (part : OpenPart) : Type 0 where
  pub too_long : is_too_long given ≡ is_longer limit w
  pub cleared : is_too_long given ≡ true → part.bytes ≡ []
  pub items : is_too_long given ≡ false → cut_readings given ≡ before ++ ended_readings w
  pub spelled : is_too_long given ≡ false → part.spelled.items ≡ w
  pub kept : is_too_long given ≡ false → IsKept part

-- the part that a text ends with, with these bytes more
abbrev pub part_after : List ℕ → List ℕ → List ℕ
part_after w [] = w
part_after w (b ∷ bs) = part_after (part_with w b) bs

-- Where a text ends with the part w, no item ends before or with one of these bytes, and none gets too long.
abbrev pub CompletesNone : ℕ → List ℕ → List ℕ → Type 0
CompletesNone limit w [] = ⊤
CompletesNone limit w (b ∷ bs) =
    (readings_before w b ++ ended_readings (part_with w b) ≡ []) × (is_longer limit (part_with w b) ≡ false)
    × CompletesNone limit (part_with w b) bs

-- A run of bytes that completes nothing has been added to a text that ended with the part w.
pub record HasPassed (limit : ℕ) (w run : List ℕ) (part : OpenPart) : Type 0 where
  pub completes : CompletesNone limit w run
  pub spelled : part.spelled.items ≡ part_after w run
  pub kept : IsKept part

-- what a function does that takes a byte only where that completes nothing
pub record TakesOrLeaves (limit : ℕ) (old : OpenPart) (b : ℕ) (is_taken : Bool) (new : OpenPart) : Type 0 where
  pub taken : is_taken ≡ true → Reaches limit (part_with old.spelled.items b) (readings_before old.spelled.items b) cut.More new
  pub untouched : is_taken ≡ false → new ≡ old

-- what a function does that takes as many of these bytes as it says, where these complete nothing
pub record TakesRun (limit : ℕ) (old : OpenPart) (bytes : List ℕ) (taken : ℕ) (new : OpenPart) : Type 0 where
  pub within : taken ≤ length bytes
  pub passed : HasPassed limit old.spelled.items (take taken bytes) new
