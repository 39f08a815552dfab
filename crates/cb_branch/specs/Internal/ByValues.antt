-- Patterns that are decided by values: what is compared, and what their own address has to do with it.
use Rattle.std.specs.Prelude.{◌≡◌, ℕ, Bool, true, false, List, [], Option, Some, None}
use Rattle.std.specs.List.{list_any}
use Rattle.std.specs.Str.{bytes_eq}
use Rattle.cb_branch.specs.declared.kinds.Kind.{Kind}
use Rattle.cb_branch.specs.declared.kinds.Kind.TheVariants as kind
use Rattle.cb_constraints.specs.PatternValues.{PatternValue}
use Rattle.cb_exprs.specs.Terms.{Term}
use Rattle.cb_fit.specs.Comparisons.{choice_fields, compared_fields, conditions, is_decided}
use Rattle.cb_fit.specs.Plain.{bound_names, is_named}
use Rattle.cb_fit.specs.StandsAlone.{stands_alone}
use Rattle.cb_fit.specs.declared.comparison.ComparedField.{ComparedField}

-- a variable is that of an address
abbrev pub is_own : Option (List ℕ) → List ℕ → Bool
is_own None x = false
is_own (Some y) x = bytes_eq y x

-- the pattern is decided by values without alternatives and conditions, and these are the fields that it compares
pub record IsDecidedBy (p : PatternValue) (cs : List ComparedField) : Type 0 where
  pub decided : is_decided p ≡ true
  pub unchosen : choice_fields p.parts ≡ []
  pub unconditional : conditions p.parts ≡ []
  pub compared : cs ≡ compared_fields p.parts

-- the pattern is decided by values without alternatives, and these are the fields that it compares and its conditions
pub record IsJoinedBy (p : PatternValue) (cs : List ComparedField) (ts : List Term) : Type 0 where
  pub decided : is_decided p ≡ true
  pub unchosen : choice_fields p.parts ≡ []
  pub compared : cs ≡ compared_fields p.parts
  pub conditional : ts ≡ conditions p.parts

-- the variable of the address is none of the pattern's, and none that these fields are compared with
abbrev pub IsElsewhere : Option (List ℕ) → PatternValue → List ComparedField → Type 0
IsElsewhere address p cs = (x : List ℕ) → address ≡ Some x → (is_named x (bound_names p) ≡ false) × (list_any (λ (c : ComparedField). bytes_eq x c.variable) cs ≡ false)

-- how a group of this pattern is kept, or of other elements
abbrev pub IsKind : Kind → Option PatternValue → Type 0
IsKind kind.Alone lone = (p : PatternValue) × (lone ≡ Some p) × (stands_alone p ≡ true)
IsKind (kind.LookedUp compared) lone = (p : PatternValue) × (lone ≡ Some p) × IsDecidedBy p compared.items
IsKind kind.Nested lone = lone ≡ None
