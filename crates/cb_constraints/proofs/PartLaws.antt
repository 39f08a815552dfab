-- PatternParts of fields, and the fields of a row's slot.
use Rattle.std.proofs.Common.{arith, ◌≡◌, ◌∙◌, ◌+◌, ◌<◌, ◌≤◌, ℕ, zero, suc, false, List, [], ◌∷◌, None, Some, ap, drop, length, map, min, refl, sym, take}
use Rattle.std.specs.List.{slice_get}
use Rattle.cb_constraints.specs.PartValues.{asked_slot}
use Rattle.cb_constraints.specs.declared.pattern_parts.SlotRow.{SlotRow}
use Rattle.cb_constraints.specs.Internal.RowFields.{IsFirst}
use Rattle.cb_constraints.specs.Internal.Values.{first_fields, first_row_fields, value_taken}
use Rattle.cb_facts.specs.declared.single.Single.{Single}
use Rattle.cb_facts.specs.declared.value.Value.{Value}

pub one_taken : (fs : List Single) (at from n to : ℕ) (t : Value) → at ≡ min from (length fs) → at < to → to ≤ length fs → to ≤ from + n → IsFirst t (drop (at + 1) fs) (drop at fs) → t ≡ value_taken false (take n (drop from fs))
one_taken fs at from zero to t e lt le few first = absurd (omega (arith, e, lt, le, few))
one_taken fs at from (suc n) to t e lt le few (f, split, is) = is ∙ sym (ap (λ xs. value_taken false (take (suc n) xs)) (ap (λ k. drop k fs) same ∙ split))
  where
    same : from ≡ at
    same = omega (arith, e, lt, le)

pub no_row : (rows : List SlotRow) (r : ℕ) (slots : List (List ℕ × Value)) → slice_get rows r ≡ None → first_row_fields (drop r (map asked_slot rows)) slots ≡ []
no_row [] zero slots e = refl
no_row [] (suc r) slots e = refl
no_row (s ∷ rows) zero slots e = let no : Some s ≡ None = e in absurd (apart no)
  where
    apart : Some s ≡ None → ⊥
    apart d = cc
no_row (s ∷ rows) (suc r) slots e = no_row rows r slots e

pub a_row : (rows : List SlotRow) (r : ℕ) (slots : List (List ℕ × Value)) (s : SlotRow) → slice_get rows r ≡ Some s → first_row_fields (drop r (map asked_slot rows)) slots ≡ first_fields (drop s.place slots)
a_row [] zero slots s e = absurd (apart e)
  where
    apart : None ≡ Some s → ⊥
    apart d = cc
a_row [] (suc r) slots s e = absurd (apart e)
  where
    apart : None ≡ Some s → ⊥
    apart d = cc
a_row (b ∷ rows) zero slots s e = ap (λ (t : SlotRow). first_fields (drop t.place slots)) (same e)
  where
    same : Some b ≡ Some s → b ≡ s
    same d = cc
a_row (b ∷ rows) (suc r) slots s e = a_row rows r slots s e
