-- The value at a place.
use Rattle.std.proofs.Common.{arith, ◌≡◌, ◌∙◌, ◌++◌, ◌<◌, ℕ, zero, suc, List, [], ◌∷◌, ap, get_or, length, min, slice_index_or, sym, take}
use Rattle.std.proofs.lemmas.List.{append-nil, append_assoc, length-take}
use Rattle.std.specs.List.{slice_get}
use Rattle.cb_constraints.specs.Internal.Places.{sites_in}
use Rattle.cb_constraints.specs.PatternValues.{PatternParts}
use Rattle.cb_constraints.specs.Internal.Values.{next_value, value_at_site, values_after, values_taken}
use Rattle.cb_facts.specs.Facts.{FactContent}
use Rattle.cb_facts.specs.declared.value.Value.{Value}

module _ (parts : PatternParts) (content : FactContent) where
  nth : (before cuts : List ℕ) (m : ℕ) (d : Value) → m < length cuts → slice_index_or (values_after parts content before cuts) m d ≡ next_value parts content (before ++ take m cuts) (get_or cuts m 0)
  nth before [] m d lt = absurd (omega (arith, lt))
  nth before (n ∷ cuts) zero d lt = ap (λ xs. next_value parts content xs n) (sym (append-nil before))
  nth before (n ∷ cuts) (suc m) d lt =
      nth (before ++ n ∷ []) cuts m d (omega (arith, lt))
      ∙ ap (λ xs. next_value parts content xs (get_or cuts m 0)) (append_assoc before (n ∷ []) (take m cuts))

pub value_with_number : (parts : PatternParts) (content : FactContent) (cuts : List ℕ) (m : ℕ) (d : Value) → m < length cuts → slice_index_or (values_taken parts content cuts) m d ≡ next_value parts content (take m cuts) (get_or cuts m 0)
value_with_number parts content cuts m d lt = nth parts content [] cuts m d lt

-- the value at the site of its number is that of the list
pub read_value : (parts : PatternParts) (content : FactContent) (cuts : List ℕ) (m : ℕ) (d : Value) → m < length cuts
    → value_at_site (slice_get (sites_in parts) m) parts content (take m cuts) (get_or cuts m 0) ≡ slice_index_or (values_taken parts content cuts) m d
read_value parts content cuts m d lt =
    ap (λ k. value_at_site (slice_get (sites_in parts) k) parts content (take m cuts) (get_or cuts m 0)) (sym (length-take m cuts ∙ short))
    ∙ sym (value_with_number parts content cuts m d lt)
  where
    short : min m (length cuts) ≡ m
    short = omega (arith, lt)
