-- One more segment gives one more value.
use Rattle.std.proofs.Common.{◌≡◌, ◌∙◌, ◌++◌, ◌-◌, ℕ, zero, suc, List, [], ◌∷◌, Some, ap, drop, length, refl, sym, take}
use Rattle.std.proofs.lemmas.List.{append-nil, append_assoc}
use Rattle.std.specs.List.{slice_get}
use Rattle.cb_constraints.specs.Internal.Places.{sites_in}
use Rattle.cb_constraints.specs.PatternValues.{PatternParts}
use Rattle.cb_constraints.specs.declared.site.Site.{Site}
use Rattle.cb_constraints.specs.Internal.Values.{fields_of_row, fields_taken, next_value, value_at_site, value_taken, values_after, values_taken}
use Rattle.cb_facts.specs.Facts.{FactContent}

module _ (parts : PatternParts) (content : FactContent) where
  as-many : (before cuts : List ℕ) → length (values_after parts content before cuts) ≡ length cuts
  as-many before [] = refl
  as-many before (n ∷ cuts) = ap suc (as-many (before ++ n ∷ []) cuts)

  one-after : (before cuts : List ℕ) (n : ℕ) → values_after parts content before (cuts ++ n ∷ []) ≡ values_after parts content before cuts ++ next_value parts content (before ++ cuts) n ∷ []
  one-after before [] n = ap (λ xs. next_value parts content xs n ∷ []) (sym (append-nil before))
  one-after before (m ∷ cuts) n =
      ap (λ vs. next_value parts content before m ∷ vs)
      (one-after (before ++ m ∷ []) cuts n
      ∙ ap (λ xs. values_after parts content (before ++ m ∷ []) cuts ++ next_value parts content xs n ∷ []) (append_assoc before (m ∷ []) cuts))

pub as_many_values : (parts : PatternParts) (content : FactContent) (cuts : List ℕ) → length (values_taken parts content cuts) ≡ length cuts
as_many_values parts content cuts = as-many parts content [] cuts

pub one_more_value : (parts : PatternParts) (content : FactContent) (cuts : List ℕ) (n : ℕ) → values_taken parts content (cuts ++ n ∷ []) ≡ values_taken parts content cuts ++ next_value parts content cuts n ∷ []
one_more_value parts content cuts n = one-after parts content [] cuts n

first-left : (k : ℕ) (sites : List Site) (site : Site) (rest : List Site) → drop k sites ≡ site ∷ rest → slice_get sites k ≡ Some site
first-left zero [] site rest e = absurd (apart e)
  where
    apart : [] ≡ site ∷ rest → ⊥
    apart d = cc
first-left (suc k) [] site rest e = absurd (apart e)
  where
    apart : [] ≡ site ∷ rest → ⊥
    apart d = cc
first-left zero (s ∷ sites) site rest e = ap Some (same e)
  where
    same : s ∷ sites ≡ site ∷ rest → s ≡ site
    same d = cc
first-left (suc k) (s ∷ sites) site rest e = first-left k sites site rest e

-- the site of the constraint that comes next says which fields its value is made of
pub next_is : (parts : PatternParts) (content : FactContent) (before : List ℕ) (n : ℕ) (site : Site) (rest : List Site) → drop (length before) (sites_in parts) ≡ site ∷ rest
    → next_value parts content before n ≡ value_taken site.takes_segment (take n (drop (fields_taken before - fields_taken (take site.start before)) (fields_of_row site.row parts content)))
next_is parts content before n site rest e = ap (λ o. value_at_site o parts content before n) (first-left (length before) (sites_in parts) site rest e)
