-- How many of a list name each relation.
use Rattle.std.specs.Prelude.{◌≡◌, ℕ, List}
use Rattle.std.specs.List.{sum_by}
use Rattle.std.specs.Str.{bytes_eq}
use Rattle.cb_facts.specs.RelationCounts.{Counts, count_of, one_if}

-- of these, so many name the relation
abbrev pub naming : {X : Type 0} → (X → List ℕ) → List X → List ℕ → ℕ
naming named xs relation = sum_by (λ x. one_if (bytes_eq (named x) relation)) xs

-- the table counts how many of these name each relation
abbrev pub IsCountOf : {X : Type 0} → (X → List ℕ) → Counts → List X → Type 0
IsCountOf named counts xs = (relation : List ℕ) → count_of counts relation ≡ naming named xs relation
