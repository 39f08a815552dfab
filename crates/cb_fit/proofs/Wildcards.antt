-- Patterns of one wildcard.
use Rattle.std.proofs.Common.{arith, ◌≡◌, ◌≢◌, ◌∙◌, ◌+◌, ◌-◌, Bool, true, false, ℕ, List, [], ◌∷◌, ◌++◌, ap, drop, length, map, refl}
use Rattle.std.proofs.lemmas.List.{drop_all}
use Rattle.std.specs.Cmp.Lexicographic.{bytes_decides}
use Rattle.std.specs.List.{flat_map}
use Rattle.std.specs.Prelude.{if◌then◌else◌}
use Rattle.std.specs.Str.{bytes_eq}
use Rattle.cb_constraints.specs.Constraints.{Constraint}
use Rattle.cb_constraints.specs.PatternValues.{fields}
use Rattle.cb_exprs.specs.Bindings.{Bindings}
use Rattle.cb_facts.specs.Facts.{ordered_fact}
use Rattle.cb_facts.specs.declared.single.Single.{Single}
use Rattle.cb_fit.proofs.Groups.{lengths-enough}
use Rattle.cb_fit.proofs.Related.{took}
use Rattle.cb_fit.proofs.Rows.{one-step, step}
use Rattle.cb_fit.specs.Laws.{any_fields, of_length, of_one, one_field}
use Rattle.cb_fit.specs.Ways.{Taken, after_cuts, numbers, way_with, ways, ways_of_row}

-- the ways of a pattern of one constraint are those of its row
of-row : (r : List ℕ) (c : Constraint) (fs : List Single) (env : Bindings) (ts : List Taken) → ways_of_row (c ∷ []) fs env ≡ ts
    → ways (of_one r c) (ordered_fact r fs) env ≡ map (way_with (fields (c ∷ [])) env) ts
of-row r c fs env ts e = by (bytes_eq r r) ((bytes_decides r r).1 refl) ∙ ap (map (way_with (fields (c ∷ [])) env)) e
  where
    by : (b : Bool) → b ≡ true → (if b then map (way_with (fields (c ∷ [])) env) (ways_of_row (c ∷ []) fs env) else []) ≡ map (way_with (fields (c ∷ [])) env) (ways_of_row (c ∷ []) fs env)
    by true d = refl
    by false d = let never : false ≡ true = d in cc

pub takes-one : (r : List ℕ) (f : Single) (env : Bindings) → ways (of_one r one_field) (ordered_fact r (f ∷ [])) env ≡ of_length 1 ∷ []
takes-one r f env = of-row r one_field (f ∷ []) env (took (1 ∷ []) env ∷ []) (one-step one_field [] (f ∷ []) env refl)

no-other-row : (fs : List Single) (env : Bindings) → length fs ≢ 1 → ways_of_row (one_field ∷ []) fs env ≡ []
no-other-row [] env h = one-step one_field [] [] env refl
no-other-row (f ∷ []) env h = absurd (h refl)
no-other-row (f ∷ g ∷ fs) env h = one-step one_field [] (f ∷ g ∷ fs) env refl

pub takes-no-other : (r : List ℕ) (fs : List Single) (env : Bindings) → length fs ≢ 1 → ways (of_one r one_field) (ordered_fact r fs) env ≡ []
takes-no-other r fs env h = of-row r one_field fs env [] (no-other-row fs env h)

all-taken : (n : ℕ) (rest : List Single) (env : Bindings) → rest ≡ [] → map (after_cuts (n ∷ [])) (ways_of_row [] rest env) ++ [] ≡ took (n ∷ []) env ∷ []
all-taken n rest env e = ap (λ fs. map (after_cuts (n ∷ [])) (ways_of_row [] fs env) ++ []) e

all-of-row : (fs : List Single) (env : Bindings) → ways_of_row (any_fields ∷ []) fs env ≡ took (length fs ∷ []) env ∷ []
all-of-row fs env =
    lengths-enough any_fields [] fs env (length fs) (length fs) (omega arith) (λ t. refl) (omega arith)
    ∙ (ap (λ k. flat_map (step any_fields [] fs env) (numbers (length fs) k)) (one-left (length fs))
    ∙ ap (λ ts. ts ++ []) (all-taken (length fs) (drop (length fs) fs) env (drop_all (length fs) fs (omega arith))))
  where
    one-left : (n : ℕ) → n + 1 - n ≡ 1
    one-left n = omega arith

pub takes-all : (r : List ℕ) (fs : List Single) (env : Bindings) → ways (of_one r any_fields) (ordered_fact r fs) env ≡ of_length (length fs) ∷ []
takes-all r fs env = of-row r any_fields fs env (took (length fs ∷ []) env ∷ []) (all-of-row fs env)
