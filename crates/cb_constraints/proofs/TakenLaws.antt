-- The value at a place, by the number of the place's constraint.
use Rattle.std.proofs.Common.{arith, ◌≡◌, ◌∙◌, ◌&&◌, ◌||◌, ◌<◌, ◌≤◌, ◌≢◌, ℕ, zero, suc, Bool, true, false, List, [], ◌∷◌, Option, None, Some, ap, eqb-true, length, nat_eq, nat_lt, option_map, refl, slice_index_or, sym, if◌then◌else◌}
use Rattle.std.proofs.lemmas.Bool.{eqb-false, ltb-false, ltb-true}
use Rattle.std.proofs.lemmas.List.{get_or_past}
use Rattle.cb_constraints.specs.Internal.Known.{taken_at, taken_if}
use Rattle.cb_constraints.specs.Internal.Places.{if_before, is_before}
use Rattle.cb_constraints.specs.declared.place.Place.{Place}
use Rattle.cb_facts.specs.declared.value.Value.{Value}

pub taken_before : (vs : List Value) (v : Value) (i m k : ℕ) (d : Value) → m < length vs → taken_at vs v i m k ≡ Some (slice_index_or vs m d)
taken_before [] v i m k d lt = absurd (omega arith)
taken_before (w ∷ ws) v i zero k d lt = refl
taken_before (w ∷ ws) v i (suc m) k d lt = taken_before ws v i m k d (omega arith)

taken-here : (vs : List Value) (v : Value) (i m k : ℕ) → m ≡ length vs → taken_at vs v i m k ≡ (if nat_lt k i then Some v else None)
taken-here [] v i zero k e = refl
taken-here [] v i (suc m) k e = absurd (omega arith)
taken-here (w ∷ ws) v i zero k e = absurd (omega arith)
taken-here (w ∷ ws) v i (suc m) k e = taken-here ws v i m k (omega arith)

taken-later : (vs : List Value) (v : Value) (i m k : ℕ) → length vs < m → taken_at vs v i m k ≡ None
taken-later [] v i zero k lt = absurd (omega arith)
taken-later [] v i (suc m) k lt = refl
taken-later (w ∷ ws) v i zero k lt = absurd (omega arith)
taken-later (w ∷ ws) v i (suc m) k lt = taken-later ws v i m k (omega arith)

-- so it is that of its constraint, or the one that is tested, if the place is before the check
at-place : (vs : List Value) (v : Value) (i : ℕ) (p : Place) → taken_at vs v i p.constraint p.check ≡ (if is_before p (length vs) i then Some (slice_index_or vs p.constraint v) else None)
at-place vs v i p = by (nat_lt p.constraint (length vs)) (nat_eq p.constraint (length vs)) refl refl
  where
    by : (a b : Bool) → nat_lt p.constraint (length vs) ≡ a → nat_eq p.constraint (length vs) ≡ b
        → taken_at vs v i p.constraint p.check ≡ (if a || (b && nat_lt p.check i) then Some (slice_index_or vs p.constraint v) else None)
    by true b less same = taken_before vs v i p.constraint p.check v (ltb-true p.constraint (length vs) less)
    by false true less same =
        let here : p.constraint ≡ length vs = eqb-true p.constraint (length vs) same in
        taken-here vs v i p.constraint p.check here
        ∙ ap (λ w. if nat_lt p.check i then Some w else None) (sym (get_or_past vs p.constraint v (omega arith)))
    by false false less same =
        let from : length vs ≤ p.constraint = ltb-false p.constraint (length vs) less in
        let other : p.constraint ≢ length vs = eqb-false p.constraint (length vs) same in
        taken-later vs v i p.constraint p.check (omega arith)

pub taken_if_before : (vs : List Value) (v : Value) (i : ℕ) (o : Option Place) → taken_if vs v i o ≡ option_map (λ p. slice_index_or vs p.constraint v) (if_before (length vs) i o)
taken_if_before vs v i None = refl
taken_if_before vs v i (Some p) = at-place vs v i p ∙ by (is_before p (length vs) i)
  where
    by : (b : Bool) → (if b then Some (slice_index_or vs p.constraint v) else None) ≡ option_map (λ q. slice_index_or vs q.constraint v) (if b then Some p else None)
    by true = refl
    by false = refl
