-- Variables that are given values one after another, and each once.
use Rattle.std.proofs.Common.{◌≡◌, ◌∙◌, ◌++◌, ◌∷◌, [], List, ℕ, Bool, true, false, not, cond, filter, Option, Some, None, ap, refl, sym}
use Rattle.std.proofs.lemmas.Bool.{false_from_ne_true}
use Rattle.std.proofs.lemmas.List.{append-nil, append_assoc}
use Rattle.std.specs.Cmp.Lexicographic.{bytes_decides}
use Rattle.std.specs.List.{flat_map}
use Rattle.std.specs.Str.{bytes_eq}
use Rattle.cb_exprs.specs.Bindings.{Bindings, value_at, with_variable}
use Rattle.cb_exprs.proofs.ValueLaws.{value_at-with_value, value_at_set}
use Rattle.cb_facts.specs.declared.value.Value.{Value}
use Rattle.cb_constraints.specs.Bound.{each_once, given, given_if}

-- variables with the values that they were given so far, and what variables have with them
pub record GivenSoFar : Type 0 where
  pub bound : List (List ℕ × Value)
  pub env : Bindings

-- one more, if it has no value yet and has one after
abbrev pub given_one : List ℕ → Option Value → Option Value → GivenSoFar → GivenSoFar
given_one x None (Some v) g = record { bound = g.bound ++ (x, v) ∷ []; env = with_variable x v g.env }
given_one x before after g = g

-- those of the variables that have no value yet and have one after
abbrev pub given_all : List (List ℕ) → Bindings → GivenSoFar → GivenSoFar
given_all [] after g = g
given_all (x ∷ xs) after g = given_all xs after (given_one x (value_at x g.env.variables) (value_at x after.variables) g)

pub given_more : (xs ys : List (List ℕ)) (after : Bindings) (g : GivenSoFar) → given_all (xs ++ ys) after g ≡ given_all ys after (given_all xs after g)
given_more [] ys after g = refl
given_more (x ∷ xs) ys after g = given_more xs ys after (given_one x (value_at x g.env.variables) (value_at x after.variables) g)

abbrev others : List ℕ → List (List ℕ) → List (List ℕ)
others x ys = filter (λ y. not (bytes_eq x y)) ys

-- where a name is among them no more, the others are given what they were given
module _ (x : List ℕ) (now before : List ℕ → List (List ℕ × Value)) (none : now x ≡ []) (same : (y : List ℕ) → bytes_eq x y ≡ false → now y ≡ before y) where
  one : (y : List ℕ) (ys : List (List ℕ)) (t : Bool) → bytes_eq x y ≡ t → flat_map now ys ≡ flat_map before (others x ys)
      → now y ++ flat_map now ys ≡ flat_map before (cond (not t) (y ∷ others x ys) (others x ys))
  one y ys true e more = ap (λ z. now z ++ flat_map now ys) (sym ((bytes_decides x y).0 e)) ∙ ap (λ vs. vs ++ flat_map now ys) none ∙ more
  one y ys false e more = ap (λ vs. vs ++ flat_map now ys) (same y e) ∙ ap (λ vs. before y ++ vs) more

  without : (ys : List (List ℕ)) → flat_map now ys ≡ flat_map before (others x ys)
  without [] = refl
  without (y ∷ ys) = one y ys (bytes_eq x y) refl (without ys)

apart_too : (x y : List ℕ) → bytes_eq x y ≡ false → bytes_eq y x ≡ false
apart_too x y apart = false_from_ne_true (bytes_eq y x) (λ e. let yes : bytes_eq x y ≡ true = (bytes_decides x y).1 (sym ((bytes_decides y x).0 e)) in cc)

given-now : (x : List ℕ) (v : Value) (env after : Bindings) (y : List ℕ) → bytes_eq x y ≡ false → given (with_variable x v env) after y ≡ given env after y
given-now x v env after y apart =
    ap (λ o. given_if y o (value_at y after.variables))
    (value_at-with_value env.variables y x v ∙ ap (λ t. cond t (Some v) (value_at y env.variables)) (apart_too x y apart))

given-set : (x : List ℕ) (v : Value) (env after : Bindings) → given (with_variable x v env) after x ≡ []
given-set x v env after = ap (λ o. given_if x o (value_at x after.variables)) (value_at_set env.variables x v) ∙ settled (value_at x after.variables)
  where
    settled : (o : Option Value) → given_if x (Some v) o ≡ []
    settled o = refl

pub given_once : (xs : List (List ℕ)) (after : Bindings) (g : GivenSoFar) → (given_all xs after g).bound ≡ g.bound ++ flat_map (given g.env after) (each_once xs)
given_once [] after g = sym (append-nil g.bound)
given_once (x ∷ xs) after g = by (value_at x g.env.variables) (value_at x after.variables) refl refl (λ h. given_once xs after h)
  where
    kept : (o p : Option Value) → given_one x o p g ≡ g → given_if x o p ≡ [] → given g.env after x ≡ [] → (given_all xs after g).bound ≡ g.bound ++ flat_map (given g.env after) (each_once xs)
        → (given_all xs after (given_one x o p g)).bound ≡ g.bound ++ (given_if x o p ++ flat_map (given g.env after) (others x (each_once xs)))
    kept o p is none now more =
        ap (λ h. (given_all xs after h).bound) is ∙ more
        ∙ ap (λ vs. g.bound ++ vs) (without x (given g.env after) (given g.env after) now (λ y e. refl) (each_once xs) ∙ ap (λ vs. vs ++ flat_map (given g.env after) (others x (each_once xs))) (sym none))

    by : (o p : Option Value) → value_at x g.env.variables ≡ o → value_at x after.variables ≡ p → ((h : GivenSoFar) → (given_all xs after h).bound ≡ h.bound ++ flat_map (given h.env after) (each_once xs))
        → (given_all xs after (given_one x o p g)).bound ≡ g.bound ++ (given_if x o p ++ flat_map (given g.env after) (others x (each_once xs)))
    by None (Some v) old now more =
        more (given_one x None (Some v) g)
        ∙ append_assoc g.bound ((x, v) ∷ []) (flat_map (given (with_variable x v g.env) after) (each_once xs))
        ∙ ap (λ vs. g.bound ++ ((x, v) ∷ vs)) (without x (given (with_variable x v g.env) after) (given g.env after) (given-set x v g.env after) (λ y e. given-now x v g.env after y e) (each_once xs))
    by None None old now more = kept None None refl refl (ap (λ o. given_if x o (value_at x after.variables)) old ∙ ap (given_if x None) now) (more g)
    by (Some w) p old now more = kept (Some w) p refl refl (ap (λ o. given_if x o (value_at x after.variables)) old) (more g)
