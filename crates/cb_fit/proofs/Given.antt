-- What variables have after others were given a value.
use Rattle.std.proofs.Common.{◌≡◌, ◌∙◌, ◌||◌, ℕ, Bool, true, false, cond, List, [], ◌∷◌, Option, Some, None, ap, refl, sym}
use Rattle.std.specs.Cmp.Lexicographic.{bytes_decides}
use Rattle.std.specs.Option.{option_map_or, option_or}
use Rattle.std.specs.Str.{bytes_eq}
use Rattle.cb_constraints.specs.Internal.Known.{given_to, given_to_all}
use Rattle.cb_fit.specs.Plain.{is_named}
use Rattle.cb_exprs.proofs.ValueLaws.{value_at-with_value}
use Rattle.cb_exprs.specs.Bindings.{Bindings, value_at, with_variable}
use Rattle.cb_facts.specs.declared.value.Value.{Value}

-- a value, if a test says so
abbrev pub if_so : Bool → Value → Option Value
if_so b v = cond b (Some v) None

pub or_none : (o : Option Value) → option_or o None ≡ o
or_none None = refl
or_none (Some w) = refl

or_or : (a b c : Option Value) → option_or (option_or a b) c ≡ option_or a (option_or b c)
or_or None b c = refl
or_or (Some w) b c = refl

if_either : (a b : Bool) (v : Value) → option_or (if_so a v) (if_so b v) ≡ if_so (a || b) v
if_either true b v = refl
if_either false b v = refl

-- the value of a variable after one was given one
pub after_one : (y x : List ℕ) (v : Value) (env : Bindings) → value_at y (given_to x v env).variables ≡ option_or (value_at y env.variables) (if_so (bytes_eq y x) v)
after_one y x v env = by (value_at x env.variables) refl
  where
    set : (t : Bool) → (t ≡ true → value_at y env.variables ≡ None) → cond t (Some v) (value_at y env.variables) ≡ option_or (value_at y env.variables) (if_so t v)
    set true none = ap (λ o. option_or o (Some v)) (sym (none refl))
    set false none = sym (or_none (value_at y env.variables))

    kept : (t : Bool) (w : Value) → (t ≡ true → value_at y env.variables ≡ Some w) → value_at y env.variables ≡ option_or (value_at y env.variables) (if_so t v)
    kept true w some = some refl ∙ ap (λ o. option_or o (Some v)) (sym (some refl))
    kept false w some = sym (or_none (value_at y env.variables))

    same : (o : Option Value) → value_at x env.variables ≡ o → bytes_eq y x ≡ true → value_at y env.variables ≡ o
    same o is t = ap (λ z. value_at z env.variables) ((bytes_decides y x).0 t) ∙ is

    by : (o : Option Value) → value_at x env.variables ≡ o → value_at y (option_map_or (λ w. env) o (with_variable x v env)).variables ≡ option_or (value_at y env.variables) (if_so (bytes_eq y x) v)
    by None is = value_at-with_value env.variables y x v ∙ set (bytes_eq y x) (same None is)
    by (Some w) is = kept (bytes_eq y x) w (same (Some w) is)

-- and after several were
pub after_several : (y : List ℕ) (xs : List (List ℕ)) (v : Value) (env : Bindings) → value_at y (given_to_all xs v env).variables ≡ option_or (value_at y env.variables) (if_so (is_named y xs) v)
after_several y [] v env = sym (or_none (value_at y env.variables))
after_several y (x ∷ xs) v env =
    after_several y xs v (given_to x v env)
    ∙ (ap (λ o. option_or o (if_so (is_named y xs) v)) (after_one y x v env)
    ∙ (or_or (value_at y env.variables) (if_so (bytes_eq y x) v) (if_so (is_named y xs) v)
    ∙ ap (λ o. option_or (value_at y env.variables) o) (if_either (bytes_eq y x) (is_named y xs) v)))

-- another keeps its value
pub others_keep : (y : List ℕ) (xs : List (List ℕ)) (v : Value) (env : Bindings) → is_named y xs ≡ false → value_at y (given_to_all xs v env).variables ≡ value_at y env.variables
others_keep y xs v env e = after_several y xs v env ∙ (ap (λ b. option_or (value_at y env.variables) (if_so b v)) e ∙ or_none (value_at y env.variables))

pub other_keeps : (y x : List ℕ) (v : Value) (env : Bindings) → bytes_eq y x ≡ false → value_at y (given_to x v env).variables ≡ value_at y env.variables
other_keeps y x v env e = after_one y x v env ∙ (ap (λ b. option_or (value_at y env.variables) (if_so b v)) e ∙ or_none (value_at y env.variables))
