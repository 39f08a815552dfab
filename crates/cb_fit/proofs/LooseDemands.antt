-- A constraint without its variables and expressions holds where its constants do.
use Rattle.std.proofs.Common.{◌≡◌, ◌∙◌, ◌&&◌, ◌||◌, Bool, true, false, List, [], ◌∷◌, Option, ap, map, refl}
use Rattle.std.specs.List.{list_all, list_any}
use Rattle.std.specs.Option.{option_and_then}
use Rattle.cb_constraints.specs.Constraints.{Test, constant, variable, predicate, return_value, Check, Demand, nothing, each, either}
use Rattle.cb_constraints.specs.Holding.{after_checks, after_demand, after_test, check_holds, constant_holds, constants_hold, may_hold, one_holds, opposite_if, provided}
use Rattle.cb_eval.specs.Comparison.{same}
use Rattle.cb_exprs.specs.Bindings.{Bindings}
use Rattle.cb_facts.specs.declared.value.Value.{Value}
use Rattle.cb_fit.specs.Shapes.{constants_in, loose_demand}

in-turn : (b rest : Bool) (next : Bindings → Option Bindings) (env : Bindings) → next env ≡ provided rest env → option_and_then next (provided b env) ≡ provided (b && rest) env
in-turn true rest next env e = e
in-turn false rest next env e = refl

constant-provided : (negated : Bool) (w v : Value) (env : Bindings) → after_test negated (constant w) v env ≡ provided (opposite_if negated (same v w)) env
constant-provided true w v env = refl
constant-provided false w v env = refl

one-loose : (negated : Bool) (t : Test) (cs : List Check) (v : Value) (env : Bindings) → after_checks (constants_in cs) v env ≡ provided (constants_hold v cs) env
    → after_checks (constants_in (record { negated = negated; test = t } ∷ cs)) v env ≡ provided (constant_holds v negated t && constants_hold v cs) env
one-loose negated (constant w) cs v env more =
    ap (option_and_then (after_checks (constants_in cs) v)) (constant-provided negated w v env)
    ∙ in-turn (opposite_if negated (same v w)) (constants_hold v cs) (after_checks (constants_in cs) v) env more
one-loose negated (variable x) cs v env more = more
one-loose negated (predicate e) cs v env more = more
one-loose negated (return_value e) cs v env more = more

checks-loose : (cs : List Check) (v : Value) (env : Bindings) → after_checks (constants_in cs) v env ≡ provided (constants_hold v cs) env
checks-loose [] v env = refl
checks-loose (c ∷ cs) v env = one-loose c.negated c.test cs v env (checks-loose cs v env)

one-of-all : (negated : Bool) (t : Test) (cs : List Check) (v : Value) (env : Bindings) → list_all (check_holds v env) (constants_in cs) ≡ constants_hold v cs
    → list_all (check_holds v env) (constants_in (record { negated = negated; test = t } ∷ cs)) ≡ constant_holds v negated t && constants_hold v cs
one-of-all negated (constant w) cs v env more = ap (λ t. opposite_if negated (same v w) && t) more
one-of-all negated (variable x) cs v env more = more
one-of-all negated (predicate e) cs v env more = more
one-of-all negated (return_value e) cs v env more = more

all-loose : (cs : List Check) (v : Value) (env : Bindings) → list_all (check_holds v env) (constants_in cs) ≡ constants_hold v cs
all-loose [] v env = refl
all-loose (c ∷ cs) v env = one-of-all c.negated c.test cs v env (all-loose cs v env)

any-loose : (alternatives : List (List Check)) (v : Value) (env : Bindings) → one_holds (map constants_in alternatives) v env ≡ list_any (constants_hold v) alternatives
any-loose [] v env = refl
any-loose (cs ∷ more) v env = ap (λ t. t || one_holds (map constants_in more) v env) (all-loose cs v env) ∙ ap (λ t. constants_hold v cs || t) (any-loose more v env)

pub holds-loosely : (d : Demand) (v : Value) (env : Bindings) → after_demand (loose_demand d) v env ≡ provided (may_hold d v) env
holds-loosely nothing v env = refl
holds-loosely (each cs) v env = checks-loose cs v env
holds-loosely (either first alternatives) v env = ap (λ t. provided t env) (any-loose alternatives v env)
