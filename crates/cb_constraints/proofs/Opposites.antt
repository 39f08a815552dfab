-- A test with `~` holds where the test alone doesn't.
use Rattle.std.proofs.Common.{◌≡◌, ◌∙◌, Bool, true, false, [], None, Option, Some, ap, not, refl, sym}
use Rattle.std.specs.Option.{is_some, option_and_then}
use Rattle.cb_constraints.specs.Constraints.{Test, constant, variable, predicate, return_value}
use Rattle.cb_constraints.specs.Holding.{after_checks, after_demand, after_test, provided, test_holds}
use Rattle.cb_constraints.specs.Laws.{only, opposite, plain}
use Rattle.cb_constraints.proofs.HoldingLaws.{held_if_some}
use Rattle.cb_exprs.specs.Bindings.{Bindings}
use Rattle.cb_facts.specs.declared.value.Value.{Value}

-- what is left where no check follows
none-follows : (o : Option Bindings) (v : Value) → option_and_then (after_checks [] v) o ≡ o
none-follows None v = refl
none-follows (Some env) v = refl

none-held : (o : Option Bindings) (b : Bool) → is_some o ≡ b → o ≡ None → b ≡ false
none-held None b is e = sym is
none-held (Some env) b is e = absurd (apart e)
  where
    apart : Some env ≡ None → ⊥
    apart d = cc

some-held : (o : Option Bindings) (b : Bool) (grown : Bindings) → is_some o ≡ b → o ≡ Some grown → b ≡ true
some-held None b grown is e = absurd (apart e)
  where
    apart : None ≡ Some grown → ⊥
    apart d = cc
some-held (Some env) b grown is e = sym is

with-tilde : (t : Test) (v : Value) (env : Bindings) → after_demand (only (opposite t)) v env ≡ provided (not (test_holds t v env)) env
with-tilde (constant w) v env = none-follows (provided (not (test_holds (constant w) v env)) env) v
with-tilde (variable x) v env = none-follows (provided (not (test_holds (variable x) v env)) env) v
with-tilde (predicate e) v env = none-follows (provided (not (test_holds (predicate e) v env)) env) v
with-tilde (return_value e) v env = none-follows (provided (not (test_holds (return_value e) v env)) env) v

pub opposite-holds : (t : Test) (v : Value) (env : Bindings) → after_demand (only (plain t)) v env ≡ None → after_demand (only (opposite t)) v env ≡ Some env
opposite-holds t v env e =
    let fails = none-held (after_test false t v env) (test_holds t v env) (held_if_some (plain t) v env) (sym (none-follows (after_test false t v env) v) ∙ e) in
    with-tilde t v env ∙ ap (λ b. provided (not b) env) fails

pub opposite-fails : (t : Test) (v : Value) (env grown : Bindings) → after_demand (only (plain t)) v env ≡ Some grown → after_demand (only (opposite t)) v env ≡ None
opposite-fails t v env grown e =
    let holds = some-held (after_test false t v env) (test_holds t v env) grown (held_if_some (plain t) v env) (sym (none-follows (after_test false t v env) v) ∙ e) in
    with-tilde t v env ∙ ap (λ b. provided (not b) env) holds
