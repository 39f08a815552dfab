-- The value of an expression without an effect.
use Rattle.std.specs.Prelude.{List, [], ◌∷◌, ◌++◌, Result, Ok, Err, if◌then◌else◌}
use Rattle.std.specs.Option.{ok_or}
use Rattle.cb_eval.specs.Applied.{applied}
use Rattle.cb_eval.specs.Logic.{decides}
use Rattle.cb_exprs.specs.Bindings.{Bindings, value_at}
use Rattle.cb_exprs.specs.Terms.{Term, constant, variable, global, call, effect, choose, repeat, actions, Terms, no_terms, term}
use Rattle.cb_facts.specs.Results.{and_then}
use Rattle.cb_facts.specs.declared.value.Value.{Value}
use Rattle.cb_forms.specs.declared.fault.Fault.{Fault}
use Rattle.cb_forms.specs.declared.fault.Fault.TheVariants.{UnboundVariable, UnknownGlobal, NotInProfile}
use Rattle.cb_words.specs.declared.words.Function.{Function}

abbrev mutual
  -- the value of an expression, or its first fault; one with an effect has no value here
  pub value_of : Term → Bindings → Result Value Fault
  value_of (constant v) env = Ok v
  value_of (variable x) env = ok_or (value_at x env.variables) UnboundVariable
  value_of (global x) env = ok_or (value_at x env.globals) UnknownGlobal
  value_of (call f ts) env = and_then (values_of f [] ts env) (applied f)
  value_of (effect e ts) env = Err NotInProfile
  value_of (choose t u w) env = Err NotInProfile
  value_of (repeat t u) env = Err NotInProfile
  value_of (actions ts) env = Err NotInProfile

  -- the values of a function's arguments, after those that are there: left to right, up to one that decides the call
  pub values_of : Function → List Value → Terms → Bindings → Result (List Value) Fault
  values_of f vs no_terms env = Ok vs
  values_of f vs (term t ts) env = and_then (value_of t env) (λ v. if decides f v then Ok (vs ++ v ∷ []) else values_of f (vs ++ v ∷ []) ts env)
