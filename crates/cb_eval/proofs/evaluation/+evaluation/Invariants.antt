use Rattle.std.proofs.Common.{◌≡◌, ◌++◌, [], false, IfSome, Ok, drop, option_to_list}
use Rattle.cb_eval.specs.Applied.{applied}
use Rattle.cb_eval.specs.Evaluation.{values_of}
use Rattle.cb_eval.specs.Laws.{all_values}
use Rattle.cb_eval.specs.Logic.{decides}
use Rattle.cb_exprs.specs.Terms.{terms_of}
use Rattle.cb_facts.specs.Results.{and_then}
use Rattle.cb_eval.proofs.evaluation.+evaluation.Given as goal

abbrev pub invariant-call_until_decided-loop-arg : goal.invariant-call_until_decided-loop-arg
invariant-call_until_decided-loop-arg g l =
    IfSome l.last (λ v. decides l.function v ≡ false)
    × (and_then (values_of l.function (option_to_list l.last) (terms_of (drop l.arg-index l.args)) (g.L.Lookup.bindings l.known)) (applied l.function)
    ≡ and_then (values_of l.function [] (terms_of l.args) (g.L.Lookup.bindings l.known)) (applied l.function))

abbrev pub invariant-call_with_many-loop-arg : goal.invariant-call_with_many-loop-arg
invariant-call_with_many-loop-arg g l = and_then (all_values (terms_of (drop l.arg-index l.args)) (g.L.Lookup.bindings l.known)) (λ vs. Ok (l.values.items ++ vs)) ≡ all_values (terms_of l.args) (g.L.Lookup.bindings l.known)
