use Rattle.std.proofs.Common.{◌≡◌, ◌∙◌, ◌+◌, ap, drop, false, option_to_list, subst, sym}
use Rattle.cb_eval.proofs.Connectives.{of_all, passes}
use Rattle.cb_eval.proofs.Left.{next_term}
use Rattle.cb_eval.specs.Applied.{applied}
use Rattle.cb_eval.specs.Evaluation.{values_of}
use Rattle.cb_eval.specs.Logic.{decides}
use Rattle.cb_exprs.specs.Terms.{term, term_of, terms_of}
use Rattle.cb_facts.specs.Results.{Returns, and_then}
use Rattle.cb_eval.proofs.evaluation.+evaluation.Goals as goal

pub call-returns : goal.call-returns
call-returns g t c =
    subst (Returns c.call_with_all.result) (sym (ap (λ r. and_then r (applied c.args.function)) (of_all c.args.function (terms_of c.args.args.now) (g.L.Lookup.bindings c.args.known.now) (sym c.may_be_decided.ensures ∙ c.if-may_be_decided.false)))) c.call_with_all.ensures

pub call_until_decided-loop-arg-preserved : goal.call_until_decided-loop-arg-preserved
call_until_decided-loop-arg-preserved g t c =
    let no : decides c.args.function c.in_ok-value.value ≡ false = sym c.decides.ensures ∙ c.if-decides.false in
    let split : terms_of (drop c.loop-arg.arg-index c.args.args.now) ≡ term (term_of c.arg-item.result) (terms_of (drop (c.loop-arg.arg-index + 1) c.args.args.now)) =
    next_term c.args.args.now c.loop-arg.arg-index c.arg-item.result c.arg-item.is c.loop-arg-test.true in (
      no,
      sym (passes c.args.function c.loop-arg.last c.requires c.loop-arg.invariant.0 (term_of c.arg-item.result) (terms_of (drop (c.loop-arg.arg-index + 1) c.args.args.now)) (g.L.Lookup.bindings c.args.known.now) c.in_ok-value.value c.in_ok-value.ensures no)
          ∙ (ap (λ ts. and_then (values_of c.args.function (option_to_list c.loop-arg.last) ts (g.L.Lookup.bindings c.args.known.now)) (applied c.args.function)) (sym split) ∙ c.loop-arg.invariant.1),
    )
