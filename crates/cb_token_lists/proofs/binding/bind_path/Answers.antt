use Rattle.std.proofs.Common.{◌≡◌, ◌∙◌, List, Option, ap, refl, sym}
use Rattle.cb_exprs.specs.Bindings.{no_bindings, with_variables}
use Rattle.cb_matches.specs.Matches.{Partial, no_parts}
use Rattle.cb_token_lists.proofs.Paths.{if_ok, nothing_left, with_last}
use Rattle.cb_token_lists.specs.Internal.{with_path, with_step}
use Rattle.cb_token_lists.specs.declared.path.Step.{Step}
use Rattle.cb_token_lists.proofs.binding.bind_path.Goals as goal

pub loop-step-init : goal.loop-step-init
loop-step-init c = (no_parts, ap (λ it. with_variables it no_bindings) (sym c.in_ok-bindings.ensures.items), refl)

pub loop-step-preserved : goal.loop-step-preserved
loop-step-preserved c =
    let before = c.loop-step.invariant in (
      with_step c.in-Some.step before.0,
      sym (c.in_ok-bind_step.ensures before.0 before.1),
      sym (with_last c.pop.new.self.items c.in-Some.step before.0) ∙ (ap (λ (it : List (Option Step)). with_path it before.0) (sym c.in-Some.ensures.items) ∙ before.2),
    )

pub returns : goal.returns
returns c =
    let before = c.loop-step.invariant in
    let empty = nothing_left c.loop-step.path.items c.in_default.ensures.variant.1 in
    let env = sym before.1 ∙ ap (λ (it : Partial). it.env) (ap (λ (it : List (Option Step)). with_path it before.0) (sym empty) ∙ before.2) in
    if_ok (λ e. e ≡ with_variables c.loop-step.bindings.items c.new.result) (λ e. e ≡ (with_path c.args.path.items no_parts).env) c.with-2.result
    (λ e is. is ∙ (ap (with_variables c.loop-step.bindings.items) c.new.ensures ∙ env))
    c.with-2.ensures.ok
