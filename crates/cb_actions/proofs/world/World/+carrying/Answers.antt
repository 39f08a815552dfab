use Rattle.std.proofs.Common.{◌≡◌, ◌+◌, ◌∷◌, ◌++◌, Bool, true, false, [], Option, Some, Ok, Err, drop, refl, sym, ap, ap₂, ◌∙◌, subst, rules}
use Rattle.std.proofs.lemmas.List.{drop_all}
use Rattle.cb_actions.specs.Acts.{Act, give}
use Rattle.cb_actions.specs.Actions.{carried, carried_all, carried_values}
use Rattle.cb_actions.specs.Effects.{wanted, looked_up, global_looked_up, called, chosen, ends}
use Rattle.cb_actions.specs.Internal.{items_answered}
use Rattle.cb_actions.specs.Went.{Went, Quietly}
use Rattle.cb_actions.specs.Worlds.{World}
use Rattle.cb_actions.specs.declared.act.Break.TheVariants as break
use Rattle.cb_actions.specs.declared.act.EarlyEnd.TheVariants as ended
use Rattle.cb_eval.specs.Constants.{false_symbol}
use Rattle.cb_eval.specs.Logic.{is_true}
use Rattle.cb_io.specs.declared.stop.Stop.TheVariants as stop
use Rattle.cb_actions.proofs.ActLaws.{went_then, went_off, went_quietly, went_as}
use Rattle.cb_actions.proofs.CallLaws.{first_off, first_decides, second_off, both_then, call_off, call_then, effect_off, effect_then, only_off, only_then}
use Rattle.cb_actions.proofs.LoopLaws.{all_then, all_off, values_then, values_end, values_off, values_refused, test_off, test_ends, turn_off, action_off, round_then, turns_fall}
use Rattle.cb_actions.proofs.WentLaws.{went_unbegun, went_fine, went_result, went_term}
use Rattle.cb_exprs.specs.Terms.{constant, variable, global, call, effect, choose, repeat, actions, term_of, terms_of}
use Rattle.cb_exprs.proofs.TermLaws.{of_actions, of_call, of_constant, of_effect, of_global, of_if, of_variable, of_while}
use Rattle.cb_facts.specs.declared.value.Value.{Value}
use Rattle.cb_forms.specs.declared.fault.Fault.TheVariants.{WrongType}
use Rattle.cb_actions.proofs.world.World.+carrying.Goals as goal

pub carry_all-returns-in_err-no-clause-went : goal.carry_all-returns-in_err-no-clause-went
carry_all-returns-in_err-no-clause-went g t c =
    let r : c.from_residual.result ≡ Err (break.Stop stop.NoMemory) = search rules in
    went_result g.K.Sink.writes r (went_unbegun g.K.Sink.writes _ _ _ c.requires)

pub carry_all-returns-in_err-last-clause-went : goal.carry_all-returns-in_err-last-clause-went
carry_all-returns-in_err-last-clause-went g t c =
    let r : c.from_residual-in_err-last.result ≡ Err c.in_err-last.field-0.0 = search rules in
    let same = ap (carried_all (Some false_symbol) (terms_of c.args.exprs.now)) (sym c.in_ok-no.ensures.same) in
    went_as g.K.Sink.writes _ _ _ _ _ _ _ r same (c.loop-expr.invariant.goes _ _ _ (all_off g.K.Sink.writes c.args.exprs.now c.loop-expr.expr-index c.expr-item.result c.expr-item.is c.loop-expr-test.true _ _ _ _ c.loop-expr.last _ c.in_err-last.ensures.went))

pub carry_all-loop-expr-init : goal.carry_all-loop-expr-init
carry_all-loop-expr-init g t c =
    record {
      fine = c.requires;
      goes = λ o s r h. subst (λ it. Went g.K.Sink.writes c.args.out.now o s r (carried_all (Some it) (terms_of c.args.exprs.now) c.no.new.self)) c.in_ok-no.ensures.value h;
    }

pub carry_all-loop-expr-preserved : goal.carry_all-loop-expr-preserved
carry_all-loop-expr-preserved g t c =
    record {
      fine = went_fine g.K.Sink.writes _ _ _ _ _ c.in_ok-last.ensures.went;
      goes = λ o s r h. c.loop-expr.invariant.goes o s r (all_then g.K.Sink.writes c.args.exprs.now c.loop-expr.expr-index c.expr-item.result c.expr-item.is c.loop-expr-test.true _ _ _ _ _ _ c.loop-expr.last _ r c.in_ok-last.ensures.went h);
    }

pub carry_all-returns-clause-went : goal.carry_all-returns-clause-went
carry_all-returns-clause-went g t c =
    let none : drop c.loop-expr.expr-index c.args.exprs.now ≡ [] = drop_all c.loop-expr.expr-index c.args.exprs.now c.loop-expr-test.false in
    let same = ap (carried_all (Some false_symbol) (terms_of c.args.exprs.now)) (sym c.in_ok-no.ensures.same) in
    went_as g.K.Sink.writes _ _ _ _ _ _ _ refl same (c.loop-expr.invariant.goes _ _ _ (went_quietly g.K.Sink.writes c.loop-expr.out c.loop-expr.self (Ok c.loop-expr.last) _ c.loop-expr.invariant.fine (ap (λ it. carried_all c.loop-expr.last (terms_of it) c.loop-expr.self) none)))

pub carry_values-returns-in_err-value-clause-went : goal.carry_values-returns-in_err-value-clause-went
carry_values-returns-in_err-value-clause-went g t c =
    let r : items_answered c.from_residual.result ≡ Err c.in_err-value.field-0.0 = search rules in
    went_result g.K.Sink.writes r (c.loop-expr.invariant.goes _ _ _ (values_off g.K.Sink.writes c.args.exprs.now c.loop-expr.expr-index c.expr-item.result c.expr-item.is c.loop-expr-test.true c.args.function c.loop-expr.values.items _ _ _ _ _ c.in_err-value.ensures.went))

pub carry_values-returns-in_err-push-clause-went : goal.carry_values-returns-in_err-push-clause-went
carry_values-returns-in_err-push-clause-went g t c =
    let r : items_answered c.from_residual-in_err-push.result ≡ Err (break.Stop stop.NoMemory) = search rules in
    went_result g.K.Sink.writes r (c.loop-expr.invariant.goes _ _ _ (values_refused g.K.Sink.writes c.args.exprs.now c.loop-expr.expr-index c.expr-item.result c.expr-item.is c.loop-expr-test.true c.args.function c.loop-expr.values.items _ _ _ _ _ _ c.in_ok-value.ensures.went))

pub carry_values-returns-then-is_last-clause-went : goal.carry_values-returns-then-is_last-clause-went
carry_values-returns-then-is_last-clause-went g t c =
    let last : ends c.args.function c.in_ok-value.value ≡ true = sym c.ends-is_last.ensures ∙ c.if-is_last.true in
    let r : Ok c.push.new.self.items ≡ Ok (c.loop-expr.values.items ++ c.in_ok-value.value ∷ []) = ap Ok c.in_ok-push.ensures.items in
    c.loop-expr.invariant.goes _ _ _ (went_result g.K.Sink.writes r (values_end g.K.Sink.writes c.args.exprs.now c.loop-expr.expr-index c.expr-item.result c.expr-item.is c.loop-expr-test.true c.args.function c.loop-expr.values.items _ _ _ _ c.in_ok-value.value last c.in_ok-value.ensures.went))

pub carry_values-loop-expr-preserved : goal.carry_values-loop-expr-preserved
carry_values-loop-expr-preserved g t c =
    let more : ends c.args.function c.in_ok-value.value ≡ false = sym c.ends-is_last.ensures ∙ c.if-is_last.false in
    record {
      fine = went_fine g.K.Sink.writes _ _ _ _ _ c.in_ok-value.ensures.went;
      goes = λ o s r h. c.loop-expr.invariant.goes o s r (values_then g.K.Sink.writes c.args.exprs.now c.loop-expr.expr-index c.expr-item.result c.expr-item.is c.loop-expr-test.true c.args.function c.loop-expr.values.items _ _ _ _ _ _ c.in_ok-value.value r more c.in_ok-value.ensures.went
          (subst (λ it. Went g.K.Sink.writes c.carry_value.new.out o s r (carried_values c.args.function it (terms_of (drop (c.loop-expr.expr-index + 1) c.args.exprs.now)) c.carry_value.new.self)) c.in_ok-push.ensures.items h));
    }

pub carry_values-returns-clause-went : goal.carry_values-returns-clause-went
carry_values-returns-clause-went g t c =
    let none : drop c.loop-expr.expr-index c.args.exprs.now ≡ [] = drop_all c.loop-expr.expr-index c.args.exprs.now c.loop-expr-test.false in
    c.loop-expr.invariant.goes _ _ _ (went_quietly g.K.Sink.writes c.loop-expr.out c.loop-expr.self (Ok c.loop-expr.values.items) _ c.loop-expr.invariant.fine (ap (λ it. carried_values c.args.function c.loop-expr.values.items (terms_of it) c.loop-expr.self) none))

pub carry_value-returns-in_err-value-clause-went : goal.carry_value-returns-in_err-value-clause-went
carry_value-returns-in_err-value-clause-went g t c =
    let r : c.from_residual.result ≡ Err c.in_err-value.field-0.0 = search rules in
    went_result g.K.Sink.writes r (went_off g.K.Sink.writes _ _ _ _ _ wanted c.in_err-value.ensures.went)

pub carry_value-returns-in-Some-clause-went : goal.carry_value-returns-in-Some-clause-went
carry_value-returns-in-Some-clause-went g t c =
    went_then g.K.Sink.writes _ _ _ _ _ _ _ _ wanted c.in_ok-value.ensures.went (went_quietly g.K.Sink.writes _ _ (Ok c.in-Some.value) _ (went_fine g.K.Sink.writes _ _ _ _ _ c.in_ok-value.ensures.went) (ap (λ it. wanted it c.carry_out.new.self) c.in-Some.is))

pub carry_value-returns-in-None-clause-went : goal.carry_value-returns-in-None-clause-went
carry_value-returns-in-None-clause-went g t c =
    went_then g.K.Sink.writes _ _ _ _ _ _ _ _ wanted c.in_ok-value.ensures.went (went_quietly g.K.Sink.writes _ _ (Err (break.Ended (ended.Fault WrongType))) _ (went_fine g.K.Sink.writes _ _ _ _ _ c.in_ok-value.ensures.went) (ap (λ it. wanted it c.carry_out.new.self) c.in-None.is))

pub holds-returns-in_err-value-clause-went : goal.holds-returns-in_err-value-clause-went
holds-returns-in_err-value-clause-went g t c =
    let r : c.from_residual.result ≡ Err c.in_err-value.field-0.0 = search rules in
    went_result g.K.Sink.writes r (went_off g.K.Sink.writes _ _ _ _ _ (λ v. give (is_true v)) c.in_err-value.ensures.went)

pub holds-returns-clause-went : goal.holds-returns-clause-went
holds-returns-clause-went g t c =
    went_then g.K.Sink.writes _ _ _ _ _ _ _ _ (λ v. give (is_true v)) c.in_ok-value.ensures.went (went_quietly g.K.Sink.writes _ _ (Ok c.is_true.result) _ (went_fine g.K.Sink.writes _ _ _ _ _ c.in_ok-value.ensures.went) (ap (λ it. give it c.carry_value.new.self) (sym c.is_true.ensures)))

pub carry_effect-returns-in_err-value-clause-went : goal.carry_effect-returns-in_err-value-clause-went
carry_effect-returns-in_err-value-clause-went g t c =
    let r : c.from_residual.result ≡ Err c.in_err-value.field-0.0 = search rules in
    went_result g.K.Sink.writes r (only_off g.K.Sink.writes c.args.effect.now c.args.args.now c.only-item.result c.only-item.is c.in-len1.len_at_least c.in-len1.len_below _ _ _ _ _ c.in_err-value.ensures.went)

pub carry_effect-returns-in-len1-clause-went : goal.carry_effect-returns-in-len1-clause-went
carry_effect-returns-in-len1-clause-went g t c =
    only_then g.K.Sink.writes c.args.effect.now c.args.args.now c.only-item.result c.only-item.is c.in-len1.len_at_least c.in-len1.len_below _ _ _ _ _ _ _ _ c.in_ok-value.ensures.went c.perform_with.ensures.went

pub carry_effect-returns-in_err-values-clause-went : goal.carry_effect-returns-in_err-values-clause-went
carry_effect-returns-in_err-values-clause-went g t c =
    let r : c.from_residual-in_err-values.result ≡ Err c.in_err-values.field-0.0 = search rules in
    went_result g.K.Sink.writes r (effect_off g.K.Sink.writes c.args.effect.now c.args.args.now _ _ _ _ _ c.in_err-values.ensures.went)

pub carry_effect-returns-clause-went : goal.carry_effect-returns-clause-went
carry_effect-returns-clause-went g t c =
    effect_then g.K.Sink.writes c.args.effect.now c.args.args.now _ _ _ _ _ _ _ _ c.in_ok-values.ensures.went c.perform.ensures.went

pub carry_out-returns-in-Constant-clause-went : goal.carry_out-returns-in-Constant-clause-went
carry_out-returns-in-Constant-clause-went g t c =
    let e : term_of c.args.expr.now ≡ constant c.in-Constant.value = ap term_of c.in-Constant.is ∙ of_constant _ in
    went_term g.K.Sink.writes c.args.self.now e (went_quietly g.K.Sink.writes c.args.out.now c.args.self.now _ (give (Some c.in-Constant.value) c.args.self.now) c.requires (c.constant.ensures c.args.self.now))

pub carry_out-returns-in-Variable-clause-went : goal.carry_out-returns-in-Variable-clause-went
carry_out-returns-in-Variable-clause-went g t c =
    let e : term_of c.args.expr.now ≡ variable c.in-Variable.name = ap term_of c.in-Variable.is ∙ of_variable _ in
    went_term g.K.Sink.writes c.args.self.now e (went_quietly g.K.Sink.writes c.args.out.now c.args.self.now _ (looked_up c.in-Variable.name c.args.self.now) c.requires c.variable.ensures)

pub carry_out-returns-in-Global-clause-went : goal.carry_out-returns-in-Global-clause-went
carry_out-returns-in-Global-clause-went g t c =
    let e : term_of c.args.expr.now ≡ global c.in-Global.name = ap term_of c.in-Global.is ∙ of_global _ in
    went_term g.K.Sink.writes c.args.self.now e (went_quietly g.K.Sink.writes c.args.out.now c.args.self.now _ (global_looked_up c.in-Global.name c.args.self.now) c.requires c.global.ensures)

pub carry_call-returns-in_err-first-clause-went : goal.carry_call-returns-in_err-first-clause-went
carry_call-returns-in_err-first-clause-went g t c =
    let r : c.from_residual.result ≡ Err c.in_err-first.field-0.0 = search rules in
    went_result g.K.Sink.writes r (first_off g.K.Sink.writes c.args.function c.args.args.now c.first-item.result c.second-item.result c.first-item.is c.second-item.is c.in-len2.len_at_least c.in-len2.len_below _ _ _ _ _ c.in_err-first.ensures.went)

pub carry_call-returns-then-decides-clause-went : goal.carry_call-returns-then-decides-clause-went
carry_call-returns-then-decides-clause-went g t c =
    let last = sym c.decides.ensures ∙ c.if-decides.true in
    first_decides g.K.Sink.writes c.args.function c.args.args.now c.first-item.result c.second-item.result c.first-item.is c.second-item.is c.in-len2.len_at_least c.in-len2.len_below _ _ _ _ _ _ _ last c.in_ok-first.ensures.went c.call.ensures

pub carry_call-returns-in_err-second-clause-went : goal.carry_call-returns-in_err-second-clause-went
carry_call-returns-in_err-second-clause-went g t c =
    let r : c.from_residual-in_err-second.result ≡ Err c.in_err-second.field-0.0 = search rules in
    let more = sym c.decides.ensures ∙ c.if-decides.false in
    went_result g.K.Sink.writes r (second_off g.K.Sink.writes c.args.function c.args.args.now c.first-item.result c.second-item.result c.first-item.is c.second-item.is c.in-len2.len_at_least c.in-len2.len_below _ _ _ _ _ _ _ _ more c.in_ok-first.ensures.went c.in_err-second.ensures.went)

pub carry_call-returns-in-len2-clause-went : goal.carry_call-returns-in-len2-clause-went
carry_call-returns-in-len2-clause-went g t c =
    let more = sym c.decides.ensures ∙ c.if-decides.false in
    both_then g.K.Sink.writes c.args.function c.args.args.now c.first-item.result c.second-item.result c.first-item.is c.second-item.is c.in-len2.len_at_least c.in-len2.len_below _ _ _ _ _ _ _ _ _ _ more c.in_ok-first.ensures.went c.in_ok-second.ensures.went c.call-in-len2.ensures

pub carry_call-returns-in_err-values-clause-went : goal.carry_call-returns-in_err-values-clause-went
carry_call-returns-in_err-values-clause-went g t c =
    let r : c.from_residual-in_err-values.result ≡ Err c.in_err-values.field-0.0 = search rules in
    went_result g.K.Sink.writes r (call_off g.K.Sink.writes c.args.function c.args.args.now _ _ _ _ _ c.in_err-values.ensures.went)

pub carry_call-returns-clause-went : goal.carry_call-returns-clause-went
carry_call-returns-clause-went g t c =
    let q = subst (λ it. Quietly c.call-2.new.self c.call-2.result (called c.args.function it c.carry_values.new.self)) c.as_slice.ensures.value c.call-2.ensures in
    call_then g.K.Sink.writes c.args.function c.args.args.now _ _ _ _ _ _ _ c.in_ok-values.ensures.went q

pub carry_out-returns-in-Call-clause-went : goal.carry_out-returns-in-Call-clause-went
carry_out-returns-in-Call-clause-went g t c =
    let e : term_of c.args.expr.now ≡ call c.in-Call.function (terms_of c.deref.result.now) = ap term_of c.in-Call.is ∙ (of_call _ _ ∙ ap (λ it. call c.in-Call.function (terms_of it)) (sym c.deref.ensures.value)) in
    went_term g.K.Sink.writes c.args.self.now e c.carry_call.ensures.went

pub carry_out-returns-in-Effect-clause-went : goal.carry_out-returns-in-Effect-clause-went
carry_out-returns-in-Effect-clause-went g t c =
    let e : term_of c.args.expr.now ≡ effect c.in-Effect.effect (terms_of c.deref-in-Effect.result.now) = ap term_of c.in-Effect.is ∙ (of_effect _ _ ∙ ap (λ it. effect c.in-Effect.effect (terms_of it)) (sym c.deref-in-Effect.ensures.value)) in
    went_term g.K.Sink.writes c.args.self.now e c.carry_effect.ensures.went

pub carry_out-returns-in-Actions-clause-went : goal.carry_out-returns-in-Actions-clause-went
carry_out-returns-in-Actions-clause-went g t c =
    let e : term_of c.args.expr.now ≡ actions (terms_of c.deref-in-Actions.result.now) = ap term_of c.in-Actions.is ∙ (of_actions _ ∙ ap (λ it. actions (terms_of it)) (sym c.deref-in-Actions.ensures.value)) in
    went_term g.K.Sink.writes c.args.self.now e c.carry_all.ensures.went

pub carry_if-returns-in_err-holds-clause-went : goal.carry_if-returns-in_err-holds-clause-went
carry_if-returns-in_err-holds-clause-went g t c =
    let r : c.from_residual.result ≡ Err c.in_err-holds.field-0.0 = search rules in
    let next : Bool → Act World (Option Value) = λ b. chosen b (carried (term_of c.args.then_do.now)) (carried (term_of c.args.else_do.now)) in
    went_result g.K.Sink.writes r (went_off g.K.Sink.writes _ _ _ _ _ next c.in_err-holds.ensures.went)

pub carry_if-returns-then-branch-clause-went : goal.carry_if-returns-then-branch-clause-went
carry_if-returns-then-branch-clause-went g t c =
    let next : Bool → Act World (Option Value) = λ b. chosen b (carried (term_of c.args.then_do.now)) (carried (term_of c.args.else_do.now)) in
    let first = went_result g.K.Sink.writes (ap Ok (sym c.if-branch.true)) c.in_ok-holds.ensures.went in
    went_then g.K.Sink.writes _ _ _ _ _ true _ _ next first c.carry_out.ensures.went

pub carry_if-returns-else-branch-clause-went : goal.carry_if-returns-else-branch-clause-went
carry_if-returns-else-branch-clause-went g t c =
    let next : Bool → Act World (Option Value) = λ b. chosen b (carried (term_of c.args.then_do.now)) (carried (term_of c.args.else_do.now)) in
    let first = went_result g.K.Sink.writes (ap Ok (sym c.if-branch.false)) c.in_ok-holds.ensures.went in
    went_then g.K.Sink.writes _ _ _ _ _ false _ _ next first c.carry_out-else-branch.ensures.went

pub carry_while-returns-in_err-holds-clause-went : goal.carry_while-returns-in_err-holds-clause-went
carry_while-returns-in_err-holds-clause-went g t c =
    let r : c.from_residual.result ≡ Err c.in_err-holds.field-0.0 = search rules in
    went_result g.K.Sink.writes r (c.loop-self.invariant.goes _ _ _ (test_off g.K.Sink.writes (term_of c.args.test.now) (term_of c.args.action.now) c.loop-self.self _ _ _ _ c.in_err-holds.ensures.went))

pub carry_while-returns-clause-went : goal.carry_while-returns-clause-went
carry_while-returns-clause-went g t c =
    let first = went_result g.K.Sink.writes (ap Ok (sym c.if-branch.false)) c.in_ok-holds.ensures.went in
    c.loop-self.invariant.goes _ _ _ (test_ends g.K.Sink.writes (term_of c.args.test.now) (term_of c.args.action.now) c.loop-self.self _ _ _ _ _ first c.end_loop.ensures)

pub carry_while-returns-in_err-take_turn-clause-went : goal.carry_while-returns-in_err-take_turn-clause-went
carry_while-returns-in_err-take_turn-clause-went g t c =
    let r : c.from_residual-in_err-take_turn.result ≡ Err c.in_err-take_turn.field-0.0 = search rules in
    let first = went_result g.K.Sink.writes (ap Ok (sym c.if-branch.true)) c.in_ok-holds.ensures.went in
    went_result g.K.Sink.writes r (c.loop-self.invariant.goes _ _ _ (turn_off g.K.Sink.writes (term_of c.args.test.now) (term_of c.args.action.now) c.loop-self.self _ _ _ _ _ first c.in_err-take_turn.ensures))

pub carry_while-returns-in_err-carry_out-clause-went : goal.carry_while-returns-in_err-carry_out-clause-went
carry_while-returns-in_err-carry_out-clause-went g t c =
    let r : c.from_residual-in_err-carry_out.result ≡ Err c.in_err-carry_out.field-0.0 = search rules in
    let first = went_result g.K.Sink.writes (ap Ok (sym c.if-branch.true)) c.in_ok-holds.ensures.went in
    went_result g.K.Sink.writes r (c.loop-self.invariant.goes _ _ _ (action_off g.K.Sink.writes (term_of c.args.test.now) (term_of c.args.action.now) c.loop-self.self _ _ _ _ _ _ _ first c.in_ok-take_turn.ensures c.in_err-carry_out.ensures.went))

pub carry_while-loop-self-smaller : goal.carry_while-loop-self-smaller
carry_while-loop-self-smaller g t c =
    let first = went_result g.K.Sink.writes (ap Ok (sym c.if-branch.true)) c.in_ok-holds.ensures.went in
    turns_fall g.K.Sink.writes (term_of c.args.test.now) (term_of c.args.action.now) c.loop-self.self _ _ _ _ _ _ _ first c.in_ok-take_turn.ensures c.in_ok-carry_out.ensures.went

pub carry_while-loop-self-preserved : goal.carry_while-loop-self-preserved
carry_while-loop-self-preserved g t c =
    let first = went_result g.K.Sink.writes (ap Ok (sym c.if-branch.true)) c.in_ok-holds.ensures.went in
    record {
      fine = c.in_ok-carry_out.ensures.fine;
      goes = λ o s r h. c.loop-self.invariant.goes o s r (round_then g.K.Sink.writes (term_of c.args.test.now) (term_of c.args.action.now) c.loop-self.self _ _ _ _ _ _ _ _ _ r first c.in_ok-take_turn.ensures c.in_ok-carry_out.ensures.went h);
    }

pub carry_out-returns-in-If-clause-went : goal.carry_out-returns-in-If-clause-went
carry_out-returns-in-If-clause-went g t c =
    let e : term_of c.args.expr.now ≡ choose (term_of c.deref-in-If.result.now) (term_of c.deref-in-If-2.result.now) (term_of c.deref-in-If-3.result.now) = ap term_of c.in-If.is ∙ (of_if _ _ _
    ∙ (ap₂ (λ it that. choose (term_of it) (term_of that) (term_of c.in-If.else_do.value)) (sym c.deref-in-If.ensures) (sym c.deref-in-If-2.ensures) ∙ ap (λ it. choose (term_of c.deref-in-If.result.now) (term_of c.deref-in-If-2.result.now) (term_of it)) (sym c.deref-in-If-3.ensures))) in
    went_term g.K.Sink.writes c.args.self.now e c.carry_if.ensures.went

pub carry_out-returns-in-While-clause-went : goal.carry_out-returns-in-While-clause-went
carry_out-returns-in-While-clause-went g t c =
    let e : term_of c.args.expr.now ≡ repeat (term_of c.deref-in-While.result.now) (term_of c.deref-in-While-2.result.now) = ap term_of c.in-While.is ∙ (of_while _ _ ∙ ap₂ (λ it that. repeat (term_of it) (term_of that)) (sym c.deref-in-While.ensures) (sym c.deref-in-While-2.ensures)) in
    went_term g.K.Sink.writes c.args.self.now e c.carry_while.ensures.went
