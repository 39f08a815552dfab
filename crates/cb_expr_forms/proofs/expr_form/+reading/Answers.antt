use Rattle.std.proofs.Common.{◌≡◌, ◌<◌, ◌+◌, ◌*◌, ◌∙◌, ◌++◌, [], ◌∷◌, ℕ, List, Result, Err, Vec, Global, arith, ap, ap₂, get_or, map, rules, subst, sym}
use Rattle.std.specs.Option.{option_and_then}
use Rattle.cb_expr_forms.specs.ExprFaults.{all_faults, slot_faults, slots_faults, values_faults}
use Rattle.cb_expr_forms.specs.ExprForms.{exprs_of, expr_of, given_slot, slot_exprs, slot_name, slot_names}
use Rattle.cb_facts.specs.FaultLists.{ReadsAs, first_of}
use Rattle.cb_expr_forms.specs.Internal.{binding, bound_faults, if_expr, if_faults, value_faults}
use Rattle.cb_expr_forms.specs.Internal.Sizes.{tree_size}
use Rattle.cb_expr_forms.proofs.Faulty.{item_fits, next_slot}
use Rattle.cb_exprs.specs.Terms.{Term, effect, term_of, terms}
use Rattle.cb_exprs.specs.declared.expr.Expr.{Expr}
use Rattle.cb_facts.specs.declared.name.Name.{Name}
use Rattle.cb_facts.specs.declared.refused.Refused.{Refused}
use Rattle.cb_forms.specs.Members.{members}
use Rattle.cb_forms.specs.Trees.{tree_of}
use Rattle.cb_expr_forms.proofs.expr_form.+reading.Goals as goal
use Rattle.cb_facts.proofs.FirstFaults.{fails, first_append}

pub read_exprs-read_expr-requires : goal.read_exprs-read_expr-requires
read_exprs-read_expr-requires t c =
    let within = c.decreases in
    let is : get_or c.args.forms.now c.loop-form.form-index c.form-item.result ≡ c.form-item.result = search rules in
    let fits = item_fits c.args.forms.now c.loop-form.form-index c.form-item.result c.loop-form-test.true is in
    let less : 8 * tree_size (tree_of c.form-item.result) < t = omega arith in
    (less, tt)

pub read_facts-read_fact-requires : goal.read_facts-read_fact-requires
read_facts-read_fact-requires t c =
    let within = c.decreases in
    let is : get_or c.args.forms.now c.loop-form.form-index c.form-item.result ≡ c.form-item.result = search rules in
    let fits = item_fits c.args.forms.now c.loop-form.form-index c.form-item.result c.loop-form-test.true is in
    let less : 8 * tree_size (tree_of c.form-item.result) + 1 < t = omega arith in
    (less, tt)

pub read_slots-read_given-requires : goal.read_slots-read_given-requires
read_slots-read_given-requires t c =
    let within = c.decreases in
    let is : get_or c.args.forms.now c.loop-form.form-index c.form-item.result ≡ c.form-item.result = search rules in
    let fits = item_fits c.args.forms.now c.loop-form.form-index c.form-item.result c.loop-form-test.true is in
    let less : 8 * tree_size (tree_of c.form-item.result) + 1 < t = omega arith in
    (less, tt)

pub read_changes-read_change-requires : goal.read_changes-read_change-requires
read_changes-read_change-requires t c =
    let within = c.decreases in
    let is : get_or c.args.forms.now c.loop-form.form-index c.form-item.result ≡ c.form-item.result = search rules in
    let fits = item_fits c.args.forms.now c.loop-form.form-index c.form-item.result c.loop-form-test.true is in
    let less : 8 * tree_size (tree_of c.form-item.result) + 2 < t = omega arith in
    (less, tt)

pub read_if-returns-in_err-yes : goal.read_if-returns-in_err-yes
read_if-returns-in_err-yes t c =
    let s = c.args.scope.now in
    let none = c.in_ok-test.ensures.0 in
    let r : c.from_residual-in_err-yes.result ≡ Err c.in_err-yes.field-0.0 = search rules in
    let rest = all_faults s (members c.args.yes.now) ++ all_faults s (members c.args.no.now) in
    let whole = if_faults s (tree_of c.args.test.now) (members c.args.yes.now) (members c.args.no.now) in
    subst (λ (it : Result Expr Refused). ReadsAs term_of it whole (if_expr s.templates (tree_of c.args.test.now) (members c.args.yes.now) (members c.args.no.now))) (sym r)
    (fails (λ (es : Vec Expr Global). map term_of es.items) (exprs_of s.templates (members c.args.yes.now)) term_of _ c.in_err-yes.field-0.0 (all_faults s (members c.args.yes.now)) whole
    (λ f h. ap (λ fs. first_of (fs ++ rest)) none ∙ first_append (all_faults s (members c.args.yes.now)) (all_faults s (members c.args.no.now)) f h) c.in_err-yes.ensures)

pub read_slots-returns-in_err-read_given : goal.read_slots-returns-in_err-read_given
read_slots-returns-in_err-read_given t c =
    let s = c.args.scope.now in
    let slots = c.args.template.now in
    let forms = c.args.forms.now in
    let given = c.loop-form.given.names in
    let is : get_or forms c.loop-form.form-index c.form-item.result ≡ c.form-item.result = search rules in
    let r : c.from_residual-in_err-read_given.result ≡ Err c.in_err-read_given.field-0.0 = search rules in
    let added : Unit {0} → List (List ℕ) × List Term = λ _. (c.read_given.new.given.names, map term_of c.read_given.new.given.values.items) in
    let form = tree_of c.form-item.result in
    let with_slot : List (List ℕ) × List Term = (given ++ slot_name form ∷ [], map term_of c.loop-form.given.values.items ++ given_slot s.templates slots form ∷ []) in
    let view : Vec Name Global × Vec Expr Global → List (List ℕ) × List Term = λ p. (p.0.items, map term_of p.1.items) in
    subst (λ (it : Result (Vec Name Global × Vec Expr Global) Refused). ReadsAs view it (slots_faults s slots [] (members forms)) (slot_names (members forms), slot_exprs s.templates slots (members forms))) (sym r)
    (fails added with_slot view _ c.in_err-read_given.field-0.0 (slot_faults s slots given form) (slots_faults s slots [] (members forms))
    (λ f h. next_slot s slots given forms c.loop-form.form-index c.form-item.result f c.loop-form-test.true is c.loop-form.invariant.0 h) c.in_err-read_given.ensures)

pub read_values-returns-in_err-read_value : goal.read_values-returns-in_err-read_value
read_values-returns-in_err-read_value t c =
    let s = c.args.scope.now in
    let types = option_and_then (λ it. it.now.types) c.args.slot in
    let first = tree_of c.in-Some.first.now in
    let following = members c.in-Some.following.now in
    let r : c.from_residual-in_err-read_value.result ≡ Err c.in_err-read_value.field-0.0 = search rules in
    subst (λ (it : Result (Vec Expr Global) Refused). ReadsAs (λ es. map term_of es.items) it (values_faults s types (members c.args.forms.now)) (exprs_of s.templates (members c.args.forms.now))) (sym r)
    (fails term_of (expr_of s.templates first) (λ (es : Vec Expr Global). map term_of es.items) _ c.in_err-read_value.field-0.0 (value_faults s types first following) (values_faults s types (members c.args.forms.now))
    (λ f h.
    ap first_of (sym c.loop-first.invariant.0 ∙ ap (λ fs. values_faults s types (members fs)) c.in-Some.ensures.cases.0) ∙ first_append (value_faults s types first following) (values_faults s types following) f h)
    c.in_err-read_value.ensures)

pub read_bind-returns : goal.read_bind-returns
read_bind-returns t c =
    let s = c.args.scope.now in
    let bound = c.args.bound in
    let values = members c.args.values.now in
    let wanted = terms (exprs_of s.templates values) in
    let none : bound_faults s bound ≡ [] = c.in_ok-effect.ensures.0 in
    let faults : bound_faults s bound ++ all_faults s values ≡ all_faults s values = ap (λ fs. fs ++ all_faults s values) none in
    subst (λ fs. ReadsAs term_of c.read_effect.result fs (effect (binding bound) wanted)) (sym faults)
    (subst (λ it. ReadsAs term_of c.read_effect.result (all_faults s values) (effect it wanted)) c.in_ok-effect.ensures.1 c.read_effect.ensures)
