use Rattle.std.proofs.Common.{◌≡◌, ◌∙◌, ◌+◌, ◌++◌, OnOk, ap, ap₂, drop, get_or, rules, subst, sym}
use Rattle.std.proofs.lemmas.List.{at_drop_more}
use Rattle.cb_exprs.specs.Terms.{choose, repeat, term_of, terms_of}
use Rattle.cb_exprs.proofs.TermLaws.{of_if, of_while}
use Rattle.cb_rule_forms.specs.Relations.{asserted_by, asserted_in}
use Rattle.cb_rule_forms.proofs.NameLaws.{three_parts, two_parts}
use Rattle.cb_rule_forms.proofs.relations.+asserted.Goals as goal

pub add_asserted-returns-in_ok-add_asserted-in-If-2 : goal.add_asserted-returns-in_ok-add_asserted-in-If-2
add_asserted-returns-in_ok-add_asserted-in-If-2 t c =
    let test = term_of c.deref-in-If.result.now in
    let yes = term_of c.deref-in-If-2.result.now in
    let no = term_of c.deref-in-If-3.result.now in
    let e : term_of c.args.expr.now ≡ choose test yes no =
    ap term_of c.in-If.is
    ∙ (of_if _ _ _
    ∙ (ap₂ (λ it that. choose (term_of it) (term_of that) (term_of c.in-If.no.value)) (sym c.deref-in-If.ensures) (sym c.deref-in-If-2.ensures)
    ∙ ap (λ it. choose test yes (term_of it)) (sym c.deref-in-If-3.ensures)))
    in
    subst (λ names. OnOk c.add_asserted-in-If-2.result (c.add_asserted-in-If-2.new.found ≡ names))
    (three_parts c.args.found.now c.add_asserted.new.found c.add_asserted-in-If.new.found (asserted_by test) (asserted_by yes) (asserted_by no) _ (ap asserted_by e) c.in_ok-add_asserted-in-If.ensures c.in_ok-add_asserted-in-If-2.ensures)
    c.add_asserted-in-If-2.ensures

pub add_asserted-returns-in_ok-add_asserted-in-While : goal.add_asserted-returns-in_ok-add_asserted-in-While
add_asserted-returns-in_ok-add_asserted-in-While t c =
    let test = term_of c.deref-in-While.result.now in
    let actions = term_of c.deref-in-While-2.result.now in
    let e : term_of c.args.expr.now ≡ repeat test actions =
    ap term_of c.in-While.is
    ∙ (of_while _ _ ∙ ap₂ (λ it that. repeat (term_of it) (term_of that)) (sym c.deref-in-While.ensures) (sym c.deref-in-While-2.ensures))
    in
    subst (λ names. OnOk c.add_asserted-in-While-2.result (c.add_asserted-in-While-2.new.found ≡ names))
    (two_parts c.args.found.now c.add_asserted-in-While.new.found (asserted_by test) (asserted_by actions) _ (ap asserted_by e) c.in_ok-add_asserted-in-While.ensures)
    c.add_asserted-in-While-2.ensures

pub add_each_asserted-loop-expr-preserved : goal.add_each_asserted-loop-expr-preserved
add_each_asserted-loop-expr-preserved t c =
    let exprs = c.args.exprs.now in
    let i = c.loop-expr.expr-index in
    let item = c.expr-item.result in
    let rest = asserted_in (terms_of (drop (i + 1) exprs)) in
    let same : get_or exprs i item ≡ item = search rules in
    let is : asserted_in (terms_of (drop i exprs)) ≡ asserted_by (term_of item) ++ rest =
    at_drop_more (λ es. asserted_in (terms_of es)) exprs i item c.loop-expr-test.true ∙ ap (λ it. asserted_by (term_of it) ++ rest) same
    in
    two_parts c.loop-expr.found c.add_asserted.new.found (asserted_by (term_of item)) rest _ is c.in_ok-add_asserted.ensures ∙ c.loop-expr.invariant
