use Rattle.std.proofs.Common.{◌≡◌, ◌∙◌, ◌+◌, ◌++◌, ◌∷◌, [], ap, sym, append_assoc, subst, length}
use Rattle.std.proofs.lemmas.List.{append-nil, length-append, nil_from_length}
use Rattle.cb_expr_forms.proofs.Elses.{HasNoElse, cut, no_else_more, uncut}
use Rattle.cb_expr_forms.proofs.action_form.split_else.Goals as goal

pub returns-then-is_else : goal.returns-then-is_else
returns-then-is_else c =
    let inv = c.loop-first.invariant in
    let e : c.args.actions.now ≡ inv.0 ++ c.in-Some.first.now ∷ c.in-Some.following.now = inv.1 ∙ ap (λ r. inv.0 ++ r) c.in-Some.ensures.cases.0 in
    cut c.args.actions.now inv.0 c.in-Some.following.now c.in-Some.first.now c.loop-first.count e inv.2 inv.3 (sym c.is_else.ensures ∙ c.if-is_else.true)

pub loop-first-preserved : goal.loop-first-preserved
loop-first-preserved c =
    let inv = c.loop-first.invariant in
    let first = c.in-Some.first.now in
    let e : c.args.actions.now ≡ inv.0 ++ first ∷ c.in-Some.following.now = inv.1 ∙ ap (λ r. inv.0 ++ r) c.in-Some.ensures.cases.0 in
    let count : length (inv.0 ++ first ∷ []) ≡ c.loop-first.count + 1 = length-append inv.0 (first ∷ []) ∙ ap (λ n. n + 1) inv.2 in (
      inv.0 ++ first ∷ [],
      e ∙ sym (append_assoc inv.0 (first ∷ []) c.in-Some.following.now),
      count,
      no_else_more inv.0 first inv.3 (sym c.is_else.ensures ∙ c.if-is_else.false),
    )

pub returns : goal.returns
returns c =
    let inv = c.loop-first.invariant in
    let none : c.loop-first.rest.now ≡ [] = nil_from_length c.loop-first.rest.now c.in_default.ensures.cases in
    let e : c.args.actions.now ≡ inv.0 = inv.1 ∙ ap (λ r. inv.0 ++ r) none ∙ append-nil inv.0 in
    uncut c.args.actions.now c.loop-first.rest.now (subst HasNoElse (sym e) inv.3) none
