use Rattle.std.proofs.Common.{◌∙◌, ap, sym}
use Rattle.cb_facts.proofs.FactEquality.{fact_eq-apart}
use Rattle.cb_facts.proofs.fact.FactPartialEq.eq.Goals as goal
use Rattle.cb_facts.specs.declared.fact.Body.{Body}

pub returns-then-deref : goal.returns-then-deref
returns-then-deref c =
    let mine : Body = c.self.inside.body.value in
    let others : Body = c.other.inside.body.value in
    rw (← c.self.view_is, ← c.other.view_is)
    (fact_eq-apart mine.hash others.hash mine others c.self.invariant c.other.invariant
    (λ e. c.if-deref.true (ap (λ (b : Body). b.hash) c.deref.ensures ∙ e ∙ sym (ap (λ (b : Body). b.hash) c.deref-2.ensures))))
