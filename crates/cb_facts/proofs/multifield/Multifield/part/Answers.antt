use Rattle.std.proofs.Common.{◌≡◌, ◌≤◌, ◌+◌, ℕ, List, arith, length, slice_range, sym, ap, ◌∙◌, subst}
use Rattle.std.specs.Rc.{rc_slice_items}
use Rattle.cb_facts.specs.declared.single.Single.{Single}
use Rattle.cb_facts.proofs.PartLaws.{part-within, slice_range-slice_range}
use Rattle.cb_facts.proofs.multifield.Multifield.part.Goals as goal

ends : (fields now : List Single) (start end to : ℕ) → slice_range fields start end ≡ now → start ≤ end → to ≤ length now → start + to ≤ end
ends fields now start end to view_is order within = part-within fields start end to order (subst (λ xs. to ≤ length xs) (sym view_is) within)

pub overflow_cast-result : goal.overflow_cast-result
overflow_cast-result c = omega (arith, ends _ _ _ _ _ c.self.view_is c.self.invariant.0 c.requires.within)

pub overflow_cast-result-2 : goal.overflow_cast-result-2
overflow_cast-result-2 c = omega (arith, ends _ _ _ _ _ c.self.view_is c.self.invariant.0 c.requires.within)

pub returns : goal.returns
returns c =
    let fields = rc_slice_items c.self.inside.shared in
    let within = ends _ _ _ _ _ c.self.view_is c.self.invariant.0 c.requires.within in
    ap (λ xs. slice_range xs (c.self.inside.start + c.args.from) (c.self.inside.start + c.args.to)) c.in_ok-shared.ensures.cases
    ∙ sym (slice_range-slice_range fields c.self.inside.start c.self.inside.end c.args.from c.args.to c.requires.order within)
    ∙ ap (λ xs. slice_range xs c.args.from c.args.to) c.self.view_is
