use Rattle.std.proofs.Common.{◌∙◌, Bool, refl, subst, sym}
use Rattle.cb_alpha.proofs.ReadFacts.{not_both}
use Rattle.cb_lookup_node.proofs.Alone.{best_sees, equal_sees, seen_best}
use Rattle.cb_lookup_node.proofs.InOrder.{in_order_ends, parted}
use Rattle.cb_lookup_node.proofs.Turns.{if_ok}
use Rattle.cb_lookup_node.proofs.order.sees_in_order.Goals as goal
use Rattle.cb_lookup_node.specs.Order.{HasBeyond}

pub returns-then-not-ends_in_integer : goal.returns-then-not-ends_in_integer
returns-then-not-ends_in_integer c fields has order many =
    let values = c.args.values.now in (
      λ t. absurd (cc),
      λ h. absurd (not_both c.ends_in_integer.result (c.ends_in_integer.ensures ∙ in_order_ends c.args.comparison h.0 values order h.1) c.if-not-ends_in_integer.true),
    )

pub returns-then-sees_equal : goal.returns-then-sees_equal
returns-then-sees_equal c fields has order many =
    let values = c.args.values.now in
    let p = parted values (sym c.ends_in_integer.ensures ∙ c.if-not-ends_in_integer.false) in
    let h = (c.sees_equal.ensures fields has).0 c.if-sees_equal.true in
    (λ t. equal_sees c.args.comparison order fields c.args.alpha.now values p.0 p.1 p.2 h.0 h.1, λ h. refl)

pub returns : goal.returns
returns c = if_ok c.has_beyond.result _ _ (λ has is fields join order many.
    let values = c.args.values.now in
    let p = parted values (sym c.ends_in_integer.ensures ∙ c.if-not-ends_in_integer.false) in
    let d = is fields p.0 p.1 join p.2 many in (
      λ t. best_sees c.args.comparison order fields c.args.alpha.now values p.0 p.1 p.2 (subst (λ (b : Bool). HasBeyond b fields c.args.alpha.now p.0 p.1) c.is_lower.ensures (d.0 t)),
      λ h.
          d.1 (subst (λ (b : Bool). HasBeyond b fields c.args.alpha.now p.0 p.1) (sym c.is_lower.ensures)
          (seen_best c.args.comparison order fields c.args.alpha.now values p.0 p.1 p.2 (λ k. not_both c.sees_equal.result ((c.sees_equal.ensures fields join).1 k) c.if-sees_equal.false) h)),
    ))
    c.has_beyond.ensures
