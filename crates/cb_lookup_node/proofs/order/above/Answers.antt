use Rattle.std.proofs.Common.{List, option_copied, subst}
use Rattle.cb_alpha.specs.AlphaMemories.{HasFactWith, live}
use Rattle.cb_alpha.specs.Buckets.{AreFirst}
use Rattle.cb_facts.specs.declared.value.Value.{Value}
use Rattle.cb_facts.specs.declared.value.Value.TheVariants.{Int}
use Rattle.cb_lookup_node.proofs.Alone.{facts_as_many, of_one, to_one}
use Rattle.cb_lookup_node.proofs.Among.{behind_is}
use Rattle.cb_lookup_node.proofs.Nearest.{above_is}
use Rattle.cb_lookup_node.proofs.order.above.Goals as goal
use Rattle.cb_lookup_node.specs.Order.{behind, last, place_among}

pub returns : goal.returns
returns c fields known w has are many =
    let alpha = c.args.alpha.now in
    let There = HasFactWith alpha has.0 in
    let found = option_copied c.first_within.result in
    let r : AreFirst There (place_among known (behind w)) (place_among known last) found = subst (λ (it : List Value). AreFirst There it (place_among known last) found)
    (behind_is known w c.args.values.now c.in_ok-low.low are c.in_ok-low.ensures)
    (subst (λ (it : List Value). AreFirst There c.in_ok-low.low it found) (c.in_ok-high.ensures known (Int w) are) (c.first_within.ensures has.0 has.1)) in
    let to = to_one alpha c.args.join fields has in
    let of = of_one alpha c.args.join fields has in
    above_is fields alpha known w (facts_as_many fields (live alpha) c.args.values.now known w are many) found (option_copied c.if_integer.result) c.if_integer.ensures
    (λ vs e. let h = r.within vs e in (h.0, to vs h.1)) (λ vs os e there i. r.least vs os e (of os there) i) (λ os e there i. r.none os e (of os there) i)
