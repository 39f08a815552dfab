use Rattle.std.proofs.Common.{◌++◌, ◌∷◌, List, [], option_copied, subst}
use Rattle.cb_alpha.specs.AlphaMemories.{HasFactWith, live}
use Rattle.cb_alpha.specs.Buckets.{AreLast}
use Rattle.cb_facts.specs.declared.value.Value.{Value}
use Rattle.cb_facts.specs.declared.value.Value.TheVariants.{Int}
use Rattle.cb_lookup_node.proofs.Alone.{facts_as_many, of_one, to_one}
use Rattle.cb_lookup_node.proofs.Nearest.{below_is}
use Rattle.cb_lookup_node.proofs.order.below.Goals as goal

pub returns : goal.returns
returns c fields known w has are many =
    let alpha = c.args.alpha.now in
    let There = HasFactWith alpha has.0 in
    let found = option_copied c.last_within.result in
    let r : AreLast There known (known ++ Int w ∷ []) found = subst (λ (it : List Value). AreLast There it (known ++ Int w ∷ []) found) (c.in_ok-low.ensures known (Int w) are)
    (subst (λ (it : List Value). AreLast There c.in_ok-low.low it found) are (c.last_within.ensures has.0 has.1)) in
    let to = to_one alpha c.args.join fields has in
    let of = of_one alpha c.args.join fields has in
    below_is fields alpha known w (facts_as_many fields (live alpha) c.args.values.now known w are many) found (option_copied c.if_integer.result) c.if_integer.ensures
    (λ vs e. let h = r.within vs e in (h.0, to vs h.1)) (λ vs os e there i. r.greatest vs os e (of os there) i) (λ os e there i. r.none os e (of os there) i)
