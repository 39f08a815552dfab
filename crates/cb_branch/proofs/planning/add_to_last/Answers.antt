use Rattle.std.proofs.Common.{◌≡◌, ◌∷◌, ◌<◌, ◌-◌, [], arith, length, refl, rules, set}
use Rattle.std.specs.Vec.{vec_len}
use Rattle.cb_exprs.specs.Terms.{term_of}
use Rattle.cb_branch.proofs.Planned.{last_set}
use Rattle.cb_branch.proofs.Ready.{last_planned}
use Rattle.cb_branch.proofs.planning.add_to_last.Goals as goal

pub returns-in_ok-add_to-clause-nodes : goal.returns-in_ok-add_to-clause-nodes
returns-in_ok-add_to-clause-nodes g c =
    let nodes = c.args.nodes.now in
    let len : vec_len nodes ≡ length nodes.items = search rules in
    let some : 0 < vec_len nodes = c.in-Some.ensures.variant.0 refl in
    last_set (term_of c.args.condition ∷ []) nodes.items c.in-Some.node.now c.add_to.new.node (vec_len nodes - 1) (omega (arith, len, some)) c.in-Some.ensures.value c.in_ok-add_to.ensures.node

pub returns-in_ok-add_to-clause-planned : goal.returns-in_ok-add_to-clause-planned
returns-in_ok-add_to-clause-planned g c =
    let nodes = c.args.nodes.now in
    let ts = term_of c.args.condition ∷ [] in
    let k = vec_len nodes - 1 in
    let len : vec_len nodes ≡ length nodes.items = search rules in
    let some : 0 < vec_len nodes = c.in-Some.ensures.variant.0 refl in
    let flat_is = last_set ts nodes.items c.in-Some.node.now c.add_to.new.node k (omega (arith, len, some)) c.in-Some.ensures.value c.in_ok-add_to.ensures.node in
    λ was. last_planned ts nodes.items (set nodes.items k c.add_to.new.node) c.in-Some.node.now c.add_to.new.node k (omega (arith, len, some)) c.in-Some.ensures.value c.in_ok-add_to.ensures.node refl flat_is c.in_ok-add_to.ensures.planned was
