use Rattle.std.proofs.Common.{◌≡◌, ◌∙◌, List, subst}
use Rattle.cb_alpha.specs.Turning.{HasJoin}
use Rattle.cb_alpha_network.specs.Networks.{memory_at}
use Rattle.cb_branch.proofs.EnteredNodes.{gains_joined}
use Rattle.cb_branch.proofs.JoinAsked.{joined}
use Rattle.cb_branch.proofs.entering.enter_join.Goals as goal
use Rattle.cb_fit.specs.declared.join_fields.JoinField.{JoinField}

pub join-requires-clause-there : goal.join-requires-clause-there
join-requires-clause-there g c = λ none. let is = c.in_ok-alpha.ensures.entered.shape in cc

pub returns-clause-shape : goal.returns-clause-shape
returns-clause-shape g c = (c.in_ok-node.ensures.stay c.in_ok-alpha.alpha c.args.node.now.asked.pattern c.args.place c.in_ok-alpha.ensures.entered).0

pub returns-clause-network : goal.returns-clause-network
returns-clause-network g c =
    let entered = c.in_ok-alpha.ensures in
    let joined = c.in_ok-node.ensures in
    gains_joined c.args.facts.now c.args.network.now c.enter.new.self c.join.new.self entered.stay entered.count entered.alphas joined.stay joined.users joined.rest (joined.alphas c.args.facts.now)

pub returns-clause-join : goal.returns-clause-join
returns-clause-join g c =
    let m = memory_at c.join.new.self c.in_ok-alpha.alpha in
    let number = c.in_ok-node.field-0 in
    let same : c.in_ok-fields.fields.items ≡ c.args.node.now.asked.fields.items = c.in_ok-fields.ensures ∙ c.as_slice.ensures.value in
    joined m number c.args.node.now.asked.fields.items (subst (λ (js : List JoinField). HasJoin m number js) same c.in_ok-node.ensures.joined)
