use Rattle.std.proofs.Common.{◌≡◌, ◌∙◌, List, None, Some, ap, arith, sym}
use Rattle.cb_alpha.specs.AlphaMemories.{AreFactsWith, AreLiveNumbers}
use Rattle.cb_alpha.specs.JoinValues.{variable_values}
use Rattle.cb_beta.proofs.Losses.{on_ok}
use Rattle.cb_beta.proofs.Members.{apart_of}
use Rattle.cb_facts.specs.declared.value.Value.{Value}
use Rattle.cb_join_node.proofs.Agreement.{asked_some, by_numbers, by_values, found_by, has_filed}
use Rattle.cb_join_node.proofs.Bounds.{facts_beside}
use Rattle.cb_join_node.proofs.Meeting.{facts_meet, stray_meets}
use Rattle.cb_join_node.proofs.Refiled.{moved_aside}
use Rattle.cb_join_node.proofs.node.join_partial.Goals as goal
use Rattle.cb_join_node.specs.Filings.{filed_values}
use Rattle.cb_join_node.specs.Nodes.{tests_of}
use Rattle.cb_token_lists.specs.Partials.{partial_at}

pub returns-in_ok-join_facts-in-Some-clause-come : goal.returns-in_ok-join_facts-in-Some-clause-come
returns-in_ok-join_facts-in-Some-clause-come g c =
    let x = c.args.asked.now.address in
    let p = c.args.asked.now.pattern in
    let ts = tests_of c.args.asked.now in
    let js = c.args.asked.now.fields.items in
    let alpha = c.args.alpha.now in
    let n = c.args.number in
    let m = partial_at c.args.lists.now.sources.now c.args.lists.now.lists.now c.args.from n in
    let vs : List Value = c.in-Some.values in
    let found : filed_values js m ≡ Some vs = sym (ap (λ it. filed_values it m) c.as_slice.ensures.value) ∙ (sym c.in_ok-values.ensures ∙ c.in-Some.is) in
    let is : variable_values js m.env ≡ Some vs = has_filed js (variable_values js m.env) vs found in
    let xs = c.facts_with-beside.result.now in
    on_ok c.add.result
    (λ added has fields knows selected.
    let join = asked_some alpha c.args.join js (variable_values js m.env) vs found has in
    let these : AreFactsWith alpha js vs xs = found_by alpha c.args.join js join vs xs (c.facts_with-beside.ensures join.0 join.1) in
    by_values c.a_fact_that_fits_has_the_values_of_variables.ensures x p ts js fields m n alpha vs is xs these c.args.own.now c.join_facts.new.own
    (c.in_ok-join_facts-in-Some.ensures.come (apart_of xs these.once) (facts_meet c.args.asked.now m alpha vs xs knows selected is these)))
    c.add.ensures.ok

pub returns-in_ok-join_facts-in-Some-clause-probes : goal.returns-in_ok-join_facts-in-Some-clause-probes
returns-in_ok-join_facts-in-Some-clause-probes g c =
    let js = c.args.asked.now.fields.items in
    let alpha = c.args.alpha.now in
    let m = partial_at c.args.lists.now.sources.now c.args.lists.now.lists.now c.args.from c.args.number in
    let vs : List Value = c.in-Some.values in
    let found : filed_values js m ≡ Some vs = sym (ap (λ it. filed_values it m) c.as_slice.ensures.value) ∙ (sym c.in_ok-values.ensures ∙ c.in-Some.is) in
    let xs = c.facts_with-beside.result.now in
    on_ok c.add.result
    (λ added k has most.
    let join = asked_some alpha c.args.join js (variable_values js m.env) vs found has in
    let these : AreFactsWith alpha js vs xs = found_by alpha c.args.join js join vs xs (c.facts_with-beside.ensures join.0 join.1) in
    let all = most xs (apart_of xs these.once) (facts_beside js vs alpha xs these) in
    let l = c.in_ok-join_facts-in-Some.ensures.probes in
    omega (arith, l, all))
    c.add.ensures.ok

pub returns-in_ok-join_facts-in-None-clause-others : goal.returns-in_ok-join_facts-in-None-clause-others
returns-in_ok-join_facts-in-None-clause-others g c =
    on_ok c.add-in-None.result
    (λ added other apart. moved_aside c.args.partials.now c.remove.new.self c.args.strays.now c.remove-2.new.self c.add-in-None.new.self c.args.number c.remove.ensures c.remove-2.ensures added other apart)
    c.add-in-None.ensures.ok

pub returns-in_ok-join_facts-in-None-clause-come : goal.returns-in_ok-join_facts-in-None-clause-come
returns-in_ok-join_facts-in-None-clause-come g c =
    let x = c.args.asked.now.address in
    let p = c.args.asked.now.pattern in
    let ts = tests_of c.args.asked.now in
    let js = c.args.asked.now.fields.items in
    let alpha = c.args.alpha.now in
    let n = c.args.number in
    let m = partial_at c.args.lists.now.sources.now c.args.lists.now.lists.now c.args.from n in
    let none : filed_values js m ≡ None = sym (ap (λ it. filed_values it m) c.as_slice.ensures.value) ∙ (sym c.in_ok-values.ensures ∙ c.in-None.is) in
    let xs = c.numbers-all.result.now in
    let these : AreLiveNumbers alpha xs = c.numbers-all.ensures in
    on_ok c.add-in-None.result
    (λ added has fields knows selected.
    by_numbers x p ts m n alpha xs these c.args.own.now c.join_facts-in-None.new.own
    (c.in_ok-join_facts-in-None.ensures.come these.once (λ k i f is. stray_meets c.args.asked.now m f knows (selected k f is) none)))
    c.add-in-None.ensures.ok

pub returns-in_ok-join_facts-in-None-clause-probes : goal.returns-in_ok-join_facts-in-None-clause-probes
returns-in_ok-join_facts-in-None-clause-probes g c =
    let alpha = c.args.alpha.now in
    let xs = c.numbers-all.result.now in
    let these : AreLiveNumbers alpha xs = c.numbers-all.ensures in
    on_ok c.add-in-None.result
    (λ added k has most.
    let all = most xs these.once these.are in
    let l = c.in_ok-join_facts-in-None.ensures.probes in
    omega (arith, l, all))
    c.add-in-None.ensures.ok
