use Rattle.std.proofs.Common.{rules, ◌≡◌, ◌∙◌, List, Some, None, ap, arith, subst, sym}
use Rattle.cb_alpha.proofs.ReadFacts.{came_live, came_read, is_its_number, number_is, read_came, same_some, some_none}
use Rattle.cb_alpha.specs.AlphaMemories.{candidate_in, live}
use Rattle.cb_alpha.specs.JoinValues.{field_values}
use Rattle.cb_alpha.specs.Turning.{came_in}
use Rattle.cb_beta.proofs.Losses.{on_ok}
use Rattle.cb_beta.proofs.Members.{apart_of, in_contains}
use Rattle.cb_facts.specs.declared.value.Value.{Value}
use Rattle.cb_join_node.proofs.Agreement.{with_fact}
use Rattle.cb_join_node.proofs.Bounds.{both_at_most, has_values_beside, once_beside}
use Rattle.cb_join_node.proofs.Meeting.{beside_meet, strays_meet}
use Rattle.cb_join_node.proofs.node.join_fact.Goals as goal
use Rattle.cb_join_node.specs.Joins.{Joins}
use Rattle.cb_join_node.specs.Nodes.{FindsFacts, Stays, tests_of}
use Rattle.cb_token_lists.proofs.Arrivals.{none_come}
use Rattle.cb_token_lists.specs.Partials.{partial_at}

pub returns-in_default-clause-come : goal.returns-in_default-clause-come
returns-in_default-clause-come g c before has apart partials fields knows shape =
    let alpha = c.args.alpha.now in
    let at = partial_at c.args.lists.now.sources.now c.args.lists.now.lists.now c.args.from in
    let none : alpha.come ≡ None = search rules in
    none_come c.args.own.now (Joins c.args.asked.now.address c.args.asked.now.pattern (tests_of c.args.asked.now) at (Stays before) (came_in alpha))
    (λ t h. some_none alpha.come (number_is alpha.come h.2.0 (came_read alpha h.2.0 h.2.1.0 h.2.1.1).1) none)

pub returns-in_default-candidate-clause-come : goal.returns-in_default-candidate-clause-come
returns-in_default-candidate-clause-come g c before has apart partials fields knows shape =
    let alpha = c.args.alpha.now in
    let at = partial_at c.args.lists.now.sources.now c.args.lists.now.lists.now c.args.from in
    let n = c.in-Some.number in
    let none : candidate_in alpha.candidates n ≡ None = search rules in
    let come : alpha.come ≡ Some n = search rules in
    none_come c.args.own.now (Joins c.args.asked.now.address c.args.asked.now.pattern (tests_of c.args.asked.now) at (Stays before) (came_in alpha))
    (λ t h.
    let r = came_read alpha h.2.0 h.2.1.0 h.2.1.1 in
    let same : h.2.0 ≡ n = same_some alpha.come (number_is alpha.come h.2.0 r.1) come in
    some_none (candidate_in alpha.candidates h.2.0) r.0 (ap (candidate_in alpha.candidates) same ∙ none))

pub returns-clause-come : goal.returns-clause-come
returns-clause-come g c =
    let x = c.args.asked.now.address in
    let p = c.args.asked.now.pattern in
    let ts = tests_of c.args.asked.now in
    let js = c.args.asked.now.fields.items in
    let alpha = c.args.alpha.now in
    let at = partial_at c.args.lists.now.sources.now c.args.lists.now.lists.now c.args.from in
    let n = c.in-Some.number in
    let f = c.in-Some-candidate.one.now in
    let come : alpha.come ≡ Some n = search rules in
    let is : candidate_in alpha.candidates n ≡ Some f = sym c.in-Some-candidate.ensures in
    let fs = c.as_slice-fields.result.now in
    let same = c.as_slice-fields.ensures.value in
    let xs = c.partials_beside-beside.result.now in
    let ys = c.members.result.now in
    on_ok c.join_partials-2.result
    (λ h before has apart partials fields knows shape.
    let asked = c.args.asked.now in
    let b = c.args.partials.now in
    let s = c.args.strays.now in
    let there : live alpha n ≡ Some f = came_live alpha n come apart ∙ is in
    let has' : FindsFacts alpha c.args.join fs = subst (FindsFacts alpha c.args.join) (sym same) has in
    let some = λ (vs : List Value) (e : field_values js f.1.content ≡ Some vs). c.partials_beside-beside.ensures.some has' f vs there (ap (λ it. field_values it f.1.content) same ∙ e) in
    let none = λ (e : field_values js f.1.content ≡ None). c.partials_beside-beside.ensures.none has' f there (ap (λ it. field_values it f.1.content) same ∙ e) in
    with_fact c.a_fact_that_fits_has_the_values_of_variables.ensures x p ts js fields alpha n f come is at (Stays before) b s partials xs ys some none c.members.ensures
    c.args.own.now c.join_partials.new.own c.join_partials-2.new.own
    (c.in_ok-join_partials.ensures.come (once_beside (field_values js f.1.content) b xs some none) (beside_meet asked at (Stays before) knows b s partials f (shape n f is) xs some none))
    (h (apart_of ys c.members.ensures.once) (strays_meet asked at (Stays before) knows b s partials f (shape n f is) ys c.members.ensures)))
    c.join_partials-2.ensures.come

pub returns-clause-probes : goal.returns-clause-probes
returns-clause-probes g c =
    let js = c.args.asked.now.fields.items in
    let alpha = c.args.alpha.now in
    let at = partial_at c.args.lists.now.sources.now c.args.lists.now.lists.now c.args.from in
    let b = c.args.partials.now in
    let n = c.in-Some.number in
    let f = c.in-Some-candidate.one.now in
    let come : alpha.come ≡ Some n = search rules in
    let is : candidate_in alpha.candidates n ≡ Some f = sym c.in-Some-candidate.ensures in
    let o = field_values js f.1.content in
    let fs = c.as_slice-fields.result.now in
    let same = c.as_slice-fields.ensures.value in
    let xs = c.partials_beside-beside.result.now in
    let ys = c.members.result.now in
    on_ok c.join_partials-2.result
    (λ l before kept has apart partials most.
    let there : live alpha n ≡ Some f = came_live alpha n come apart ∙ is in
    let has' : FindsFacts alpha c.args.join fs = subst (FindsFacts alpha c.args.join) (sym same) has in
    let some = λ (vs : List Value) (e : o ≡ Some vs). c.partials_beside-beside.ensures.some has' f vs there (ap (λ it. field_values it f.1.content) same ∙ e) in
    let none = λ (e : o ≡ None). c.partials_beside-beside.ensures.none has' f there (ap (λ it. field_values it f.1.content) same ∙ e) in
    let both = both_at_most js b c.args.strays.now at (Stays before) partials xs ys (has_values_beside o b xs some none)
    (λ k h. (c.members.ensures.are k).0 (in_contains ys k h)) (once_beside o b xs some none) (apart_of ys c.members.ensures.once) kept most in
    let first = c.in_ok-join_partials.ensures.probes in
    omega (arith, l, both, first))
    c.join_partials-2.ensures.probes

pub returns-clause-untested : goal.returns-clause-untested
returns-clause-untested g c =
    let alpha = c.args.alpha.now in
    let n = c.in-Some.number in
    let come : alpha.come ≡ Some n = search rules in
    let is : candidate_in alpha.candidates n ≡ Some c.in-Some-candidate.one.now = sym c.in-Some-candidate.ensures in
    on_ok c.join_partials-2.result
    (λ l none. some_none (came_in alpha n) (read_came alpha n (is_its_number alpha.come n come) ∙ is) (none n))
    c.join_partials-2.ensures.probes
