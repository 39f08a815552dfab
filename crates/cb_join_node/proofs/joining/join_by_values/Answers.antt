use Rattle.std.proofs.Common.{◌≡◌, ◌∙◌, [], ℕ, true, false, ap, map, subst, sym}
use Rattle.std.specs.Rc.{rc_value}
use Rattle.cb_beta.proofs.Losses.{on_ok}
use Rattle.cb_beta.specs.GivenValues.{way_by_fields}
use Rattle.cb_beta.specs.TakenFields.{TakenFieldsValue}
use Rattle.cb_exprs.specs.Terms.{term_of}
use Rattle.cb_facts.specs.Facts.{FactValue}
use Rattle.cb_fit.specs.Ways.{WayValue, ways}
use Rattle.cb_join_node.proofs.Decided.{DecidedByValues, no_way, none_met, the_way}
use Rattle.cb_join_node.proofs.Tokens.{one_way_comes}
use Rattle.cb_join_node.proofs.joining.join_by_values.Goals as goal
use Rattle.cb_join_node.specs.Joins.{IsOfWay, IsPair}
use Rattle.cb_join_node.specs.Nodes.{tests_of}
use Rattle.cb_matches.specs.Chains.{In}
use Rattle.cb_matches.specs.Matches.{grown, with_address}
use Rattle.cb_nodes.specs.Flat.{all_hold}
use Rattle.cb_scopes.specs.Compared.{all_compare}
use Rattle.cb_token_lists.proofs.Arrivals.{none_come}
use Rattle.cb_token_lists.specs.Growth.{Comes}
use Rattle.cb_token_lists.specs.Partials.{partial_at}

pub returns-then-not-compares : goal.returns-then-not-compares
returns-then-not-compares g c meet =
    let x = c.args.asked.now.address in
    let p = c.args.asked.now.pattern in
    let ts = tests_of c.args.asked.now in
    let by = c.args.by.now in
    let m = partial_at c.args.lists.now.sources.now c.args.lists.now.lists.now c.args.from c.args.number in
    let f = c.args.one.now in
    let law : DecidedByValues = record { fits = c.a_pattern_is_decided_by_values.ensures.fits; way = c.a_pattern_is_decided_by_values.ensures.way } in
    let seen = c.reading-known.result in
    let same : all_compare c.as_slice.result.now (partial_at seen.lists.sources.now seen.lists.lists.now seen.list seen.number).env c.one.inside.fact.content ≡ all_compare by.compared.items m.env f.1.content =
    ap (λ it. all_compare it (partial_at seen.lists.sources.now seen.lists.lists.now seen.list seen.number).env c.one.inside.fact.content) c.as_slice.ensures.value
    ∙ (ap (λ it. all_compare by.compared.items (partial_at it.lists.sources.now it.lists.lists.now it.list it.number).env c.one.inside.fact.content) c.reading-known.ensures
    ∙ ap (λ (it : ℕ × FactValue). all_compare by.compared.items m.env it.1.content) c.one.view_is) in
    let fails : all_compare by.compared.items m.env f.1.content ≡ false = sym same ∙ (sym c.in_ok-compares.ensures ∙ c.if-not-compares.true) in
    none_come c.args.own.now (IsPair x p ts m c.args.number c.args.candidate f)
    (λ t h. let none : In h.0 [] = subst (In h.0) (no_way law c.args.asked.now by m f meet fails) h.1 in absurd none)

pub returns-then-not-met : goal.returns-then-not-met
returns-then-not-met g c meet =
    let x = c.args.asked.now.address in
    let p = c.args.asked.now.pattern in
    let ts = tests_of c.args.asked.now in
    let by = c.args.by.now in
    let m = partial_at c.args.lists.now.sources.now c.args.lists.now.lists.now c.args.from c.args.number in
    let f = c.args.one.now in
    let law : DecidedByValues = record { fits = c.a_pattern_is_decided_by_values.ensures.fits; way = c.a_pattern_is_decided_by_values.ensures.way } in
    let given = c.in_ok-given.given in
    let way : given ≡ way_by_fields (rc_value {X = TakenFieldsValue} by.taken) f.1.content =
    c.in_ok-given.ensures ∙ ap (λ (it : ℕ × FactValue). way_by_fields (rc_value {X = TakenFieldsValue} by.taken) it.1.content) c.one.view_is in
    let fails : all_hold (map term_of by.conditions.items) (grown x f.0 m given) ≡ false =
    ap (λ es. all_hold (map term_of es) (grown x f.0 m given)) (sym c.as_slice-conditions.ensures.value)
    ∙ (ap (λ (it : ℕ × FactValue). all_hold (map term_of c.as_slice-conditions.result.now) (grown x it.0 m given)) (sym c.one.view_is) ∙ (sym c.in_ok-met.ensures ∙ c.if-not-met.true)) in
    none_come c.args.own.now (IsPair x p ts m c.args.number c.args.candidate f)
    (λ t h. let none : In h.0 [] = subst (In h.0) (none_met law c.args.asked.now by m f meet given (ap (λ (it : WayValue). it.bound) way) fails) h.1 in absurd none)

pub returns : goal.returns
returns g c =
    let x = c.args.asked.now.address in
    let p = c.args.asked.now.pattern in
    let ts = tests_of c.args.asked.now in
    let by = c.args.by.now in
    let n = c.args.number in
    let k = c.args.candidate in
    let m = partial_at c.args.lists.now.sources.now c.args.lists.now.lists.now c.args.from n in
    let f = c.args.one.now in
    let own = c.args.own.now in
    let own' = c.add_given.new.own in
    let law : DecidedByValues = record { fits = c.a_pattern_is_decided_by_values.ensures.fits; way = c.a_pattern_is_decided_by_values.ensures.way } in
    let seen = c.reading-known.result in
    let same : all_compare c.as_slice.result.now (partial_at seen.lists.sources.now seen.lists.lists.now seen.list seen.number).env c.one.inside.fact.content ≡ all_compare by.compared.items m.env f.1.content =
    ap (λ it. all_compare it (partial_at seen.lists.sources.now seen.lists.lists.now seen.list seen.number).env c.one.inside.fact.content) c.as_slice.ensures.value
    ∙ (ap (λ it. all_compare by.compared.items (partial_at it.lists.sources.now it.lists.lists.now it.list it.number).env c.one.inside.fact.content) c.reading-known.ensures
    ∙ ap (λ (it : ℕ × FactValue). all_compare by.compared.items m.env it.1.content) c.one.view_is) in
    let holds : all_compare by.compared.items m.env f.1.content ≡ true = sym same ∙ (sym c.in_ok-compares.ensures ∙ c.if-not-compares.false) in
    let given = c.in_ok-given.given in
    let way : given ≡ way_by_fields (rc_value {X = TakenFieldsValue} by.taken) f.1.content =
    c.in_ok-given.ensures ∙ ap (λ (it : ℕ × FactValue). way_by_fields (rc_value {X = TakenFieldsValue} by.taken) it.1.content) c.one.view_is in
    let met : all_hold (map term_of by.conditions.items) (grown x f.0 m given) ≡ true =
    ap (λ es. all_hold (map term_of es) (grown x f.0 m given)) (sym c.as_slice-conditions.ensures.value)
    ∙ (ap (λ (it : ℕ × FactValue). all_hold (map term_of c.as_slice-conditions.result.now) (grown x it.0 m given)) (sym c.one.view_is) ∙ (sym c.in_ok-met.ensures ∙ c.if-not-met.false)) in
    on_ok c.add_given.result
    (λ come meet.
    let is : Comes own own' (IsOfWay x ts m n k f.0 given) = subst (λ (it : ℕ × FactValue). Comes own own' (IsOfWay x ts m n k it.0 given)) c.one.view_is come in
    one_way_comes x ts m n k f.0 own own' (ways p f.1 (with_address x f.0 m.env)) given
    (the_way law c.args.asked.now by m f meet given holds (ap (λ (it : WayValue). it.cuts) way) (ap (λ (it : WayValue). it.bound) way) met) is)
    c.add_given.ensures
