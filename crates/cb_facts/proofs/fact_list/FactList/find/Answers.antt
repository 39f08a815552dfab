use Rattle.std.proofs.Common.{◌≡◌, ◌∙◌, IfNone, IfSome, None, Option, Some, ap, rules, subst, sym, ℕ}
use Rattle.std.specs.BTreeMap.{get}
use Rattle.std.specs.Option.{option_or}
use Rattle.cb_facts.specs.FactLists.{IndexedFacts, fact_at, IsAbsent}
use Rattle.cb_facts.specs.Internal.{index_in}
use Rattle.cb_facts.specs.Internal.FactOrder.{fact_cmp}
use Rattle.cb_facts.proofs.fact_list.FactList.find.Goals as goal

if_some : (r : Option ℕ) (P : ℕ → Type 0) → ((n : ℕ) → r ≡ Some n → P n) → IfSome r P
if_some None P h = tt
if_some (Some n) P h = h n (cc)

if_none : (r : Option ℕ) (P : Type 0) → (r ≡ None → P) → IfNone r P
if_none None P h = h (cc)
if_none (Some n) P h = tt

pub returns-in-Some-clause-found : goal.returns-in-Some-clause-found
returns-in-Some-clause-found c =
    let own = c.self.inside in
    let f = c.args.fact.now in
    let found : index_in (fact_at own.facts.entries) own.filed own.aside f ≡ Some c.in-Some.ix = ap (λ o. option_or o (get fact_cmp own.aside f)) (sym c.filed_with.ensures ∙ c.in-Some.is) in
    subst (λ (it : IndexedFacts). fact_at it c.in-Some.ix ≡ Some f) c.self.view_is ((c.self.invariant.agree f c.in-Some.ix).0 found)

pub returns-in-None-clause-found : goal.returns-in-None-clause-found
returns-in-None-clause-found c =
    let own = c.self.inside in
    let f = c.args.fact.now in
    let aside : c.copied.result ≡ get fact_cmp own.aside f = search rules in
    let found : index_in (fact_at own.facts.entries) own.filed own.aside f ≡ c.copied.result = ap (λ o. option_or o (get fact_cmp own.aside f)) (sym c.filed_with.ensures ∙ c.in-None.is) ∙ sym aside in
    if_some c.copied.result (λ ix. fact_at c.args.self.now ix ≡ Some f)
    (λ ix is. subst (λ (it : IndexedFacts). fact_at it ix ≡ Some f) c.self.view_is ((c.self.invariant.agree f ix).0 (found ∙ is)))

pub returns-in-None-clause-absent : goal.returns-in-None-clause-absent
returns-in-None-clause-absent c =
    let own = c.self.inside in
    let f = c.args.fact.now in
    let aside : c.copied.result ≡ get fact_cmp own.aside f = search rules in
    let found : index_in (fact_at own.facts.entries) own.filed own.aside f ≡ c.copied.result = ap (λ o. option_or o (get fact_cmp own.aside f)) (sym c.filed_with.ensures ∙ c.in-None.is) ∙ sym aside in
    if_none c.copied.result (IsAbsent c.args.self.now f)
    (λ none. subst (λ (it : IndexedFacts). IsAbsent it f) c.self.view_is (λ ix there. let no : Some ix ≡ None = sym ((c.self.invariant.agree f ix).1 there) ∙ (found ∙ none) in cc))
