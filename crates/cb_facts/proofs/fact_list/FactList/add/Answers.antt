use Rattle.std.proofs.Common.{◌≡◌, ◌≢◌, ◌∙◌, ℕ, Err, None, Ok, OnErr, OnOk, Option, Result, Some, ap, false, is_err, rules, subst, sym, true}
use Rattle.std.specs.BTreeMap.{is_at}
use Rattle.std.specs.Map.{remove_entry}
use Rattle.std.specs.Ordering.{nat_cmp}
use Rattle.cb_facts.specs.FactLists.{IndexedFacts, IsFactBase, fact_at, with_fact}
use Rattle.cb_facts.specs.Facts.{FactValue}
use Rattle.cb_facts.specs.Internal.{IsIndexed, index_in}
use Rattle.cb_facts.proofs.FactListLaws.{fact_base, facts-change, taken_back}
use Rattle.cb_facts.proofs.fact_list.FactList.add.Goals as goal
use Rattle.cb_number_map.specs.Filed.{AreFound, ChangesAt}

ok_of : {T E : Type 0} (P : Type 0) (r : Result T E) → is_err r ≡ false → OnOk r P → P
ok_of P (Ok x) is h = h
ok_of P (Err e) is h = cc

err_of : {T E : Type 0} (P : Type 0) (r : Result T E) → is_err r ≡ true → OnErr r P → P
err_of P (Ok x) is h = cc
err_of P (Err e) is h = h

on_ok : {T E : Type 0} (P : Type 0) (r : Result T E) → P → OnOk r P
on_ok P (Ok x) p = p
on_ok P (Err e) p = tt

on_err : {T E : Type 0} (P : Type 0) (r : Result T E) → P → OnErr r P
on_err P (Ok x) p = tt
on_err P (Err e) p = p

restored : (c : goal.After-take_out) → c.take_out.new.facts.entries ≡ c.self.inside.facts.entries
restored c =
    let old : IndexedFacts = c.self.inside.facts.entries in
    let free : fact_at old c.args.ix ≡ None = ap (λ (it : IndexedFacts). fact_at it c.args.ix) c.self.view_is ∙ c.requires.free in
    let put : c.insert.new.self.entries ≡ with_fact old c.args.ix c.in_ok-shared.shared = c.in_ok-insert.ensures.entries in
    c.take_out.ensures ∙ (ap (remove_entry (is_at (nat_cmp c.args.ix))) put ∙ taken_back c.args.ix c.in_ok-shared.shared old free)

pub invariant_of-self-then-is_err : goal.invariant_of-self-then-is_err
invariant_of-self-then-is_err c =
    let old : IndexedFacts = c.self.inside.facts.entries in
    let failed : is_err c.file-filed.result ≡ true = sym c.is_err.ensures.value ∙ c.if-is_err.true in
    let still : AreFound (index_in (fact_at old) c.file-filed.new.filed c.file-filed.new.aside) (fact_at old) =
    err_of ((facts : ℕ → Option FactValue) → AreFound (index_in facts c.self.inside.filed c.self.inside.aside) facts → AreFound (index_in facts c.file-filed.new.filed c.file-filed.new.aside) facts)
    c.file-filed.result failed c.file-filed.ensures.err (fact_at old) c.self.invariant.agree in
    subst (λ (es : IndexedFacts). IsIndexed es (index_in (fact_at es) c.file-filed.new.filed c.file-filed.new.aside)) (sym (restored c))
    (record { rising = c.self.invariant.rising; agree = still })

indexed : (c : goal.Else-is_err) → IsIndexed c.insert.new.self.entries (index_in (fact_at c.insert.new.self.entries) c.file-filed.new.filed c.file-filed.new.aside)
indexed c =
    let old = c.self.inside.facts in
    let new = c.insert.new.self in
    let f : FactValue = c.args.fact in
    let done : is_err c.file-filed.result ≡ false = sym c.is_err.ensures.value ∙ c.if-is_err.false in
    let same : c.in_ok-shared.shared ≡ f = search rules in
    let free : fact_at old.entries c.args.ix ≡ None = ap (λ (it : IndexedFacts). fact_at it c.args.ix) c.self.view_is ∙ c.requires.free in
    let absent : (i : ℕ) → fact_at old.entries i ≢ Some f = λ i h. c.requires.absent i (ap (λ (it : IndexedFacts). fact_at it i) (sym c.self.view_is) ∙ h) in
    let change : ChangesAt (fact_at old.entries) (fact_at new.entries) c.args.ix (Some f) =
    subst (λ (it : FactValue). ChangesAt (fact_at old.entries) (fact_at new.entries) c.args.ix (Some it)) same (facts-change old new c.args.ix (Some c.in_ok-shared.shared) c.in_ok-insert.ensures.updates) in
    record {
      rising = c.insert.ensures.ordered;
      agree = ok_of ((facts more : ℕ → Option FactValue) → AreFound (index_in facts c.self.inside.filed c.self.inside.aside) facts → ((n : ℕ) → facts n ≢ Some f) → facts c.args.ix ≡ None
          → ChangesAt facts more c.args.ix (Some f) → AreFound (index_in more c.file-filed.new.filed c.file-filed.new.aside) more)
          c.file-filed.result done c.file-filed.ensures.ok (fact_at old.entries) (fact_at new.entries) c.self.invariant.agree absent free change;
    }

pub invariant_of-self-else-is_err : goal.invariant_of-self-else-is_err
invariant_of-self-else-is_err c = indexed c

pub returns-then-is_err-clause-err : goal.returns-then-is_err-clause-err
returns-then-is_err-clause-err c = on_err (c.take_out.new.facts.entries ≡ c.args.self.now) c.file-filed.result (restored c ∙ c.self.view_is)

pub returns-else-is_err-clause-base : goal.returns-else-is_err-clause-base
returns-else-is_err-clause-base c = on_ok (IsFactBase c.insert.new.self.entries) c.file-filed.result (fact_base _ _ (indexed c))
