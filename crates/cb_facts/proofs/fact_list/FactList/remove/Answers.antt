use Rattle.std.proofs.Common.{◌≡◌, sym, subst}
use Rattle.cb_facts.specs.FactLists.{IsFactBase, fact_at}
use Rattle.cb_facts.specs.Internal.{IsIndexed, index_in}
use Rattle.cb_facts.proofs.FactListLaws.{fact_base, facts-change}
use Rattle.cb_facts.proofs.fact_list.FactList.remove.Goals as goal
use Rattle.std.proofs.Common.{None}

indexed : (c : goal.After-drop-fact-inside) → IsIndexed c.remove.new.self.entries (index_in (fact_at c.remove.new.self.entries) c.unfile.new.filed c.unfile.new.aside)
indexed c =
    let old = c.self.inside.facts in
    let new = c.remove.new.self in
    record {
      rising = c.remove.ensures.ordered;
      agree = c.unfile.ensures (fact_at old.entries) (fact_at new.entries) c.self.invariant.agree (sym c.in-Some.ensures.value) (facts-change old new c.args.ix None c.remove.ensures.updates);
    }

pub invariant_of-self : goal.invariant_of-self
invariant_of-self c = indexed c

pub returns-in-Some-clause-base : goal.returns-in-Some-clause-base
returns-in-Some-clause-base c = fact_base _ _ (indexed c)

pub returns-in_default-clause-base : goal.returns-in_default-clause-base
returns-in_default-clause-base c =
    let same : c.remove.new.self.entries ≡ c.self.inside.facts.entries = c.in_default.ensures.unchanged in
    subst IsFactBase (sym same) (fact_base _ _ c.self.invariant)
