use Rattle.std.proofs.Common.{◌≡◌, ℕ, List, [], ◌∷◌, None, length, refl, rules}
use Rattle.std.specs.BTreeMap.{is_at}
use Rattle.std.specs.Map.{lookup}
use Rattle.cb_facts.proofs.FactListLaws.{other_fact}
use Rattle.cb_facts.specs.Facts.{FactValue}
use Rattle.cb_facts.specs.Internal.FactOrder.{fact_cmp}
use Rattle.cb_facts.proofs.fact_list.forget_aside.Goals as goal

-- nothing is found where there is nothing
no_entry : (es : List (FactValue × ℕ)) (k : FactValue) → length es ≡ 0 → lookup (is_at (fact_cmp k)) es ≡ None
no_entry [] k e = refl
no_entry (e ∷ es) k h = absurd (cc)

pub returns-then-not-is_empty : goal.returns-then-not-is_empty
returns-then-not-is_empty c = record {
  gone = c.remove.ensures.updates.1;
  others = λ q apart. other_fact c.args.aside.now c.remove.new.self c.args.fact.now q None c.remove.ensures.updates apart;
}

pub returns-else-not-is_empty : goal.returns-else-not-is_empty
returns-else-not-is_empty c = record {
  gone = no_entry c.args.aside.now.entries c.args.fact.now (search rules);
  others = λ q apart. refl;
}
