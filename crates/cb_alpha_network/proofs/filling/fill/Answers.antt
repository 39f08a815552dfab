use Rattle.std.proofs.Common.{◌≡◌, ◌∷◌, ◌∙◌, [], rules, subst, sym}
use Rattle.cb_alpha.specs.Turning.{IsAlphaOver}
use Rattle.cb_alpha_network.proofs.Filled.{IsFilled, filled_all, filled_more, free_now, not_filled}
use Rattle.cb_alpha_network.proofs.filling.fill.Goals as goal
use Rattle.cb_facts.specs.FactLists.{IndexedFacts}
use Rattle.cb_matches.proofs.Indices.{rising_keys}
use Rattle.cb_matches.specs.Order.{IsRising}

pub loop-index-init : goal.loop-index-init
loop-index-init g c = record {
  done = [];
  is = c.into_iter-index-iterator.ensures.into_iter_gives ∙ c.iter-index-items.ensures.pairs;
  over = subst (λ m. IsAlphaOver c.args.pattern.now [] m) (sym c.new-memory.ensures) (c.an_alpha_memory_begins_over_no_facts.ensures c.args.pattern.now []);
}

pub fill_one-requires-clause-rest : goal.fill_one-requires-clause-rest
fill_one-requires-clause-rest g c = let over = c.loop-index.invariant.over in record { none_gone = over.none_gone; none_come = over.none_come }

pub fill_one-requires-clause-absent : goal.fill_one-requires-clause-absent
fill_one-requires-clause-absent g c =
    let all : IndexedFacts = c.args.facts.now in
    let rest : IndexedFacts = c.next.new.self in
    let cut : c.loop-index.index-iterator ≡ (c.in-Some.index.now, c.in-Some.fact.now) ∷ rest = search rules in
    let was = subst (λ it. IsFilled c.args.pattern.now all it c.loop-index.memory) cut c.loop-index.invariant in
    not_filled c.args.pattern.now all rest c.in-Some.index.now c.in-Some.fact.now c.loop-index.memory (rising_keys all c.iter-index-items.ensures.base.rising) was

pub loop-index-preserved : goal.loop-index-preserved
loop-index-preserved g c =
    let p = c.args.pattern.now in
    let all : IndexedFacts = c.args.facts.now in
    let rest : IndexedFacts = c.next.new.self in
    let ix = c.in-Some.index.now in
    let f = c.in-Some.fact.now in
    let cut : c.loop-index.index-iterator ≡ (ix, f) ∷ rest = search rules in
    let was = subst (λ it. IsFilled p all it c.loop-index.memory) cut c.loop-index.invariant in
    let rising : IsRising all = rising_keys all c.iter-index-items.ensures.base.rising in
    filled_more p all rest ix f c.loop-index.memory rising was c.fill_one.new.memory
    (c.in_ok-fill_one.ensures p was.done c.in_ok-shape.ensures was.over (free_now p all rest ix f c.loop-index.memory rising was))

pub returns-clause-over : goal.returns-clause-over
returns-clause-over g c =
    let none : c.loop-index.index-iterator ≡ [] = search rules in
    filled_all c.args.pattern.now c.args.facts.now c.loop-index.memory (subst (λ it. IsFilled c.args.pattern.now c.args.facts.now it c.loop-index.memory) none c.loop-index.invariant)
