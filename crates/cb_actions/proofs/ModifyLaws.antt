-- What is left where a fact goes, for the one that comes in its place.
use Rattle.std.proofs.Common.{◌≡◌, ◌∙◌, ℕ, Bool, true, false, List, Option, Some, None, IsSome, cond, ap, refl, sym, length}
use Rattle.std.proofs.lemmas.Cmp.{eq_by_cmp_equiv, nat_cmp_total}
use Rattle.std.proofs.lemmas.Map.{lookup-remove_entry}
use Rattle.std.proofs.lemmas.Map.Keys.{IsDistinct-from_sorted}
use Rattle.std.specs.BTreeMap.{is_at}
use Rattle.std.specs.Map.{keys_of}
use Rattle.std.specs.Ordering.{nat_cmp, eq_by_cmp}
use Rattle.cb_actions.specs.Changes.{gone_line, moved, told}
use Rattle.cb_actions.specs.Acts.{Effect}
use Rattle.cb_actions.specs.Effects.{fact_gone}
use Rattle.cb_actions.specs.Worlds.{World}
use Rattle.cb_actions.proofs.ChangeLaws.{gone_some}
use Rattle.cb_agenda.specs.Agendas.{has_stamps}
use Rattle.cb_facts.proofs.MemberLaws.{is_at-Decides}
use Rattle.cb_facts.specs.FactLists.{IndexedFacts, IsAbsent, IsFactBase, fact_at, without_fact}
use Rattle.cb_facts.specs.Facts.{FactValue}
use Rattle.cb_knowledge_base.specs.KnowledgeBase.{Memory, without}
use Rattle.cb_matches.specs.Changes.{keys_come, keys_gone}
use Rattle.cb_matches.specs.Keys.{KeyValue}

-- a look-up where a fact is taken out
left_at : (facts : IndexedFacts) (ix q : ℕ) → IsFactBase facts → fact_at (without_fact facts ix) q ≡ cond (is_at (nat_cmp ix) q) None (fact_at facts q)
left_at facts ix q base =
    lookup-remove_entry {eq = eq_by_cmp nat_cmp} (eq_by_cmp_equiv nat_cmp_total) (is_at (nat_cmp ix))
    (λ x y e. ap (λ n. is_at (nat_cmp n) y) ((is_at-Decides ix x).0 e)) q facts (IsDistinct-from_sorted nat_cmp (keys_of facts) base.rising)

pub free_now : (facts : IndexedFacts) (ix : ℕ) → IsFactBase facts → fact_at (without_fact facts ix) ix ≡ None
free_now facts ix base = left_at facts ix ix base ∙ ap (λ t. cond t None (fact_at facts ix)) ((is_at-Decides ix ix).1 refl)

still : (t : Bool) (o : Option FactValue) (fact : FactValue) → cond t None o ≡ Some fact → o ≡ Some fact
still true o fact h = absurd (cc)
still false o fact h = h

-- what was absent still is
pub absent_still : (facts : IndexedFacts) (ix : ℕ) (fact : FactValue) → IsFactBase facts → IsAbsent facts fact → IsAbsent (without_fact facts ix) fact
absent_still facts ix fact base absent q at = absent q (still (is_at (nat_cmp ix) q) (fact_at facts q) fact (sym (left_at facts ix q base) ∙ at))

told_memory : (line : List ℕ) (gone come : List KeyValue) (s : World) (b : Bool) → has_stamps s.agenda (length come) ≡ b → (told line gone come s).state.memory ≡ s.memory
told_memory line gone come s true e = rw (e) refl
told_memory line gone come s false e = rw (e) refl

-- the memory where a change was told, whether or not it ended at a limit
pub moved_memory : (next : Memory) (line : List ℕ) (s : World) → (moved next line s).state.memory ≡ next
unfolding moved
moved_memory next line s =
    let gone = keys_gone s.memory.network next.network in
    let come = keys_come s.memory.network next.network in
    let it : World = record s { memory = next } in
    told_memory line gone come it (has_stamps s.agenda (length come)) refl

pub memory_gone : (ix : ℕ) (s : World) → IsSome (fact_at s.memory.network.facts ix) → (fact_gone ix s).state.memory ≡ without ix s.memory
memory_gone ix s there =
    ap (λ (e : Effect World (Unit {0})). e.state.memory) (gone_some ix s (fact_at s.memory.network.facts ix) there)
    ∙ moved_memory (without ix s.memory) (gone_line s ix (fact_at s.memory.network.facts ix)) s
