-- What callers need of an alpha network between changes and in one.
use Rattle.std.proofs.Common.{◌≡◌, ◌∙◌, ℕ, [], Some, None, refl, sym}
use Rattle.cb_alpha.proofs.FactsMore.{one_more}
use Rattle.cb_alpha.specs.AlphaMemories.{AlphaMemoryValue, live}
use Rattle.cb_alpha_network.proofs.Filled.{has_index}
use Rattle.cb_alpha_network.proofs.Rest.{live_at_rest, were_without}
use Rattle.cb_alpha_network.specs.Networks.{AlphaNetworkValue, AreAlphas, ChangesFrom, HasNoFact, IsAtRest, memory_at}
use Rattle.cb_facts.specs.FactLists.{IndexedFacts, fact_at}
use Rattle.cb_fit.specs.Shapes.{SelectionValue, selection}

-- where there are no shapes, each list of facts is theirs
pub no_shapes : (fs : IndexedFacts) → AreAlphas (record { shapes = []; users = []; memories = [] }) fs
no_shapes fs = record {
  over = λ n p at. absurd (not_there (selection p) at);
  rest = λ n. record { none_gone = refl; none_come = refl };
}
  where
    not_there : (q : SelectionValue) → None ≡ Some q → ⊥
    not_there q e = cc

-- an index that no fact has is free
pub index_is_free : (v : AlphaNetworkValue) (fs : IndexedFacts) (ix : ℕ) → AreAlphas v fs → fact_at fs ix ≡ None → HasNoFact v ix
index_is_free v fs ix alphas free n p at i e =
    let there = has_index (live (memory_at v n) i) ix e in
    (one_more fs ix there.0.1 free).absent there.0 ((alphas.over n p at).has.are i there.0 there.1).0 there.2

-- a memory that a change leaves at rest has the facts that it had, under the same numbers
pub stays_at_rest : (old new : AlphaMemoryValue) → ChangesFrom old new → IsAtRest new → (i : ℕ) → live new i ≡ live old i
stays_at_rest old new changes rest i = live_at_rest new rest.none_gone i ∙ (sym (were_without new rest.none_come i) ∙ changes.were i)
