use Rattle.std.proofs.Common.{◌≡◌, ℕ, false, take}
use Rattle.cb_alpha.specs.AlphaMemories.{candidate_in}
use Rattle.cb_lookup_node.specs.LookupNodes.{compares_with}
use Rattle.cb_matches.specs.Chains.{In}
use Rattle.cb_token_lists.specs.Partials.{partial_at}
use Rattle.cb_lookup_node.proofs.seeing.first_seen.Given as goal

abbrev pub invariant-loop-candidate : goal.invariant-loop-candidate
invariant-loop-candidate l =
    (k : ℕ) → In k (take l.candidate-index l.candidates) → compares_with l.compared (candidate_in l.alpha.candidates k) (partial_at l.lists.sources.now l.lists.lists.now l.from l.number) ≡ false
