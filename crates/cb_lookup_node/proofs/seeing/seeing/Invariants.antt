use Rattle.std.proofs.Common.{◌≡◌, ◌++◌, drop, filter}
use Rattle.cb_alpha.specs.AlphaMemories.{candidate_in}
use Rattle.cb_lookup_node.specs.LookupNodes.{compares_with}
use Rattle.cb_token_lists.specs.Partials.{partial_at}
use Rattle.cb_lookup_node.proofs.seeing.seeing.Given as goal

abbrev pub invariant-loop-number : goal.invariant-loop-number
invariant-loop-number l =
    l.all.items ++ filter (λ n. compares_with l.compared (candidate_in l.alpha.candidates l.candidate) (partial_at l.lists.sources.now l.lists.lists.now l.from n)) (drop l.number-index l.numbers)
    ≡ filter (λ n. compares_with l.compared (candidate_in l.alpha.candidates l.candidate) (partial_at l.lists.sources.now l.lists.lists.now l.from n)) l.numbers
