use Rattle.std.proofs.Common.{◌≡◌, arith, map, slice_get, subst, sym}
use Rattle.cb_branch.proofs.MatchNumbers.{is_token}
use Rattle.cb_branch.proofs.Matched.{last_is_matches, last_within}
use Rattle.cb_branch.proofs.laws.a_number_is_that_of_a_match.Goals as goal
use Rattle.cb_branch.specs.Branches.{branch_elements}
use Rattle.cb_branch.specs.Nodes.{flat_nodes}
use Rattle.cb_list_changes.proofs.Places.{at_place}
use Rattle.cb_matches.proofs.Lists.{map_in}
use Rattle.cb_matches.specs.Chains.{In}
use Rattle.cb_matches.specs.Matches.{matches_of}
use Rattle.cb_nodes.proofs.Grown.{ways_rise}
use Rattle.cb_nodes.specs.Lists.{branch_lists}
use Rattle.cb_rule_keys.specs.Keys.{key_of}
use Rattle.cb_token_lists.specs.Partials.{partial_at}

pub returns : goal.returns
returns g c facts fs b rule number k n rising over h =
    let long = over.long in
    let within = last_within b over.planned in
    let last = at_place b.lists.items b.last (omega (arith, long, within)) in
    let own = partial_at b.sources.items b.lists.items b.last in
    let ms = branch_lists (flat_nodes b.nodes.items) fs b.last in
    let token = is_token rule number own (slice_get b.lists.items b.last) last.0 last.1 k n h in
    let among : In k (map (key_of rule number) ms) = subst (λ it. In it (map (key_of rule number) ms)) (sym token.1) (map_in (key_of rule number) ms (own n) ((over.rest.each b.last last.0 last.1).is.to n token.0)) in
    let all : ms ≡ matches_of (branch_elements b) fs = last_is_matches b over.planned (ways_rise c.the_ways_rise_by_their_cuts.ensures) fs rising in
    subst (λ them. In k (map (key_of rule number) them)) all among
