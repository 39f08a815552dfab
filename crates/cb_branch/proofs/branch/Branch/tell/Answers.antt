use Rattle.std.proofs.Common.{arith}
use Rattle.cb_beta.proofs.Losses.{on_ok}
use Rattle.cb_branch.proofs.AtEnd.{all_told, is_there}
use Rattle.cb_branch.proofs.Matched.{last_within}
use Rattle.cb_branch.proofs.MatchNumbers.{all_numbers}
use Rattle.cb_branch.proofs.branch.Branch.tell.Goals as goal
use Rattle.cb_list_changes.proofs.Places.{at_place}
use Rattle.cb_nodes.proofs.Grown.{ways_rise}

pub returns-clause-told : goal.returns-clause-told
returns-clause-told g c =
    on_ok c.tell_all.result
    (λ tells facts fs rising over.
    all_told c.args.rule c.args.number c.args.self.now c.end.result c.end.ensures (ways_rise c.the_ways_rise_by_their_cuts.ensures) facts fs rising over c.args.keys.now.items c.tell_all.new.keys.items tells)
    c.tell_all.ensures.keys

pub returns-clause-numbers : goal.returns-clause-numbers
returns-clause-numbers g c =
    on_ok c.tell_all.result
    (λ tells facts fs over.
    let b = c.args.self.now in
    let long = over.long in
    let within = last_within b over.planned in
    let last = at_place b.lists.items b.last (omega (arith, long, within)) in
    all_numbers c.args.rule c.args.number b c.end.result c.end.ensures last.0 last.1 c.args.keys.now.items c.tell_all.new.keys.items c.args.numbers.now.items c.tell_all.new.told.items
    (tells last.0 (is_there c.args.rule c.args.number b c.end.result c.end.ensures last.0 last.1)))
    c.tell_all.ensures.numbers
