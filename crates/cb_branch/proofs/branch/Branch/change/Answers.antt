use Rattle.std.proofs.Common.{Err, Ok, OnOk, Result, [], ◌∷◌, arith}
use Rattle.cb_beta.proofs.Losses.{on_ok}
use Rattle.cb_branch.proofs.Begun.{change_turning}
use Rattle.cb_branch.proofs.Told.{joins_paid, over_of, told_matches}
use Rattle.cb_branch.proofs.branch.Branch.change.Goals as goal
use Rattle.cb_branch.specs.Branches.{branch_elements}
use Rattle.cb_matches.specs.Matches.{no_parts}
use Rattle.cb_nodes.proofs.Grown.{ways_rise}
use Rattle.cb_nodes.specs.Lists.{branch_lists}
use Rattle.cb_branch.specs.Nodes.{flat_nodes}

on_three : {A E P Q R S : Type 0} (r : Result A E) → (P → Q → R → S) → OnOk r P → OnOk r Q → OnOk r R → OnOk r S
on_three (Ok a) f h k l = f h k l
on_three (Err e) f h k l = h

pub returns-clause-over : goal.returns-clause-over
returns-clause-over g c =
    let b = c.args.self.now in
    let ns = flat_nodes b.nodes.items in
    let rise = ways_rise c.the_ways_rise_by_their_cuts.ensures in
    on_three c.turn.result
    (λ same planned turned fs fs' before.
    let w = change_turning c.args.alphas.now fs fs' b rise before in
    let t = turned b.lists.items fs fs' (no_parts ∷ []) (no_parts ∷ []) (branch_lists ns fs) (branch_lists ns fs') w in
    over_of c.args.alphas.now fs' b c.turn.new.branch before.over.planned (planned before.over.planned) same t)
    c.turn.ensures.elements c.turn.ensures.planned c.turn.ensures.turned

pub returns-clause-told : goal.returns-clause-told
returns-clause-told g c =
    let b = c.args.self.now in
    let ns = flat_nodes b.nodes.items in
    let rise = ways_rise c.the_ways_rise_by_their_cuts.ensures in
    on_ok c.turn.result
    (λ told fs fs' before.
    let w = change_turning c.args.alphas.now fs fs' b rise before in
    told_matches c.args.rule c.args.number fs fs' b before.over.planned c.args.delta.now c.turn.new.delta rise before.rising before.rising_now
    (told b.lists.items fs fs' (no_parts ∷ []) (no_parts ∷ []) (branch_lists ns fs) (branch_lists ns fs') w))
    c.turn.ensures.told

pub returns-clause-numbers : goal.returns-clause-numbers
returns-clause-numbers g c =
    let b = c.args.self.now in
    let ns = flat_nodes b.nodes.items in
    let rise = ways_rise c.the_ways_rise_by_their_cuts.ensures in
    on_ok c.turn.result
    (λ told fs fs' before.
    let w = change_turning c.args.alphas.now fs fs' b rise before in
    told b.lists.items fs fs' (no_parts ∷ []) (no_parts ∷ []) (branch_lists ns fs) (branch_lists ns fs') w)
    c.turn.ensures.numbers

pub returns-clause-probes : goal.returns-clause-probes
returns-clause-probes g c =
    let b = c.args.self.now in
    let ns = flat_nodes b.nodes.items in
    let rise = ways_rise c.the_ways_rise_by_their_cuts.ensures in
    on_ok c.turn.result
    (λ pays fs fs' added before takes.
    let w = change_turning c.args.alphas.now fs fs' b rise before in
    let paid = pays b.lists.items fs fs' (no_parts ∷ []) (no_parts ∷ []) (branch_lists ns fs) (branch_lists ns fs') added w takes in
    let most = joins_paid rise added fs fs' (branch_elements b) ns before.rising before.rising_now before.over.planned.nodes in
    omega (arith, paid, most))
    c.turn.ensures.probes
