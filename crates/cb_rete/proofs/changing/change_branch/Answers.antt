use Rattle.std.proofs.Common.{◌≡◌, ℕ, List, Option, Some, get_or, refl, subst, sym}
use Rattle.std.proofs.lemmas.Option.{slice_get-get_or}
use Rattle.std.specs.List.{slice_get, slice_set}
use Rattle.cb_branch.specs.declared.branch.Branch.{Branch}
use Rattle.cb_rete.proofs.Results.{on_six}
use Rattle.cb_rete.proofs.Turning.{added, before, changed}
use Rattle.cb_rete.proofs.changing.change_branch.Goals as goal
use Rattle.cb_rete.specs.Changing.{IsBranchChangedFrom}

pub returns : goal.returns
returns g c =
    let given = c.args.setting.now.alphas.now in
    let rule : ℕ = c.args.rule in
    let n : ℕ = c.args.number in
    let bs : List (Branch g.row.T.Denot) = c.args.branches.now in
    let b : Branch g.row.T.Denot = get_or bs n c.index-branches-place.result in
    let there : slice_get bs n ≡ Some b = slice_get-get_or bs n c.index-branches-place.result c.if-place-branches.false in
    let new : Branch g.row.T.Denot = c.change.new.self in
    let now = c.change.ensures in
    on_six c.change.result now.elements now.alphas now.over now.told now.numbers now.probes
    (λ stay same over told numbers probes. λ turn found is ready.
    let old = ready b there in
    let first = before turn given found is rule n b old in
    subst (λ (o : Option (Branch g.row.T.Denot)). IsBranchChangedFrom turn rule n o bs (slice_set bs n new) c.args.delta.now c.change.new.delta c.args.meter.now c.change.new.meter) (sym there) (
      new,
      refl,
      record {
        changed = changed turn given found is rule n b old new c.args.delta.now c.change.new.delta c.args.meter.now c.change.new.meter stay same (over turn.before turn.after first) (told turn.before turn.after first)
            (probes turn.before turn.after turn.added first (added turn given found is rule n b old));
        numbers = numbers turn.before turn.after first;
      },
    ))
