use Rattle.std.proofs.Common.{◌≡◌, ◌∙◌, ◌<◌, ◌≤◌, ℕ, List, Some, ap, arith, length, refl, subst, sym}
use Rattle.std.proofs.lemmas.Option.{slice_get-get_or}
use Rattle.std.specs.List.{slice_get}
use Rattle.cb_branch.specs.declared.branch.Branch.{Branch}
use Rattle.cb_branch.specs.Branches.{CanBeFilled, IsEntered, IsLeft, branch_elements}
use Rattle.cb_branch.specs.Patterns.{branch_patterns}
use Rattle.cb_rete.proofs.Lists.{all_got}
use Rattle.cb_rete.proofs.Leaving.{left_all, left_more, left_none, still_entered}
use Rattle.cb_rete.proofs.entering.leave_branches.Goals as goal
use Rattle.cb_rete.specs.Rules.{kept_branches}

pub loop-branch-init : goal.loop-branch-init
loop-branch-init g c = record {
  place = refl;
  left = λ plans entered. left_none c.args.rule (kept_branches c.args.branches.now) c.args.network.now;
  alphas = λ fs before. before;
}

pub loop-branch-preserved : goal.loop-branch-preserved
loop-branch-preserved g c =
    let inv = c.loop-branch.invariant in
    let now = c.in_ok-leave.ensures in
    let bs : List (Branch g.row.T.Denot) = c.args.branches.now in
    let i : ℕ = c.loop-branch.branch-index in
    let b : Branch g.row.T.Denot = c.branch-item.result in
    let l : i < length bs = omega arith in
    let got : slice_get bs i ≡ Some b = slice_get-get_or bs i b l ∙ ap (λ (it : Branch g.row.T.Denot). Some it) (sym c.branch-item.is) in
    let v = c.args.network.now in
    let v' = c.loop-branch.network in
    let v'' = c.leave.new.network in
    let rule : ℕ = c.args.rule in
    let place : c.loop-branch.number ≡ i = inv.place in
    record {
      place = omega (arith, place);
      left = λ plans entered.
          let was = inv.left plans entered in
          left_more rule i bs v v' v'' b got entered was
          (subst (λ n. CanBeFilled b → IsEntered v' rule n b → IsLeft rule n (branch_patterns (branch_elements b)) v' v'') place now.left (all_got CanBeFilled bs plans i b got) (still_entered rule i bs v v' v'' b got entered was));
      alphas = λ fs before. now.alphas fs (inv.alphas fs before);
    }

pub returns-clause-left : goal.returns-clause-left
returns-clause-left g c =
    λ plans entered.
    let end : length c.args.branches.now ≤ c.loop-branch.branch-index = omega arith in
    left_all c.args.rule c.loop-branch.branch-index c.args.branches.now c.args.network.now c.loop-branch.network end (c.loop-branch.invariant.left plans entered)
