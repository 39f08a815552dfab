use Rattle.std.proofs.Common.{◌≡◌, ◌∙◌, ◌<◌, ◌≤◌, ◌++◌, ℕ, List, [], Some, ap, append-nil, arith, drop, length, refl, subst, sym}
use Rattle.std.proofs.lemmas.Option.{slice_get-get_or, slice_get_past}
use Rattle.std.specs.List.{slice_get}
use Rattle.cb_branch.specs.Branches.{branch_elements, branch_numbers}
use Rattle.cb_branch.specs.declared.branch.Branch.{Branch}
use Rattle.cb_matches.specs.Changes.{AddsNumbers, IsNumber}
use Rattle.cb_rete.proofs.BranchNumbers.{IsNumberBelow, below_in}
use Rattle.cb_rete.proofs.Filled.{branch_told}
use Rattle.cb_rete.proofs.MoreNumbers.{numbers_more}
use Rattle.cb_rete.proofs.Numbers.{adds_none, adds_weaker}
use Rattle.cb_rete.proofs.telling.tell_branches.Goals as goal
use Rattle.cb_rete.specs.Numbers.{IsNumberInBranches}
use Rattle.cb_rete.specs.Rules.{kept_branches}
use Rattle.cb_rule_keys.proofs.Branches.{dropped_at, got_mapped, none_at, none_mapped}
use Rattle.cb_rule_keys.specs.Keys.{branch_keys, keys_in_branch}
use Rattle.cb_rules.specs.Elements.{Elements}

pub loop-branch-init : goal.loop-branch-init
loop-branch-init g c = record {
  place = refl;
  told = λ facts fs rising over. refl;
  numbers = λ facts fs over. adds_none (IsNumberBelow c.args.rule 0 c.args.branches.now) c.args.keys.now.items c.args.numbers.now.items;
}

pub loop-branch-preserved : goal.loop-branch-preserved
loop-branch-preserved g c =
    let inv = c.loop-branch.invariant in
    let rule : ℕ = c.args.rule in
    let xs : List (Branch g.row.T.Denot) = c.args.branches.now in
    let i : ℕ = c.loop-branch.branch-index in
    let bs : List Elements = kept_branches xs in
    let b : Branch g.row.T.Denot = c.branch-item.result in
    let l : i < length xs = omega arith in
    let got : slice_get xs i ≡ Some b = slice_get-get_or xs i b l ∙ ap (λ (it : Branch g.row.T.Denot). Some it) (sym c.branch-item.is) in
    let place : c.loop-branch.number ≡ i = inv.place in
    record {
      place = omega (arith, place);
      told = λ facts fs rising over.
          branch_told rule i fs bs (branch_elements b) (dropped_at bs i (branch_elements b) (got_mapped branch_elements xs i b got)) c.loop-branch.keys.items c.tell.new.keys.items _
          (inv.told facts fs rising over)
          (subst (λ n. c.tell.new.keys.items ≡ c.loop-branch.keys.items ++ keys_in_branch rule n (branch_elements b) fs) place (c.in_ok-tell.ensures.told facts fs rising (over i b got)));
      numbers = λ facts fs over.
          numbers_more rule xs i b got c.args.keys.now.items c.loop-branch.keys.items c.tell.new.keys.items c.args.numbers.now.items c.loop-branch.numbers.items c.tell.new.numbers.items (inv.numbers facts fs over)
          (subst (λ (m : ℕ). AddsNumbers (IsNumber (branch_numbers rule m b)) c.loop-branch.keys.items c.tell.new.keys.items c.loop-branch.numbers.items c.tell.new.numbers.items) place
          (c.in_ok-tell.ensures.numbers facts fs (over i b got)));
    }

pub returns-clause-numbers : goal.returns-clause-numbers
returns-clause-numbers g c =
    λ facts fs over.
    let xs : List (Branch g.row.T.Denot) = c.args.branches.now in
    let i : ℕ = c.loop-branch.branch-index in
    adds_weaker (IsNumberBelow c.args.rule i xs) (IsNumberInBranches c.args.rule xs) (below_in c.args.rule i xs) c.args.keys.now.items c.loop-branch.keys.items c.args.numbers.now.items c.loop-branch.numbers.items
    (c.loop-branch.invariant.numbers facts fs over)

pub returns-clause-told : goal.returns-clause-told
returns-clause-told g c =
    λ facts fs rising over.
    let xs : List (Branch g.row.T.Denot) = c.args.branches.now in
    let i : ℕ = c.loop-branch.branch-index in
    let end : length xs ≤ i = omega arith in
    let none : drop i (kept_branches xs) ≡ [] = none_at (kept_branches xs) i (none_mapped branch_elements xs i (slice_get_past xs i end)) in
    sym (append-nil c.loop-branch.keys.items) ∙ (ap (λ it. c.loop-branch.keys.items ++ branch_keys c.args.rule i it fs) (sym none) ∙ c.loop-branch.invariant.told facts fs rising over)
