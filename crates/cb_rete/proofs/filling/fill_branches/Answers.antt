use Rattle.std.proofs.Common.{◌≡◌, ◌∙◌, ◌<◌, ◌≤◌, ◌++◌, ℕ, List, Some, arith, get_or, length, refl, subst}
use Rattle.std.proofs.Math.Seq.{map-set_same}
use Rattle.std.proofs.lemmas.Option.{slice_get-get_or}
use Rattle.std.specs.List.{slice_get}
use Rattle.cb_branch.specs.Branches.{AreTurned, CanBeFilled, IsBranchOver, branch_elements, branch_numbers}
use Rattle.cb_branch.specs.Alphas.{live_facts}
use Rattle.cb_branch.specs.declared.branch.Branch.{Branch}
use Rattle.cb_matches.specs.Changes.{AddsNumbers, IsNumber}
use Rattle.cb_rete.proofs.Entered.{fill_turned}
use Rattle.cb_rete.proofs.Filled.{filled_all, filled_more, filled_none}
use Rattle.cb_rete.proofs.Lists.{all_got, set_left}
use Rattle.cb_rete.proofs.filling.fill_branches.Goals as goal
use Rattle.cb_rete.specs.Rules.{kept_branches}
use Rattle.cb_rule_keys.specs.Keys.{keys_in_branch}
use Rattle.cb_rules.specs.Elements.{Elements}

pub loop-branch-init : goal.loop-branch-init
loop-branch-init g c = record {
  place = refl;
  stays = refl;
  left = λ k b l h. all_got CanBeFilled c.args.branches.now c.requires k b h;
  filled = λ v fs is entered. filled_none v fs c.args.rule c.args.branches.now c.args.come.now.items c.args.come_numbers.now.items entered;
}

pub fill-requires : goal.fill-requires
fill-requires g c =
    let xs : List (Branch g.row.T.Denot) = c.loop-branch.branches in
    let i : ℕ = c.loop-branch.branch-index in
    let l : i < length xs = omega arith in
    c.loop-branch.invariant.left i (get_or xs i c.branch-item.result) (omega arith) (slice_get-get_or xs i c.branch-item.result l)

pub loop-branch-preserved : goal.loop-branch-preserved
loop-branch-preserved g c =
    let inv = c.loop-branch.invariant in
    let now = c.in_ok-fill.ensures in
    let given = c.args.setting.now.alphas.now in
    let rule : ℕ = c.args.rule in
    let xs : List (Branch g.row.T.Denot) = c.loop-branch.branches in
    let i : ℕ = c.loop-branch.branch-index in
    let bs : List Elements = kept_branches c.args.branches.now in
    let old : Branch g.row.T.Denot = get_or xs i c.branch-item.result in
    let new : Branch g.row.T.Denot = c.fill.new.self in
    let l : i < length xs = omega arith in
    let got : slice_get xs i ≡ Some old = slice_get-get_or xs i c.branch-item.result l in
    let place : c.loop-branch.number ≡ i = inv.place in
    record {
      place = omega (arith, place);
      stays = map-set_same branch_elements xs i new c.branch-item.result now.elements ∙ inv.stays;
      left = set_left (λ k b. CanBeFilled b) xs i new inv.left;
      filled = λ v fs is entered.
          let was = inv.filled v fs is entered in
          let turned : AreTurned given fs fs old = fill_turned v given fs rule i old is.memories is.within is.alphas (was.entered i old got) in
          filled_more v fs rule i bs xs old new c.args.come.now.items c.loop-branch.come.items c.fill.new.come.items c.args.come_numbers.now.items c.loop-branch.come_numbers.items c.fill.new.come_numbers.items got inv.stays was now.alphas
          (subst (λ ms. IsBranchOver (live_facts ms) fs new) is.memories (now.over fs is.rising turned))
          (subst (λ n. c.fill.new.come.items ≡ c.loop-branch.come.items ++ keys_in_branch rule n (branch_elements old) fs) place (now.come fs is.rising turned))
          (subst (λ m. AddsNumbers (IsNumber (branch_numbers rule m new)) c.loop-branch.come.items c.fill.new.come.items c.loop-branch.come_numbers.items c.fill.new.come_numbers.items) place (now.numbers fs is.rising turned));
    }

pub returns-clause-filled : goal.returns-clause-filled
returns-clause-filled g c =
    λ v fs is entered.
    let end : length c.loop-branch.branches ≤ c.loop-branch.branch-index = omega arith in
    filled_all v fs c.args.rule c.loop-branch.branch-index (kept_branches c.args.branches.now) c.loop-branch.branches c.args.come.now.items c.loop-branch.come.items c.args.come_numbers.now.items c.loop-branch.come_numbers.items end c.loop-branch.invariant.stays
    (c.loop-branch.invariant.filled v fs is entered)
