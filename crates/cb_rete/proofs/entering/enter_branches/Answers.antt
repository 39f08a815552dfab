use Rattle.std.proofs.Common.{◌≡◌, ◌∙◌, ◌<◌, ◌≤◌, ◌+◌, [], ◌∷◌, ℕ, List, None, Some, ap, arith, drop, get_or, length, refl, subst}
use Rattle.std.proofs.lemmas.Option.{slice_get-get_or, slice_get_past}
use Rattle.std.specs.List.{slice_get}
use Rattle.cb_branch.proofs.EnteredNodes.{gains_none, gains_then}
use Rattle.cb_branch.specs.Branches.{CanBeFilled, IsEntered, branch_elements}
use Rattle.cb_branch.specs.Entries.{GainsPatterns}
use Rattle.cb_branch.specs.Patterns.{branch_patterns}
use Rattle.cb_branch.specs.declared.branch.Branch.{Branch}
use Rattle.cb_rete.proofs.Entered.{entered_kept, keeps_all}
use Rattle.cb_rete.proofs.Lists.{all_set, got_before, set_more}
use Rattle.cb_rete.proofs.entering.enter_branches.Goals as goal
use Rattle.cb_rete.specs.Rules.{kept_branches}
use Rattle.cb_rule_keys.proofs.Branches.{dropped_at, got_mapped, none_at, none_mapped}
use Rattle.cb_rule_keys.specs.Sums.{branches_sum}
use Rattle.cb_rules.specs.Elements.{Elements}
use Rattle.std.proofs.Math.Seq.{map-set_same}

pub loop-branch-init : goal.loop-branch-init
loop-branch-init g c = record {
  place = refl;
  stays = refl;
  plans = c.requires.plans;
  entered = λ k b l h. absurd (omega (arith, l));
  gains = (0, omega (arith), gains_none c.args.facts.now c.args.network.now c.requires.rest);
}

pub enter-requires-clause-rest : goal.enter-requires-clause-rest
enter-requires-clause-rest g c = c.loop-branch.invariant.gains.2.rest

pub loop-branch-preserved : goal.loop-branch-preserved
loop-branch-preserved g c =
    let inv = c.loop-branch.invariant in
    let now = c.in_ok-enter.ensures in
    let v = c.loop-branch.network in
    let v' = c.enter.new.network in
    let rule : ℕ = c.args.rule in
    let xs : List (Branch g.row.T.Denot) = c.loop-branch.branches in
    let i : ℕ = c.loop-branch.branch-index in
    let bs : List Elements = kept_branches c.args.branches.now in
    let old : Branch g.row.T.Denot = get_or xs i c.branch-item.result in
    let new : Branch g.row.T.Denot = c.enter.new.self in
    let l : i < length xs = omega arith in
    let got : slice_get xs i ≡ Some old = slice_get-get_or xs i c.branch-item.result l in
    let place : c.loop-branch.number ≡ i = inv.place in
    let d : drop i bs ≡ branch_elements old ∷ drop (i + 1) bs = dropped_at bs i (branch_elements old) (subst (λ (es : List Elements). slice_get es i ≡ Some (branch_elements old)) inv.stays (got_mapped branch_elements xs i old got)) in
    record {
      place = omega (arith, place);
      stays = map-set_same branch_elements xs i new c.branch-item.result now.elements ∙ inv.stays;
      plans = all_set CanBeFilled xs i old new got inv.plans now.plan;
      entered = set_more (λ k b. IsEntered v' rule k b) xs i old new got (subst (λ n. IsEntered v' rule n new) place now.entered)
          (λ k b h at. entered_kept v v' rule k b (keeps_all rule v v' now.network.stay) (inv.entered k b h at));
      gains =
          let e = ap (branches_sum branch_patterns) d in
          let sum = inv.gains.1 in (
            inv.gains.0 + branch_patterns (branch_elements old),
            omega (arith, e, sum),
            gains_then c.args.facts.now inv.gains.0 (branch_patterns (branch_elements old)) _ c.args.network.now v v' refl inv.gains.2 now.network,
          );
    }

pub returns-clause-entered : goal.returns-clause-entered
returns-clause-entered g c =
    λ j b h. c.loop-branch.invariant.entered j b (let at = got_before c.loop-branch.branches (length c.loop-branch.branches) j b (omega arith) h in omega (arith, at)) h

pub returns-clause-network : goal.returns-clause-network
returns-clause-network g c =
    let inv = c.loop-branch.invariant in
    let xs : List (Branch g.row.T.Denot) = c.loop-branch.branches in
    let i : ℕ = c.loop-branch.branch-index in
    let bs : List Elements = kept_branches c.args.branches.now in
    let end : length xs ≤ i = omega arith in
    let none : drop i bs ≡ [] = none_at bs i (subst (λ (es : List Elements). slice_get es i ≡ None) inv.stays (none_mapped branch_elements xs i (slice_get_past xs i end))) in
    let e = ap (branches_sum branch_patterns) none in
    let sum = inv.gains.1 in
    let all : inv.gains.0 ≡ branches_sum branch_patterns bs = omega (arith, e, sum) in
    subst (λ n. GainsPatterns c.args.facts.now n c.args.network.now c.loop-branch.network) all inv.gains.2
