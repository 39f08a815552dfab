use Rattle.std.proofs.Common.{◌≡◌, ◌∷◌, ◌++◌, [], sym, ap, subst, ◌∙◌}
use Rattle.std.proofs.lemmas.List.{append_assoc, map-append}
use Rattle.std.proofs.lemmas.List.Elements.{All-append}
use Rattle.std.specs.List.{All}
use Rattle.cb_rete.proofs.Lists.{only_of}
use Rattle.cb_rete.proofs.rule.plan_branches.Goals as goal
use Rattle.cb_rete.specs.Rules.{kept_branches}
use Rattle.cb_branch.specs.Branches.{CanBeFilled, branch_elements}
use Rattle.cb_rules.specs.Elements.{branches_of}

pub loop-branch-preserved : goal.loop-branch-preserved
loop-branch-preserved g c =
    let inv = c.loop-branch.invariant in
    let all = c.loop-branch.all.items in
    let b = c.in_ok-plan.field-0 in
    let branch = c.in-Some.branch in
    let rest = c.next.new.self.rest.items in
    let pushed : c.push.new.self.items ≡ all ++ b ∷ [] = c.in_ok-push.ensures.items in
    let cut : c.loop-branch.branch-iterator.rest.items ≡ branch ∷ rest = c.in-Some.ensures.steps.0 in
    let now = c.in_ok-plan.ensures in
    record {
      made = ap (λ it. kept_branches it ++ branches_of rest) pushed
          ∙ (ap (λ it. it ++ branches_of rest) (map-append branch_elements all (b ∷ []))
          ∙ (append_assoc (kept_branches all) (branch_elements b ∷ []) (branches_of rest)
          ∙ (ap (λ e. kept_branches all ++ e ∷ branches_of rest) now.elements ∙ (ap (λ it. kept_branches all ++ branches_of it) (sym cut) ∙ inv.made))));
      plans = subst (All CanBeFilled) (sym pushed) (All-append CanBeFilled all (b ∷ []) inv.plans (only_of CanBeFilled b now.plan));
    }
