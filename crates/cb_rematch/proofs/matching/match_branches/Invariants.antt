use Rattle.std.proofs.Common.{◌≡◌, ◌++◌, drop}
use Rattle.cb_rules.specs.Elements.{branches_of}
use Rattle.cb_matches.specs.Networks.{branch_matches}
use Rattle.cb_rematch.proofs.matching.match_branches.Given as goal

abbrev pub invariant-loop-branch : goal.invariant-loop-branch
invariant-loop-branch g l = record {
  place : l.place ≡ l.branch-index;
  all : l.all.items ++ branch_matches l.id l.place (branches_of (drop l.branch-index l.branches)) l.setting.facts.now
      ≡ l.initial.all.items ++ branch_matches l.id 0 (branches_of l.branches) l.setting.facts.now;
}
