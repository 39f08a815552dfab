use Rattle.std.proofs.Common.{◌≡◌, subst, sym, true}
use Rattle.cb_constraints.specs.PatternValues.{PatternValue}
use Rattle.cb_fit.specs.StandsAlone.{stands_alone}
use Rattle.cb_branch.proofs.kinds.lone_node.Goals as goal

pub returns-clause-planned : goal.returns-clause-planned
returns-clause-planned g c = λ scopes. record {
  prepared = subst (λ (p : PatternValue). stands_alone p ≡ true) (sym c.new.ensures.pattern) c.requires.alone;
  ready = λ facts. c.new.ensures.ready facts c.requires.alone;
}
