use Rattle.std.proofs.Common.{◌∙◌, map, sym}
use Rattle.cb_constraints.specs.Constraints.{check_of}
use Rattle.cb_constraints.specs.Holding.{tested_value}
use Rattle.cb_constraints.proofs.HoldingLaws.{constants_decide}
use Rattle.cb_constraints.specs.Internal.Known.{before_check}
use Rattle.cb_constraints.proofs.holding.one_holds.Goals as goal

pub returns-then-are_of_constants : goal.returns-then-are_of_constants
returns-then-are_of_constants g c =
    sym (constants_decide (map (λ cs. map check_of cs.items) c.args.alternatives.now) (tested_value c.args.tested) (before_check g.L.Lookup.bindings c.args.known.now c.args.at)
    (sym c.are_of_constants.ensures ∙ c.if-are_of_constants.true) ∙ c.requires)
