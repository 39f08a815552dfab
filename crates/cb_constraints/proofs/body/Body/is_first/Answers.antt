use Rattle.std.proofs.Common.{◌∙◌, ap, sym}
use Rattle.cb_constraints.specs.Binders.{constraints_in}
use Rattle.cb_constraints.specs.Internal.Places.{has_place, places}
use Rattle.cb_constraints.specs.Internal.Tables.{first_places}
use Rattle.cb_constraints.proofs.PlaceLaws.{is_first_of}
use Rattle.cb_constraints.proofs.body.Body.is_first.Goals as goal

pub returns-then-is_none : goal.returns-then-is_none
returns-then-is_none c is =
    is_first_of c.args.name.now c.args.constraint c.args.check (places 0 (constraints_in c.args.self.now))
    (sym (ap (has_place c.args.name.now c.args.constraint c.args.check)
    (c.as_slice.ensures.value ∙ (c.self.invariant.1 ∙ ap (λ p. first_places (places 0 (constraints_in p))) c.self.view_is)))
    ∙ c.is_place_of.ensures is)
