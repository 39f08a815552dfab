use Rattle.std.proofs.Common.{◌∙◌, ap, length}
use Rattle.cb_constraints.specs.Binders.{constraints_in}
use Rattle.cb_constraints.specs.Internal.Values.{values_taken}
use Rattle.cb_constraints.proofs.TakenValues.{as_many_values}
use Rattle.cb_facts.specs.Facts.{content_of}
use Rattle.cb_fit.proofs.Standing.{none-after}
use Rattle.cb_fit.proofs.search.Search.keep.Goals as goal

pub newly_bound-requires : goal.newly_bound-requires
newly_bound-requires g c =
    none-after (length c.args.cuts.now) (constraints_in c.args.self.body.now) c.requires.next
    (length (values_taken c.taken-took.result.body.now (content_of c.taken-took.result.content.now) c.taken-took.result.cuts.now))
    (as_many_values c.taken-took.result.body.now (content_of c.taken-took.result.content.now) c.taken-took.result.cuts.now ∙ ap length c.taken-took.ensures.cuts)
