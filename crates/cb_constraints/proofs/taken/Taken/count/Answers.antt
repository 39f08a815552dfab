use Rattle.std.proofs.Common.{◌∙◌, sym}
use Rattle.cb_constraints.proofs.TakenValues.{as_many_values}
use Rattle.cb_facts.specs.Facts.{content_of}
use Rattle.cb_constraints.proofs.taken.Taken.count.Goals as goal

pub returns : goal.returns
returns c = c.len.ensures ∙ sym (as_many_values c.args.self.body.now (content_of c.args.self.content.now) c.args.self.cuts.now)
