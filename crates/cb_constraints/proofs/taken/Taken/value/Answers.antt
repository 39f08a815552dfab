use Rattle.std.proofs.Common.{◌∙◌, ◌<◌, length, subst}
use Rattle.std.proofs.lemmas.Result.{IfOk-weaker}
use Rattle.cb_constraints.proofs.ValueLaws.{read_value}
use Rattle.cb_constraints.proofs.TakenValues.{as_many_values}
use Rattle.cb_facts.specs.Facts.{content_of}
use Rattle.cb_constraints.proofs.taken.Taken.value.Goals as goal

pub read-requires : goal.read-requires
read-requires c = subst (λ n. c.args.constraint < n) (as_many_values c.args.self.body.now (content_of c.args.self.content.now) c.args.self.cuts.now) c.requires

pub returns : goal.returns
returns c =
    let within : c.args.constraint < length c.args.self.cuts.now = subst (λ n. c.args.constraint < n) (as_many_values c.args.self.body.now (content_of c.args.self.content.now) c.args.self.cuts.now) c.requires in
    IfOk-weaker c.read.result _ _
    (λ v is. is ∙ read_value c.args.self.body.now (content_of c.args.self.content.now) c.args.self.cuts.now c.args.constraint v within)
    c.read.ensures
