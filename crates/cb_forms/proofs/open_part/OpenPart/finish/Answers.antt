use Rattle.std.proofs.Common.{refl}
use Rattle.cb_forms.proofs.OpenPartLaws.{kept-start, kept-state, opened-says}
use Rattle.cb_forms.proofs.open_part.OpenPart.finish.Goals as goal

pub take_open-requires : goal.take_open-requires
take_open-requires c = kept-state c.args.self.now c.requires

pub returns-clause-item : goal.returns-clause-item
returns-clause-item c = opened-says c.args.self.now _ c.requires c.in_ok-item.ensures.item

pub returns-clause-kept : goal.returns-clause-kept
returns-clause-kept c = kept-start _ c.new-self.ensures c.in_ok-item.ensures.bytes refl refl
