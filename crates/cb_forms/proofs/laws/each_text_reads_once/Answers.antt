use Rattle.cb_forms.proofs.ReadingLaws.{reads-items, reads-one}
use Rattle.cb_forms.proofs.laws.each_text_reads_once.Goals as goal

pub returns-clause-reads : goal.returns-clause-reads
returns-clause-reads c = reads-items

pub returns-clause-once : goal.returns-clause-once
returns-clause-once c = reads-one
