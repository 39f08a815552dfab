use Rattle.std.proofs.Common.{sym, arith}
use Rattle.cb_forms.proofs.OpenPartLaws.{deep-list, flat-list}
use Rattle.cb_forms.proofs.reader.read_last_part.Goals as goal

pub returns-then-state-gt0 : goal.returns-then-state-gt0
returns-then-state-gt0 c = sym (deep-list c.args.part.now c.args.state.mode c.args.state.depth c.requires c.if-state-gt0.true)

pub read_part-requires : goal.read_part-requires
read_part-requires c = flat-list c.args.part.now c.args.state.mode c.args.state.depth c.requires (omega arith)
