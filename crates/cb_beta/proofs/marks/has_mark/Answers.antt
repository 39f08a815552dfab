use Rattle.std.proofs.Common.{arith, tests}
use Rattle.std.proofs.lemmas.Nat.{one_shl, pow_pos}
use Rattle.std.proofs.lemmas.Nat.Bits.{and_pow}
use Rattle.cb_beta.proofs.marks.has_mark.Goals as goal

pub returns : goal.returns
returns c = grind (arith, tests, one_shl c.args.mark 64 c.requires, and_pow c.args.marks c.args.mark, pow_pos c.args.mark)
