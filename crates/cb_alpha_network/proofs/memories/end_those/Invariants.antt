use Rattle.std.proofs.Common.{◌≡◌, length, take}
use Rattle.cb_alpha_network.proofs.OneByOne.{AreEnded}
use Rattle.cb_alpha_network.proofs.memories.end_those.Given as goal

abbrev pub invariant-loop-number : goal.invariant-loop-number
invariant-loop-number l = record {
  ended : AreEnded (take l.number-index l.numbers) l.initial.all.items l.all.items;
  long : length l.all.items ≡ length l.initial.all.items;
}
