use Rattle.std.proofs.Common.{◌≡◌, length, take}
use Rattle.cb_alpha_network.specs.Internal.{ChangesThose, IsRetracted}
use Rattle.cb_alpha_network.proofs.changing.retract_found.Given as goal

abbrev pub invariant-loop-number : goal.invariant-loop-number
invariant-loop-number l = record {
  changed : ChangesThose (λ n. IsRetracted l.index) (take l.number-index l.found) l.initial.memories l.memories;
  long : length l.memories ≡ length l.initial.memories;
}
