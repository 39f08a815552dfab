use Rattle.std.proofs.Common.{◌≡◌, length, take}
use Rattle.cb_alpha_network.proofs.Counted.{AreCounted}
use Rattle.cb_alpha_network.specs.Internal.{ChangesThose, IsAsserted}
use Rattle.cb_alpha_network.specs.Networks.{shape_in}
use Rattle.cb_alpha_network.proofs.changing.assert_found.Given as goal

abbrev pub invariant-loop-number : goal.invariant-loop-number
invariant-loop-number g l = record {
  changed : ChangesThose (λ n. IsAsserted (shape_in l.shapes.slots n) l.index l.fact) (take l.number-index l.found) l.initial.memories l.memories;
  long : length l.memories ≡ length l.initial.memories;
  counted : AreCounted l.shapes.slots l.found l.number-index l.initial.meter l.meter;
}
