use Rattle.std.proofs.Common.{◌≡◌, take}
use Rattle.cb_exprs.specs.Internal.Frames.{with_each}
use Rattle.cb_exprs.proofs.frames.set_each.Given as goal

abbrev pub invariant-loop-name : goal.invariant-loop-name
invariant-loop-name l = l.values ≡ with_each (take l.name-index l.bindings) l.initial.values
