use Rattle.std.proofs.Common.{◌≡◌, drop}
use Rattle.cb_alpha.specs.Mixes.{mixed_values}
use Rattle.cb_alpha.proofs.join_values.JoinValues.mix.Given as goal

abbrev pub invariant-loop-value : goal.invariant-loop-value
invariant-loop-value l = mixed_values l.mix (drop l.value-index l.value-items) ≡ mixed_values l.initial.mix l.value-items
