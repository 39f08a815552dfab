use Rattle.std.proofs.Common.{◌≡◌, drop}
use Rattle.cb_forms.specs.Strings.{is_unclosed}
use Rattle.cb_forms.proofs.PieceLaws.{unclosed_from}
use Rattle.cb_forms.proofs.piece.is_unclosed.Given as goal

abbrev pub invariant-loop-byte : goal.invariant-loop-byte
invariant-loop-byte l = unclosed_from l.escaped (drop l.byte-index l.body) ≡ is_unclosed l.body
