use Rattle.std.proofs.Common.{drop}
use Rattle.cb_lines.specs.Lines.{agenda_line}
use Rattle.cb_session.proofs.ListingLaws.{AreBegun}
use Rattle.cb_session.proofs.listing.put_activations.Given as goal

abbrev pub invariant-loop-activation : goal.invariant-loop-activation
invariant-loop-activation g l = AreBegun g.K.Sink.writes (agenda_line l.rules) l.initial.out l.out l.activations (drop l.activation-index l.activations)
