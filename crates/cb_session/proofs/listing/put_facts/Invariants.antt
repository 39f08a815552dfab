use Rattle.cb_lines.specs.Lines.{fact_line}
use Rattle.cb_session.proofs.ListingLaws.{AreBegun}
use Rattle.cb_session.proofs.listing.put_facts.Given as goal

abbrev pub invariant-loop-ix : goal.invariant-loop-ix
invariant-loop-ix g l = AreBegun g.K.Sink.writes fact_line l.initial.out l.out l.facts l.ix-iterator
