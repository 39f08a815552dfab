use Rattle.cb_session.specs.Listings.{rule_line}
use Rattle.cb_session.proofs.ListingLaws.{AreBegun}
use Rattle.cb_session.proofs.listing.put_rules.Given as goal

abbrev pub invariant-loop-rule : goal.invariant-loop-rule
invariant-loop-rule g l = AreBegun g.K.Sink.writes rule_line l.initial.out l.out l.rules l.rule-iterator
