use Rattle.std.proofs.Common.{◌≡◌, Err, length, rules}
use Rattle.cb_io.proofs.PutLaws.{puts_fine}
use Rattle.cb_lines.specs.Lines.{total_line}
use Rattle.cb_lines.specs.declared.totals.Noun.TheVariants.{Defrule}
use Rattle.cb_session.specs.Listings.{rule_line}
use Rattle.cb_session.proofs.ListingLaws.{listed_all, listed_off}
use Rattle.cb_session.proofs.listing.put_rule_lines.Goals as goal

pub returns-in_err-put_rules : goal.returns-in_err-put_rules
returns-in_err-put_rules g c =
    let r : c.from_residual.result ≡ Err c.in_err-put_rules.field-0.0 = search rules in
    listed_off g.K.Sink.writes rule_line Defrule c.args.rules.now _ _ _ _ r c.in_err-put_rules.ensures

pub put_text-requires : goal.put_text-requires
put_text-requires g c = puts_fine g.K.Sink.writes _ _ _ c.in_ok-put_rules.ensures

pub returns : goal.returns
returns g c = listed_all g.K.Sink.writes rule_line Defrule c.args.rules.now _ _ _ _ c.in_ok-put_rules.ensures (c.put_text.ensures (total_line (length c.args.rules.now) Defrule) (search rules))
