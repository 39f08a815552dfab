use Rattle.std.proofs.Common.{◌≡◌, Err, length, rules}
use Rattle.cb_io.proofs.PutLaws.{puts_fine}
use Rattle.cb_lines.specs.Lines.{fact_line, total_line}
use Rattle.cb_lines.specs.declared.totals.Noun.TheVariants.{Fact}
use Rattle.cb_session.proofs.ListingLaws.{listed_all, listed_off}
use Rattle.cb_session.proofs.listing.put_fact_lines.Goals as goal

pub returns-in_err-put_facts : goal.returns-in_err-put_facts
returns-in_err-put_facts g c =
    let r : c.from_residual.result ≡ Err c.in_err-put_facts.field-0.0 = search rules in
    listed_off g.K.Sink.writes fact_line Fact c.args.facts.now _ _ _ _ r c.in_err-put_facts.ensures

pub put_text-requires : goal.put_text-requires
put_text-requires g c = puts_fine g.K.Sink.writes _ _ _ c.in_ok-put_facts.ensures

pub returns : goal.returns
returns g c = listed_all g.K.Sink.writes fact_line Fact c.args.facts.now _ _ _ _ c.in_ok-put_facts.ensures (c.put_text.ensures (total_line (length c.args.facts.now) Fact) (search rules))
