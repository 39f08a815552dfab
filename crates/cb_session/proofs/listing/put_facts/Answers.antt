use Rattle.std.proofs.Common.{◌≡◌, ◌∷◌, [], ℕ, Err, rules, sym, subst}
use Rattle.cb_facts.specs.FactLists.{IndexedFacts}
use Rattle.cb_facts.specs.Facts.{FactValue}
use Rattle.cb_io.proofs.PutLaws.{puts_fine}
use Rattle.cb_lines.specs.Lines.{fact_line}
use Rattle.cb_session.proofs.ListingLaws.{AreBegun, all_begun, none_begun, one_more, one_off}
use Rattle.cb_session.proofs.listing.put_facts.Goals as goal

pub loop-ix-init : goal.loop-ix-init
loop-ix-init g c =
    let rest : c.into_iter-ix-iterator.result ≡ c.args.facts.now = search rules in
    subst (λ (it : IndexedFacts). AreBegun g.K.Sink.writes fact_line c.args.out.now c.args.out.now c.args.facts.now it) (sym rest) (none_begun g.K.Sink.writes fact_line _ _ c.requires)

pub put_text-requires : goal.put_text-requires
put_text-requires g c = puts_fine g.K.Sink.writes _ _ _ c.loop-ix.invariant.puts

pub loop-ix-preserved : goal.loop-ix-preserved
loop-ix-preserved g c =
    let fact : ℕ × FactValue = (c.in-Some.ix.now, c.in-Some.fact.now) in
    let cut : c.loop-ix.ix-iterator ≡ fact ∷ c.next.new.self = search rules in
    one_more g.K.Sink.writes fact_line _ _ _ _ _ _ fact cut c.loop-ix.invariant (c.in_ok-put_text.ensures (fact_line fact) c.fact_line.ensures)

pub returns-in_err-put_text : goal.returns-in_err-put_text
returns-in_err-put_text g c =
    let fact : ℕ × FactValue = (c.in-Some.ix.now, c.in-Some.fact.now) in
    let cut : c.loop-ix.ix-iterator ≡ fact ∷ c.next.new.self = search rules in
    let r : c.from_residual.result ≡ Err c.in_err-put_text.field-0.0 = search rules in
    one_off g.K.Sink.writes fact_line _ _ _ _ _ _ fact _ _ cut r c.loop-ix.invariant (c.in_err-put_text.ensures (fact_line fact) c.fact_line.ensures)

pub returns : goal.returns
returns g c =
    let none : c.loop-ix.ix-iterator ≡ [] = search rules in
    all_begun g.K.Sink.writes fact_line _ _ _ _ none c.loop-ix.invariant
