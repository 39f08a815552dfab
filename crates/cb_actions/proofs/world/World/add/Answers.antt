use Rattle.std.proofs.Common.{◌≡◌, ◌+◌, ◌∙◌, Option, Some, Err, Ok, ap, refl, rules, subst, sym}
use Rattle.cb_actions.specs.Acts.{Act, give, ◌>>=◌}
use Rattle.cb_actions.specs.Changes.{come_line}
use Rattle.cb_actions.specs.Internal.{IsMemorized, told_so}
use Rattle.cb_actions.specs.Worlds.{World}
use Rattle.cb_actions.specs.declared.act.Break.TheVariants as break
use Rattle.cb_actions.specs.declared.act.EarlyEnd.TheVariants as ended
use Rattle.cb_actions.specs.declared.act.Limit.TheVariants.{Numbers}
use Rattle.cb_actions.specs.declared.change.Memorized.{Memorized}
use Rattle.cb_actions.proofs.ActLaws.{went_then, went_off, went_quietly, went_as}
use Rattle.cb_actions.proofs.WentLaws.{went_fine, went_result, went_unbegun}
use Rattle.cb_facts.specs.declared.value.Value.{Value}
use Rattle.cb_facts.specs.declared.value.Value.TheVariants as value
use Rattle.cb_io.specs.declared.stop.Stop.TheVariants as stop
use Rattle.cb_actions.proofs.world.World.add.Goals as goal

pub returns-in_err-line : goal.returns-in_err-line
returns-in_err-line g c =
    let r : c.from_residual.result ≡ Err (break.Stop stop.NoMemory) = search rules in
    went_result g.K.Sink.writes r (went_unbegun g.K.Sink.writes _ _ _ c.requires)

pub returns-in_err-ix : goal.returns-in_err-ix
returns-in_err-ix g c =
    let r : c.from_residual-in_err-ix.result ≡ Err (break.Stop stop.NoMemory) = search rules in
    went_result g.K.Sink.writes r (went_quietly g.K.Sink.writes _ _ (Err (break.Stop stop.NoMemory)) _ c.requires tt)

pub returns-in-There : goal.returns-in-There
returns-in-There g c =
    let m = subst (λ (it : Memorized). IsMemorized c.args.fact c.args.self.now c.memorize.new.self it) c.in-There.is c.in_ok-ix.ensures in
    went_quietly g.K.Sink.writes _ _ (Ok (Some (value.Fact c.in-There.ix))) _ c.requires m

pub returns-in-NoIndex : goal.returns-in-NoIndex
returns-in-NoIndex g c =
    let m = subst (λ (it : Memorized). IsMemorized c.args.fact c.args.self.now c.memorize.new.self it) c.in-NoIndex.is c.in_ok-ix.ensures in
    went_quietly g.K.Sink.writes _ _ (Err (break.Ended (ended.Limit Numbers))) _ c.requires m

pub returns-in_err-tell_change-in-Added : goal.returns-in_err-tell_change-in-Added
returns-in_err-tell_change-in-Added g c =
    let s = c.args.self.now in
    let t = c.memorize.new.self in
    let m = subst (λ (it : Memorized). IsMemorized c.args.fact s t it) c.in-Added.is c.in_ok-ix.ensures in
    let line : c.as_slice.result.now ≡ come_line s (s.memory.last + 1) c.args.fact = c.as_slice.ensures.value ∙ c.in_ok-line.ensures m.0 in
    let r : c.from_residual-in_err-tell_change-in-Added.result ≡ Err c.in_err-tell_change-in-Added.field-0.0 = search rules in
    let next : Unit {0} → Act World (Option Value) = λ _. give (Some (value.Fact c.in-Added.ix)) in
    went_as g.K.Sink.writes _ _ _ _ _ _ _ r (m.1 ∙ ap (λ bytes. (told_so bytes c.in-Added.done >>= next) t) (sym line)) (went_off g.K.Sink.writes _ _ _ _ _ next (c.in_err-tell_change-in-Added.ensures t))

pub returns : goal.returns
returns g c =
    let s = c.args.self.now in
    let t = c.memorize.new.self in
    let m = subst (λ (it : Memorized). IsMemorized c.args.fact s t it) c.in-Added.is c.in_ok-ix.ensures in
    let line : c.as_slice.result.now ≡ come_line s (s.memory.last + 1) c.args.fact = c.as_slice.ensures.value ∙ c.in_ok-line.ensures m.0 in
    let next : Unit {0} → Act World (Option Value) = λ _. give (Some (value.Fact c.in-Added.ix)) in
    let first = c.in_ok-tell_change-in-Added.ensures t in
    went_as g.K.Sink.writes _ _ _ _ _ _ _ refl (m.1 ∙ ap (λ bytes. (told_so bytes c.in-Added.done >>= next) t) (sym line))
    (went_then g.K.Sink.writes _ _ _ _ _ _ _ _ next first (went_quietly g.K.Sink.writes _ t (Ok (Some (value.Fact c.in-Added.ix))) _ (went_fine g.K.Sink.writes _ _ _ _ _ first) refl))
