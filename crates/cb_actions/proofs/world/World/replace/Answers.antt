use Rattle.std.proofs.Common.{◌≡◌, ◌≤◌, ◌∙◌, Option, None, Some, Ok, Err, ap, refl, rules, subst, sym}
use Rattle.cb_actions.specs.Acts.{Act, give, ◌>>=◌}
use Rattle.cb_actions.specs.Effects.{fact_back}
use Rattle.cb_actions.proofs.ActLaws.{went_then, went_off, went_quietly}
use Rattle.cb_actions.proofs.ModifyLaws.{absent_still, free_now, memory_gone}
use Rattle.cb_actions.proofs.WentLaws.{went_fine, went_result, went_state}
use Rattle.cb_actions.specs.Worlds.{World}
use Rattle.cb_facts.specs.FactLists.{IsAbsent, IsFactBase, fact_at}
use Rattle.cb_facts.specs.declared.value.Value.{Value}
use Rattle.cb_facts.specs.declared.value.Value.TheVariants as value
use Rattle.cb_actions.proofs.world.World.replace.Goals as goal
use Rattle.cb_knowledge_base.specs.KnowledgeBase.{Memory, without}

pub returns-in_err-drop_fact : goal.returns-in_err-drop_fact
returns-in_err-drop_fact g c =
    let r : c.from_residual.result ≡ Err c.in_err-drop_fact.field-0.0 = search rules in
    let next : Unit {0} → Act World (Option Value) = λ _. fact_back c.args.ix c.args.fact >>= (λ _. give (Some (value.Fact c.args.ix))) in
    went_result g.K.Sink.writes r (went_off g.K.Sink.writes _ _ _ _ _ next c.in_err-drop_fact.ensures)

pub put_back-requires-clause-fine : goal.put_back-requires-clause-fine
put_back-requires-clause-fine g c = went_fine g.K.Sink.writes _ _ _ _ _ c.in_ok-drop_fact.ensures

pub put_back-requires-clause-given : goal.put_back-requires-clause-given
put_back-requires-clause-given g c =
    let m : c.drop_fact.new.self.memory ≡ without c.args.ix c.args.self.now.memory = ap (λ (w : World). w.memory) (went_state g.K.Sink.writes _ _ _ _ _ c.in_ok-drop_fact.ensures) ∙ memory_gone c.args.ix c.args.self.now c.requires.there in
    subst (λ (k : Memory). c.args.ix ≤ k.last) (sym m) c.requires.given

pub put_back-requires-clause-free : goal.put_back-requires-clause-free
put_back-requires-clause-free g c =
    let base : IsFactBase c.args.self.now.memory.network.facts = search rules in
    let m : c.drop_fact.new.self.memory ≡ without c.args.ix c.args.self.now.memory = ap (λ (w : World). w.memory) (went_state g.K.Sink.writes _ _ _ _ _ c.in_ok-drop_fact.ensures) ∙ memory_gone c.args.ix c.args.self.now c.requires.there in
    subst (λ (k : Memory). fact_at k.network.facts c.args.ix ≡ None) (sym m) (free_now c.args.self.now.memory.network.facts c.args.ix base)

pub put_back-requires-clause-absent : goal.put_back-requires-clause-absent
put_back-requires-clause-absent g c =
    let base : IsFactBase c.args.self.now.memory.network.facts = search rules in
    let m : c.drop_fact.new.self.memory ≡ without c.args.ix c.args.self.now.memory = ap (λ (w : World). w.memory) (went_state g.K.Sink.writes _ _ _ _ _ c.in_ok-drop_fact.ensures) ∙ memory_gone c.args.ix c.args.self.now c.requires.there in
    subst (λ (k : Memory). IsAbsent k.network.facts c.args.fact) (sym m) (absent_still c.args.self.now.memory.network.facts c.args.ix c.args.fact base c.requires.absent)

pub returns-in_err-put_back : goal.returns-in_err-put_back
returns-in_err-put_back g c =
    let r : c.from_residual-in_err-put_back.result ≡ Err c.in_err-put_back.field-0.0 = search rules in
    let last : Unit {0} → Act World (Option Value) = λ _. give (Some (value.Fact c.args.ix)) in
    let next : Unit {0} → Act World (Option Value) = λ _. fact_back c.args.ix c.args.fact >>= last in
    went_result g.K.Sink.writes r (went_then g.K.Sink.writes _ _ _ _ _ _ _ _ next c.in_ok-drop_fact.ensures (went_off g.K.Sink.writes _ _ _ _ _ last c.in_err-put_back.ensures))

pub returns : goal.returns
returns g c =
    let last : Unit {0} → Act World (Option Value) = λ _. give (Some (value.Fact c.args.ix)) in
    let next : Unit {0} → Act World (Option Value) = λ _. fact_back c.args.ix c.args.fact >>= last in
    went_then g.K.Sink.writes _ _ _ _ _ _ _ _ next c.in_ok-drop_fact.ensures (went_then g.K.Sink.writes _ _ _ _ _ _ _ _ last c.in_ok-put_back.ensures
    (went_quietly g.K.Sink.writes _ _ (Ok (Some (value.Fact c.args.ix))) _ (went_fine g.K.Sink.writes _ _ _ _ _ c.in_ok-put_back.ensures) refl))
