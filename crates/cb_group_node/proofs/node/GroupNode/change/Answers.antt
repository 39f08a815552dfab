use Rattle.std.proofs.Common.{◌≡◌, ◌≢◌, ◌∙◌, ℕ, [], List, Some, None, subst, sym}
use Rattle.cb_beta.proofs.Losses.{on_ok}
use Rattle.cb_beta.specs.BetaMemories.{BetaMemoryValue, Loses}
use Rattle.cb_beta.specs.Tokens.{TokenValue}
use Rattle.cb_group_node.proofs.Changed.{changed}
use Rattle.cb_group_node.proofs.Meeting.{begins_met, met_same}
use Rattle.cb_group_node.proofs.Touching.{AreTouched}
use Rattle.cb_group_node.proofs.node.GroupNode.change.Goals as goal
use Rattle.cb_group_node.specs.Internal.{ArePassedByGroup, Enters, GroupHolds, Sets}
use Rattle.cb_group_node.specs.Nodes.{IsAfterGroup, IsBeforeGroup}
use Rattle.cb_group_node.specs.declared.node.GroupNode.{GroupNode}
use Rattle.cb_groups.specs.Groups.{AppendsMembers}
use Rattle.cb_matches.specs.Chains.{Chain, In}
use Rattle.cb_token_lists.proofs.Down.{got}
use Rattle.cb_token_lists.proofs.Keeping.{keeps_then, lost_keeps}
use Rattle.cb_token_lists.specs.Growth.{Comes}
use Rattle.cb_token_lists.specs.Partials.{Meets, partial_at}

one_some : {A : Type 0} {a b : A} → Some a ≡ Some b → a ≡ b
one_some {A} {a} {b} e = cc

pub returns-clause-after : goal.returns-clause-after
returns-clause-after c =
    let ss = c.args.lists.now.sources.now in
    let ls = c.args.lists.now.lists.now in
    let me = c.args.self.now in
    let from = me.from in
    let inner = me.inner in
    let positive = me.positive in
    let at = partial_at ss ls from in
    let within_at = partial_at ss ls inner in
    let before : BetaMemoryValue = c.in-Some.before.now in
    let within : BetaMemoryValue = c.in-Some-get.within.now in
    let look = c.in-Some.ensures.lookup in
    let look' = c.in-Some-get.ensures.lookup in
    let first = c.touch.new.touched.items in
    let touched = c.touch-2.new.touched.items in
    let settled = c.take.new.all.items in
    let inside₁ = c.remove_all-2.new.groups in
    let inside = c.enter.new.inside in
    let w₁ = c.wait_all.new.waiting in
    let w₂ = c.put_all.new.groups in
    let w₃ = c.remove_all.new.groups in
    let own₀ = c.args.own.now in
    let own₁ = c.remove_all_children.new.self in
    let own₂ = c.retract.new.own in
    let own = c.pass_all.new.own in
    let node : GroupNode = record me { inside = inside; waiting = c.take.new.self } in
    let Met : ℕ → ℕ → Type 0 = λ g i. Meets ss ls from g inner i in
    on_ok c.pass_all.result
    (λ come m n width old new begun begun' below is is' given.
    let e : before ≡ m = one_some (sym (got ls from before look.3.0 (look.3.1 before)) ∙ is) in
    let e' : within ≡ n = one_some (sym (got ls inner within look'.3.0 (look'.3.1 within)) ∙ is') in
    let b : IsBeforeGroup me Met at within_at before within width own₀ old new begun begun' =
    subst (λ it. IsBeforeGroup me Met at within_at it within width own₀ old new begun begun') (sym e)
    (subst (λ it. IsBeforeGroup me Met at within_at m it width own₀ old new begun begun') (sym e') given) in
    let touch₁ : AreTouched Met within.gone [] first =
    subst (λ (it : List ℕ). AreTouched Met within.gone it first) c.new-touched.ensures.items
    (subst (λ (it : List ℕ). AreTouched Met it c.new-touched.result.items first) c.gone.ensures (c.in_ok-touch.ensures below)) in
    let touch₂ : AreTouched Met within.come first touched =
    subst (λ (it : List ℕ). AreTouched Met it first touched) c.come.ensures (c.in_ok-touch-2.ensures below) in
    let wait₁ : Sets me.waiting w₁ (λ g. In g touched × (GroupHolds positive me.inside g → ⊥)) (Some 0) =
    subst (λ (it : List ℕ). Sets me.waiting w₁ (λ g. In g it × (GroupHolds positive me.inside g → ⊥)) (Some 0)) c.as_slice.ensures.value c.in_ok-wait_all.ensures in
    let wait₂ : Sets w₁ w₂ (λ g. In g before.come) (Some 0) =
    subst (λ (it : List ℕ). Sets w₁ w₂ (λ g. In g it) (Some 0)) c.come-2.ensures c.in_ok-put_all.ensures in
    let wait₃ : Sets w₂ w₃ (λ g. In g before.gone) None =
    subst (λ (it : List ℕ). Sets w₂ w₃ (λ g. In g it) None) c.gone-2.ensures c.remove_all.ensures in
    let left : Sets me.inside inside₁ (λ i. In i within.gone) None =
    subst (λ (it : List ℕ). Sets me.inside inside₁ (λ i. In i it) None) c.gone-3.ensures c.remove_all-2.ensures in
    let entered : Enters Met (λ i. In i within.come) inside₁ inside =
    subst (λ (it : List ℕ). Enters Met (λ i. In i it) inside₁ inside) c.come-3.ensures (c.in_ok-enter.ensures below) in
    let lost₁ : Loses own₀ own₁ (λ t. In t.parent before.gone) =
    subst (λ (it : List ℕ). Loses own₀ own₁ (λ t. In t.parent it)) c.gone-4.ensures c.in_ok-remove_all_children.ensures in
    let lost₂ : Loses own₁ own₂ (λ t. In t.parent touched × (GroupHolds positive inside t.parent → ⊥)) =
    subst (λ (it : List ℕ). Loses own₁ own₂ (λ t. In t.parent it × (GroupHolds positive inside t.parent → ⊥))) c.as_slice-2.ensures.value c.in_ok-retract.ensures in
    let taken : AppendsMembers w₃ 0 [] settled =
    subst (λ (it : List ℕ). AppendsMembers w₃ 0 it settled) c.new-settled.ensures.items c.in_ok-take.ensures.all in
    let came : Chain (λ (i : ℕ) (j : ℕ). i ≢ j) settled → Comes own₂ own (ArePassedByGroup positive inside (λ g. In g settled)) =
    subst (λ (it : List ℕ). Chain (λ (i : ℕ) (j : ℕ). i ≢ j) it → Comes own₂ own (ArePassedByGroup positive inside (λ g. In g it))) c.as_slice-3.ensures.value come in
    let after : IsAfterGroup node Met at before within own old new begun begun' =
    changed positive Met at within_at before within old new begun begun' b.turns b.inner_turns b.descend
    (λ g h i. met_same ss ls below from g h inner i)
    (λ g i read there. let d = b.descend i there in begins_met ss ls below width from inner d.0 g i before (record { long = b.long; one = b.turns.one }) d.1 read d.2)
    me.inside inside₁ inside b.ready.inside left entered first touched touch₁ touch₂ me.waiting w₁ w₂ w₃ c.take.new.self b.ready.waiting wait₁ wait₂ wait₃ settled taken
    c.in_ok-take.ensures.groups own₀ own₁ own₂ own b.ready.tokens b.none_gone b.none_come lost₁ lost₂ came me in
    subst (λ it. IsAfterGroup node Met at it n own old new begun begun') e (subst (λ it. IsAfterGroup node Met at before it own old new begun begun') e' after))
    c.pass_all.ensures.come

pub returns-clause-keeps : goal.returns-clause-keeps
returns-clause-keeps c =
    let own₀ = c.args.own.now in
    let own₁ = c.remove_all_children.new.self in
    let own₂ = c.retract.new.own in
    on_ok c.pass_all.result
    (keeps_then own₀ own₂ c.pass_all.new.own
    (keeps_then own₀ own₁ own₂ (lost_keeps own₀ own₁ (λ (t : TokenValue). In t.parent c.gone-4.result.now) c.in_ok-remove_all_children.ensures)
    (lost_keeps own₁ own₂ (λ (t : TokenValue). In t.parent c.as_slice-2.result.now × (GroupHolds c.args.self.now.positive c.enter.new.inside t.parent → ⊥)) c.in_ok-retract.ensures)))
    c.pass_all.ensures.keeps
