use Rattle.std.proofs.Common.{◌≡◌, ◌∙◌, ◌⊎◌, ℕ, List, ap, subst, sym}
use Rattle.cb_alpha.specs.AlphaMemories.{live}
use Rattle.cb_beta.proofs.Losses.{on_ok}
use Rattle.cb_beta.specs.BetaMemories.{BetaMemoryValue}
use Rattle.cb_lookup_node.proofs.Ordered.{asks, changed, on_ok_both}
use Rattle.cb_lookup_node.proofs.in_order.InOrder.change.Goals as goal
use Rattle.cb_lookup_node.specs.Internal.{AreForgotten, Stays, values_under}
use Rattle.cb_lookup_node.specs.LookupNodes.{AreFiled, ArePassedOn, in_order}
use Rattle.cb_matches.specs.Chains.{Chain, In}
use Rattle.cb_token_lists.proofs.Keeping.{keeps_then}
use Rattle.cb_token_lists.specs.Growth.{Comes}
use Rattle.cb_token_lists.specs.Partials.{partial_at}

pub returns-clause-changed : goal.returns-clause-changed
returns-clause-changed c =
    let me = c.args.self.now in
    let js = c.args.fields.now in
    let at = partial_at c.args.lists.now.sources.now c.args.lists.now.lists.now c.args.from in
    let alpha = c.args.alpha.now in
    let join = c.args.join in
    let positive = c.args.positive in
    let m : BetaMemoryValue = c.args.before.now in
    let f₁ = c.forget_all.new.partials in
    let f₂ = c.pass_come.new.partials in
    let own₃ = c.turn.new.own in
    let own = c.pass_come.new.own in
    let went_is : c.in_ok-went.went ≡ values_under js alpha alpha.gone = c.in_ok-went.ensures ∙ ap (values_under js alpha) c.gone-2.ensures in
    let came_is : c.in_ok-came.came ≡ values_under js alpha alpha.come = c.in_ok-came.ensures ∙ ap (values_under js alpha) c.come.ensures in
    on_ok_both c.pass_come.result
    (λ filed come b.
    let left : AreForgotten me.partials f₁ m.gone = subst (AreForgotten me.partials f₁) c.gone.ensures c.forget_all.ensures in
    let filed_so : AreFiled me.comparison js f₁ at (Stays m) → AreFiled me.comparison js f₂ at (λ n. Stays m n ⊎ In n m.come) =
    subst (λ (it : List ℕ). AreFiled me.comparison js f₁ at (Stays m) → AreFiled me.comparison js f₂ at (λ n. Stays m n ⊎ In n it)) c.come-2.ensures (filed m) in
    let once = subst (Chain (λ (i : ℕ) (j : ℕ). i ≡ j → ⊥)) (sym c.come-2.ensures) b.come_once in
    let asked = asks me js at m alpha join b f₁ f₂ left c.in_ok-went.went c.in_ok-came.came went_is came_is in
    let passed : Comes own₃ own (ArePassedOn positive (in_order me.comparison) js (live alpha) at (λ n. In n m.come)) =
    subst (λ (it : List ℕ). Comes own₃ own (ArePassedOn positive (in_order me.comparison) js (live alpha) at (λ n. In n it))) c.come-2.ensures (come once b.has_join b.ordered) in
    changed me js at m alpha join b f₁ f₂ left positive c.args.own.now own₃ own filed_so (c.in_ok-turn.ensures.turned js asked) passed)
    c.pass_come.ensures.filed c.pass_come.ensures.come

pub returns-clause-keeps : goal.returns-clause-keeps
returns-clause-keeps c = on_ok c.pass_come.result (keeps_then c.args.own.now c.turn.new.own c.pass_come.new.own c.in_ok-turn.ensures.keeps) c.pass_come.ensures.keeps
