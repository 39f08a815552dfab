use Rattle.std.proofs.Common.{◌≢◌, ◌↔◌, ℕ, List, cond, subst, sym}
use Rattle.cb_alpha.specs.AlphaMemories.{live}
use Rattle.cb_alpha.specs.Turning.{were_in}
use Rattle.cb_beta.proofs.Losses.{on_ok}
use Rattle.cb_beta.specs.BetaMemories.{BetaMemoryValue, Loses}
use Rattle.cb_fit.specs.declared.comparison.ComparedField.{ComparedField}
use Rattle.cb_lookup_node.proofs.Completed.{completed}
use Rattle.cb_lookup_node.proofs.Witnessed.{gave_values, witnesses_but}
use Rattle.cb_lookup_node.proofs.by_witness.ByWitness.change.Goals as goal
use Rattle.cb_lookup_node.specs.Internal.{AreOf, AreReplaced, HasGained, HasLost, IsOut, IsPlaced, Stays}
use Rattle.cb_lookup_node.specs.LookupNodes.{HaveWitnesses, Passes, SeesSome}
use Rattle.cb_matches.specs.Chains.{Chain, In}
use Rattle.cb_token_lists.proofs.Keeping.{keeps_then}
use Rattle.cb_token_lists.specs.Growth.{Comes}
use Rattle.cb_token_lists.specs.Partials.{partial_at}
use Rattle.cb_token_lists.specs.Turns.{WasThere}

pub returns-clause-changed : goal.returns-clause-changed
returns-clause-changed c =
    let me = c.args.self.now in
    let cs = me.compared.items in
    let js = c.args.fields.now in
    let at = partial_at c.args.lists.now.sources.now c.args.lists.now.lists.now c.args.from in
    let alpha = c.args.alpha.now in
    let positive = c.args.positive in
    let m : BetaMemoryValue = c.args.before.now in
    let w₁ = c.forget.new.self in
    let w₂ = c.lose.new.self in
    let w₃ = c.gain.new.self in
    let w₄ = c.place_all.new.self in
    let own₁ = c.args.own.now in
    let own₃ = c.pass_turned.new.own in
    let own = c.pass_all.new.own in
    let lost = c.in_ok-lost.lost.items in
    let gained = c.in_ok-gained.gained.items in
    let passed = c.in_ok-passed.passed.items in
    let cs_are = c.as_slice-compared.ensures.value in
    let lost_are = c.as_slice.ensures.value in
    let gained_are = c.as_slice-2.ensures.value in
    let passed_are = c.as_slice-3.ensures.value in
    on_ok c.pass_all.result
    (λ come b.
    let out : AreReplaced me.kept w₁ m.gone IsOut = subst (λ (it : List ℕ). AreReplaced me.kept w₁ it IsOut) c.gone.ensures c.forget.ensures in
    let kept₁ : HaveWitnesses cs js w₁ at (Stays m) (were_in alpha) = witnesses_but cs js at (WasThere m) (were_in alpha) me.kept w₁ m.gone out b.kept in
    let left : HasLost cs js alpha at w₁ w₂ lost = subst (λ (it : List ComparedField). HasLost it js alpha at w₁ w₂ lost) cs_are (c.in_ok-lost.ensures b.has_join (gave_values cs js alpha at (Stays m) w₁ kept₁)) in
    let given : HasGained cs js alpha at w₂ w₃ gained = subst (λ (it : List ComparedField). HasGained it js alpha at w₂ w₃ gained) cs_are (c.in_ok-gained.ensures js b.has_join b.apart) in
    let placed : AreReplaced w₃ w₄ m.come (IsPlaced cs js (live alpha) at) =
    subst (λ (it : List ComparedField). AreReplaced w₃ w₄ m.come (IsPlaced it js (live alpha) at)) cs_are
    (subst (λ (it : List ℕ). AreReplaced w₃ w₄ it (IsPlaced c.as_slice-compared.result.now js (live alpha) at)) c.come-come.ensures (c.in_ok-passed.ensures.placed b.has_join)) in
    let are : (n : ℕ) → In n passed ↔ (In n m.come × Passes positive (SeesSome cs js (live alpha) (at n))) =
    subst (λ (it : List ComparedField). (n : ℕ) → In n passed ↔ (In n m.come × Passes positive (SeesSome it js (live alpha) (at n)))) cs_are
    (subst (λ (it : List ℕ). (n : ℕ) → In n passed ↔ (In n it × Passes positive (SeesSome c.as_slice-compared.result.now js (live alpha) (at n)))) c.come-come.ensures (c.in_ok-passed.ensures.are b.has_join)) in
    let once = c.in_ok-passed.ensures.once b.has_join (subst (Chain (λ (i : ℕ) (j : ℕ). i ≢ j)) (sym c.come-come.ensures) b.come_once) in
    let turned = c.in_ok-pass_turned.ensures.passed (subst (Chain (λ (i : ℕ) (j : ℕ). i ≢ j)) (sym lost_are) left.once) (subst (Chain (λ (i : ℕ) (j : ℕ). i ≢ j)) (sym gained_are) given.once) in
    let between = turned.0 in
    let goes : Loses own₁ between (λ t. In t.parent (cond positive lost gained)) =
    subst (λ (it : List ℕ). Loses own₁ between (λ t. In t.parent (cond positive it gained))) lost_are
    (subst (λ (it : List ℕ). Loses own₁ between (λ t. In t.parent (cond positive c.as_slice.result.now it))) gained_are turned.1) in
    let comes : Comes between own₃ (AreOf (λ n. In n (cond positive gained lost))) =
    subst (λ (it : List ℕ). Comes between own₃ (AreOf (λ n. In n (cond positive gained it)))) lost_are
    (subst (λ (it : List ℕ). Comes between own₃ (AreOf (λ n. In n (cond positive it c.as_slice.result.now)))) gained_are turned.2) in
    let last : Comes own₃ own (AreOf (λ n. In n passed)) =
    subst (λ (it : List ℕ). Comes own₃ own (AreOf (λ n. In n it))) passed_are (come (subst (Chain (λ (i : ℕ) (j : ℕ). i ≢ j)) (sym passed_are) once)) in
    completed me js at m alpha c.args.join b w₁ w₂ w₃ w₄ positive own₁ between own₃ own lost gained passed out left given placed are goes comes last)
    c.pass_all.ensures.come

pub returns-clause-keeps : goal.returns-clause-keeps
returns-clause-keeps c = on_ok c.pass_all.result (keeps_then c.args.own.now c.pass_turned.new.own c.pass_all.new.own c.in_ok-pass_turned.ensures.keeps) c.pass_all.ensures.keeps
