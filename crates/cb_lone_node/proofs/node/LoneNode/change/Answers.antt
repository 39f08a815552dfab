use Rattle.std.proofs.Common.{◌≡◌, ◌∙◌, ◌↔◌, ℕ, true, List, Some, None, subst, sym}
use Rattle.cb_alpha.specs.AlphaMemories.{live}
use Rattle.cb_alpha.specs.Turning.{were_in}
use Rattle.cb_beta.proofs.Losses.{on_ok}
use Rattle.cb_beta.specs.BetaMemories.{BetaMemoryValue, Loses}
use Rattle.cb_beta.specs.Tokens.{TokenValue}
use Rattle.cb_group_node.specs.Internal.{Sets}
use Rattle.cb_lone_node.proofs.Changed.{tokens_after, turns_after}
use Rattle.cb_lone_node.proofs.Holding.{holds_so}
use Rattle.cb_lone_node.proofs.Parents.{parents_after}
use Rattle.cb_lone_node.proofs.node.LoneNode.change.Goals as goal
use Rattle.cb_lone_node.specs.Internal.{AreOf, Arrives}
use Rattle.cb_lone_node.specs.LoneNodes.{AreParents, IsAfterLone, IsBeforeLone, PassesAll}
use Rattle.cb_matches.specs.Chains.{Chain, In}
use Rattle.cb_nodes.specs.Flat.{holds_alone}
use Rattle.cb_token_lists.proofs.Down.{got}
use Rattle.cb_token_lists.proofs.Keeping.{keeps_then, lost_keeps}
use Rattle.cb_token_lists.specs.Growth.{Comes}
use Rattle.cb_token_lists.specs.Partials.{partial_at}
use Rattle.cb_token_lists.specs.Turns.{IsThere}

one_some : {A : Type 0} {a b : A} → Some a ≡ Some b → a ≡ b
one_some {A} {a} {b} e = cc

pub returns-clause-after : goal.returns-clause-after
returns-clause-after g c =
    let ls = c.args.lists.now.lists.now in
    let me = c.args.self.now in
    let at = partial_at c.args.lists.now.sources.now ls me.from in
    let alpha = c.args.alpha.now in
    let m : BetaMemoryValue = c.in-Some.before.now in
    let look = c.in-Some.ensures.lookup in
    let p₁ = c.remove_all.new.groups in
    let p₂ = c.put_all.new.groups in
    let own₀ = c.args.own.now in
    let own₁ = c.remove_all_children.new.self in
    let own₂ = c.remove_all_children-2.new.self in
    let own = c.pass_all.new.own in
    let held = c.passes_all-held.result in
    let holds = c.passes_all-holds.result in
    let leave = c.leaving.result.now in
    let arrive = c.arriving.result.now in
    on_ok c.pass_all.result
    (λ comes before fs fs' old new is given.
    let one : m ≡ before = one_some (sym (got ls me.from m look.3.0 (look.3.1 m)) ∙ is) in
    let b : IsBeforeLone me at m alpha own₀ fs fs' old new = subst (λ it. IsBeforeLone me at it alpha own₀ fs fs' old new) (sym one) given in
    let left : Sets me.parents p₁ (λ n. In n m.gone) None = subst (λ (it : List ℕ). Sets me.parents p₁ (λ n. In n it) None) c.gone.ensures c.remove_all.ensures in
    let entered : Sets p₁ p₂ (λ n. In n m.come) (Some 0) = subst (λ (it : List ℕ). Sets p₁ p₂ (λ n. In n it) (Some 0)) c.come.ensures c.in_ok-put_all.ensures in
    let kept : AreParents (IsThere m) p₂ = parents_after m me.parents p₁ p₂ b.turns.came b.ready.parents left entered in
    let held_is : (held ≡ true) ↔ PassesAll me.positive (were_in alpha) = c.passes_all-held.ensures (were_in alpha) c.was_empty.ensures in
    let holds_is : (holds ≡ true) ↔ PassesAll me.positive (live alpha) = c.passes_all-holds.ensures (live alpha) c.is_empty.ensures in
    let lost₁ : Loses own₀ own₁ (λ t. In t.parent m.gone) = subst (λ (it : List ℕ). Loses own₀ own₁ (λ t. In t.parent it)) c.gone-2.ensures c.in_ok-remove_all_children.ensures in
    let lost₂ : Loses own₁ own₂ (λ t. In t.parent leave) = c.in_ok-remove_all_children-2.ensures in
    let arriving : (n : ℕ) → In n arrive ↔ Arrives held holds m.come p₂ n =
    subst (λ (it : List ℕ). (n : ℕ) → In n arrive ↔ Arrives held holds it p₂ n) c.come-2.ensures c.arriving.ensures.are in
    let once = c.arriving.ensures.once (subst (Chain (λ (i : ℕ) (j : ℕ). i ≡ j → ⊥)) (sym c.come-2.ensures) b.turns.come_once) in
    let come : Comes own₂ own (AreOf (λ n. In n arrive)) = comes once in
    let unselected = c.a_fact_that_fits_is_selected.ensures in
    let fits = c.a_pattern_that_stands_alone_fits_what_is_selected.ensures in
    let held_so = holds_so unselected fits me.pattern b.ready.stands fs (were_in alpha) b.facts.was me.positive in
    let now_so = holds_so unselected fits me.pattern b.ready.stands fs' (live alpha) b.facts.is me.positive in
    let q = holds_alone me.positive me.pattern fs in
    let q' = holds_alone me.positive me.pattern fs' in
    let node = record me { parents = p₂ } in
    let after : IsAfterLone node at m alpha own fs fs' old new = record {
      ready = record {
        stands = b.ready.stands;
        parents = kept;
        tokens = tokens_after me.positive (were_in alpha) (live alpha) at m old new b.turns q q' held_so now_so held holds held_is holds_is p₂ kept leave arrive c.leaving.ensures arriving own₀ own₁ own₂ own
            b.ready.tokens b.none_gone b.none_come lost₁ lost₂ come;
      };
      turns = turns_after me.positive (were_in alpha) (live alpha) at m old new b.turns q q' held_so now_so held holds held_is holds_is p₂ kept leave arrive c.leaving.ensures arriving own₀ own₁ own₂ own
          b.ready.tokens b.none_gone b.none_come lost₁ lost₂ come;
    } in
    subst (λ it. IsAfterLone node at it alpha own fs fs' old new) one after)
    c.pass_all.ensures.come

pub returns-clause-keeps : goal.returns-clause-keeps
returns-clause-keeps g c =
    let own₀ = c.args.own.now in
    let own₁ = c.remove_all_children.new.self in
    let own₂ = c.remove_all_children-2.new.self in
    on_ok c.pass_all.result
    (keeps_then own₀ own₂ c.pass_all.new.own
    (keeps_then own₀ own₁ own₂ (lost_keeps own₀ own₁ (λ (t : TokenValue). In t.parent c.gone-2.result.now) c.in_ok-remove_all_children.ensures)
    (lost_keeps own₁ own₂ (λ (t : TokenValue). In t.parent c.leaving.result.now) c.in_ok-remove_all_children-2.ensures)))
    c.pass_all.ensures.keeps
