use Rattle.std.proofs.Common.{◌≡◌, ◌∙◌, ℕ, List, ap, rules, subst, sym}
use Rattle.cb_alpha.proofs.ReadFacts.{same_some}
use Rattle.cb_beta.proofs.Losses.{on_ok}
use Rattle.cb_beta.specs.BetaMemories.{BetaMemoryValue, Loses}
use Rattle.cb_beta.specs.Tokens.{TokenValue}
use Rattle.cb_fit.specs.declared.join_fields.JoinField.{JoinField}
use Rattle.cb_lookup_node.proofs.Empty.{as_it_was}
use Rattle.cb_lookup_node.proofs.Whole.{to_change, whole}
use Rattle.cb_lookup_node.proofs.node.LookupNode.change.Goals as goal
use Rattle.cb_lookup_node.specs.Internal.{HasChanged, IsToChange}
use Rattle.cb_lookup_node.specs.LookupNodes.{IsAfterLookup, IsBeforeLookup, looking_of}
use Rattle.cb_lookup_node.specs.declared.sight.Sight.{Sight}
use Rattle.cb_matches.specs.Chains.{In}
use Rattle.cb_token_lists.proofs.Down.{got}
use Rattle.cb_token_lists.proofs.Keeping.{keeps_then, lost_keeps}
use Rattle.cb_token_lists.specs.Partials.{partial_at}

pub returns-clause-after : goal.returns-clause-after
returns-clause-after g c =
    let ls = c.args.lists.now.lists.now in
    let me = c.args.self.now in
    let js = me.fields.items in
    let at = partial_at c.args.lists.now.sources.now ls me.from in
    let alpha = c.args.alpha.now in
    let m : BetaMemoryValue = c.in-Some.before.now in
    let look = c.in-Some.ensures.lookup in
    let sight' = c.change.new.self in
    let own₀ = c.args.own.now in
    let own₁ = c.remove_all_children.new.self in
    let own = c.change.new.own in
    let agree = c.facts_agree_by_the_values_of_known_fields.ensures in
    let by_sight = c.a_group_of_a_decided_pattern_holds_by_values.ensures.holds in
    let opposite = c.a_group_of_a_decided_pattern_holds_by_values.ensures.negated in
    let lost₁ : Loses own₀ own₁ (λ t. In t.parent m.gone) = subst (λ (it : List ℕ). Loses own₀ own₁ (λ t. In t.parent it)) c.gone.ensures c.in_ok-remove_all_children.ensures in
    on_ok c.change.result
    (λ done names before fs fs' old new is given.
    let one : m ≡ before = same_some _ (got ls me.from m look.3.0 (look.3.1 m)) is in
    let b : IsBeforeLookup me names at m alpha own₀ fs fs' old new = subst (λ it. IsBeforeLookup me names at it alpha own₀ fs fs' old new) (sym one) given in
    let start : c.deref_mut.result.now ≡ me.sight.value = search rules in
    let step : IsToChange me.sight.value js at m alpha me.join → HasChanged me.positive me.sight.value sight' js at m alpha own₁ own =
    subst (λ (it : List JoinField). IsToChange me.sight.value it at m alpha me.join → HasChanged me.positive me.sight.value sight' it at m alpha own₁ own) c.as_slice.ensures.value
    (subst (λ (it : Sight). IsToChange it c.as_slice.result.now at m alpha me.join → HasChanged me.positive it sight' c.as_slice.result.now at m alpha own₁ own) start done) in
    subst (λ it. IsAfterLookup (record me { sight = record me.sight { value = sight' } }) names at it alpha own fs fs' old new) one
    (whole agree by_sight opposite me names at m alpha own₀ fs fs' old new b sight' (c.change.ensures.same ∙ ap looking_of start) own₁ own lost₁
    (step (to_change agree by_sight opposite me names at m alpha own₀ fs fs' old new b))))
    c.change.ensures.changed

pub returns-clause-keeps : goal.returns-clause-keeps
returns-clause-keeps g c =
    let own₀ = c.args.own.now in
    let own₁ = c.remove_all_children.new.self in
    on_ok c.change.result (keeps_then own₀ own₁ c.change.new.own (lost_keeps own₀ own₁ (λ (t : TokenValue). In t.parent c.gone.result.now) c.in_ok-remove_all_children.ensures)) c.change.ensures.keeps

pub returns-then-is_empty-clause-after : goal.returns-then-is_empty-clause-after
returns-then-is_empty-clause-after g c = λ names before fs fs' old new is given.
    let ls = c.args.lists.now.lists.now in
    let me = c.args.self.now in
    let at = partial_at c.args.lists.now.sources.now ls me.from in
    let alpha = c.args.alpha.now in
    let m : BetaMemoryValue = c.in-Some.before.now in
    let own = c.args.own.now in
    let look = c.in-Some.ensures.lookup in
    let one : m ≡ before = same_some _ (got ls me.from m look.3.0 (look.3.1 m)) is in
    let b : IsBeforeLookup me names at m alpha own fs fs' old new = subst (λ it. IsBeforeLookup me names at it alpha own fs fs' old new) (sym one) given in
    subst (λ it. IsAfterLookup me names at it alpha own fs fs' old new) one (as_it_was me names at m alpha own fs fs' old new b (c.is_empty.ensures.none c.if-is_empty.true))
