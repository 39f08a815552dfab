use Rattle.std.proofs.Common.{◌≡◌, ◌≤◌, ◌+◌, ◌⊎◌, ℕ, List, filter, length, subst, sym}
use Rattle.cb_alpha.proofs.ReadFacts.{same_some}
use Rattle.cb_alpha.specs.AlphaMemories.{live}
use Rattle.cb_alpha.specs.Turning.{came_in}
use Rattle.cb_beta.proofs.Losses.{on_ok}
use Rattle.cb_beta.specs.BetaMemories.{BetaMemoryValue, HasFact, Loses}
use Rattle.cb_join_node.proofs.Bounds.{added_bound, come_at_most, facts_at_most, kept_at_most, whole_bound}
use Rattle.cb_join_node.proofs.Changing.{changed, kept, on_ok_both}
use Rattle.cb_join_node.proofs.Meeting.{came_known, are_selected, stays_known}
use Rattle.cb_join_node.proofs.Refiled.{all_forgotten}
use Rattle.cb_join_node.proofs.Untouched.{nothing_before, nothing_before_kept, untouched, untouched_kept}
use Rattle.cb_join_node.proofs.node.JoinNode.change.Goals as goal
use Rattle.cb_join_node.specs.Bounds.{kept_probes}
use Rattle.cb_join_node.specs.Meetings.{KnowsValues}
use Rattle.cb_join_node.specs.Filings.{ArePartialsFiled}
use Rattle.cb_join_node.specs.Nodes.{AreJoined, IsAfter, IsBefore, Stays, added_fact}
use Rattle.cb_matches.specs.Chains.{Chain, In}
use Rattle.cb_matches.specs.Probes.{is_candidate, partials_come, partials_kept}
use Rattle.cb_nodes.proofs.Grown.{ways_rise}
use Rattle.cb_token_lists.proofs.Down.{got}
use Rattle.cb_token_lists.specs.Growth.{Comes}
use Rattle.cb_token_lists.specs.Partials.{partial_at}
use Rattle.cb_token_lists.specs.Turns.{WasThere}

pub returns-clause-after : goal.returns-clause-after
returns-clause-after g c =
    let node = c.args.self.now in
    let js = node.asked.fields.items in
    let ls = c.args.lists.now.lists.now in
    let at = partial_at c.args.lists.now.sources.now ls node.from in
    let alpha = c.args.alpha.now in
    let m : BetaMemoryValue = c.in-Some.before.now in
    let own₀ = c.args.own.now in
    let own₁ = c.retract.new.self in
    let own₂ = c.join_fact.new.own in
    let own = c.join_come.new.own in
    let b₁ = c.forget_partials.new.partials in
    let b₂ = c.join_come.new.partials in
    let s₁ = c.forget_partials.new.strays in
    let s₂ = c.join_come.new.strays in
    let look = c.in-Some.ensures.lookup in
    let lost : Loses own₀ own₁ (λ t. In t.parent m.gone ⊎ HasFact alpha.gone t) =
    subst (λ o. Loses own₀ own₁ (λ t. In t.parent m.gone ⊎ HasFact o t)) c.gone-2.ensures
    (subst (λ (it : List ℕ). Loses own₀ own₁ (λ t. In t.parent it ⊎ HasFact c.gone-2.result t)) c.gone.ensures c.in_ok-retract.ensures) in
    on_ok_both c.join_come.result
    (λ filed come before fs fs' old new is given.
    let one : m ≡ before = same_some _ (got ls node.from m look.3.0 (look.3.1 m)) is in
    let b : IsBefore node at m alpha own₀ fs fs' old new = subst (λ it. IsBefore node at it alpha own₀ fs fs' old new) (sym one) given in
    let left : ArePartialsFiled js b₁ s₁ at (λ n. WasThere m n × (In n c.gone-3.result.now → ⊥)) =
    all_forgotten js node.partials b₁ node.strays s₁ at (WasThere m) c.gone-3.result.now c.forget_partials.ensures.gone c.forget_partials.ensures.others b.ready.partials_filed in
    let partials₁ : ArePartialsFiled js b₁ s₁ at (Stays m) = subst (λ (it : List ℕ). ArePartialsFiled js b₁ s₁ at (λ n. WasThere m n × (In n it → ⊥))) c.gone-3.ensures left in
    let partials₂ : ArePartialsFiled js b₂ s₂ at (λ n. Stays m n ⊎ In n m.come) = subst (λ (it : List ℕ). ArePartialsFiled js b₂ s₂ at (λ n. Stays m n ⊎ In n it)) c.come.ensures (filed m partials₁) in
    let shape = are_selected node.asked.pattern alpha fs fs' b.facts in
    let known = subst (λ (it : List ℕ). (n : ℕ) → In n it → KnowsValues node.asked (at n)) (sym c.come.ensures) (came_known node at m old new b.turns b.by_values) in
    let first : Comes own₁ own₂ (AreJoined node.asked at (Stays m) (came_in alpha)) = c.in_ok-join_fact.ensures.come m b.has_join b.facts.apart partials₁ b.ready.fields (stays_known node at m old new b.turns b.by_values) shape in
    let once = subst (Chain (λ (i : ℕ) (j : ℕ). i ≡ j → ⊥)) (sym c.come.ensures) b.turns.come_once in
    let second : Comes own₂ own (AreJoined node.asked at (λ n. In n m.come) (live alpha)) =
    subst (λ (it : List ℕ). Comes own₂ own (AreJoined node.asked at (λ n. In n it) (live alpha))) c.come.ensures (come once b.has_join b.ready.fields known shape) in
    subst (λ it. IsAfter (record node { partials = b₂; strays = s₂ }) at it alpha own fs fs' old new) one
    (changed node at m alpha own₀ own₁ own₂ own fs fs' old new b lost first second (ways_rise c.the_ways_rise_by_their_cuts.ensures) c.a_fact_that_fits_is_selected.ensures b₂ s₂ partials₂))
    c.join_come.ensures.partials c.join_come.ensures.come

pub returns-clause-keeps : goal.returns-clause-keeps
returns-clause-keeps g c =
    let node = c.args.self.now in
    let js = node.asked.fields.items in
    let ls = c.args.lists.now.lists.now in
    let at = partial_at c.args.lists.now.sources.now ls node.from in
    let alpha = c.args.alpha.now in
    let m : BetaMemoryValue = c.in-Some.before.now in
    let own₀ = c.args.own.now in
    let own₁ = c.retract.new.self in
    let own₂ = c.join_fact.new.own in
    let own = c.join_come.new.own in
    let b₁ = c.forget_partials.new.partials in
    let s₁ = c.forget_partials.new.strays in
    let look = c.in-Some.ensures.lookup in
    let lost : Loses own₀ own₁ (λ t. In t.parent m.gone ⊎ HasFact alpha.gone t) =
    subst (λ o. Loses own₀ own₁ (λ t. In t.parent m.gone ⊎ HasFact o t)) c.gone-2.ensures
    (subst (λ (it : List ℕ). Loses own₀ own₁ (λ t. In t.parent it ⊎ HasFact c.gone-2.result t)) c.gone.ensures c.in_ok-retract.ensures) in
    on_ok c.join_come.result
    (λ come before fs fs' old new is given.
    let one : m ≡ before = same_some _ (got ls node.from m look.3.0 (look.3.1 m)) is in
    let b : IsBefore node at m alpha own₀ fs fs' old new = subst (λ it. IsBefore node at it alpha own₀ fs fs' old new) (sym one) given in
    let left : ArePartialsFiled js b₁ s₁ at (λ n. WasThere m n × (In n c.gone-3.result.now → ⊥)) =
    all_forgotten js node.partials b₁ node.strays s₁ at (WasThere m) c.gone-3.result.now c.forget_partials.ensures.gone c.forget_partials.ensures.others b.ready.partials_filed in
    let partials₁ : ArePartialsFiled js b₁ s₁ at (Stays m) = subst (λ (it : List ℕ). ArePartialsFiled js b₁ s₁ at (λ n. WasThere m n × (In n it → ⊥))) c.gone-3.ensures left in
    let shape = are_selected node.asked.pattern alpha fs fs' b.facts in
    let known = subst (λ (it : List ℕ). (n : ℕ) → In n it → KnowsValues node.asked (at n)) (sym c.come.ensures) (came_known node at m old new b.turns b.by_values) in
    let first : Comes own₁ own₂ (AreJoined node.asked at (Stays m) (came_in alpha)) = c.in_ok-join_fact.ensures.come m b.has_join b.facts.apart partials₁ b.ready.fields (stays_known node at m old new b.turns b.by_values) shape in
    let once = subst (Chain (λ (i : ℕ) (j : ℕ). i ≡ j → ⊥)) (sym c.come.ensures) b.turns.come_once in
    let second : Comes own₂ own (AreJoined node.asked at (λ n. In n m.come) (live alpha)) =
    subst (λ (it : List ℕ). Comes own₂ own (AreJoined node.asked at (λ n. In n it) (live alpha))) c.come.ensures (come once b.has_join b.ready.fields known shape) in
    kept node at m alpha own₀ own₁ own₂ own fs fs' old new b lost first second)
    c.join_come.ensures.come

pub returns-clause-probes : goal.returns-clause-probes
returns-clause-probes g c =
    let node = c.args.self.now in
    let p = node.asked.pattern in
    let js = node.asked.fields.items in
    let ls = c.args.lists.now.lists.now in
    let at = partial_at c.args.lists.now.sources.now ls node.from in
    let alpha = c.args.alpha.now in
    let m : BetaMemoryValue = c.in-Some.before.now in
    let own₀ = c.args.own.now in
    let b₁ = c.forget_partials.new.partials in
    let s₁ = c.forget_partials.new.strays in
    let look = c.in-Some.ensures.lookup in
    on_ok c.join_come.result
    (λ tested before fs fs' old new is given.
    let one : m ≡ before = same_some _ (got ls node.from m look.3.0 (look.3.1 m)) is in
    let b : IsBefore node at m alpha own₀ fs fs' old new = subst (λ it. IsBefore node at it alpha own₀ fs fs' old new) (sym one) given in
    let left : ArePartialsFiled js b₁ s₁ at (λ n. WasThere m n × (In n c.gone-3.result.now → ⊥)) =
    all_forgotten js node.partials b₁ node.strays s₁ at (WasThere m) c.gone-3.result.now c.forget_partials.ensures.gone c.forget_partials.ensures.others b.ready.partials_filed in
    let partials₁ : ArePartialsFiled js b₁ s₁ at (Stays m) = subst (λ (it : List ℕ). ArePartialsFiled js b₁ s₁ at (λ n. WasThere m n × (In n it → ⊥))) c.gone-3.ensures left in
    let kept = length (partials_kept old new) in
    let t = c.args.meter.now in
    let t₁ = c.join_fact.new.meter in
    let first : t₁ ≤ t + kept_probes p (added_fact alpha) kept =
    added_bound p alpha fs fs' b.facts kept t t₁ (c.in_ok-join_fact.ensures.probes m kept b.has_join b.facts.apart partials₁ (kept_at_most at m old new b.turns)) c.in_ok-join_fact.ensures.untested in
    let most = length (filter (is_candidate p) fs') in
    let second = tested most b.has_join (facts_at_most p alpha fs fs' b.facts) in
    let come : length c.come.result.now ≤ length (partials_come old new) =
    subst (λ (it : List ℕ). length it ≤ length (partials_come old new)) (sym c.come.ensures) (come_at_most at m old new b.turns) in
    whole_bound t t₁ c.join_come.new.meter (length c.come.result.now) most (kept_probes p (added_fact alpha) kept) (length (partials_come old new)) first second come)
    c.join_come.ensures.probes

pub returns-then-is_empty-clause-after : goal.returns-then-is_empty-clause-after
returns-then-is_empty-clause-after g c = λ before fs fs' old new is given.
    let node = c.args.self.now in
    let ls = c.args.lists.now.lists.now in
    let at = partial_at c.args.lists.now.sources.now ls node.from in
    let alpha = c.args.alpha.now in
    let m : BetaMemoryValue = c.in-Some.before.now in
    let own = c.args.own.now in
    let look = c.in-Some.ensures.lookup in
    let one : m ≡ before = same_some _ (got ls node.from m look.3.0 (look.3.1 m)) is in
    let b : IsBefore node at m alpha own fs fs' old new = subst (λ it. IsBefore node at it alpha own fs fs' old new) (sym one) given in
    let none = c.is_empty.ensures in
    let so = c.if-is_empty.true in
    subst (λ it. IsAfter node at it alpha own fs fs' old new) one
    (nothing_before node at m alpha own fs fs' old new b (none.come so) (none.none so) (ways_rise c.the_ways_rise_by_their_cuts.ensures) c.a_fact_that_fits_is_selected.ensures)

pub returns-then-is_empty-clause-keeps : goal.returns-then-is_empty-clause-keeps
returns-then-is_empty-clause-keeps g c = λ before fs fs' old new is given.
    let node = c.args.self.now in
    let ls = c.args.lists.now.lists.now in
    let at = partial_at c.args.lists.now.sources.now ls node.from in
    let alpha = c.args.alpha.now in
    let m : BetaMemoryValue = c.in-Some.before.now in
    let own = c.args.own.now in
    let look = c.in-Some.ensures.lookup in
    let one : m ≡ before = same_some _ (got ls node.from m look.3.0 (look.3.1 m)) is in
    let b : IsBefore node at m alpha own fs fs' old new = subst (λ it. IsBefore node at it alpha own fs fs' old new) (sym one) given in
    let none = c.is_empty.ensures in
    let so = c.if-is_empty.true in
    nothing_before_kept node at m alpha own fs fs' old new b (none.come so) (none.none so)

pub returns-then-is_untouched-clause-after : goal.returns-then-is_untouched-clause-after
returns-then-is_untouched-clause-after g c = λ before fs fs' old new is given.
    let node = c.args.self.now in
    let ls = c.args.lists.now.lists.now in
    let at = partial_at c.args.lists.now.sources.now ls node.from in
    let alpha = c.args.alpha.now in
    let m : BetaMemoryValue = c.in-Some.before.now in
    let own = c.args.own.now in
    let look = c.in-Some.ensures.lookup in
    let one : m ≡ before = same_some _ (got ls node.from m look.3.0 (look.3.1 m)) is in
    let b : IsBefore node at m alpha own fs fs' old new = subst (λ it. IsBefore node at it alpha own fs fs' old new) (sym one) given in
    let none = c.is_untouched.ensures c.if-is_untouched.true in
    subst (λ it. IsAfter node at it alpha own fs fs' old new) one
    (untouched node at m alpha own fs fs' old new b none.1 none.0 none.2 none.3 (ways_rise c.the_ways_rise_by_their_cuts.ensures) c.a_fact_that_fits_is_selected.ensures)

pub returns-then-is_untouched-clause-keeps : goal.returns-then-is_untouched-clause-keeps
returns-then-is_untouched-clause-keeps g c = λ before fs fs' old new is given.
    let node = c.args.self.now in
    let ls = c.args.lists.now.lists.now in
    let at = partial_at c.args.lists.now.sources.now ls node.from in
    let alpha = c.args.alpha.now in
    let m : BetaMemoryValue = c.in-Some.before.now in
    let own = c.args.own.now in
    let look = c.in-Some.ensures.lookup in
    let one : m ≡ before = same_some _ (got ls node.from m look.3.0 (look.3.1 m)) is in
    let b : IsBefore node at m alpha own fs fs' old new = subst (λ it. IsBefore node at it alpha own fs fs' old new) (sym one) given in
    let none = c.is_untouched.ensures c.if-is_untouched.true in
    untouched_kept node at m alpha own fs fs' old new b none.1 none.0 none.2 none.3
