-- A branch in a change of the facts.
use Rattle.std.proofs.Common.{◌≡◌, ◌∙◌, ◌≤◌, ◌+◌, ℕ, Bool, true, false, List, Option, Some, None, ap, arith, cond, inl, inr, map, nat_eq, refl, subst, sym}
use Rattle.std.proofs.lemmas.Bool.Decides.{Decides-eqb}
use Rattle.std.specs.Option.{option_map_or}
use Rattle.cb_alpha.specs.AlphaMemories.{AlphaMemoryValue, candidate_in, live, live_in}
use Rattle.cb_alpha.specs.Turning.{AlphaTurns, came_in, is_number, were_in}
use Rattle.cb_alpha_network.specs.Networks.{IsAtRest, MemoryValues, memory_at, memory_in}
use Rattle.cb_alpha_network.specs.declared.node_place.NodePlace.{NodePlace}
use Rattle.cb_branch.specs.Branches.{AreAdded, AreTurned, DifferBy, HasAlpha, HasSameAlphas, IsBefore, IsBranchOver, branch_elements}
use Rattle.cb_branch.specs.Alphas.{AlphaUse, HasUsedJoin}
use Rattle.cb_branch.specs.Entries.{node_at}
use Rattle.cb_branch.specs.Alphas.{Facts, live_facts, were_facts}
use Rattle.cb_branch.specs.Patterns.{shape_tests}
use Rattle.cb_branch.specs.declared.branch.Branch.{Branch}
use Rattle.cb_constraints.specs.PatternValues.{PatternValue}
use Rattle.cb_facts.specs.FactLists.{IndexedFacts, fact_at}
use Rattle.cb_facts.specs.Facts.{FactValue}
use Rattle.cb_fit.specs.Shapes.{is_selected}
use Rattle.cb_matches.proofs.Lists.{by_test}
use Rattle.cb_matches.specs.Chains.{In}
use Rattle.cb_matches.specs.Matches.{matches_of}
use Rattle.cb_matches.specs.Order.{IsRising}
use Rattle.cb_matches.specs.Probes.{branch_probes}
use Rattle.cb_matches.specs.declared.delta.Delta.{Delta}
use Rattle.cb_nodes.proofs.Facts.{added_fact}
use Rattle.cb_rete.proofs.Entered.{entered_alike}
use Rattle.cb_rete.specs.Changing.{IsBranchDone, IsBranchReady, IsTurn, TurnValue, join_tests}
use Rattle.cb_rule_keys.proofs.Branches.{IsBranchUnconcerned}
use Rattle.cb_rule_keys.specs.Changing.{IsBranchChanged}
use Rattle.cb_rule_keys.specs.Keys.{Tells, key_of, keys_in_branch}

-- ---- a memory in a change

-- what a law says of a memory at rest: what was there is there
same_at_rest : (m : AlphaMemoryValue) (n : ℕ) → IsAtRest m → were_in m n ≡ live m n
same_at_rest m n rest =
    ap (λ (o : Option ℕ). cond (is_number o n) None (candidate_in m.candidates n)) rest.none_come
    ∙ sym (ap (λ (o : Option ℕ). live_in m.candidates o n) rest.none_gone)

-- a fact that no list of facts has
none_absent : (fs : IndexedFacts) (f : ℕ × FactValue) → fact_at fs f.0 ≡ None → In f fs → ⊥
none_absent fs f none i = (added_fact fs f.0 f.1 none).absent f i refl

-- the fact of the change has not the shape, where nothing came to the memory and nothing went
untaken : (p : PatternValue) (m : AlphaMemoryValue) (fs fs' : IndexedFacts) (f : ℕ × FactValue) → AlphaTurns p m fs fs' → DifferBy f fs fs' → IsAtRest m → is_selected p f.1 ≡ false
untaken p m fs fs' f turns differ rest =
    by_test (is_selected p f.1) (λ t. absurd (never t differ)) (λ t. t)
  where
    never : is_selected p f.1 ≡ true → DifferBy f fs fs' → ⊥
    never t (inl d) =
        let there : In f fs' = subst (In f) (sym d.1) (added_fact fs f.0 f.1 d.0).there in
        let at = turns.is.all f there t in
        none_absent fs f d.0 (turns.was.are at.0 f (same_at_rest m at.0 rest ∙ at.1)).0
    never t (inr d) =
        let there : In f fs = subst (In f) (sym d.1) (added_fact fs' f.0 f.1 d.0).there in
        let at = turns.was.all f there t in
        none_absent fs' f d.0 (turns.is.are at.0 f (sym (same_at_rest m at.0 rest) ∙ at.1)).0

is_the_number : (o : Option ℕ) (n : ℕ) → is_number o n ≡ true → o ≡ Some n
is_the_number None n h = cc
is_the_number (Some i) n h = ap (λ (k : ℕ). Some k) (sym ((Decides-eqb n i).0 h))

none_by : {A : Type 0} (b : Bool) (o : Option A) (x : A) → cond b o None ≡ Some x → (b ≡ true) × (o ≡ Some x)
none_by true o x h = (refl, h)
none_by false o x h = cc

else_by : {A : Type 0} (b : Bool) (o : Option A) (x : A) → cond b None o ≡ Some x → (b ≡ false) × (o ≡ Some x)
else_by true o x h = cc
else_by false o x h = (refl, h)

-- what came is there, and was not before
came_is : (p : PatternValue) (m : AlphaMemoryValue) (fs fs' : IndexedFacts) (n : ℕ) (f : ℕ × FactValue) → AlphaTurns p m fs fs' → came_in m n ≡ Some f → In f fs' × (In f fs → ⊥)
came_is p m fs fs' n f turns came =
    let by = none_by (is_number m.come n) (candidate_in m.candidates n) f came in
    let number : m.come ≡ Some n = is_the_number m.come n by.0 in
    let here = not_gone m.gone refl number in
    let is : live m n ≡ Some f = ap (λ b. cond b None (candidate_in m.candidates n)) here ∙ by.1 in
    let now = turns.is.are n f is in (
      now.0,
      λ was.
          let at = turns.was.all f was now.1 in
          let old = else_by (is_number m.come at.0) (candidate_in m.candidates at.0) f at.1 in
          let same : n ≡ at.0 = turns.one n at.0 f f by.1 old.1 refl in
          let no : true ≡ false = sym by.0 ∙ (ap (is_number m.come) same ∙ old.0) in
          absurd cc,
    )
  where
    not_gone : (o : Option ℕ) → m.gone ≡ o → m.come ≡ Some n → option_map_or (nat_eq n) m.gone false ≡ false
    not_gone None e number = ap (λ (it : Option ℕ). option_map_or (nat_eq n) it false) e
    not_gone (Some i) e number =
        ap (λ (it : Option ℕ). option_map_or (nat_eq n) it false) e
        ∙ by_test (nat_eq n i)
        (λ t. absurd (turns.apart n number (e ∙ ap (λ (k : ℕ). Some k) (sym ((Decides-eqb n i).0 t)))))
        (λ t. t)

module _ {T : Type 0} (turn : TurnValue) (given : MemoryValues) (found : List NodePlace) (is : IsTurn turn given found) (rule n : ℕ) (b : Branch T) (ready : IsBranchReady turn rule n b) where
  -- the branch's memories turned
  memory_turns : (k : ℕ) (u : AlphaUse) → HasAlpha b k u → AlphaTurns u.pattern (memory_at turn.network u.alpha) turn.before turn.after
  memory_turns k u h = is.turning.alphas u.alpha u.pattern (ready.entered k u h).shape.shape

  pub turned : AreTurned given turn.before turn.after b
  turned k u h =
      let used = ready.entered k u h in (
        is.within u.alpha u.pattern used.shape.shape,
        subst (λ ms. AlphaTurns u.pattern (memory_in ms u.alpha) turn.before turn.after) (sym is.memories) (memory_turns k u h),
        subst (λ ms. HasUsedJoin (memory_in ms u.alpha) u.join) (sym is.memories) used.joins,
      )

  pub added : AreAdded given turn.added b
  added k u h i f came =
      let one = came_is u.pattern (memory_at turn.network u.alpha) turn.before turn.after i f (memory_turns k u h) (subst (λ ms. came_in (memory_in ms u.alpha) i ≡ Some f) is.memories came) in
      is.turning.comes f one.0 one.1

  pub before : IsBefore given turn.before turn.after b
  before = record {
    rising = is.turning.rising;
    rising_now = is.turning.rising_now;
    over = subst (λ ms. IsBranchOver (were_facts ms) turn.before b) (sym is.memories) ready.over;
    turned = turned;
  }

  -- it is changed
  pub changed : (new : Branch T) (delta delta' : Delta) (meter meter' : ℕ) → branch_elements new ≡ branch_elements b → HasSameAlphas b new → IsBranchOver (live_facts given) turn.after new
      → Tells delta delta' (keys_in_branch rule n (branch_elements b) turn.before) (keys_in_branch rule n (branch_elements b) turn.after)
      → meter' + shape_tests turn.added (branch_elements b) ≤ meter + branch_probes turn.added turn.before turn.after (branch_elements b)
      → IsBranchChanged branch_elements (IsBranchDone turn rule) turn.before turn.after (join_tests turn) rule n b new delta delta' meter meter'
  changed new delta delta' meter meter' stay same over told probes = record {
    stay = stay;
    is = record {
      over = subst (λ ms. IsBranchOver (live_facts ms) turn.after new) is.memories over;
      entered = entered_alike turn.network rule n b new same ready.entered;
    };
    told = told;
    paid = omega (arith, probes);
  }

  -- the branch has no place that is found
  module _ (stays : (facts facts' : Facts) (fs : IndexedFacts) (b : Branch T) → IsBranchOver facts fs b → ((k : ℕ) (u : AlphaUse) → HasAlpha b k u → (n : ℕ) → facts u.alpha n ≡ facts' u.alpha n)
      → IsBranchOver facts' fs b)
      (over : (facts : Facts) (fs fs' : IndexedFacts) (f : ℕ × FactValue) (b : Branch T) → IsRising fs → IsRising fs' → DifferBy f fs fs'
      → ((k : ℕ) (u : AlphaUse) → HasAlpha b k u → is_selected u.pattern f.1 ≡ false) → IsBranchOver facts fs b → IsBranchOver facts fs' b)
      (matches : (facts : Facts) (fs fs' : IndexedFacts) (f : ℕ × FactValue) (b : Branch T) → IsRising fs → IsRising fs' → DifferBy f fs fs'
      → ((k : ℕ) (u : AlphaUse) → HasAlpha b k u → is_selected u.pattern f.1 ≡ false) → IsBranchOver facts fs b → matches_of (branch_elements b) fs ≡ matches_of (branch_elements b) fs')
      (none : (k : ℕ) → In (node_at rule n k) found → ⊥) where
    at_rest : (k : ℕ) (u : AlphaUse) → HasAlpha b k u → IsAtRest (memory_at turn.network u.alpha)
    at_rest k u h = elim (is.changed u.alpha u.pattern (node_at rule n k) (ready.entered k u h).shape) as (λ _. IsAtRest (memory_at turn.network u.alpha)) [
      | inl rest ↦ rest
      | inr i ↦ absurd (none k i)
    ]

    no_shape : (k : ℕ) (u : AlphaUse) → HasAlpha b k u → is_selected u.pattern turn.fact.1 ≡ false
    no_shape k u h = untaken u.pattern (memory_at turn.network u.alpha) turn.before turn.after turn.fact (memory_turns k u h) is.turning.differ (at_rest k u h)

    pub unconcerned : IsBranchUnconcerned branch_elements (IsBranchReady turn rule) (IsBranchDone turn rule) turn.before turn.after (join_tests turn) rule n b
    unconcerned = record {
      is = record {
        over = over (live_facts turn.network.memories) turn.before turn.after turn.fact b is.turning.rising is.turning.rising_now is.turning.differ no_shape
            (stays (were_facts turn.network.memories) (live_facts turn.network.memories) turn.before b ready.over (λ k u h i. same_at_rest (memory_at turn.network u.alpha) i (at_rest k u h)));
        entered = ready.entered;
      };
      keys = ap (map (key_of rule n)) (matches (were_facts turn.network.memories) turn.before turn.after turn.fact b is.turning.rising is.turning.rising_now is.turning.differ no_shape ready.over);
    }
