-- The branches of a rule that are changed one after another, by the places that are found.
use Rattle.std.proofs.Common.{◌≡◌, ◌∙◌, ◌<◌, ◌≤◌, ◌+◌, ◌++◌, ◌⊎◌, ℕ, List, Option, Some, None, arith, get_or, inl, inr, length, refl, subst, sym}
use Rattle.std.proofs.lemmas.Bool.{cases_lt}
use Rattle.std.specs.List.{slice_get}
use Rattle.std.specs.List.Sorted.{IsStrictlySortedBy}
use Rattle.cb_alpha_network.specs.Places.{place_cmp}
use Rattle.cb_alpha_network.specs.declared.node_place.NodePlace.{NodePlace}
use Rattle.cb_branch.specs.Branches.{branch_elements}
use Rattle.cb_branch.specs.declared.branch.Branch.{Branch}
use Rattle.cb_matches.specs.Changes.{come_of}
use Rattle.cb_matches.specs.declared.delta.Delta.{Delta}
use Rattle.cb_rete.proofs.BranchNumbers.{AreToldTo, told_all, told_further, told_none, told_one}
use Rattle.cb_rete.proofs.Lists.{got_before}
use Rattle.cb_rete.proofs.FoundPlaces.{branch_of, branches_rise, no_place}
use Rattle.cb_rete.specs.Changing.{AreBranchesChanged, AreBranchesReady, IsBranchChangedAt, IsBranchChangedFrom, IsBranchDone, IsBranchReady, TurnValue, join_tests}
use Rattle.cb_rete.specs.Found.{AreAllOfRule, AreOfBranch, IsOtherBranch}
use Rattle.cb_rete.specs.Rules.{kept_branches}
use Rattle.cb_rule_keys.proofs.Branches.{AreBranchesChanged as AreDoneTo, IsBranchUnconcerned, branches_left, branches_lost, branches_paid, branches_told, change_one, pass_one, pass_to}
use Rattle.cb_rule_keys.proofs.Ranged.{IsBound, begins, bound_below, goes_on, none_after, none_between}
use Rattle.cb_rule_keys.specs.Keys.{branch_keys}
use Rattle.cb_rule_keys.specs.Sums.{branches_sum}

module _ {T : Type 0} (turn : TurnValue) (found : List NodePlace) (rule from end : ℕ) where
  -- up to a number, which is not above the numbers of the places that are left, the branches have turned
  pub record AreTurnedTo (at : ℕ) (old bs : List (Branch T)) (delta delta' : Delta) (meter meter' : ℕ) : Type 0 where
    pub below : ℕ
    pub bound : IsBound branch_of found from end at below
    pub turned : AreDoneTo branch_elements (IsBranchReady turn rule) (IsBranchDone turn rule) turn.before turn.after (join_tests turn) rule (kept_branches old) bs below
        delta'.gone.items (delta.gone.items ++ come_of (branch_keys rule 0 (kept_branches old) turn.after) (branch_keys rule 0 (kept_branches old) turn.before))
        delta'.come.items (delta.come.items ++ come_of (branch_keys rule 0 (kept_branches old) turn.before) (branch_keys rule 0 (kept_branches old) turn.after))
        meter' (meter + branches_sum (join_tests turn) (kept_branches old))
    pub numbers : AreToldTo rule below old bs delta delta'

  pub turned_none : (bs : List (Branch T)) (delta : Delta) (meter : ℕ) → AreBranchesReady turn rule bs → AreTurnedTo from bs bs delta delta meter meter
  turned_none bs delta meter ready = record {
    below = 0;
    bound = begins branch_of found from end;
    turned = branches_left branch_elements (IsBranchReady turn rule) (IsBranchDone turn rule) turn.before turn.after (join_tests turn) rule bs ready delta.gone.items delta.come.items meter;
    numbers = told_none rule bs delta;
  }

  module _ (sorted : IsStrictlySortedBy place_cmp found) (of : AreAllOfRule found from end rule)
      (unconcerned : (n : ℕ) (b : Branch T) → IsBranchReady turn rule n b → ((i : ℕ) → from ≤ i → i < end → branch_of (get_or found i no_place) ≡ n → ⊥)
      → IsBranchUnconcerned branch_elements (IsBranchReady turn rule) (IsBranchDone turn rule) turn.before turn.after (join_tests turn) rule n b)
      (old bs : List (Branch T)) (delta delta' : Delta) (meter meter' at : ℕ) (was : AreTurnedTo at old bs delta delta' meter meter') where
    -- up to the branch that is found next
    pub up_to_next : at < end
        → AreDoneTo branch_elements (IsBranchReady turn rule) (IsBranchDone turn rule) turn.before turn.after (join_tests turn) rule (kept_branches old) bs (get_or found at no_place).branch
        delta'.gone.items (delta.gone.items ++ come_of (branch_keys rule 0 (kept_branches old) turn.after) (branch_keys rule 0 (kept_branches old) turn.before))
        delta'.come.items (delta.come.items ++ come_of (branch_keys rule 0 (kept_branches old) turn.before) (branch_keys rule 0 (kept_branches old) turn.after))
        meter' (meter + branches_sum (join_tests turn) (kept_branches old))
    up_to_next within =
        pass_to branch_elements (IsBranchReady turn rule) (IsBranchDone turn rule) turn.before turn.after (join_tests turn) rule (kept_branches old) _ _ _ bs was.below (get_or found at no_place).branch
        delta'.gone.items delta'.come.items meter'
        (bound_below branch_of found from end of.within (branches_rise found sorted from end rule of) at was.below was.bound no_place within)
        (λ k b low high h ready. unconcerned k b ready
        (λ i l m e. none_between branch_of found from end of.within (branches_rise found sorted from end rule of) at was.below was.bound no_place within k low high i l m e))
        was.turned

    finish : (b : ℕ) → length bs ≤ b
        → AreDoneTo branch_elements (IsBranchReady turn rule) (IsBranchDone turn rule) turn.before turn.after (join_tests turn) rule (kept_branches old) bs b
        delta'.gone.items (delta.gone.items ++ come_of (branch_keys rule 0 (kept_branches old) turn.after) (branch_keys rule 0 (kept_branches old) turn.before))
        delta'.come.items (delta.come.items ++ come_of (branch_keys rule 0 (kept_branches old) turn.before) (branch_keys rule 0 (kept_branches old) turn.after))
        meter' (meter + branches_sum (join_tests turn) (kept_branches old))
        → AreBranchesChanged turn rule old bs delta delta' meter meter'
    finish b past done = record {
      stay = done.stays;
      done = λ n x h. done.done n x (got_before bs b n x past h) h;
      told = record {
        gone = branches_lost branch_elements (IsBranchReady turn rule) (IsBranchDone turn rule) turn.before turn.after (join_tests turn) rule (kept_branches old) _ _ _ bs b delta'.gone.items delta'.come.items meter' past done;
        come = branches_told branch_elements (IsBranchReady turn rule) (IsBranchDone turn rule) turn.before turn.after (join_tests turn) rule (kept_branches old) _ _ _ bs b delta'.gone.items delta'.come.items meter' past done;
      };
      paid = branches_paid branch_elements (IsBranchReady turn rule) (IsBranchDone turn rule) turn.before turn.after (join_tests turn) rule (kept_branches old) _ _ _ bs b delta'.gone.items delta'.come.items meter' past done;
      numbers = told_all rule was.below old bs delta delta' was.numbers;
    }

    -- and to the end
    by_length : end ≤ at → (was.below < length bs) ⊎ (length bs ≤ was.below) → AreBranchesChanged turn rule old bs delta delta' meter meter'
    by_length over (inr past) = finish was.below past was.turned
    by_length over (inl short) =
        finish (length bs) (omega arith)
        (pass_to branch_elements (IsBranchReady turn rule) (IsBranchDone turn rule) turn.before turn.after (join_tests turn) rule (kept_branches old) _ _ _ bs was.below (length bs)
        delta'.gone.items delta'.come.items meter' (omega (arith, short))
        (λ k b low high h ready. unconcerned k b ready
        (λ i l m e. none_after branch_of found from end of.within (branches_rise found sorted from end rule of) at was.below was.bound over k low i no_place l m e))
        was.turned)

    pub up_to_end : end ≤ at → AreBranchesChanged turn rule old bs delta delta' meter meter'
    up_to_end over = by_length over (cases_lt was.below (length bs))

    -- the branch that is found next is ready
    pub ready_next : at < end → (b : Branch T) → slice_get bs (get_or found at no_place).branch ≡ Some b → IsBranchReady turn rule (get_or found at no_place).branch b
    ready_next within b h = (up_to_next within).todo (get_or found at no_place).branch b (omega arith) h

    -- and is changed
    module _ (within : at < end) (bs' : List (Branch T)) (delta'' : Delta) (meter'' : ℕ) where
      below_next : was.below ≤ (get_or found at no_place).branch
      below_next = bound_below branch_of found from end of.within (branches_rise found sorted from end rule of) at was.below was.bound no_place within

      -- the branches are done up to the one behind it
      abbrev DoneWith : List (Branch T) → Delta → ℕ → Type 0
      DoneWith them it n =
          AreDoneTo branch_elements (IsBranchReady turn rule) (IsBranchDone turn rule) turn.before turn.after (join_tests turn) rule (kept_branches old) them ((get_or found at no_place).branch + 1)
          it.gone.items (delta.gone.items ++ come_of (branch_keys rule 0 (kept_branches old) turn.after) (branch_keys rule 0 (kept_branches old) turn.before))
          it.come.items (delta.come.items ++ come_of (branch_keys rule 0 (kept_branches old) turn.before) (branch_keys rule 0 (kept_branches old) turn.after))
          n (meter + branches_sum (join_tests turn) (kept_branches old))

      by_branch : (o : Option (Branch T)) → slice_get bs (get_or found at no_place).branch ≡ o → IsBranchChangedFrom turn rule (get_or found at no_place).branch o bs bs' delta' delta'' meter' meter'' → DoneWith bs' delta'' meter''
      by_branch (Some b) h now =
          subst (λ (them : List (Branch T)). DoneWith them delta'' meter'') (sym now.1)
          (change_one branch_elements (IsBranchReady turn rule) (IsBranchDone turn rule) turn.before turn.after (join_tests turn) rule (kept_branches old) _ _ _ bs (get_or found at no_place).branch b now.0 delta' delta'' meter' meter'' h now.2.changed (up_to_next within))
      by_branch None h now =
          subst (λ (n : ℕ). DoneWith bs' delta'' n) (sym now.2)
          (subst (λ (it : Delta). DoneWith bs' it meter') (sym now.1)
          (subst (λ (them : List (Branch T)). DoneWith them delta' meter') (sym now.0)
          (pass_one branch_elements (IsBranchReady turn rule) (IsBranchDone turn rule) turn.before turn.after (join_tests turn) rule (kept_branches old) _ _ _ bs (get_or found at no_place).branch delta'.gone.items delta'.come.items meter'
          (λ x i. let no : Some x ≡ None = sym i ∙ h in absurd cc) (up_to_next within))))

      numbers_by_branch : (o : Option (Branch T)) → slice_get bs (get_or found at no_place).branch ≡ o → IsBranchChangedFrom turn rule (get_or found at no_place).branch o bs bs' delta' delta'' meter' meter''
          → AreToldTo rule ((get_or found at no_place).branch + 1) old bs' delta delta''
      numbers_by_branch (Some b) h now =
          subst (λ (them : List (Branch T)). AreToldTo rule ((get_or found at no_place).branch + 1) old them delta delta'') (sym now.1)
          (told_one rule was.below old bs delta delta' was.numbers (get_or found at no_place).branch b now.0 delta'' below_next h now.2.numbers)
      numbers_by_branch None h now =
          subst (λ (it : Delta). AreToldTo rule ((get_or found at no_place).branch + 1) old bs' delta it) (sym now.1)
          (subst (λ (them : List (Branch T)). AreToldTo rule ((get_or found at no_place).branch + 1) old them delta delta') (sym now.0)
          (told_further rule was.below old bs delta delta' was.numbers ((get_or found at no_place).branch + 1) (let l = below_next in omega (arith, l))))

      pub turned_on : (next : ℕ) → at < next → next ≤ end → AreOfBranch found at next → IsOtherBranch found at next end
          → IsBranchChangedAt turn rule (get_or found at no_place).branch bs bs' delta' delta'' meter' meter'' → AreTurnedTo next old bs' delta delta'' meter meter''
      turned_on next up low passed stops now = record {
        below = (get_or found at no_place).branch + 1;
        bound = goes_on branch_of found from end of.within (branches_rise found sorted from end rule of) at was.below was.bound no_place within next up low passed stops;
        turned = by_branch (slice_get bs (get_or found at no_place).branch) refl now;
        numbers = numbers_by_branch (slice_get bs (get_or found at no_place).branch) refl now;
      }
