-- Branches of a rule that are filled one after another.
use Rattle.std.proofs.Common.{◌≡◌, ◌∙◌, ◌<◌, ◌≤◌, ◌+◌, ◌++◌, ◌∷◌, ℕ, List, [], None, Some, ap, append_assoc, arith, drop, length, refl, set, subst, sym}
use Rattle.std.proofs.lemmas.List.{append-nil}
use Rattle.std.proofs.lemmas.Option.{slice_get_past}
use Rattle.std.specs.List.{slice_get}
use Rattle.cb_alpha_network.specs.Networks.{AlphaNetworkValue}
use Rattle.cb_branch.specs.Branches.{HasSameAlphas, IsBranchOver, IsEntered, branch_elements, branch_numbers}
use Rattle.cb_branch.specs.Alphas.{live_facts}
use Rattle.cb_branch.specs.declared.branch.Branch.{Branch}
use Rattle.cb_facts.specs.FactLists.{IndexedFacts}
use Rattle.cb_matches.specs.Changes.{AddsNumbers, IsNumber}
use Rattle.cb_matches.specs.Keys.{KeyValue}
use Rattle.cb_rete.proofs.BranchNumbers.{IsNumberBelow, below_in, set_below, set_here}
use Rattle.cb_rete.proofs.Entered.{entered_alike}
use Rattle.cb_rete.proofs.Lists.{got_before, set_each, set_more}
use Rattle.cb_rete.proofs.Numbers.{adds_none, adds_on, adds_weaker}
use Rattle.cb_rete.specs.Filling.{AreBranchesFilled}
use Rattle.cb_rete.specs.Numbers.{IsNumberInBranches}
use Rattle.cb_rete.specs.Rules.{AreBranchesEntered, kept_branches}
use Rattle.cb_rule_keys.proofs.Branches.{dropped_at, got_mapped, none_at, none_mapped}
use Rattle.cb_rule_keys.proofs.Networks.{branch_keys_more}
use Rattle.cb_rule_keys.specs.Keys.{branch_keys, keys_in_branch}
use Rattle.cb_rules.specs.Elements.{Elements}

-- what is told of one branch, and what is left to be told
pub branch_told : (r i : ℕ) (fs : IndexedFacts) (bs : List Elements) (es : Elements) → drop i bs ≡ es ∷ drop (i + 1) bs → (ks ls all : List KeyValue)
    → ks ++ branch_keys r i (drop i bs) fs ≡ all → ls ≡ ks ++ keys_in_branch r i es fs → ls ++ branch_keys r (i + 1) (drop (i + 1) bs) fs ≡ all
branch_told r i fs bs es d ks ls all h e =
    ap (λ it. it ++ branch_keys r (i + 1) (drop (i + 1) bs) fs) e
    ∙ (append_assoc ks (keys_in_branch r i es fs) (branch_keys r (i + 1) (drop (i + 1) bs) fs)
    ∙ (ap (λ it. ks ++ it) (sym (ap (λ it. branch_keys r i it fs) d ∙ branch_keys_more r i es (drop (i + 1) bs) fs)) ∙ h))

module _ {T : Type 0} (v : AlphaNetworkValue) (fs : IndexedFacts) (rule : ℕ) where
  -- those before a place are filled
  pub record AreFilledTo (at : ℕ) (elements : List Elements) (bs : List (Branch T)) (told told' : List KeyValue) (numbers numbers' : List ℕ) : Type 0 where
    pub done : (k : ℕ) (b : Branch T) → k < at → slice_get bs k ≡ Some b → IsBranchOver (live_facts v.memories) fs b
    pub entered : AreBranchesEntered v rule bs
    pub come : told' ++ branch_keys rule at (drop at elements) fs ≡ told ++ branch_keys rule 0 elements fs
    pub told_numbers : AddsNumbers (IsNumberBelow rule at bs) told told' numbers numbers'

  pub filled_none : (bs : List (Branch T)) (told : List KeyValue) (numbers : List ℕ) → AreBranchesEntered v rule bs → AreFilledTo 0 (kept_branches bs) bs told told numbers numbers
  filled_none bs told numbers entered = record { done = λ k b l h. absurd (omega (arith, l)); entered = entered; come = refl; told_numbers = adds_none (IsNumberBelow rule 0 bs) told numbers }

  module _ (at : ℕ) (elements : List Elements) (bs : List (Branch T)) (old new : Branch T) (told ks ls : List KeyValue) (numbers ns ms : List ℕ) (got : slice_get bs at ≡ Some old) (stays : kept_branches bs ≡ elements)
      (was : AreFilledTo at elements bs told ks numbers ns) where
    pub filled_more : HasSameAlphas old new → IsBranchOver (live_facts v.memories) fs new → ls ≡ ks ++ keys_in_branch rule at (branch_elements old) fs → AddsNumbers (IsNumber (branch_numbers rule at new)) ks ls ns ms
        → AreFilledTo (at + 1) elements (set bs at new) told ls numbers ms
    filled_more same over come adds = record {
      done = set_more (λ k b. IsBranchOver (live_facts v.memories) fs b) bs at old new got over was.done;
      entered = set_each (λ k b. IsEntered v rule k b) bs at old new got (entered_alike v rule at old new same (was.entered at old got)) was.entered;
      come = branch_told rule at fs elements (branch_elements old) (dropped_at elements at (branch_elements old) (subst (λ es. slice_get es at ≡ Some (branch_elements old)) stays (got_mapped branch_elements bs at old got)))
          ks ls (told ++ branch_keys rule 0 elements fs) was.come come;
      told_numbers = adds_on (IsNumberBelow rule (at + 1) (set bs at new)) told ks ls numbers ns ms
          (adds_weaker (IsNumberBelow rule at bs) (IsNumberBelow rule (at + 1) (set bs at new)) (set_below rule bs at old new got at (omega arith)) told ks numbers ns was.told_numbers)
          (adds_weaker (IsNumber (branch_numbers rule at new)) (IsNumberBelow rule (at + 1) (set bs at new)) (set_here rule bs at old new got) ks ls ns ms adds);
    }

  pub filled_all : (at : ℕ) (elements : List Elements) (bs : List (Branch T)) (told ks : List KeyValue) (numbers ns : List ℕ) → length bs ≤ at → kept_branches bs ≡ elements → AreFilledTo at elements bs told ks numbers ns
      → AreBranchesFilled v fs rule elements bs told ks numbers ns
  filled_all at elements bs told ks numbers ns end stays was = record {
    over = λ j b h. was.done j b (got_before bs at j b end h) h;
    entered = was.entered;
    come = sym (append-nil ks) ∙ (ap (λ it. ks ++ branch_keys rule at it fs) (sym none) ∙ was.come);
    told_numbers = adds_weaker (IsNumberBelow rule at bs) (IsNumberInBranches rule bs) (below_in rule at bs) told ks numbers ns was.told_numbers;
  }
    where
      none : drop at elements ≡ []
      none = none_at elements at (subst (λ es. slice_get es at ≡ None) stays (none_mapped branch_elements bs at (slice_get_past bs at end)))
