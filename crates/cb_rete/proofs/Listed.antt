-- The numbers of the matches of rules in a list, and found by rule and branch.
use Rattle.std.proofs.Common.{◌≡◌, ◌∙◌, ◌+◌, ◌++◌, ◌∷◌, ℕ, zero, suc, List, [], Option, Some, None, ap, arith, inl, inr, map, nat_cmp, refl, subst, sym}
use Rattle.std.specs.List.{slice_get}
use Rattle.std.specs.List.Sorted.{IsStrictlySortedBy}
use Rattle.std.specs.Map.{keys_of, values_of}
use Rattle.cb_beta.specs.BetaMemories.{BetaMemoryValue}
use Rattle.cb_branch.specs.Branches.{branch_numbers, end_numbers}
use Rattle.cb_branch.specs.declared.branch.Branch.{Branch}
use Rattle.cb_matches.proofs.Lists.{flat_in, in_either, in_flat, in_left, in_map, in_right}
use Rattle.cb_matches.specs.Chains.{In}
use Rattle.cb_matches.specs.Changes.{IsNumber}
use Rattle.cb_matches.specs.Keys.{KeyValue}
use Rattle.cb_matches.specs.Matches.{Partial}
use Rattle.cb_rete.proofs.Entries.{entry_once}
use Rattle.cb_rete.proofs.Lists.{some_is}
use Rattle.cb_rete.proofs.Numbers.{IsOnce}
use Rattle.cb_rete.specs.Numbers.{IsNumberInBranches, IsNumberInRules, branches_numbers, kept_numbers, rule_numbers}
use Rattle.cb_rete.specs.Rules.{kept_rule}
use Rattle.cb_rete.specs.declared.rule.Rule.{Rule}
use Rattle.cb_rule_keys.proofs.Numbered.{in_value, value_in}
use Rattle.cb_rule_keys.specs.Keys.{key_of}
use Rattle.cb_rule_keys.specs.Numbers.{AreNamed}
use Rattle.cb_token_lists.specs.Partials.{partial_at}
use Rattle.cb_token_lists.specs.Turns.{numbers}

-- whose match it is
own_key : (rule number : ℕ) (at : ℕ → Partial) (o : Option BetaMemoryValue) (k : KeyValue) (n : ℕ) → IsNumber (end_numbers rule number at o) k n → (k.rule ≡ rule) × (k.branch ≡ number)
own_key rule number at None k n h = absurd h
own_key rule number at (Some m) k n h =
    let e = in_map (λ (i : ℕ). (key_of rule number (at i), i)) (k, n) (numbers m) h in
    (ap (λ (it : KeyValue × ℕ). it.0.rule) e.2, ap (λ (it : KeyValue × ℕ). it.0.branch) e.2)

module _ {T : Type 0} where
  branch_key : (rule number : ℕ) (b : Branch T) (k : KeyValue) (n : ℕ) → IsNumber (branch_numbers rule number b) k n → (k.rule ≡ rule) × (k.branch ≡ number)
  branch_key rule number b k n h = own_key rule number (partial_at b.sources.items b.lists.items b.last) (slice_get b.lists.items b.last) k n h

  -- among branches that stand from a place on
  pub record IsNumberFrom (rule at : ℕ) (bs : List (Branch T)) (k : KeyValue) (n : ℕ) : Type 0 where
    pub place : ℕ
    pub branch : Branch T
    pub got : slice_get bs place ≡ Some branch
    pub has : IsNumber (branch_numbers rule (at + place) branch) k n

  found_from : (rule at : ℕ) (bs : List (Branch T)) (k : KeyValue) (n : ℕ) → IsNumber (branches_numbers rule at bs) k n → IsNumberFrom rule at bs k n
  found_from rule at [] k n h = absurd h
  found_from rule at (b ∷ bs) k n h =
      elim (in_either (k, n) (branch_numbers rule at b) (branches_numbers rule (at + 1) bs) h) as (λ _. IsNumberFrom rule at (b ∷ bs) k n) [
        | inl i ↦ let e : at ≡ at + 0 = omega arith in
            record { place = 0; branch = b; got = refl; has = subst (λ (m : ℕ). IsNumber (branch_numbers rule m b) k n) e i }
        | inr i ↦ let more = found_from rule (at + 1) bs k n i in
            let e : (at + 1) + more.place ≡ at + suc more.place = omega arith in
            record { place = suc more.place; branch = more.branch; got = more.got; has = subst (λ (m : ℕ). IsNumber (branch_numbers rule m more.branch) k n) e more.has }
      ]

  listed_from : (rule at : ℕ) (bs : List (Branch T)) (k : KeyValue) (n place : ℕ) (b : Branch T) → slice_get bs place ≡ Some b → IsNumber (branch_numbers rule (at + place) b) k n → IsNumber (branches_numbers rule at bs) k n
  listed_from rule at [] k n place b got h = cc
  listed_from rule at (c ∷ bs) k n zero b got h =
      let same : b ≡ c = some_is b c (sym got) in
      let e : at + 0 ≡ at = omega arith in
      in_left (k, n) (branch_numbers rule at c) (branches_numbers rule (at + 1) bs)
      (subst (λ (it : Branch T). IsNumber (branch_numbers rule at it) k n) same (subst (λ (m : ℕ). IsNumber (branch_numbers rule m b) k n) e h))
  listed_from rule at (c ∷ bs) k n (suc place) b got h =
      let e : at + suc place ≡ (at + 1) + place = omega arith in
      in_right (k, n) (branch_numbers rule at c) (branches_numbers rule (at + 1) bs)
      (listed_from rule (at + 1) bs k n place b got (subst (λ (m : ℕ). IsNumber (branch_numbers rule m b) k n) e h))

  -- the list of rules has what their branches have
  pub numbers_found : (es : List (ℕ × Rule T)) (k : KeyValue) (n : ℕ) → IsNumber (kept_numbers (values_of es)) k n → IsNumberInRules es k n
  numbers_found es k n h =
      let at = in_flat rule_numbers (k, n) (values_of es) h in
      let e = value_in es at.0 at.1 in
      let here = found_from e.0.1.id 0 e.0.1.branches.items k n (subst (λ (r : Rule T). IsNumber (rule_numbers r) k n) e.2 at.2) in
      let place : 0 + here.place ≡ here.place = omega arith in
      record {
        entry = e.0;
        there = e.1;
        has = record {
          place = here.place;
          branch = here.branch;
          got = here.got;
          has = subst (λ (m : ℕ). IsNumber (branch_numbers e.0.1.id m here.branch) k n) place here.has;
        };
      }

  pub numbers_listed : (es : List (ℕ × Rule T)) (k : KeyValue) (n : ℕ) → IsNumberInRules es k n → IsNumber (kept_numbers (values_of es)) k n
  numbers_listed es k n h =
      let r : Rule T = h.entry.1 in
      let place : h.has.place ≡ 0 + h.has.place = omega arith in
      flat_in rule_numbers (k, n) (values_of es) r (in_value es h.entry h.there)
      (listed_from r.id 0 r.branches.items k n h.has.place h.has.branch h.has.got (subst (λ (m : ℕ). IsNumber (branch_numbers r.id m h.has.branch) k n) place h.has.has))

  -- where no match of a branch has two numbers, none of all has
  module _ (es : List (ℕ × Rule T)) (sorted : IsStrictlySortedBy nat_cmp (keys_of es)) (named : AreNamed kept_rule es)
      (each : (e : ℕ × Rule T) → In e es → (j : ℕ) (b : Branch T) → slice_get e.1.branches.items j ≡ Some b → IsOnce (IsNumber (branch_numbers e.1.id j b))) where
    same_entry : (k : KeyValue) (m n : ℕ) (x : IsNumberInRules es k m) (y : IsNumberInRules es k n) → y.entry ≡ x.entry
    same_entry k m n x y =
        let number : y.entry.1.id ≡ x.entry.1.id = sym (branch_key y.entry.1.id y.has.place y.has.branch k n y.has.has).0 ∙ (branch_key x.entry.1.id x.has.place x.has.branch k m x.has.has).0 in
        entry_once es sorted y.entry x.entry y.there x.there (named y.entry y.there ∙ (number ∙ sym (named x.entry x.there)))

    once_in : (e : ℕ × Rule T) → In e es → IsOnce (IsNumberInBranches e.1.id e.1.branches.items)
    once_in e i k m n x y =
        let id : ℕ = e.1.id in
        let place : y.place ≡ x.place = sym (branch_key id y.place y.branch k n y.has).1 ∙ (branch_key id x.place x.branch k m x.has).1 in
        let same : y.branch ≡ x.branch = some_is y.branch x.branch (sym y.got ∙ (ap (slice_get e.1.branches.items) place ∙ x.got)) in
        each e i x.place x.branch x.got k m n x.has
        (subst (λ (it : Branch T). IsNumber (branch_numbers id x.place it) k n) same (subst (λ (p : ℕ). IsNumber (branch_numbers id p y.branch) k n) place y.has))

    pub rules_once : IsOnce (IsNumberInRules es)
    rules_once k m n x y = once_in x.entry x.there k m n x.has (subst (λ (e : ℕ × Rule T). IsNumberInBranches e.1.id e.1.branches.items k n) (same_entry k m n x y) y.has)

    pub kept_once : IsOnce (IsNumber (kept_numbers (values_of es)))
    kept_once k m n h g = rules_once k m n (numbers_found es k m h) (numbers_found es k n g)
