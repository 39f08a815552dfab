-- The numbers of matches where a branch or a rule is added to those before it, and where a rule is taken away.
use Rattle.std.proofs.Common.{◌≡◌, ◌≢◌, ◌∙◌, ◌+◌, ◌++◌, ◌∷◌, ℕ, zero, suc, List, [], Some, arith, cond, inl, inr, nat_cmp, nat_eq, refl, subst, sym}
use Rattle.std.proofs.lemmas.Bool.{cases_eq}
use Rattle.std.proofs.lemmas.Bool.Decides.{Decides-eqb}
use Rattle.std.specs.BTreeMap.{is_at}
use Rattle.std.specs.List.{flat_map, slice_get}
use Rattle.std.specs.Map.{remove_entry, values_of}
use Rattle.cb_branch.specs.Branches.{branch_elements, branch_numbers}
use Rattle.cb_branch.specs.declared.branch.Branch.{Branch}
use Rattle.cb_facts.specs.FactLists.{IndexedFacts}
use Rattle.cb_matches.proofs.Lists.{flat_in, in_left, in_right, map_in}
use Rattle.cb_matches.specs.Chains.{In}
use Rattle.cb_matches.specs.Changes.{AddsNumbers, IsNumber}
use Rattle.cb_matches.specs.Keys.{KeyValue}
use Rattle.cb_rete.proofs.BranchNumbers.{IsNumberBelow, below_more}
use Rattle.cb_rete.proofs.Entries.{left_other}
use Rattle.cb_rete.proofs.Lists.{some_is}
use Rattle.cb_rete.proofs.Numbers.{Implies, adds_on, adds_weaker}
use Rattle.cb_rete.specs.Numbers.{IsNumberInBranches, IsNumberInRules}
use Rattle.cb_rete.specs.Rules.{kept_branches, kept_rule, kept_rules}
use Rattle.cb_rete.specs.declared.rule.Rule.{Rule}
use Rattle.cb_rule_keys.proofs.Dropped.{dropped}
use Rattle.cb_rule_keys.proofs.Networks.{branch_keys_more}
use Rattle.cb_rule_keys.proofs.Numbered.{in_value}
use Rattle.cb_rule_keys.specs.Keys.{branch_keys, keys_in_branch}
use Rattle.cb_rule_keys.specs.Numbers.{AreNamed}

module _ {T : Type 0} where
  -- ---- one branch more is told

  pub numbers_more : (rule : ℕ) (bs : List (Branch T)) (i : ℕ) (b : Branch T) → slice_get bs i ≡ Some b → (ks ks' ks'' : List KeyValue) (ns ns' ns'' : List ℕ)
      → AddsNumbers (IsNumberBelow rule i bs) ks ks' ns ns' → AddsNumbers (IsNumber (branch_numbers rule i b)) ks' ks'' ns' ns'' → AddsNumbers (IsNumberBelow rule (i + 1) bs) ks ks'' ns ns''
  numbers_more rule bs i b got ks ks' ks'' ns ns' ns'' was more =
      adds_on (IsNumberBelow rule (i + 1) bs) ks ks' ks'' ns ns' ns''
      (adds_weaker (IsNumberBelow rule i bs) (IsNumberBelow rule (i + 1) bs) (below_more rule i (i + 1) bs (omega arith)) ks ks' ns ns' was)
      (adds_weaker (IsNumber (branch_numbers rule i b)) (IsNumberBelow rule (i + 1) bs) (λ k n h. record { place = i; branch = b; got = got; low = omega arith; has = h }) ks' ks'' ns' ns'' more)

  -- ---- a rule more

  module _ (id : ℕ) (r : Rule T) (es es' : List (ℕ × Rule T)) (last : es' ≡ es ++ (id, r) ∷ []) where
    pub numbers_with : Implies (IsNumberInRules es) (IsNumberInRules es')
    numbers_with k n h = record { entry = h.entry; there = subst (In h.entry) (sym last) (in_left h.entry es ((id, r) ∷ []) h.there); has = h.has }

    pub numbers_of_last : Implies (IsNumberInBranches r.id r.branches.items) (IsNumberInRules es')
    numbers_of_last k n h = record { entry = (id, r); there = subst (In (id, r)) (sym last) (in_right (id, r) es ((id, r) ∷ []) (inl refl)); has = h }

  -- ---- a rule taken away

  -- the keys of a branch are among those of its rule
  keys_in : (rule at : ℕ) (bs : List (Branch T)) (fs : IndexedFacts) (k : KeyValue) (place : ℕ) (b : Branch T) → slice_get bs place ≡ Some b → In k (keys_in_branch rule (at + place) (branch_elements b) fs)
      → In k (branch_keys rule at (kept_branches bs) fs)
  keys_in rule at [] fs k place b got i = cc
  keys_in rule at (c ∷ bs) fs k zero b got i =
      let same : b ≡ c = some_is b c (sym got) in
      let e : at + 0 ≡ at = omega arith in
      subst (In k) (sym (branch_keys_more rule at (branch_elements c) (kept_branches bs) fs))
      (in_left k (keys_in_branch rule at (branch_elements c) fs) (branch_keys rule (at + 1) (kept_branches bs) fs)
      (subst (λ (it : Branch T). In k (keys_in_branch rule at (branch_elements it) fs)) same (subst (λ (m : ℕ). In k (keys_in_branch rule m (branch_elements b) fs)) e i)))
  keys_in rule at (c ∷ bs) fs k (suc place) b got i =
      let e : at + suc place ≡ (at + 1) + place = omega arith in
      subst (In k) (sym (branch_keys_more rule at (branch_elements c) (kept_branches bs) fs))
      (in_right k (keys_in_branch rule at (branch_elements c) fs) (branch_keys rule (at + 1) (kept_branches bs) fs)
      (keys_in rule (at + 1) bs fs k place b got (subst (λ (m : ℕ). In k (keys_in_branch rule m (branch_elements b) fs)) e i)))

  module _ (id : ℕ) (es es' : List (ℕ × Rule T)) (out : es' ≡ remove_entry (is_at (nat_cmp id)) es) (named : AreNamed kept_rule es) (fs : IndexedFacts)
      (of_match : (e : ℕ × Rule T) → In e es → (j : ℕ) (b : Branch T) → slice_get e.1.branches.items j ≡ Some b → (k : KeyValue) (n : ℕ) → IsNumber (branch_numbers e.1.id j b) k n
      → In k (keys_in_branch e.1.id j (branch_elements b) fs)) where
    is_dropped : (k : KeyValue) (n : ℕ) (h : IsNumberInRules es k n) → h.entry.0 ≡ id → In k (flat_map (dropped id fs) (kept_rules (values_of es)))
    is_dropped k n h e =
        let r : Rule T = h.entry.1 in
        let number : id ≡ r.id = sym e ∙ named h.entry h.there in
        let place : h.has.place ≡ 0 + h.has.place = omega arith in
        let key = of_match h.entry h.there h.has.place h.has.branch h.has.got k n h.has.has in
        let own = keys_in r.id 0 r.branches.items fs k h.has.place h.has.branch h.has.got (subst (λ (m : ℕ). In k (keys_in_branch r.id m (branch_elements h.has.branch) fs)) place key) in
        flat_in (dropped id fs) k (kept_rules (values_of es)) (kept_rule r) (map_in kept_rule (values_of es) r (in_value es h.entry h.there))
        (subst (λ b. In k (cond b (branch_keys r.id 0 (kept_branches r.branches.items) fs) [])) (sym ((Decides-eqb id r.id).1 number)) own)

    -- a number whose key isn't told stays
    pub numbers_left : (k : KeyValue) (n : ℕ) → IsNumberInRules es k n → (In k (flat_map (dropped id fs) (kept_rules (values_of es))) → ⊥) → IsNumberInRules es' k n
    numbers_left k n h none = elim (cases_eq h.entry.0 id) as (λ _. IsNumberInRules es' k n) [
      | inl e ↦ absurd (none (is_dropped k n h e))
      | inr ne ↦ record { entry = h.entry; there = subst (In h.entry) (sym out) (left_other id es h.entry h.there ne); has = h.has }
    ]
