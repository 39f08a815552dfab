-- The numbers of the matches of rules that are changed one after another.
use Rattle.std.proofs.Common.{◌≡◌, ◌≢◌, ◌<◌, ◌≤◌, ◌+◌, ◌⊎◌, ℕ, List, Some, ap, arith, inl, inr, nat_cmp, subst}
use Rattle.std.proofs.lemmas.Bool.{cases_eq}
use Rattle.std.specs.BTreeMap.{is_at}
use Rattle.std.specs.List.Sorted.{IsStrictlySortedBy}
use Rattle.std.specs.Map.{keys_of, lookup, set_value}
use Rattle.cb_matches.specs.Chains.{In}
use Rattle.cb_matches.specs.Changes.{TellsMoreNumbers}
use Rattle.cb_matches.specs.Keys.{KeyValue}
use Rattle.cb_matches.specs.declared.delta.Delta.{Delta}
use Rattle.cb_rete.proofs.Entries.{entry_once, set_other, set_there}
use Rattle.cb_rete.proofs.Numbers.{TellsSoFar, tells_all, tells_done, tells_none, tells_on}
use Rattle.cb_rete.specs.Numbers.{IsNumberInBranches, IsNumberInRules}
use Rattle.cb_rete.specs.declared.rule.Rule.{Rule}
use Rattle.cb_rule_keys.proofs.Numbered.{found_in, set_in}

module _ {T : Type 0} where
  -- the numbers of a rule
  abbrev pub IsNumberIn : Rule T → KeyValue → ℕ → Type 0
  IsNumberIn r = IsNumberInBranches r.id r.branches.items

  -- the match is one of a rule before this number
  pub record IsNumberInRulesBelow (below : ℕ) (es : List (ℕ × Rule T)) (k : KeyValue) (n : ℕ) : Type 0 where
    pub entry : ℕ × Rule T
    pub there : In entry es
    pub low : entry.0 < below
    pub has : IsNumberIn entry.1 k n

  below_in : (below : ℕ) (es : List (ℕ × Rule T)) (k : KeyValue) (n : ℕ) → IsNumberInRulesBelow below es k n → IsNumberInRules es k n
  below_in below es k n h = record { entry = h.entry; there = h.there; has = h.has }

  below_more : (below more : ℕ) (es : List (ℕ × Rule T)) → below ≤ more → (k : KeyValue) (n : ℕ) → IsNumberInRulesBelow below es k n → IsNumberInRulesBelow more es k n
  below_more below more es up k n h = record { entry = h.entry; there = h.there; low = let l = h.low in omega (arith, l, up); has = h.has }

  -- the rule with a number becomes another
  module _ (id : ℕ) (r new : Rule T) (es : List (ℕ × Rule T)) (sorted : IsStrictlySortedBy nat_cmp (keys_of es)) (got : lookup (is_at (nat_cmp id)) es ≡ Some r) where
    set_has : (k : KeyValue) (n : ℕ) → IsNumberIn new k n → IsNumberInRules (set_value (is_at (nat_cmp id)) es new) k n
    set_has k n h = record { entry = (id, new); there = set_there id new r es got; has = h }

    set_here : (k : KeyValue) (n : ℕ) → IsNumberIn new k n → IsNumberInRulesBelow (id + 1) (set_value (is_at (nat_cmp id)) es new) k n
    set_here k n h = record { entry = (id, new); there = set_there id new r es got; low = omega arith; has = h }

    set_below : (below : ℕ) → below ≤ id → (k : KeyValue) (n : ℕ) → IsNumberInRulesBelow below es k n → IsNumberInRulesBelow (id + 1) (set_value (is_at (nat_cmp id)) es new) k n
    set_below below up k n h =
        let l = h.low in
        let ne : h.entry.0 ≢ id = omega (arith, l, up) in
        record { entry = h.entry; there = set_other id new es h.entry h.there ne; low = omega (arith, l, up); has = h.has }

    was_here : (k : KeyValue) (n : ℕ) (h : IsNumberInRules es k n) → h.entry.0 ≡ id → IsNumberIn r k n
    was_here k n h e = subst (λ (it : ℕ × Rule T). IsNumberIn it.1 k n) (entry_once es sorted h.entry (id, r) h.there (found_in id es r got) e) h.has

    set_either : (k : KeyValue) (n : ℕ) → IsNumberInRules es k n → IsNumberIn r k n ⊎ IsNumberInRules (set_value (is_at (nat_cmp id)) es new) k n
    set_either k n h = elim (cases_eq h.entry.0 id) as (λ _. IsNumberIn r k n ⊎ IsNumberInRules (set_value (is_at (nat_cmp id)) es new) k n) [
      | inl e ↦ inl (was_here k n h e)
      | inr ne ↦ inr (record { entry = h.entry; there = set_other id new es h.entry h.there ne; has = h.has })
    ]

  -- rules are changed up to a number, and the others are as they were
  pub record AreRulesToldTo (below : ℕ) (old es : List (ℕ × Rule T)) (delta delta' : Delta) : Type 0 where
    pub same : (e : ℕ × Rule T) → In e es → below ≤ e.0 → In e old
    pub told : TellsSoFar (IsNumberInRules old) (IsNumberInRules es) (IsNumberInRulesBelow below es) delta delta'

  pub rules_told_none : (es : List (ℕ × Rule T)) (delta : Delta) → AreRulesToldTo 0 es es delta delta
  rules_told_none es delta = record { same = λ e i l. i; told = tells_none (IsNumberInRules es) (IsNumberInRulesBelow 0 es) delta }

  module _ (below : ℕ) (old es : List (ℕ × Rule T)) (delta delta' : Delta) (was : AreRulesToldTo below old es delta delta') where
    pub rules_told_further : (more : ℕ) → below ≤ more → AreRulesToldTo more old es delta delta'
    rules_told_further more up = record {
      same = λ e i l. was.same e i (omega (arith, l, up));
      told = tells_done (IsNumberInRules old) (IsNumberInRules es) (IsNumberInRulesBelow below es) (IsNumberInRulesBelow more es) delta delta' (below_more below more es up) was.told;
    }

    pub rules_told_all : TellsMoreNumbers (IsNumberInRules old) (IsNumberInRules es) delta delta'
    rules_told_all = tells_all (IsNumberInRules old) (IsNumberInRules es) (IsNumberInRulesBelow below es) delta delta' (below_in below es) was.told

    -- one more is changed
    module _ (id : ℕ) (r new : Rule T) (delta'' : Delta) (up : below ≤ id) (sorted : IsStrictlySortedBy nat_cmp (keys_of es)) (got : lookup (is_at (nat_cmp id)) es ≡ Some r)
        (step : TellsMoreNumbers (IsNumberIn r) (IsNumberIn new) delta' delta'') where
      still : (e : ℕ × Rule T) → In e (set_value (is_at (nat_cmp id)) es new) → id + 1 ≤ e.0 → In e old
      still e i l = elim (set_in id new es sorted e i) as (λ _. In e old) [
        | inl same ↦ absurd (let number : e.0 ≡ id = ap (λ (it : ℕ × Rule T). it.0) same in omega (arith, l, number))
        | inr other ↦ was.same e other.0 (omega (arith, l, up))
      ]

      pub rules_told_one : AreRulesToldTo (id + 1) old (set_value (is_at (nat_cmp id)) es new) delta delta''
      rules_told_one = record {
        same = still;
        told = tells_on (IsNumberInRules old) (IsNumberInRules es) (IsNumberInRules (set_value (is_at (nat_cmp id)) es new)) (IsNumberInRulesBelow below es)
            (IsNumberInRulesBelow (id + 1) (set_value (is_at (nat_cmp id)) es new)) (IsNumberIn r) (IsNumberIn new) delta delta' delta''
            (λ k n h. record { entry = (id, r); there = was.same (id, r) (found_in id es r got) up; has = h })
            (set_below id r new es sorted got below up) (set_here id r new es sorted got) (set_has id r new es sorted got) (set_either id r new es sorted got) was.told step;
      }
