-- Rules that are changed one after another, by their numbers; those that a change doesn't concern are passed over.
use Rattle.std.proofs.Common.{◌≡◌, ◌≢◌, ◌∙◌, ◌+◌, ◌<◌, ◌≤◌, ◌++◌, ◌∷◌, ℕ, Bool, true, false, List, [], Some, None, ap, append_assoc, arith, cond, filter, inl, inr, map, nat_cmp, nat_le, refl, subst, sym}
use Rattle.std.proofs.lemmas.List.{append-nil}
use Rattle.std.proofs.lemmas.Map.{keys-set_value}
use Rattle.std.specs.BTreeMap.{is_at}
use Rattle.std.specs.List.Sorted.{IsStrictlySortedBy}
use Rattle.std.specs.Map.{keys_of, lookup, set_value, values_of}
use Rattle.cb_facts.specs.FactLists.{IndexedFacts}
use Rattle.cb_matches.proofs.Lists.{by_test, chain_filter, in_filter, map_in}
use Rattle.cb_matches.specs.Changes.{come_of}
use Rattle.cb_matches.specs.Chains.{Chain, In}
use Rattle.cb_matches.specs.Keys.{KeyValue}
use Rattle.cb_matches.specs.Networks.{Conditions}
use Rattle.cb_matches.specs.declared.delta.Delta.{Delta}
use Rattle.cb_rule_keys.proofs.KeyLists.{none_more}
use Rattle.cb_rule_keys.proofs.Networks.{rules_come_more}
use Rattle.cb_rule_keys.proofs.Numbered.{found_in, from_absent, from_there, in_value, kept_in, kept_set, none_in, numbers_own, numbers_rise, set_in}
use Rattle.cb_rule_keys.specs.Changing.{IsRuleChanged}
use Rattle.cb_rule_keys.specs.Keys.{branch_keys, rule_keys}
use Rattle.cb_rule_keys.specs.Numbers.{AreNamed, HaveOwnNumbers, Kept}
use Rattle.cb_rule_keys.specs.Sums.{branches_sum, rules_sum}
use Rattle.cb_rules.specs.Elements.{Elements}

abbrev pub is_left : (ℕ → Bool) → Kept → Bool
is_left left r = left r.0

-- ---- rules that give the same keys before and after

module _ (left left' : ℕ → Bool) (sub : (n : ℕ) → left' n ≡ true → left n ≡ true) where
  own_first : (p : ℕ → Bool) (r : Kept) (rs : Conditions) → HaveOwnNumbers (r ∷ rs) → HaveOwnNumbers (r ∷ filter (is_left p) rs)
  own_first p r rs numbers = (
    λ z i. numbers.0 z (in_filter (is_left p) z rs i).0,
    chain_filter (λ (s : Kept) (t : Kept). s.0 ≢ t.0) (is_left p) rs numbers.1,
  )

  come_step : (fs gs : IndexedFacts) (r : Kept) (rs : Conditions) → HaveOwnNumbers (r ∷ rs)
      → ((q : Kept) → In q (r ∷ rs) → left q.0 ≡ true → left' q.0 ≡ false → branch_keys q.0 0 q.1 fs ≡ branch_keys q.0 0 q.1 gs)
      → come_of (rule_keys (filter (is_left left') rs) fs) (rule_keys (filter (is_left left') rs) gs)
      ≡ come_of (rule_keys (filter (is_left left) rs) fs) (rule_keys (filter (is_left left) rs) gs)
      → (a b : Bool) → left r.0 ≡ a → left' r.0 ≡ b
      → come_of (rule_keys (cond b (r ∷ filter (is_left left') rs) (filter (is_left left') rs)) fs) (rule_keys (cond b (r ∷ filter (is_left left') rs) (filter (is_left left') rs)) gs)
      ≡ come_of (rule_keys (cond a (r ∷ filter (is_left left) rs) (filter (is_left left) rs)) fs) (rule_keys (cond a (r ∷ filter (is_left left) rs) (filter (is_left left) rs)) gs)
  come_step fs gs r rs numbers same more true true t u =
      rules_come_more r (filter (is_left left') rs) fs gs (own_first left' r rs numbers)
      ∙ (ap (λ it. come_of (branch_keys r.0 0 r.1 fs) (branch_keys r.0 0 r.1 gs) ++ it) more
      ∙ sym (rules_come_more r (filter (is_left left) rs) fs gs (own_first left r rs numbers)))
  come_step fs gs r rs numbers same more true false t u =
      more
      ∙ sym (rules_come_more r (filter (is_left left) rs) fs gs (own_first left r rs numbers)
      ∙ ap (λ it. it ++ come_of (rule_keys (filter (is_left left) rs) fs) (rule_keys (filter (is_left left) rs) gs)) (sym (none_more [] (branch_keys r.0 0 r.1 fs) (branch_keys r.0 0 r.1 gs) (same r (inl refl) t u))))
  come_step fs gs r rs numbers same more false true t u = absurd (let no : false ≡ true = sym t ∙ sub r.0 u in cc)
  come_step fs gs r rs numbers same more false false t u = more

  come_passed : (fs gs : IndexedFacts) (rs : Conditions) → HaveOwnNumbers rs
      → ((r : Kept) → In r rs → left r.0 ≡ true → left' r.0 ≡ false → branch_keys r.0 0 r.1 fs ≡ branch_keys r.0 0 r.1 gs)
      → come_of (rule_keys (filter (is_left left') rs) fs) (rule_keys (filter (is_left left') rs) gs)
      ≡ come_of (rule_keys (filter (is_left left) rs) fs) (rule_keys (filter (is_left left) rs) gs)
  come_passed fs gs [] numbers same = refl
  come_passed fs gs (r ∷ rs) numbers same = come_step fs gs r rs numbers same (come_passed fs gs rs numbers.1 (λ s i. same s (inr i))) (left r.0) (left' r.0) refl refl

  cost_step : (cost : Elements → ℕ) (r : Kept) (rs : Conditions)
      → rules_sum cost (filter (is_left left') rs) ≤ rules_sum cost (filter (is_left left) rs) → (a b : Bool) → left r.0 ≡ a → left' r.0 ≡ b
      → rules_sum cost (cond b (r ∷ filter (is_left left') rs) (filter (is_left left') rs)) ≤ rules_sum cost (cond a (r ∷ filter (is_left left) rs) (filter (is_left left) rs))
  cost_step cost r rs more true true t u = omega (arith, more)
  cost_step cost r rs more true false t u = omega (arith, more)
  cost_step cost r rs more false true t u = absurd (let no : false ≡ true = sym t ∙ sub r.0 u in cc)
  cost_step cost r rs more false false t u = more

  cost_passed : (cost : Elements → ℕ) (rs : Conditions) → rules_sum cost (filter (is_left left') rs) ≤ rules_sum cost (filter (is_left left) rs)
  cost_passed cost [] = omega arith
  cost_passed cost (r ∷ rs) = cost_step cost r rs (cost_passed cost rs) (left r.0) (left' r.0) refl refl

from_zero : (n : ℕ) → nat_le 0 n ≡ true
from_zero n = grind arith

-- before all
all_from_zero : (rs : Conditions) → filter (is_left (nat_le 0)) rs ≡ rs
all_from_zero [] = refl
all_from_zero (r ∷ rs) = ap (λ b. cond b (r ∷ filter (is_left (nat_le 0)) rs) (filter (is_left (nat_le 0)) rs)) (from_zero r.0) ∙ ap (λ it. r ∷ it) (all_from_zero rs)

-- at the end
none_left_over : (rs : Conditions) → filter (is_left (λ n. false)) rs ≡ []
none_left_over [] = refl
none_left_over (r ∷ rs) = none_left_over rs

module _ {V : Type 0} (kept : V → Kept) (Before After : V → Type 0) (fs fs' : IndexedFacts) (cost : Elements → ℕ) where
  -- of rules under their numbers those that are left are as before the change, and the others as after it: what is told by then and what
  -- is told at the end, and what is paid
  pub record AreChanged (rs : Conditions) (rules : List (ℕ × V)) (left : ℕ → Bool) (gone all_gone come all_come : List KeyValue) (meter all : ℕ) : Type 0 where
    pub stays : map kept (values_of rules) ≡ rs
    pub named : AreNamed kept rules
    pub rising : IsStrictlySortedBy nat_cmp (keys_of rules)
    pub done : (e : ℕ × V) → In e rules → left e.0 ≡ false → After e.1
    pub todo : (e : ℕ × V) → In e rules → left e.0 ≡ true → Before e.1
    pub lost : gone ++ come_of (rule_keys (filter (is_left left) rs) fs') (rule_keys (filter (is_left left) rs) fs) ≡ all_gone
    pub told : come ++ come_of (rule_keys (filter (is_left left) rs) fs) (rule_keys (filter (is_left left) rs) fs') ≡ all_come
    pub paid : meter + rules_sum cost (filter (is_left left) rs) ≤ all

  -- the change doesn't concern a rule
  pub record IsUnconcerned (v : V) : Type 0 where
    pub is : After v
    pub keys : branch_keys (kept v).0 0 (kept v).1 fs ≡ branch_keys (kept v).0 0 (kept v).1 fs'

  module _ (rs : Conditions) (rules : List (ℕ × V)) (gone all_gone come all_come : List KeyValue) (meter all : ℕ) where
    -- rules that it doesn't concern are no more left
    pub passed : (left left' : ℕ → Bool) → ((n : ℕ) → left' n ≡ true → left n ≡ true)
        → ((e : ℕ × V) → In e rules → left e.0 ≡ true → left' e.0 ≡ false → Before e.1 → IsUnconcerned e.1)
        → AreChanged rs rules left gone all_gone come all_come meter all → AreChanged rs rules left' gone all_gone come all_come meter all
    passed left left' sub none was = record {
      stays = was.stays;
      named = was.named;
      rising = was.rising;
      done = λ e i t. by_test (left e.0) (λ u. (none e i u t (was.todo e i u)).is) (λ u. was.done e i u);
      todo = λ e i t. was.todo e i (sub e.0 t);
      lost = ap (λ it. gone ++ it) (come_passed left left' sub fs' fs rs numbers (λ r i t u. sym (alike r i t u))) ∙ was.lost;
      told = ap (λ it. come ++ it) (come_passed left left' sub fs fs' rs numbers alike) ∙ was.told;
      paid = let fewer = cost_passed left left' sub cost rs in let paid = was.paid in omega (arith, fewer, paid);
    }
      where
        numbers : HaveOwnNumbers rs
        numbers = subst HaveOwnNumbers was.stays (numbers_own (map kept (values_of rules)) (numbers_rise kept rules was.named was.rising))

        alike : (r : Kept) → In r rs → left r.0 ≡ true → left' r.0 ≡ false → branch_keys r.0 0 r.1 fs ≡ branch_keys r.0 0 r.1 fs'
        alike r i t u =
            let q = kept_in kept rules was.named r (subst (In r) (sym was.stays) i) in
            let e : ℕ × V = q.0 in
            let number : r.0 ≡ e.0 = ap (λ (it : Kept). it.0) q.2 ∙ sym (was.named e q.1) in
            let t' : left e.0 ≡ true = subst (λ n. left n ≡ true) number t in
            let u' : left' e.0 ≡ false = subst (λ n. left' n ≡ false) number u in
            subst (λ (it : Kept). branch_keys it.0 0 it.1 fs ≡ branch_keys it.0 0 it.1 fs') (sym q.2) (none e q.1 t' u' (was.todo e q.1 t')).keys

  -- the rule with the least number that is left is changed
  module _ (rs : Conditions) (rules : List (ℕ × V)) (id : ℕ) (delta : Delta) (all_gone all_come : List KeyValue) (meter all : ℕ)
      (was : AreChanged rs rules (nat_le id) delta.gone.items all_gone delta.come.items all_come meter all) where
    pub one_changed : (old new : V) (delta' : Delta) (meter' : ℕ) → lookup (is_at (nat_cmp id)) rules ≡ Some old → IsRuleChanged kept After fs fs' cost old new delta delta' meter meter'
        → AreChanged rs (set_value (is_at (nat_cmp id)) rules new) (nat_le (id + 1)) delta'.gone.items all_gone delta'.come.items all_come meter' all
    one_changed old new delta' meter' found now = record {
      stays = kept_set kept id old new rules found now.stay ∙ was.stays;
      named = λ e i. elim (set_in id new rules was.rising e i) as (λ _. e.0 ≡ (kept e.1).0) [
        | inl is ↦ ap (λ (it : ℕ × V). it.0) is ∙ (number ∙ (sym (ap (λ (it : Kept). it.0) now.stay) ∙ sym (ap (λ (it : ℕ × V). (kept it.1).0) is)))
        | inr other ↦ was.named e other.0
      ];
      rising = subst (IsStrictlySortedBy nat_cmp) (sym (keys-set_value (is_at (nat_cmp id)) rules new)) was.rising;
      done = λ e i t. elim (set_in id new rules was.rising e i) as (λ _. After e.1) [
        | inl is ↦ subst After (sym (ap (λ (it : ℕ × V). it.1) is)) now.is
        | inr other ↦ was.done e other.0 (let ne = other.1 in below e.0 ne t)
      ];
      todo = λ e i t. elim (set_in id new rules was.rising e i) as (λ _. Before e.1) [
        | inl is ↦ absurd (let same : e.0 ≡ id = ap (λ (it : ℕ × V). it.0) is in past e.0 same t)
        | inr other ↦ was.todo e other.0 (further e.0 t)
      ];
      lost = ap (λ it. it ++ come_of (rule_keys rest fs') (rule_keys rest fs)) now.told.gone
          ∙ (append_assoc delta.gone.items (come_of (branch_keys (kept old).0 0 (kept old).1 fs') (branch_keys (kept old).0 0 (kept old).1 fs)) (come_of (rule_keys rest fs') (rule_keys rest fs))
          ∙ (ap (λ it. delta.gone.items ++ it) (sym (rules_come_more (kept old) rest fs' fs own) ∙ ap (λ it. come_of (rule_keys it fs') (rule_keys it fs)) (sym split)) ∙ was.lost));
      told = ap (λ it. it ++ come_of (rule_keys rest fs) (rule_keys rest fs')) now.told.come
          ∙ (append_assoc delta.come.items (come_of (branch_keys (kept old).0 0 (kept old).1 fs) (branch_keys (kept old).0 0 (kept old).1 fs')) (come_of (rule_keys rest fs) (rule_keys rest fs'))
          ∙ (ap (λ it. delta.come.items ++ it) (sym (rules_come_more (kept old) rest fs fs' own) ∙ ap (λ it. come_of (rule_keys it fs) (rule_keys it fs')) (sym split)) ∙ was.told));
      paid =
          let e : rules_sum cost (filter (is_left (nat_le id)) rs) ≡ branches_sum cost (kept old).1 + rules_sum cost rest = ap (rules_sum cost) split in
          let paid = was.paid in let more = now.paid in omega (arith, e, paid, more);
    }
      where
        there : In (id, old) rules
        there = found_in id rules old found

        number : id ≡ (kept old).0
        number = was.named (id, old) there

        rest : Conditions
        rest = filter (is_left (nat_le (id + 1))) rs

        kept_there : In (kept old) rs
        kept_there = subst (In (kept old)) was.stays (map_in kept (values_of rules) old (in_value rules (id, old) there))

        rise : Chain (λ (s : Kept) (t : Kept). s.0 < t.0) rs
        rise = subst (Chain (λ (s : Kept) (t : Kept). s.0 < t.0)) was.stays (numbers_rise kept rules was.named was.rising)

        split : filter (is_left (nat_le id)) rs ≡ kept old ∷ rest
        split = subst (λ n. filter (is_left (nat_le n)) rs ≡ kept old ∷ filter (is_left (nat_le (n + 1))) rs) (sym number) (from_there rs (kept old) rise kept_there)

        own : HaveOwnNumbers (kept old ∷ rest)
        own = subst HaveOwnNumbers split (chain_filter (λ (s : Kept) (t : Kept). s.0 ≢ t.0) (is_left (nat_le id)) rs (numbers_own rs rise))

        below : (n : ℕ) → n ≢ id → nat_le (id + 1) n ≡ false → nat_le id n ≡ false
        below n ne t = grind (arith, ne, t)

        past : (n : ℕ) → n ≡ id → nat_le (id + 1) n ≡ true → ⊥
        past n same t = grind (arith, same, t)

        further : (n : ℕ) → nat_le (id + 1) n ≡ true → nat_le id n ≡ true
        further n t = grind (arith, t)

    -- if there is none, nothing is
    pub none_changed : lookup (is_at (nat_cmp id)) rules ≡ None → AreChanged rs rules (nat_le (id + 1)) delta.gone.items all_gone delta.come.items all_come meter all
    none_changed absent = record {
      stays = was.stays;
      named = was.named;
      rising = was.rising;
      done = λ e i t. was.done e i (let ne = none_in id rules absent e i in below e.0 ne t);
      todo = λ e i t. was.todo e i (further e.0 t);
      lost = subst (λ it. delta.gone.items ++ come_of (rule_keys it fs') (rule_keys it fs) ≡ all_gone) split was.lost;
      told = subst (λ it. delta.come.items ++ come_of (rule_keys it fs) (rule_keys it fs') ≡ all_come) split was.told;
      paid = subst (λ it. meter + rules_sum cost it ≤ all) split was.paid;
    }
      where
        split : filter (is_left (nat_le id)) rs ≡ filter (is_left (nat_le (id + 1))) rs
        split = subst (λ (it : Conditions). filter (is_left (nat_le id)) it ≡ filter (is_left (nat_le (id + 1))) it) was.stays (from_absent kept id rules was.named absent)

        below : (n : ℕ) → n ≢ id → nat_le (id + 1) n ≡ false → nat_le id n ≡ false
        below n ne t = grind (arith, ne, t)

        further : (n : ℕ) → nat_le (id + 1) n ≡ true → nat_le id n ≡ true
        further n t = grind (arith, t)

  -- before all
  pub all_left : (rules : List (ℕ × V)) → AreNamed kept rules → IsStrictlySortedBy nat_cmp (keys_of rules) → ((e : ℕ × V) → In e rules → Before e.1) → (gone come : List KeyValue) (meter : ℕ)
      → AreChanged (map kept (values_of rules)) rules (nat_le 0)
      gone (gone ++ come_of (rule_keys (map kept (values_of rules)) fs') (rule_keys (map kept (values_of rules)) fs))
      come (come ++ come_of (rule_keys (map kept (values_of rules)) fs) (rule_keys (map kept (values_of rules)) fs'))
      meter (meter + rules_sum cost (map kept (values_of rules)))
  all_left rules named rising are gone come meter = record {
    stays = refl;
    named = named;
    rising = rising;
    done = λ e i t. absurd (let no : true ≡ false = sym (from_zero e.0) ∙ t in cc);
    todo = λ e i t. are e i;
    lost = ap (λ it. gone ++ come_of (rule_keys it fs') (rule_keys it fs)) (all_from_zero (map kept (values_of rules)));
    told = ap (λ it. come ++ come_of (rule_keys it fs) (rule_keys it fs')) (all_from_zero (map kept (values_of rules)));
    paid = let e = ap (rules_sum cost) (all_from_zero (map kept (values_of rules))) in omega (arith, e);
  }

  -- at the end
  module _ (rs : Conditions) (rules : List (ℕ × V)) (gone all_gone come all_come : List KeyValue) (meter all : ℕ)
      (was : AreChanged rs rules (λ n. false) gone all_gone come all_come meter all) where
    pub all_lost : gone ≡ all_gone
    all_lost = sym (append-nil gone) ∙ (ap (λ it. gone ++ come_of (rule_keys it fs') (rule_keys it fs)) (sym (none_left_over rs)) ∙ was.lost)

    pub all_told : come ≡ all_come
    all_told = sym (append-nil come) ∙ (ap (λ it. come ++ come_of (rule_keys it fs) (rule_keys it fs')) (sym (none_left_over rs)) ∙ was.told)

    pub all_paid : meter ≤ all
    all_paid = let paid = was.paid in omega (arith, paid)
