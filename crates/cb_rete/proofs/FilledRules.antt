-- Rules that are filled one after another.
use Rattle.std.proofs.Common.{◌≡◌, ◌∙◌, ◌<◌, ◌++◌, ◌∷◌, ℕ, List, [], ap, append_assoc, inl, inr, nat_cmp, refl, subst, sym}
use Rattle.std.proofs.lemmas.List.{append-nil, map-append}
use Rattle.std.specs.BTreeMap.{insert_entry}
use Rattle.std.specs.List.{All}
use Rattle.std.specs.List.Sorted.{IsStrictlySortedBy}
use Rattle.std.specs.Map.{keys_of, values_of}
use Rattle.cb_alpha_network.specs.Networks.{AlphaNetworkValue}
use Rattle.cb_branch.specs.Alphas.{live_facts}
use Rattle.cb_facts.specs.FactLists.{IndexedFacts}
use Rattle.cb_matches.proofs.Lists.{in_either}
use Rattle.cb_matches.specs.Chains.{In}
use Rattle.cb_matches.specs.Changes.{AddsNumbers}
use Rattle.cb_matches.specs.Keys.{KeyValue}
use Rattle.cb_matches.specs.Networks.{Conditions}
use Rattle.cb_rete.proofs.MoreNumbers.{numbers_of_last, numbers_with}
use Rattle.cb_rete.proofs.Numbers.{Implies, adds_none, adds_on, adds_weaker}
use Rattle.cb_rete.specs.Filling.{AreBranchesFilled}
use Rattle.cb_rete.specs.Numbers.{IsNumberInBranches, IsNumberInRules}
use Rattle.cb_rete.specs.Rules.{AreBranchesEntered, AreBranchesOver, AreRulesEntered, CanRuleBeFilled, kept_rule, kept_rules}
use Rattle.cb_rete.specs.declared.rule.Rule.{Rule}
use Rattle.cb_rule_keys.proofs.Networks.{rule_keys_more}
use Rattle.cb_rule_keys.proofs.Numbered.{after_first, all_in, behind, in_value, named_with, put_last, values_with}
use Rattle.cb_rule_keys.specs.Keys.{branch_keys, rule_keys}
use Rattle.cb_rule_keys.specs.Numbers.{AreNamed}
use Rattle.cb_rules.specs.Elements.{Elements}

module _ {T : Type 0} where
  -- the rules that are filled, and those that are left
  pub record IsMoved (rs : Conditions) (filled left_over : List (ℕ × Rule T)) : Type 0 where
    pub rising : IsStrictlySortedBy nat_cmp (keys_of left_over)
    pub apart : (e z : ℕ × Rule T) → In e filled → In z left_over → e.0 < z.0
    pub named : AreNamed kept_rule filled
    pub named_left : AreNamed kept_rule left_over
    pub stays : kept_rules (values_of filled) ++ kept_rules (values_of left_over) ≡ rs
    pub plans : (e : ℕ × Rule T) → In e left_over → CanRuleBeFilled e.1

  -- a rule over these facts, in this network
  pub record IsFilled (v : AlphaNetworkValue) (fs : IndexedFacts) (r : Rule T) : Type 0 where
    pub over : AreBranchesOver (live_facts v.memories) fs r.branches.items
    pub entered : AreBranchesEntered v r.id r.branches.items

  -- those that are filled are so, and what is told by then and at the end
  pub record AreFilled (v : AlphaNetworkValue) (fs : IndexedFacts) (all : List KeyValue) (filled left_over : List (ℕ × Rule T)) (told told_of : List KeyValue) (numbers numbers_of : List ℕ) : Type 0 where
    pub done : (e : ℕ × Rule T) → In e filled → IsFilled v fs e.1
    pub left : AreRulesEntered v left_over
    pub keys : told_of ++ rule_keys (kept_rules (values_of left_over)) fs ≡ all
    pub told_numbers : AddsNumbers (IsNumberInRules filled) told told_of numbers numbers_of

  pub move_none : (es left filled : List (ℕ × Rule T)) → left ≡ es → filled ≡ [] → AreNamed kept_rule es → IsStrictlySortedBy nat_cmp (keys_of es) → All CanRuleBeFilled (values_of es) → IsMoved (kept_rules (values_of es)) filled left
  move_none es left filled all none named rising plans = record {
    rising = subst (λ (them : List (ℕ × Rule T)). IsStrictlySortedBy nat_cmp (keys_of them)) (sym all) rising;
    apart = λ e z i j. absurd (subst (In e) none i);
    named = λ e i. absurd (subst (In e) none i);
    named_left = subst (λ (them : List (ℕ × Rule T)). AreNamed kept_rule them) (sym all) named;
    stays = ap (λ (them : List (ℕ × Rule T)). kept_rules (values_of them) ++ kept_rules (values_of left)) none ∙ ap (λ (them : List (ℕ × Rule T)). kept_rules (values_of them)) all;
    plans = λ e i. all_in CanRuleBeFilled (values_of es) plans e.1 (in_value es e (subst (In e) all i));
  }

  pub fill_none : (v : AlphaNetworkValue) (fs : IndexedFacts) (es left filled : List (ℕ × Rule T)) (told : List KeyValue) (numbers : List ℕ) → left ≡ es → filled ≡ [] → AreRulesEntered v es
      → AreFilled v fs (told ++ rule_keys (kept_rules (values_of es)) fs) filled left told told numbers numbers
  fill_none v fs es left filled told numbers all none entered = record {
    done = λ e i. absurd (subst (In e) none i);
    left = λ e i. entered e (subst (In e) all i);
    keys = ap (λ (them : List (ℕ × Rule T)). told ++ rule_keys (kept_rules (values_of them)) fs) all;
    told_numbers = adds_none (IsNumberInRules filled) told numbers;
  }

  -- one rule more
  module _ (rs : Conditions) (es es' its rest : List (ℕ × Rule T)) (id : ℕ) (r r' : Rule T) (cut : its ≡ (id, r) ∷ rest) (put : es' ≡ insert_entry nat_cmp es id r') (stay : kept_rule r' ≡ kept_rule r)
      (was : IsMoved rs es its) where
    last : es' ≡ es ++ (id, r') ∷ []
    last = put ∙ put_last id r' es (λ z i. was.apart z (id, r) i (subst (In (id, r)) (sym cut) (inl refl)))

    rises : IsStrictlySortedBy nat_cmp (keys_of ((id, r) ∷ rest))
    rises = subst (λ (them : List (ℕ × Rule T)). IsStrictlySortedBy nat_cmp (keys_of them)) cut was.rising

    own : id ≡ r.id
    own = was.named_left (id, r) (subst (In (id, r)) (sym cut) (inl refl))

    pub same_id : r'.id ≡ r.id
    same_id = ap (λ (q : ℕ × List Elements). q.0) stay

    pub in_more : (P : ℕ × Rule T → Type 0) → ((e : ℕ × Rule T) → In e es → P e) → P (id, r') → (e : ℕ × Rule T) → In e es' → P e
    in_more P each one e i = elim (in_either e es ((id, r') ∷ []) (subst (In e) last i)) as (λ _. P e) [
      | inl k ↦ each e k
      | inr k ↦ elim k as (λ _. P e) [
        | inl is ↦ subst P (sym is) one
        | inr never ↦ absurd never
      ]
    ]

    pub move_one : IsMoved rs es' rest
    move_one = record {
      rising = after_first (id, r) rest rises;
      apart = λ e z i j. in_more (λ e. e.0 < z.0) (λ e k. was.apart e z k (subst (In z) (sym cut) (inr j))) (behind (id, r) rest rises z j) e i;
      named = named_with kept_rule id r' es es' last (own ∙ sym same_id) was.named;
      named_left = λ e i. was.named_left e (subst (In e) (sym cut) (inr i));
      stays = ap (λ it. it ++ kept_rules (values_of rest)) (ap kept_rules (values_with kept_rule id r' es es' last) ∙ (map-append kept_rule (values_of es) (r' ∷ []) ∙ ap (λ q. kept_rules (values_of es) ++ q ∷ []) stay))
          ∙ (append_assoc (kept_rules (values_of es)) (kept_rule r ∷ []) (kept_rules (values_of rest)) ∙ subst (λ (them : List (ℕ × Rule T)). kept_rules (values_of es) ++ kept_rules (values_of them) ≡ rs) cut was.stays);
      plans = λ e i. was.plans e (subst (In e) (sym cut) (inr i));
    }

    pub plan_here : CanRuleBeFilled r
    plan_here = was.plans (id, r) (subst (In (id, r)) (sym cut) (inl refl))

    numbers_before : Implies (IsNumberInRules es) (IsNumberInRules es')
    numbers_before = numbers_with id r' es es' last

    numbers_here : Implies (IsNumberInBranches r.id r'.branches.items) (IsNumberInRules es')
    numbers_here k n h = numbers_of_last id r' es es' last k n (subst (λ (m : ℕ). IsNumberInBranches m r'.branches.items k n) (sym same_id) h)

    pub fill_one : (v : AlphaNetworkValue) (fs : IndexedFacts) (all told ks ls : List KeyValue) (numbers ns ms : List ℕ) → (AreBranchesEntered v r.id r.branches.items → AreBranchesFilled v fs r.id (kept_rule r).1 r'.branches.items ks ls ns ms)
        → AreFilled v fs all es its told ks numbers ns → AreFilled v fs all es' rest told ls numbers ms
    fill_one v fs all told ks ls numbers ns ms fills before =
        let filled = fills (before.left (id, r) (subst (In (id, r)) (sym cut) (inl refl))) in
        record {
          done = in_more (λ e. IsFilled v fs e.1) before.done (record {
            over = filled.over;
            entered = subst (λ n. AreBranchesEntered v n r'.branches.items) (sym same_id) filled.entered;
          });
          left = λ e i. before.left e (subst (In e) (sym cut) (inr i));
          keys = ap (λ it. it ++ rule_keys (kept_rules (values_of rest)) fs) filled.come
              ∙ (append_assoc ks (branch_keys r.id 0 (kept_rule r).1 fs) (rule_keys (kept_rules (values_of rest)) fs)
              ∙ (ap (λ it. ks ++ it) (sym (rule_keys_more (kept_rule r) (kept_rules (values_of rest)) fs))
              ∙ subst (λ (them : List (ℕ × Rule T)). ks ++ rule_keys (kept_rules (values_of them)) fs ≡ all) cut before.keys));
          told_numbers = adds_on (IsNumberInRules es') told ks ls numbers ns ms
              (adds_weaker (IsNumberInRules es) (IsNumberInRules es') numbers_before told ks numbers ns before.told_numbers)
              (adds_weaker (IsNumberInBranches r.id r'.branches.items) (IsNumberInRules es') numbers_here ks ls ns ms filled.told_numbers);
        }

  -- at the end
  pub moved_all : (rs : Conditions) (es left : List (ℕ × Rule T)) → left ≡ [] → IsMoved rs es left → kept_rules (values_of es) ≡ rs
  moved_all rs es left none was = sym (append-nil (kept_rules (values_of es))) ∙ (ap (λ (them : List (ℕ × Rule T)). kept_rules (values_of es) ++ kept_rules (values_of them)) (sym none) ∙ was.stays)

  pub filled_all : (v : AlphaNetworkValue) (fs : IndexedFacts) (all first told : List KeyValue) (numbers ns : List ℕ) (es left : List (ℕ × Rule T)) → left ≡ [] → AreFilled v fs all es left first told numbers ns → told ≡ all
  filled_all v fs all first told numbers ns es left none was = sym (append-nil told) ∙ (ap (λ (them : List (ℕ × Rule T)). told ++ rule_keys (kept_rules (values_of them)) fs) (sym none) ∙ was.keys)
