-- A change where facts and partial matches are looked up by values and their order, from its steps.
use Rattle.std.proofs.Common.{◌≡◌, ◌∙◌, ◌⊎◌, ◌↔◌, ℕ, Bool, true, false, List, Option, Some, None, cond, ap, length, refl, subst, sym, Result, Ok, Err, OnOk}
use Rattle.cb_alpha.proofs.ReadFacts.{same_some}
use Rattle.cb_alpha.specs.AlphaMemories.{AlphaMemoryValue, live}
use Rattle.cb_alpha.specs.Buckets.{Filing, values_at}
use Rattle.cb_alpha.specs.JoinValues.{variable_values}
use Rattle.cb_alpha.specs.Turning.{were_in}
use Rattle.cb_beta.specs.BetaMemories.{BetaMemoryValue}
use Rattle.cb_facts.specs.declared.value.Value.{Value}
use Rattle.cb_fit.specs.declared.comparison.Comparison.{Comparison}
use Rattle.cb_fit.specs.declared.join_fields.JoinField.{JoinField}
use Rattle.cb_lookup_node.proofs.InOrder.{in_order_ends}
use Rattle.cb_lookup_node.proofs.Refiled.{filed_alike, filed_but}
use Rattle.cb_lookup_node.proofs.Seen.{as_many_variables}
use Rattle.cb_lookup_node.proofs.Stayed.{stayed_or_came, there_again}
use Rattle.cb_lookup_node.specs.Internal.{AreForgotten, Asks, HasChanged, HasTurned, IsFiledBy, IsGained, IsLost, IsToChange, MayBeFiled, Stays, is_ordered, values_under}
use Rattle.cb_lookup_node.specs.LookupNodes.{AreFiled, ArePassedOn, HasSeen, SeesOne, ends_in_integer, filed_by, in_order}
use Rattle.cb_lookup_node.specs.declared.in_order.InOrder.{InOrder}
use Rattle.cb_lookup_node.specs.declared.sight.Sight.TheVariants as sight
use Rattle.cb_matches.proofs.Growth.{Fact}
use Rattle.cb_matches.specs.Chains.{In}
use Rattle.cb_matches.specs.Matches.{Partial}
use Rattle.cb_token_lists.specs.Growth.{Comes}
use Rattle.cb_token_lists.specs.Turns.{IsThere, WasThere}

-- what holds where a call succeeds, from two of its clauses
pub on_ok_both : {A E P Q R : Type 0} (r : Result A E) → (P → Q → R) → OnOk r P → OnOk r Q → OnOk r R
on_ok_both (Ok a) f p q = f p q
on_ok_both (Err e) f p q = p

-- what a partial match is filed by is what it gives
filed_is : (comparison : Option Comparison) (given : Option (List Value)) (vs : List Value) → filed_by comparison given ≡ Some vs → given ≡ Some vs
filed_is None given vs e = e
filed_is (Some c) None vs e = absurd (cc)
filed_is (Some c) (Some us) vs e = inside (ends_in_integer us) e
  where
    inside : (b : Bool) → cond b (Some us) None ≡ Some vs → Some us ≡ Some vs
    inside true d = d
    inside false d = absurd (let no : None ≡ Some vs = d in cc)

-- what sees a fact is filed
seen_filed : (comparison : Option Comparison) (js : List JoinField) (facts : ℕ → Option Fact) (vs : List Value) → is_ordered comparison ≡ true → HasSeen comparison js facts vs → filed_by comparison (Some vs) ≡ Some vs
seen_filed None js facts vs o h = refl
seen_filed (Some c) js facts vs o h = ap (λ b. cond b (Some vs) None) (in_order_ends c h.0 vs o h.1)

given_filed : (comparison : Option Comparison) (given : Option (List Value)) (vs : List Value) → given ≡ Some vs → filed_by comparison (Some vs) ≡ Some vs → filed_by comparison given ≡ Some vs
given_filed comparison given vs e is = ap (filed_by comparison) e ∙ is

-- who is filed by values that lost or gained a fact has lost or gained the one that it sees
module _ (comparison : Option Comparison) (order : is_ordered comparison ≡ true) (js : List JoinField) (alpha : AlphaMemoryValue) (filing : Filing) (at : ℕ → Partial) (There : ℕ → Type 0)
    (filed : AreFiled comparison js filing at There) where
  abbrev Had : ℕ → Type 0
  Had n = SeesOne comparison js (were_in alpha) (at n)

  abbrev Has : ℕ → Type 0
  Has n = SeesOne comparison js (live alpha) (at n)

  one_values : (n : ℕ) (vs us : List Value) → variable_values js (at n).env ≡ Some vs → variable_values js (at n).env ≡ Some us → vs ≡ us
  one_values n vs us e d = same_some (variable_values js (at n).env) e d

  gives : (n : ℕ) (vs : List Value) → There n → values_at filing n ≡ Some vs → variable_values js (at n).env ≡ Some vs
  gives n vs there e = filed_is comparison (variable_values js (at n).env) vs (sym (filed.there n there) ∙ e)

  lost_there : (n : ℕ) → IsFiledBy (IsLost comparison js alpha) filing n ↔ (There n × (Had n × (Has n → ⊥)))
  lost_there n = (
    λ h.
        let there = filed.only n h.0 h.1 in
        let values = gives n h.0 there h.1 in
        (there, ((h.0, values, h.2.0), λ k. h.2.1 (subst (HasSeen comparison js (live alpha)) (one_values n k.0 h.0 k.1 values) k.2))),
    λ h. (
      h.1.0.0,
      filed.there n h.0 ∙ given_filed comparison (variable_values js (at n).env) h.1.0.0 h.1.0.1 (seen_filed comparison js (were_in alpha) h.1.0.0 order h.1.0.2),
      (h.1.0.2, λ k. h.1.1 (h.1.0.0, h.1.0.1, k)),
    ),
  )

  gained_there : (n : ℕ) → IsFiledBy (IsGained comparison js alpha) filing n ↔ (There n × ((Had n → ⊥) × Has n))
  gained_there n = (
    λ h.
        let there = filed.only n h.0 h.1 in
        let values = gives n h.0 there h.1 in
        (there, (λ k. h.2.0 (subst (HasSeen comparison js (were_in alpha)) (one_values n k.0 h.0 k.1 values) k.2), (h.0, values, h.2.1))),
    λ h. (
      h.1.1.0,
      filed.there n h.0 ∙ given_filed comparison (variable_values js (at n).env) h.1.1.0 h.1.1.1 (seen_filed comparison js (live alpha) h.1.1.0 order h.1.1.2),
      (λ k. h.1.0 (h.1.1.0, h.1.1.1, k), h.1.1.2),
    ),
  )

  -- what is filed may be
  pub may_be_filed : (n : ℕ) (vs : List Value) → values_at filing n ≡ Some vs → MayBeFiled comparison js vs
  may_be_filed n vs e =
      let there = filed.only n vs e in
      may_be comparison (variable_values js (at n).env) vs (λ us d. as_many_variables (at n).env js us d) (sym (filed.there n there) ∙ e)
    where
      may_be : (c : Option Comparison) (given : Option (List Value)) (us : List Value) → ((ws : List Value) → given ≡ Some ws → length ws ≡ length js) → filed_by c given ≡ Some us → MayBeFiled c js us
      may_be None given us many d = many us d
      may_be (Some c) None us many d = absurd (cc)
      may_be (Some c) (Some ws) us many d = (many us (filed_is (Some c) (Some ws) us d), inside (ends_in_integer ws) refl d)
        where
          inside : (b : Bool) → ends_in_integer ws ≡ b → cond b (Some ws) None ≡ Some us → ends_in_integer us ≡ true
          inside true t d = let same : ws ≡ us = same_some (Some ws) refl d in ap ends_in_integer (sym same) ∙ t
          inside false t d = absurd (let no : None ≡ Some us = d in cc)

both_ways : {A B C : Type 0} → A ↔ B → B ↔ C → A ↔ C
both_ways one other = (λ a. other.0 (one.0 a), λ c. one.1 (other.1 c))

module _ (o : InOrder) (js : List JoinField) (at : ℕ → Partial) (before : BetaMemoryValue) (alpha : AlphaMemoryValue) (join : ℕ) (b : IsToChange (sight.InOrder o) js at before alpha join)
    (f₁ f₂ : Filing) (left : AreForgotten o.partials f₁ before.gone) where
  filed₁ : AreFiled o.comparison js f₁ at (Stays before)
  filed₁ = filed_but o.comparison js o.partials f₁ at (WasThere before) before.gone left b.kept

  -- what is asked of the alpha memory
  pub asks : (went came : Option (List Value)) → went ≡ values_under js alpha alpha.gone → came ≡ values_under js alpha alpha.come → Asks o.comparison js alpha join f₁ went came
  asks went came w c = record {
    has_join = b.has_join;
    apart = b.apart;
    single = b.single;
    ordered = b.ordered;
    filed = may_be_filed o.comparison b.ordered js alpha f₁ at (Stays before) filed₁;
    went = w;
    came = c;
  }

  pub changed : (positive : Bool) (own₁ own₃ own : BetaMemoryValue) → (AreFiled o.comparison js f₁ at (Stays before) → AreFiled o.comparison js f₂ at (λ n. Stays before n ⊎ In n before.come))
      → HasTurned positive o.comparison js alpha f₁ own₁ own₃ → Comes own₃ own (ArePassedOn positive (in_order o.comparison) js (live alpha) at (λ n. In n before.come))
      → HasChanged positive (sight.InOrder o) (sight.InOrder (record o { partials = f₂ })) js at before alpha own₁ own
  changed positive own₁ own₃ own filed turned passed = record {
    kept = filed_alike o.comparison js f₂ at (λ n. Stays before n ⊎ In n before.come) (IsThere before) (there_again before b.came) (stayed_or_came before) (filed filed₁);
    lost = turned.lost;
    gained = turned.gained;
    between = turned.between;
    turned = own₃;
    losing = λ n. both_ways (turned.losing n) (lost_there o.comparison b.ordered js alpha f₁ at (Stays before) filed₁ n);
    gaining = λ n. both_ways (turned.gaining n) (gained_there o.comparison b.ordered js alpha f₁ at (Stays before) filed₁ n);
    goes = turned.goes;
    comes = turned.comes;
    passed = passed;
  }
