-- Partial matches and facts that go on with each other have the same values.
use Rattle.std.proofs.Common.{◌≡◌, ◌≢◌, ◌∙◌, ◌⊎◌, ℕ, List, [], ◌∷◌, Option, Some, None, ap, ap₂, cond, inl, inr, refl, subst, sym}
use Rattle.std.specs.Cmp.Lexicographic.{bytes_decides}
use Rattle.std.specs.Str.{bytes_eq}
use Rattle.cb_alpha.proofs.ReadFacts.{came_read, is_its_number, live_read, number_is, read_came, same_some, some_none}
use Rattle.cb_alpha.specs.AlphaMemories.{AlphaMemoryValue, AreFactsWith, AreLiveNumbers, AreSameFields, candidate_in, live, values_in}
use Rattle.cb_alpha.specs.Buckets.{AreWithValues, Filing, values_at}
use Rattle.cb_alpha.specs.JoinValues.{field_values, variable_values, with_first}
use Rattle.cb_alpha.specs.Turning.{HasJoin, came_in}
use Rattle.cb_beta.proofs.Members.{contains_in, in_contains}
use Rattle.cb_beta.specs.BetaMemories.{BetaMemoryValue}
use Rattle.cb_beta.specs.Tokens.{TokenValue}
use Rattle.cb_constraints.specs.PatternValues.{PatternValue}
use Rattle.cb_exprs.proofs.ValueLaws.{value_at-with_value}
use Rattle.cb_exprs.specs.Bindings.{Bindings, value_at}
use Rattle.cb_exprs.specs.Terms.{Term}
use Rattle.cb_facts.specs.Facts.{FactValue}
use Rattle.cb_facts.specs.declared.value.Value.{Value}
use Rattle.cb_facts.specs.declared.value.Value.TheVariants as value
use Rattle.cb_fit.specs.Ways.{WayValue, ways}
use Rattle.cb_fit.specs.declared.join_fields.JoinField.{JoinField}
use Rattle.cb_groups.specs.Groups.{AreMembers, Membership, group_of}
use Rattle.cb_join_node.specs.Filings.{ArePartialsFiled, filed_if, filed_values, stray_group}
use Rattle.cb_join_node.specs.Nodes.{FindsFacts}
use Rattle.cb_join_node.specs.Joins.{IsOfFacts, IsOfPartials, IsPair, Joins, JoinsOne}
use Rattle.cb_join_node.proofs.Tokens.{one_parent}
use Rattle.cb_matches.proofs.Lists.{by_test}
use Rattle.cb_matches.proofs.Lists as lists
use Rattle.cb_matches.specs.Chains.{In}
use Rattle.cb_matches.specs.Matches.{Partial, with_address}
use Rattle.cb_nodes.specs.Patterns.{AreJoinFields, FieldsAgree}
use Rattle.cb_token_lists.proofs.Arrivals.{come_alike, come_then}
use Rattle.cb_token_lists.specs.Growth.{Comes}

pub by_option : {A P : Type 0} (o : Option A) → (o ≡ None → P) → ((a : A) → o ≡ Some a → P) → P
by_option None none some = none refl
by_option (Some a) none some = some a refl

-- a first value and others
pub record IsFirst (first : Option Value) (others : Option (List Value)) (vs : List Value) : Type 0 where
  pub v : Value
  pub us : List Value
  pub first_is : first ≡ Some v
  pub others_are : others ≡ Some us
  pub are : vs ≡ v ∷ us

pub both_there : (first : Option Value) (others : Option (List Value)) (vs : List Value) → with_first first others ≡ Some vs → IsFirst first others vs
both_there None others vs e = absurd (apart e)
  where
    apart : None ≡ Some vs → ⊥
    apart d = cc
both_there (Some v) None vs e = absurd (apart e)
  where
    apart : None ≡ Some vs → ⊥
    apart d = cc
both_there (Some v) (Some us) vs e = record { v = v; us = us; first_is = refl; others_are = refl; are = inside e }
  where
    inside : Some (v ∷ us) ≡ Some vs → vs ≡ v ∷ us
    inside d = cc

-- the address of a fact is no value of another variable
pub past_address : (x : Option (List ℕ)) (ix : ℕ) (env : Bindings) (y : List ℕ) → x ≢ Some y → value_at y (with_address x ix env).variables ≡ value_at y env.variables
past_address None ix env y apart = refl
past_address (Some z) ix env y apart =
    value_at-with_value env.variables y z (value.Fact ix)
    ∙ by_test (bytes_eq y z)
    (λ t. absurd (apart (ap Some (sym ((bytes_decides y z).0 t)))))
    (λ t. ap (λ b. cond b (Some (value.Fact ix)) (value_at y env.variables)) t)

-- the values that a fact has are those of a fact that is there
pub has_fact : (js : List JoinField) (f : Option (ℕ × FactValue)) (vs : List Value) → values_in js f ≡ Some vs → (g : ℕ × FactValue) × (f ≡ Some g)
has_fact js None vs e = absurd (let no : None ≡ Some vs = e in cc)
has_fact js (Some g) vs e = (g, refl)

-- who is found by values is asked for some
pub asked_some : (alpha : AlphaMemoryValue) (join : ℕ) (js : List JoinField) (o : Option (List Value)) (vs : List Value) → filed_if js o ≡ Some vs → FindsFacts alpha join js → HasJoin alpha join js
asked_some alpha join [] o vs e has = absurd (let no : None ≡ Some vs = e in cc)
asked_some alpha join (j ∷ js) o vs e has = has

-- the values by which a partial match is found are those that it has
pub has_filed : (js : List JoinField) (o : Option (List Value)) (vs : List Value) → filed_if js o ≡ Some vs → o ≡ Some vs
has_filed [] o vs e = absurd (let no : None ≡ Some vs = e in cc)
has_filed (j ∷ js) o vs e = e

module _ (agree : FieldsAgree) (x : Option (List ℕ)) (p : PatternValue) (ts : List Term) where
  -- a partial match that goes on with a fact has the values of the fact
  pub values_agree : (js : List JoinField) → AreJoinFields js x p → (m : Partial) (f : ℕ × FactValue) (w : WayValue) → In w (ways p f.1 (with_address x f.0 m.env))
      → (vs : List Value) → variable_values js m.env ≡ Some vs → field_values js f.1.content ≡ Some vs
  values_agree [] fields m f w h vs e = e
  values_agree (j ∷ js) fields m f w h vs e =
      let both = both_there (value_at j.variable m.env.variables) (variable_values js m.env) vs e in
      let field = fields j (inl refl) in
      let first = agree p f.1 (with_address x f.0 m.env) w (lists.in_contains w (ways p f.1 (with_address x f.0 m.env)) h) j field.0 both.v (past_address x f.0 m.env j.variable field.1 ∙ both.first_is) in
      let others = values_agree js (λ k i. fields k (inr i)) m f w h both.us both.others_are in
      ap₂ with_first first others ∙ ap Some (sym both.are)

  module _ (js : List JoinField) (fields : AreJoinFields js x p) where
    -- the facts with the values of a partial match are all with which it goes on
    pub by_values : (m : Partial) (number : ℕ) (alpha : AlphaMemoryValue) (vs : List Value) → variable_values js m.env ≡ Some vs
        → (xs : List ℕ) → AreFactsWith alpha js vs xs → (old new : BetaMemoryValue) → Comes old new (IsOfFacts x p ts m number alpha.candidates xs) → Comes old new (JoinsOne x p ts m number (live alpha))
    by_values m number alpha vs e xs these old new comes =
        come_alike old new (IsOfFacts x p ts m number alpha.candidates xs) (JoinsOne x p ts m number (live alpha))
        (λ t h.
        let g = has_fact js (live alpha h.0) vs ((these.are h.0).0 (in_contains xs h.0 h.1)) in
        let same : g.0 ≡ h.2.0 = same_some (candidate_in alpha.candidates h.0) (live_read alpha h.0 g.0 g.1).0 h.2.1 in
        (h.0, (h.2.0, g.1 ∙ ap Some same, h.2.2)))
        (λ t h.
        let has = values_agree js fields m h.1.0 h.1.2.0 h.1.2.1 vs e in
        let at : values_in js (live alpha h.0) ≡ Some vs = ap (values_in js) h.1.1 ∙ has in
        (h.0, contains_in xs h.0 ((these.are h.0).1 at), (h.1.0, (live_read alpha h.0 h.1.0 h.1.1).0, h.1.2)))
        comes

    -- what goes on with one fact
    module _ (alpha : AlphaMemoryValue) (candidate : ℕ) (f : ℕ × FactValue) (come : alpha.come ≡ Some candidate) (is : candidate_in alpha.candidates candidate ≡ Some f) (at : ℕ → Partial)
        (There : ℕ → Type 0) (filing : Filing) (strays : Membership) (filed : ArePartialsFiled js filing strays at There) (xs ys : List ℕ)
        (some : (vs : List Value) → field_values js f.1.content ≡ Some vs → AreWithValues filing vs xs) (none : field_values js f.1.content ≡ None → xs ≡ []) (others : AreMembers strays 0 ys) where
      -- who stands with its values is there
      with_values : (n : ℕ) → In n xs → (vs : List Value) × (values_at filing n ≡ Some vs)
      with_values n h = by_option (field_values js f.1.content)
          (λ e. absurd (subst (In n) (none e) h))
          (λ vs e. (vs, ((some vs e).are n).0 (in_contains xs n h)))

      came_here : came_in alpha candidate ≡ Some f
      came_here = read_came alpha candidate (is_its_number alpha.come candidate come) ∙ is

      only_it : (c : ℕ) (g : ℕ × FactValue) → came_in alpha c ≡ Some g → (c ≡ candidate) × (g ≡ f)
      only_it c g e =
          let r = came_read alpha c g e in
          let same : c ≡ candidate = same_some alpha.come (number_is alpha.come c r.1) come in
          (same, same_some (candidate_in alpha.candidates c) r.0 (ap (candidate_in alpha.candidates) same ∙ is))

      pub with_fact : (old now new : BetaMemoryValue) → Comes old now (IsOfPartials x p ts at xs candidate f) → Comes now new (IsOfPartials x p ts at ys candidate f)
          → Comes old new (Joins x p ts at There (came_in alpha))
      with_fact old now new first second =
          come_alike old new (λ t. IsOfPartials x p ts at xs candidate f t ⊎ IsOfPartials x p ts at ys candidate f t) (Joins x p ts at There (came_in alpha))
          (λ t h. elim h as (λ _. Joins x p ts at There (came_in alpha) t) [
            | inl k ↦ let v = with_values k.0 k.1 in (k.0, filed.filed k.0 v.0 v.1, (candidate, (f, came_here, k.2)))
            | inr k ↦ (k.0, filed.strayed k.0 0 ((others.are k.0).0 (in_contains ys k.0 k.1)), (candidate, (f, came_here, k.2)))
          ])
          (λ t h. found h.0 h.1 t (pair_of h.0 t h.2))
          (come_then old now new (IsOfPartials x p ts at xs candidate f) (IsOfPartials x p ts at ys candidate f) first second
          (λ t h k. let same : h.0 ≡ k.0 = one_parent h.0 k.0 candidate candidate f.0 f.0 h.2.0 k.2.0 (sym h.2.2.1 ∙ k.2.2.1) in
          apart k.0 (with_values k.0 (subst (λ it. In it xs) same h.1)) ((others.are k.0).0 (in_contains ys k.0 k.1))))
        where
          pair_of : (n : ℕ) (t : TokenValue) → JoinsOne x p ts (at n) n (came_in alpha) t → IsPair x p ts (at n) n candidate f t
          pair_of n t h =
              let it = only_it h.0 h.1.0 h.1.1 in
              subst (λ c. IsPair x p ts (at n) n c f t) it.0 (subst (λ g. IsPair x p ts (at n) n h.0 g t) it.1 h.1.2)

          found : (n : ℕ) → There n → (t : TokenValue) → IsPair x p ts (at n) n candidate f t → IsOfPartials x p ts at xs candidate f t ⊎ IsOfPartials x p ts at ys candidate f t
          found n h t pair =
              let stands = filed.there n h in
              by_option (filed_values js (at n))
              (λ e. inr (n, contains_in ys n ((others.are n).1 (stands.stray ∙ ap stray_group e)), pair))
              (λ vs e. inl (n, contains_in xs n (((some vs (values_agree js fields (at n) f pair.0 pair.1 vs (has_filed js (variable_values js (at n).env) vs e))).are n).1 (stands.values ∙ e)), pair))

          apart : (n : ℕ) → ((vs : List Value) × (values_at filing n ≡ Some vs)) → group_of strays n ≡ Some 0 → ⊥
          apart n v g =
              let stands = filed.there n (filed.filed n v.0 v.1) in
              let has : filed_values js (at n) ≡ Some v.0 = sym stands.values ∙ v.1 in
              some_none (group_of strays n) g (stands.stray ∙ ap stray_group has)

-- all facts, where a partial match has no values to look them up by
pub by_numbers : (x : Option (List ℕ)) (p : PatternValue) (ts : List Term) (m : Partial) (number : ℕ) (alpha : AlphaMemoryValue) (xs : List ℕ) → AreLiveNumbers alpha xs
    → (old new : BetaMemoryValue) → Comes old new (IsOfFacts x p ts m number alpha.candidates xs) → Comes old new (JoinsOne x p ts m number (live alpha))
by_numbers x p ts m number alpha xs these old new comes =
    come_alike old new (IsOfFacts x p ts m number alpha.candidates xs) (JoinsOne x p ts m number (live alpha))
    (λ t h.
    let g = these.are h.0 h.1 in
    let same : g.0 ≡ h.2.0 = same_some (candidate_in alpha.candidates h.0) (live_read alpha h.0 g.0 g.1).0 h.2.1 in
    (h.0, (h.2.0, g.1 ∙ ap Some same, h.2.2)))
    (λ t h. (h.0, these.all h.0 h.1.0 h.1.1, (h.1.0, (live_read alpha h.0 h.1.0 h.1.1).0, h.1.2)))
    comes

-- facts are found by fields that have the same values in every fact
same_values : (ks js : List JoinField) (o : Option (ℕ × FactValue)) → AreSameFields ks js → values_in ks o ≡ values_in js o
same_values ks js None same = refl
same_values ks js (Some f) same = same f.1.content

pub found_by : (alpha : AlphaMemoryValue) (join : ℕ) (js : List JoinField) → (has : HasJoin alpha join js) → (vs : List Value) (xs : List ℕ) → AreFactsWith alpha has.0 vs xs → AreFactsWith alpha js vs xs
found_by alpha join js has vs xs these = record {
  are = λ n.
      let same : values_in has.0 (live alpha n) ≡ values_in js (live alpha n) = same_values has.0 js (live alpha n) has.2 in
      (λ h. sym same ∙ (these.are n).0 h, λ h. (these.are n).1 (same ∙ h));
  once = these.once;
}
