-- Partial matches and facts that meet by the values of the join's fields.
use Rattle.std.proofs.Common.{◌≡◌, ◌∙◌, ℕ, true, List, [], ◌∷◌, Option, Some, None, ap, inl, inr, refl, subst, sym}
use Rattle.cb_alpha.proofs.ReadFacts.{live_read, number_is, read_live, read_were, same_some}
use Rattle.cb_alpha.specs.AlphaMemories.{AlphaMemoryValue, AreFactsWith, candidate_in, live, values_in}
use Rattle.cb_alpha.specs.Buckets.{AreWithValues, Filing}
use Rattle.cb_alpha.specs.JoinValues.{field_values, variable_values}
use Rattle.cb_alpha.specs.Turning.{AlphaTurns, is_number}
use Rattle.cb_beta.proofs.Members.{in_contains}
use Rattle.cb_beta.specs.BetaMemories.{BetaMemoryValue}
use Rattle.cb_constraints.specs.PatternValues.{PatternValue}
use Rattle.cb_facts.specs.FactLists.{IndexedFacts}
use Rattle.cb_facts.specs.Facts.{FactValue}
use Rattle.cb_facts.specs.declared.value.Value.{Value}
use Rattle.cb_fit.specs.JoinFields.{join_fields}
use Rattle.cb_fit.specs.Shapes.{is_selected}
use Rattle.cb_fit.specs.declared.join_fields.JoinField.{JoinField}
use Rattle.cb_groups.specs.Groups.{AreMembers, Membership}
use Rattle.cb_join_node.proofs.Agreement.{by_option, has_fact, has_filed}
use Rattle.cb_join_node.proofs.Decided.{all_known}
use Rattle.cb_join_node.specs.Meetings.{AreSelected, KnowsValues, MayMeet, MayMeetAll}
use Rattle.cb_join_node.specs.Filings.{ArePartialsFiled, filed_if, filed_values, stray_group}
use Rattle.cb_join_node.specs.Nodes.{FitsValues, Stays}
use Rattle.cb_join_node.specs.declared.by_values.ByValues.{ByValues}
use Rattle.cb_join_node.specs.declared.joining.Joining.{Joining}
use Rattle.cb_join_node.specs.declared.node.JoinNode.{JoinNode}
use Rattle.cb_matches.proofs.Lists.{by_test}
use Rattle.cb_matches.specs.Chains.{In}
use Rattle.cb_matches.specs.Matches.{Partial}
use Rattle.cb_token_lists.specs.Turns.{Turns}

-- the facts that can be read have the shape of the pattern
pub are_selected : (p : PatternValue) (alpha : AlphaMemoryValue) (fs fs' : IndexedFacts) → AlphaTurns p alpha fs fs' → AreSelected p alpha.candidates
are_selected p alpha fs fs' turns n f e =
    by_test (is_number alpha.come n)
    (λ a. by_test (is_number alpha.gone n)
    (λ g. absurd (turns.apart n (number_is alpha.come n a) (number_is alpha.gone n g)))
    (λ g. (turns.is.are n f (read_live alpha n g ∙ e)).1))
    (λ a. (turns.was.are n f (read_were alpha n a ∙ e)).1)

-- who has all values and is not found by them is asked for none
nothing_asked : (js : List JoinField) (vs : List Value) → filed_if js (Some vs) ≡ None → js ≡ []
nothing_asked [] vs e = refl
nothing_asked (j ∷ js) vs e = absurd (let no : Some vs ≡ None = e in cc)

is_stray : (o : Option (List Value)) → stray_group o ≡ Some 0 → o ≡ None
is_stray None e = refl
is_stray (Some vs) e = absurd (let no : None ≡ Some 0 = e in cc)

-- the values of what stayed before the pattern, and of what came there, are known
module _ {T : Type 0} (node : JoinNode T) (at : ℕ → Partial) (before : BetaMemoryValue) (old new : List Partial) (turns : Turns at before old new) (fits : FitsValues node old new) where
  pub stays_known : (n : ℕ) → Stays before n → KnowsValues node.asked (at n)
  stays_known n h by e = let k = fits by e in (k.0, k.1, k.2 (at n) (inl (turns.was.to n h.0)))

  pub came_known : (n : ℕ) → In n before.come → KnowsValues node.asked (at n)
  came_known n h by e = let k = fits by e in (k.0, k.1, k.2 (at n) (inr (turns.is.to n (turns.came n h))))

module _ {T : Type 0} (asked : Joining T) where
  abbrev js : List JoinField
  js = asked.fields.items

  -- where a pattern is joined by values, a partial match has them
  has_values : (m : Partial) → KnowsValues asked m → (by : ByValues) → asked.by_values ≡ Some by → (vs : List Value) × (variable_values js m.env ≡ Some vs)
  has_values m knows by e =
      let k = knows by e in
      let all = all_known k.0 m k.2 (join_fields asked.pattern.parts) in
      (all.0, ap (λ it. variable_values it m.env) k.1.fields ∙ all.1)

  meet_by : (m : Partial) (f : ℕ × FactValue) → KnowsValues asked m → is_selected asked.pattern f.1 ≡ true → (vs : List Value) → variable_values js m.env ≡ Some vs → field_values js f.1.content ≡ Some vs
      → MayMeet asked m f
  meet_by m f knows shape vs asks has by e = let k = knows by e in record { names = k.0; is = k.1; scope = k.2; selected = shape; values = vs; asks = asks; has = has }

  -- who is not found by values, where the pattern is joined by values, is asked for none
  pub stray_meets : (m : Partial) (f : ℕ × FactValue) → KnowsValues asked m → is_selected asked.pattern f.1 ≡ true → filed_values js m ≡ None → MayMeet asked m f
  stray_meets m f knows shape none by e =
      let vs = has_values m knows by e in
      let empty = nothing_asked js vs.0 (ap (filed_if js) (sym vs.1) ∙ none) in
      let asks : variable_values js m.env ≡ Some [] = ap (λ it. variable_values it m.env) empty in
      let has : field_values js f.1.content ≡ Some [] = ap (λ it. field_values it f.1.content) empty in
      meet_by m f knows shape [] asks has by e

  -- the facts with the values of a partial match meet it
  pub facts_meet : (m : Partial) (alpha : AlphaMemoryValue) (vs : List Value) (xs : List ℕ) → KnowsValues asked m → AreSelected asked.pattern alpha.candidates → variable_values js m.env ≡ Some vs
      → AreFactsWith alpha js vs xs → MayMeetAll asked m alpha.candidates xs
  facts_meet m alpha vs xs knows shape asks these n h f is by e =
      let at : values_in js (live alpha n) ≡ Some vs = (these.are n).0 (in_contains xs n h) in
      let g = has_fact js (live alpha n) vs at in
      let same : g.0 ≡ f = same_some (candidate_in alpha.candidates n) (live_read alpha n g.0 g.1).0 is in
      let has : field_values js f.1.content ≡ Some vs = subst (λ (it : ℕ × FactValue). field_values js it.1.content ≡ Some vs) same (sym (ap (values_in js) g.1) ∙ at) in
      meet_by m f knows (shape n f is) vs asks has by e

  -- partial matches that are filed, and one fact
  module _ (at : ℕ → Partial) (There : ℕ → Type 0) (knows : (n : ℕ) → There n → KnowsValues asked (at n)) (filing : Filing) (strays : Membership)
      (filed : ArePartialsFiled js filing strays at There) (f : ℕ × FactValue) (shape : is_selected asked.pattern f.1 ≡ true) where
    -- those with its values meet it
    pub beside_meet : (xs : List ℕ) → ((vs : List Value) → field_values js f.1.content ≡ Some vs → AreWithValues filing vs xs) → (field_values js f.1.content ≡ None → xs ≡ [])
        → (n : ℕ) → In n xs → MayMeet asked (at n) f
    beside_meet xs some none n h =
        by_option (field_values js f.1.content)
        (λ e. absurd (subst (In n) (none e) h))
        (λ vs e.
        let stands = ((some vs e).are n).0 (in_contains xs n h) in
        let there = filed.filed n vs stands in
        meet_by (at n) f (knows n there) shape vs (has_filed js (variable_values js (at n).env) vs (sym (filed.there n there).values ∙ stands)) e)

    -- and so do those that are not found by values
    pub strays_meet : (ys : List ℕ) → AreMembers strays 0 ys → (n : ℕ) → In n ys → MayMeet asked (at n) f
    strays_meet ys others n h =
        let stray = (others.are n).0 (in_contains ys n h) in
        let there = filed.strayed n 0 stray in
        stray_meets (at n) f (knows n there) shape (is_stray (filed_values js (at n)) (sym (filed.there n there).stray ∙ stray))
