-- Tokens, and the groups that they are found by.
use Rattle.std.proofs.Common.{◌≡◌, ◌≢◌, ◌∙◌, ◌++◌, ◌+◌, ◌<◌, ℕ, List, [], ◌∷◌, Option, Some, None, ap, cond, get_or, inl, inr, length, nat_eq, option_map, refl, subst, sym, take}
use Rattle.std.proofs.lemmas.Bool.{cases_eq}
use Rattle.std.proofs.lemmas.List.{take_more}
use Rattle.std.specs.List.{list_any}
use Rattle.std.specs.Option.{option_and_then}
use Rattle.cb_beta.proofs.Live.{gone_is, live_more, live_token, some_none, there_is}
use Rattle.cb_beta.proofs.Members.{apart_of, by_in, contains_in, in_contains, in_either, in_more, in_right, more_in}
use Rattle.cb_beta.specs.BetaMemories.{Loses, live_in}
use Rattle.cb_beta.specs.Internal.{AreFiled, AreLeft, IsInserted, parent_of}
use Rattle.cb_beta.specs.Tokens.{TokenValue, Tokens, candidate_of, token_at}
use Rattle.cb_groups.specs.Groups.{AppendsMembers, AreMembers, Membership, Releases, Updates, group_of}
use Rattle.cb_matches.specs.Chains.{In}

same_live : (ts ts' : Tokens) (gone : List ℕ) (i : ℕ) → token_at ts' i ≡ token_at ts i → live_in ts' gone i ≡ live_in ts gone i
same_live ts ts' gone i e = ap (λ s. cond (list_any (nat_eq i) gone) None s) e

-- one token more
module _ (ts ts' : Tokens) (gone : List ℕ) (children with_fact : Membership) (was : AreFiled ts gone children with_fact) (number : ℕ) (t : TokenValue)
    (is : IsInserted ts ts' number t) where
  not_gone : In number gone → ⊥
  not_gone h = was.readable number h is.free

  readable_then : (i : ℕ) → In i gone → token_at ts' i ≢ None
  readable_then i h none = was.readable i h (sym (is.others i (λ e. was.readable i h (ap (token_at ts) e ∙ is.free))) ∙ none)

  pub filed_more : (children' with_fact' : Membership) → Updates children children' number (Some t.parent) → Updates with_fact with_fact' number (candidate_of t)
      → AreFiled ts' gone children' with_fact'
  filed_more children' with_fact' of_parent of_fact = record {
    children = λ i. elim (cases_eq i number) as (λ _. group_of children' i ≡ option_map parent_of (live_in ts' gone i)) [
      | inl e ↦ ap (group_of children') e ∙ (of_parent.changed ∙ ap (option_map parent_of) (sym (here i e)))
      | inr d ↦ of_parent.others i d ∙ (was.children i ∙ ap (option_map parent_of) (sym (same_live ts ts' gone i (is.others i d))))
    ];
    with_fact = λ i. elim (cases_eq i number) as (λ _. group_of with_fact' i ≡ option_and_then candidate_of (live_in ts' gone i)) [
      | inl e ↦ ap (group_of with_fact') e ∙ (of_fact.changed ∙ ap (option_and_then candidate_of) (sym (here i e)))
      | inr d ↦ of_fact.others i d ∙ (was.with_fact i ∙ ap (option_and_then candidate_of) (sym (same_live ts ts' gone i (is.others i d))))
    ];
    readable = readable_then;
  }
    where
      here : (i : ℕ) → i ≡ number → live_in ts' gone i ≡ Some t
      here i e = ap (live_in ts' gone) e ∙ (there_is ts' gone number not_gone ∙ is.there)

-- a mapped option has a value where the option has one
mapped_some : {A : Type 0} (f : A → ℕ) (o : Option A) (n : ℕ) → option_map f o ≡ Some n → (a : A) × (o ≡ Some a) × (f a ≡ n)
mapped_some f None n e = absurd (cc)
mapped_some f (Some a) n e = (a, refl, cc)

then_some : {A : Type 0} (f : A → Option ℕ) (o : Option A) (n : ℕ) → option_and_then f o ≡ Some n → (a : A) × (o ≡ Some a) × (f a ≡ Some n)
then_some f None n e = absurd (cc)
then_some f (Some a) n e = (a, refl, e)

-- the members of a group that are taken out of it
pub released_left : (old new : Membership) (group : ℕ) (more : List ℕ) → AreMembers old group more → Releases old new group → AreLeft old new more
released_left old new group more is out = record {
  left = λ i h. out.released i ((is.are i).0 (in_contains more i h));
  others = λ i n. out.others i (λ e. n (contains_in more i ((is.are i).1 e)));
}

-- what goes
module _ (ts : Tokens) (gone come : List ℕ) (children with_fact : Membership) (was : AreFiled ts gone children with_fact) where
  filed_less : (more gone' : List ℕ) → gone' ≡ gone ++ more → ((i : ℕ) → In i more → (t : TokenValue) × (live_in ts gone i ≡ Some t)) → (children' with_fact' : Membership)
      → AreLeft children children' more → AreLeft with_fact with_fact' more → AreFiled ts gone' children' with_fact'
  filed_less more gone' is there children' with_fact' left₁ left₂ = subst (λ it. AreFiled ts it children' with_fact') (sym is) (record {
    children = λ i. elim (by_in i more) as (λ _. group_of children' i ≡ option_map parent_of (live_in ts (gone ++ more) i)) [
      | inl h ↦ left₁.left i h ∙ ap (option_map parent_of) (sym (gone_is ts (gone ++ more) i (in_right i gone more h)))
      | inr n ↦ left₁.others i n ∙ (was.children i ∙ ap (option_map parent_of) (sym (live_more ts gone more i n)))
    ];
    with_fact = λ i. elim (by_in i more) as (λ _. group_of with_fact' i ≡ option_and_then candidate_of (live_in ts (gone ++ more) i)) [
      | inl h ↦ left₂.left i h ∙ ap (option_and_then candidate_of) (sym (gone_is ts (gone ++ more) i (in_right i gone more h)))
      | inr n ↦ left₂.others i n ∙ (was.with_fact i ∙ ap (option_and_then candidate_of) (sym (live_more ts gone more i n)))
    ];
    readable = λ i h none. elim (in_either i gone more h) as (λ _. ⊥) [
      | inl j ↦ was.readable i j none
      | inr j ↦ let t = there i j in some_none (token_at ts i) (live_token ts gone i t.0 t.1).1 none
    ];
  })

  module _ (group : ℕ) (gone' : List ℕ) where
    -- the children of a number
    module _ (l : AppendsMembers children group gone gone') where
      child_there : (i : ℕ) → In i l.members → (t : TokenValue) × (live_in ts gone i ≡ Some t) × (t.parent ≡ group)
      child_there i h = mapped_some parent_of (live_in ts gone i) group (sym (was.children i) ∙ (l.are.are i).0 (in_contains l.members i h))

      pub children_lost : Loses (record { tokens = ts; gone = gone; come = come }) (record { tokens = ts; gone = gone'; come = come }) (λ t. t.parent ≡ group)
      children_lost = record {
        more = l.members;
        gone = l.is;
        are = child_there;
        all = λ i t e such. contains_in l.members i ((l.are.are i).1 (was.children i ∙ (ap (option_map parent_of) e ∙ ap Some such)));
        once = apart_of l.members l.are.once;
        tokens = refl;
        come = refl;
      }

      pub children_filed : (children' with_fact' : Membership) → Releases children children' group → AreLeft with_fact with_fact' l.members → AreFiled ts gone' children' with_fact'
      children_filed children' with_fact' out left =
          filed_less l.members gone' l.is (λ i h. let t = child_there i h in (t.0, t.1)) children' with_fact' (released_left children children' group l.members l.are out) left

    -- and those with a fact
    module _ (l : AppendsMembers with_fact group gone gone') where
      fact_there : (i : ℕ) → In i l.members → (t : TokenValue) × (live_in ts gone i ≡ Some t) × (candidate_of t ≡ Some group)
      fact_there i h = then_some candidate_of (live_in ts gone i) group (sym (was.with_fact i) ∙ (l.are.are i).0 (in_contains l.members i h))

      pub facts_lost : Loses (record { tokens = ts; gone = gone; come = come }) (record { tokens = ts; gone = gone'; come = come }) (λ t. candidate_of t ≡ Some group)
      facts_lost = record {
        more = l.members;
        gone = l.is;
        are = fact_there;
        all = λ i t e such. contains_in l.members i ((l.are.are i).1 (was.with_fact i ∙ (ap (option_and_then candidate_of) e ∙ such)));
        once = apart_of l.members l.are.once;
        tokens = refl;
        come = refl;
      }

      pub facts_filed : (children' with_fact' : Membership) → Releases with_fact with_fact' group → AreLeft children children' l.members → AreFiled ts gone' children' with_fact'
      facts_filed children' with_fact' out left =
          filed_less l.members gone' l.is (λ i h. let t = fact_there i h in (t.0, t.1)) children' with_fact' left (released_left with_fact with_fact' group l.members l.are out)

-- numbers leave their groups one by one
pub none_left : (groups : Membership) → AreLeft groups groups []
none_left groups = record { left = λ i h. absurd h; others = λ i n. refl }

pub one_left : (old now new : Membership) (xs : List ℕ) (i : ℕ) → i < length xs → AreLeft old now (take i xs) → Updates now new (get_or xs i 0) None → AreLeft old new (take (i + 1) xs)
one_left old now new xs i l is out = record {
  left = λ n h. elim (cases_eq n (get_or xs i 0)) as (λ _. group_of new n ≡ None) [
    | inl e ↦ ap (group_of new) e ∙ out.changed
    | inr d ↦ out.others n d ∙ is.left n (elim (more_in xs i n l h) as (λ _. In n (take i xs)) [ inl k ↦ k | inr e ↦ absurd (d e) ])
  ];
  others = λ n apart. out.others n (λ e. apart (in_more xs i n l (inr e))) ∙ is.others n (λ h. apart (in_more xs i n l (inl h)));
}

-- numbers are freed one by one
pub one_freed : (ts now new : Tokens) (xs : List ℕ) (k : ℕ) → k < length xs → ((i : ℕ) → token_at now i ≡ live_in ts (take k xs) i)
    → token_at new (get_or xs k 0) ≡ None → ((i : ℕ) → i ≢ get_or xs k 0 → token_at new i ≡ token_at now i) → (i : ℕ) → token_at new i ≡ live_in ts (take (k + 1) xs) i
one_freed ts now new xs k l is none others i = subst (λ it. token_at new i ≡ live_in ts it i) (sym (take_more xs k 0 l)) (elim (cases_eq i (get_or xs k 0)) as (λ _. token_at new i ≡ live_in ts (take k xs ++ get_or xs k 0 ∷ []) i) [
  | inl e ↦ ap (token_at new) e ∙ (none ∙ sym (gone_is ts (take k xs ++ get_or xs k 0 ∷ []) i (in_right i (take k xs) (get_or xs k 0 ∷ []) (inl e))))
  | inr d ↦ others i d ∙ (is i ∙ sym (live_more ts (take k xs) (get_or xs k 0 ∷ []) i (λ h. elim h as (λ _. ⊥) [ inl e ↦ d e | inr none ↦ none ])))
])
