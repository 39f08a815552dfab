-- How often the pattern of a join node is tested.
use Rattle.std.proofs.Common.{◌≡◌, ◌≢◌, ◌≤◌, ◌∙◌, ◌++◌, ◌+◌, ◌*◌, ◌||◌, ℕ, suc, Bool, true, false, List, [], ◌∷◌, Option, Some, None, ap, ap₂, arith, cond, filter, inl, inr, length, nat_eq, not, option_map, refl, subst, sym}
use Rattle.std.proofs.lemmas.Bool.{and_parts}
use Rattle.std.proofs.lemmas.Bool.Decides.{Decides-eqb}
use Rattle.std.proofs.lemmas.List.{length-append}
use Rattle.std.specs.Bool.{Decides}
use Rattle.std.specs.Cmp.Lexicographic.{pointwise, pointwise_decides}
use Rattle.std.specs.Option.{option_and_then}
use Rattle.cb_alpha.proofs.ReadFacts.{is_its_number, live_read, none_came, not_both, number_is, read_came, read_live, same_some, some_none, were_read}
use Rattle.cb_alpha.specs.AlphaMemories.{AlphaMemoryValue, AreFactsWith, candidate_in, live}
use Rattle.cb_alpha.specs.Buckets.{AreWithValues, Filing, values_at}
use Rattle.cb_alpha.specs.Turning.{AlphaTurns, came_in, is_number}
use Rattle.cb_beta.proofs.Live.{live_token, there_is}
use Rattle.cb_beta.proofs.Members.{apart_of, in_contains, in_either, once_append}
use Rattle.cb_beta.specs.BetaMemories.{BetaMemoryValue}
use Rattle.cb_constraints.specs.PatternValues.{PatternValue}
use Rattle.cb_facts.specs.FactLists.{IndexedFacts}
use Rattle.cb_facts.specs.Facts.{FactValue}
use Rattle.cb_facts.specs.declared.value.Value.{Value}
use Rattle.cb_fit.specs.declared.join_fields.JoinField.{JoinField}
use Rattle.cb_groups.specs.Groups.{Membership, group_of}
use Rattle.cb_fit.specs.Comparisons.{all_own_hold, own_fields}
use Rattle.cb_fit.specs.Shapes.{has_shape, is_selected}
use Rattle.cb_join_node.proofs.Agreement.{by_option, has_fact}
use Rattle.cb_join_node.specs.Bounds.{IsAdded, kept_probes}
use Rattle.cb_join_node.specs.Filings.{ArePartialsFiled, filed_values, stray_group}
use Rattle.cb_join_node.specs.Nodes.{AreAtMost, IsUnder, Stays, added_fact}
use Rattle.cb_matches.proofs.Lists.{by_test, filter_in}
use Rattle.cb_matches.specs.Chains.{Chain, In}
use Rattle.cb_matches.specs.Keys.{PartValue, part_eq}
use Rattle.cb_matches.specs.Matches.{Partial}
use Rattle.cb_matches.specs.Probes.{has_parts, is_candidate, partials_come, partials_kept}
use Rattle.cb_nodes.proofs.Grown.{and_both, and_first, and_second}
use Rattle.cb_token_lists.specs.Turns.{IsReadable, IsThere, Turns}

-- a list without one of its members
removed_of : {A : Type 0} (x : A) (ys : List A) → In x ys → (rest : List A) × (length ys ≡ suc (length rest)) × ((z : A) → In z ys → (z ≢ x) → In z rest)
removed_of x [] h = absurd h
removed_of x (y ∷ ys) (inl e) = (ys, refl, λ z k apart. elim k as (λ _. In z ys) [ inl i ↦ absurd (apart (i ∙ sym e)) | inr i ↦ i ])
removed_of x (y ∷ ys) (inr h) =
    let more = removed_of x ys h in
    (y ∷ more.0, ap suc more.1, λ z k apart. elim k as (λ _. In z (y ∷ more.0)) [ inl i ↦ inl i | inr i ↦ inr (more.2 z i apart) ])

-- numbers none of which is there twice, each of which stands for a member of its own, are no more than the members
pub no_more : {A : Type 0} (R : ℕ → A → Type 0) → ((i j : ℕ) (y : A) → R i y → R j y → i ≡ j) → (xs : List ℕ) (ys : List A) → Chain (λ (i : ℕ) (j : ℕ). i ≢ j) xs
    → ((i : ℕ) → In i xs → (y : A) × In y ys × R i y) → length xs ≤ length ys
no_more R one [] ys once has = omega (arith)
no_more R one (x ∷ xs) ys once has =
    let y = has x (inl refl) in
    let rest = removed_of y.0 ys y.1 in
    let more : length xs ≤ length rest.0 = no_more R one xs rest.0 once.1
    (λ i h. let z = has i (inr h) in (z.0, rest.2 z.0 z.1 (λ e. once.0 i h (one x i y.0 y.2 (subst (R i) e z.2))), z.2)) in
    let long : length ys ≡ suc (length rest.0) = rest.1 in
    omega (arith, more, long)

-- a fact that is selected has the shape
selected_shape : (p : PatternValue) (f : FactValue) → is_selected p f ≡ true → has_shape p f ≡ true
selected_shape p f e = (and_parts (has_shape p f) (all_own_hold (own_fields p.parts) f.content) e).0

-- the facts that are there
pub facts_at_most : (p : PatternValue) (alpha : AlphaMemoryValue) (fs fs' : IndexedFacts) → AlphaTurns p alpha fs fs'
    → AreAtMost (IsUnder (live alpha)) (length (filter (is_candidate p) fs'))
facts_at_most p alpha fs fs' turns xs once has =
    no_more (λ c f. candidate_in alpha.candidates c ≡ Some f) (λ i j f h k. turns.one i j f f h k refl) xs (filter (is_candidate p) fs') once
    (λ c h. let f = has c h in let is = turns.is.are c f.0 f.1 in
    (f.0, filter_in (is_candidate p) f.0 fs' is.0 (selected_shape p f.0.1 is.1), (live_read alpha c f.0 f.1).0))

make_part : ℕ → List ℕ → PartValue
make_part ix cuts = record { index = ix; cuts = cuts }

part_Decides : (p q : PartValue) → Decides (part_eq p q) (p ≡ q)
unfolding make_part
part_Decides p q = (
  λ h. ap₂ make_part ((Decides-eqb _ _).0 (and_first (nat_eq p.index q.index) _ h)) ((pointwise_decides Decides-eqb p.cuts q.cuts).0 (and_second (nat_eq p.index q.index) _ h)),
  λ e. and_both (nat_eq p.index q.index) (pointwise nat_eq p.cuts q.cuts) ((Decides-eqb _ _).1 (ap (λ it. it.index) e)) ((pointwise_decides Decides-eqb p.cuts q.cuts).1 (ap (λ it. it.cuts) e)),
)

or_second : (a b : Bool) → b ≡ true → (a || b) ≡ true
or_second true b h = refl
or_second false b h = h

any_parts : (z : Partial) (ms : List Partial) → has_parts ms z ≡ true → (n : Partial) × In n ms × (z.parts ≡ n.parts)
any_parts z [] h = cc
any_parts z (m ∷ ms) h =
    by_test (pointwise part_eq z.parts m.parts) (λ t. (m, inl refl, (pointwise_decides part_Decides z.parts m.parts).0 t))
    (λ t. let more = any_parts z ms (subst (λ b. (b || has_parts ms z) ≡ true) t h) in (more.0, inr more.1, more.2))

parts_any : (z : Partial) (ms : List Partial) → In z ms → has_parts ms z ≡ true
parts_any z [] h = absurd h
parts_any z (m ∷ ms) (inl i) = ap (λ b. b || has_parts ms z) ((pointwise_decides part_Decides z.parts m.parts).1 (ap (λ it. it.parts) i))
parts_any z (m ∷ ms) (inr i) = or_second (pointwise part_eq z.parts m.parts) (has_parts ms z) (parts_any z ms i)

-- the partial matches that came before the pattern, and those that were there and still are
module _ (at : ℕ → Partial) (before : BetaMemoryValue) (old new : List Partial) (turns : Turns at before old new) where
  abbrev Stands : ℕ → Partial → Type 0
  Stands n m = IsReadable before n × (m ≡ at n)

  one_stands : (i j : ℕ) (m : Partial) → Stands i m → Stands j m → i ≡ j
  one_stands i j m h k = turns.one i j h.0 k.0 (ap (λ it. it.parts) (sym h.1 ∙ k.1))

  pub kept_at_most : AreAtMost (Stays before) (length (partials_kept old new))
  unfolding partials_kept
  kept_at_most xs once stay =
      no_more Stands one_stands xs (filter (has_parts old) new) once
      (λ n h. let k = stay n h in
      let there : IsThere before n = (k.0.0.0, there_is before.tokens before.gone n k.1 ∙ k.0.0.1) in
      (at n, filter_in (has_parts old) (at n) new (turns.is.to n there) (parts_any (at n) old (turns.was.to n k.0)), (k.0.0, refl)))

  pub come_at_most : length before.come ≤ length (partials_come old new)
  unfolding partials_come
  come_at_most =
      no_more Stands one_stands before.come (filter (λ m. not (has_parts old m)) new) turns.come_once
      (λ n h. let t = turns.came n h in
      let read : IsReadable before n = (t.0, (live_token before.tokens before.gone n t.0 t.1).1) in
      (at n, filter_in (λ m. not (has_parts old m)) (at n) new (turns.is.to n t) (not_old n h read), (read, refl)))
    where
      not_old : (n : ℕ) → In n before.come → IsReadable before n → not (has_parts old (at n)) ≡ true
      not_old n h read = by_test (has_parts old (at n))
          (λ t. let m = any_parts (at n) old t in let i = turns.was.from m.0 m.1 in
          absurd (i.1.1 (subst (λ k. In k before.come) (turns.one n i.0 read i.1.0 (m.2 ∙ ap (λ it. it.parts) i.2)) h)))
          (λ t. ap not t)

-- who stands beside a fact and who stands nowhere are two
module _ (js : List JoinField) (filing : Filing) (strays : Membership) (at : ℕ → Partial) (There : ℕ → Type 0) (filed : ArePartialsFiled js filing strays at There)
    (xs ys : List ℕ) (has : (n : ℕ) → In n xs → (vs : List Value) × (values_at filing n ≡ Some vs)) (others : (n : ℕ) → In n ys → group_of strays n ≡ Some 0)
    (once₁ : Chain (λ (i : ℕ) (j : ℕ). i ≢ j) xs) (once₂ : Chain (λ (i : ℕ) (j : ℕ). i ≢ j) ys) where
  two_apart : (n : ℕ) → In n xs → In n ys → ⊥
  two_apart n h k =
      let v = has n h in
      let stands = filed.there n (filed.filed n v.0 v.1) in
      let values : filed_values js (at n) ≡ Some v.0 = sym stands.values ∙ v.1 in
      some_none (group_of strays n) (others n k) (stands.stray ∙ ap stray_group values)

  pub both_at_most : (k : ℕ) → AreAtMost There k → length xs + length ys ≤ k
  both_at_most k most =
      let all : length (xs ++ ys) ≤ k = most (xs ++ ys) (once_append xs ys once₁ once₂ two_apart)
      (λ n h. elim (in_either n xs ys h) as (λ _. There n) [
        | inl i ↦ let v = has n i in filed.filed n v.0 v.1
        | inr i ↦ filed.strayed n 0 (others n i)
      ]) in
      let sum : length (xs ++ ys) ≡ length xs + length ys = length-append xs ys in
      omega (arith, all, sum)

-- who stands with some values, if there are any, has them, and stands there once
module _ (o : Option (List Value)) (filing : Filing) (xs : List ℕ) (some : (vs : List Value) → o ≡ Some vs → AreWithValues filing vs xs) (none : o ≡ None → xs ≡ []) where
  pub has_values_beside : (n : ℕ) → In n xs → (vs : List Value) × (values_at filing n ≡ Some vs)
  has_values_beside n h = by_option o
      (λ e. absurd (subst (In n) (none e) h))
      (λ vs e. (vs, ((some vs e).are n).0 (in_contains xs n h)))

  pub once_beside : Chain (λ (i : ℕ) (j : ℕ). i ≢ j) xs
  once_beside = by_option o
      (λ e. subst (Chain (λ (i : ℕ) (j : ℕ). i ≢ j)) (sym (none e)) tt)
      (λ vs e. apart_of xs (some vs e).once)

-- facts with some values are there
pub facts_beside : (js : List JoinField) (vs : List Value) (alpha : AlphaMemoryValue) (xs : List ℕ) → AreFactsWith alpha js vs xs → (n : ℕ) → In n xs → IsUnder (live alpha) n
facts_beside js vs alpha xs these n h = has_fact js (live alpha n) vs ((these.are n).0 (in_contains xs n h))

-- the fact that came
module _ (p : PatternValue) (alpha : AlphaMemoryValue) (fs fs' : IndexedFacts) (turns : AlphaTurns p alpha fs fs') where
  -- it is there now, has the shape, and was not there before
  record IsNew (f : ℕ × FactValue) : Type 0 where
    is : In f fs'
    shape : has_shape p f.1 ≡ true
    was : In f fs → ⊥
    added : added_fact alpha ≡ Some f.1

  new_fact : (n : ℕ) (f : ℕ × FactValue) → alpha.come ≡ Some n → candidate_in alpha.candidates n ≡ Some f → IsNew f
  new_fact n f e is =
      let come : is_number alpha.come n ≡ true = is_its_number alpha.come n e in
      let there : live alpha n ≡ Some f = by_test (is_number alpha.gone n)
      (λ g. absurd (turns.apart n e (number_is alpha.gone n g)))
      (λ g. read_live alpha n g ∙ is) in
      let a = turns.is.are n f there in
      record {
        is = a.0;
        shape = selected_shape p f.1 a.1;
        was = λ h.
            let k = turns.was.all f h a.1 in
            let r = were_read alpha k.0 f k.1 in
            not_both (is_number alpha.come n) come (ap (is_number alpha.come) (turns.one n k.0 f f is r.0 refl) ∙ r.1);
        added = ap (λ o. option_map (λ (it : ℕ × FactValue). it.1) (option_and_then (candidate_in alpha.candidates) o)) e ∙ ap (option_map (λ (it : ℕ × FactValue). it.1)) is;
      }

  -- a fact came, or none did
  by_come : {P : Type 0} → (added_fact alpha ≡ None → ((n : ℕ) → came_in alpha n ≡ None) → P) → ((f : ℕ × FactValue) → IsNew f → P) → P
  by_come none some = by_option alpha.come
      (λ e. none (ap (λ o. option_map (λ (it : ℕ × FactValue). it.1) (option_and_then (candidate_in alpha.candidates) o)) e) (λ n. none_came alpha n (ap (λ o. is_number o n) e)))
      (λ n e. by_option (candidate_in alpha.candidates n)
      (λ no. none (ap (λ o. option_map (λ (it : ℕ × FactValue). it.1) (option_and_then (candidate_in alpha.candidates) o)) e ∙ ap (option_map (λ (it : ℕ × FactValue). it.1)) no)
      (λ m. by_test (is_number alpha.come m)
      (λ a. read_came alpha m a ∙ (ap (candidate_in alpha.candidates) (same_some alpha.come (number_is alpha.come m a) e) ∙ no))
      (λ a. none_came alpha m a)))
      (λ f is. some f (new_fact n f e is)))

  module _ (kept : ℕ) where
    whole_kept : (f : ℕ × FactValue) → IsNew f → kept_probes p (added_fact alpha) kept ≡ kept
    whole_kept f is = ap (λ o. kept_probes p o kept) is.added ∙ ap (λ b. cond b kept 0) is.shape

    -- its tests
    pub added_bound : (t t' : ℕ) → t' ≤ t + kept → (((n : ℕ) → came_in alpha n ≡ None) → t' ≤ t) → t' ≤ t + kept_probes p (added_fact alpha) kept
    added_bound t t' some none = by_come
        (λ e no. let l = none no in omega (arith, l))
        (λ f is. let whole = whole_kept f is in omega (arith, some, whole))

    -- are no more than those of the fact that is added
    pub added_within : (added : Option FactValue) → IsAdded added fs fs' → kept_probes p (added_fact alpha) kept ≤ kept_probes p added kept
    added_within None only = by_come
        (λ e no. let zero_is : kept_probes p (added_fact alpha) kept ≡ 0 = ap (λ o. kept_probes p o kept) e in omega (arith, zero_is))
        (λ f is. absurd (is.was (only f is.is)))
    added_within (Some g) only = by_come
        (λ e no. let zero_is : kept_probes p (added_fact alpha) kept ≡ 0 = ap (λ o. kept_probes p o kept) e in omega (arith, zero_is))
        (λ f is. elim (only.1 f is.is) as (λ _. kept_probes p (added_fact alpha) kept ≤ kept_probes p (Some g) kept) [
          | inl h ↦ absurd (is.was h)
          | inr h ↦
              let same : kept_probes p (added_fact alpha) kept ≡ kept_probes p (Some g) kept = ap (λ o. kept_probes p o kept) (is.added ∙ ap (λ (it : ℕ × FactValue). Some it.1) h) in
              omega (arith, same)
        ])

-- all tests
pub whole_bound : (t t₁ t₂ come most kept k : ℕ) → t₁ ≤ t + kept → t₂ ≤ t₁ + come * most → come ≤ k → t₂ ≤ t + (k * most + kept)
whole_bound t t₁ t₂ come most kept k h i j = grind arith

-- with one for the shape
pub with_shape : (a k : ℕ) → (a + k) + 1 ≡ a + (1 + k)
with_shape a k = omega arith

pub without_shape : (a : ℕ) → (a + 0) + 0 ≡ a + 0
without_shape a = omega arith
