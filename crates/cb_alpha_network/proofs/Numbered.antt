-- What is kept for the shapes: a shape more, and one less, and users more and less.
use Rattle.std.proofs.Common.{◌≡◌, ◌≢◌, ◌∙◌, ◌<◌, ◌≤◌, ℕ, true, false, List, Option, Some, None, ap, arith, cond, count_by, inl, inr, is_eq, is_some, length, map, subst, sym}
use Rattle.std.proofs.lemmas.Bool.{cases_eq}
use Rattle.std.proofs.lemmas.List.{length-map}
use Rattle.std.specs.BTreeMap as tree
use Rattle.std.specs.BTreeMap.{BTreeMap, is_at}
use Rattle.std.specs.Cmp.{Equal-is}
use Rattle.cb_alpha_network.proofs.Counted.{counted_in}
use Rattle.cb_alpha_network.proofs.LooseShapes.{selection_key}
use Rattle.cb_alpha_network.proofs.Pieces.{not_equal}
use Rattle.cb_alpha_network.proofs.Users.{user_at}
use Rattle.cb_alpha_network.specs.Asked.{IsEntered, KeepsEntered, LosesOnly}
use Rattle.cb_alpha_network.specs.Internal.{IsNetwork, shape_cmp}
use Rattle.cb_alpha_network.specs.Networks.{ShapeValues, shape_in}
use Rattle.cb_alpha_network.specs.declared.asked.Asked.{Asked}
use Rattle.cb_alpha_network.specs.declared.node_place.NodePlace.{NodePlace}
use Rattle.cb_alpha_network.specs.declared.user.User.{User}
use Rattle.cb_constraints.specs.PatternValues.{PatternValue}
use Rattle.cb_fit.proofs.ShapeOrder.{shapes_exact, shapes_level}
use Rattle.cb_fit.specs.ShapeKeys.{key_of, shape_of}
use Rattle.cb_fit.specs.Shapes.{SelectionValue, selection}
use Rattle.cb_fit.specs.declared.shape.Shape.{Shape}
use Rattle.cb_matches.proofs.Lists.{by_test, map_in}
use Rattle.cb_matches.specs.Chains.{In}

pub same_shape : (p q : SelectionValue) → Some p ≡ Some q → p ≡ q
same_shape p q e = cc

same_found : (m n : ℕ) → Some m ≡ Some n → m ≡ n
same_found m n e = cc

pub not_there : {A : Type 0} (o : Option A) (a : A) → o ≡ None → o ≡ Some a → ⊥
not_there o a e f = let no : None ≡ Some a = sym e ∙ f in cc

key_is : (k l : Shape) → is_at (shape_cmp k) l ≡ true → k ≡ l
key_is k l t = shapes_exact k l ((Equal-is (shape_cmp k l)).0 t)

key_differs : (k l : Shape) → k ≢ l → is_at (shape_cmp k) l ≡ false
key_differs k l apart = not_equal (shape_cmp k l) (λ e. apart (shapes_exact k l e))

key_apart : (k l : Shape) → is_at (shape_cmp k) l ≡ false → k ≡ l → ⊥
key_apart k l f e = let no : true ≡ false = sym (ap is_eq (shapes_level k l e)) ∙ f in cc

-- the number of a shape, if it has one
abbrev pub number_of : BTreeMap Shape ℕ → Shape → Option ℕ
number_of numbers k = tree.get shape_cmp numbers k

-- there are at most as many shapes as users
pub shapes_within : (asked : Asked) (numbers : BTreeMap Shape ℕ) (ss : ShapeValues) (us : List User) (count : ℕ) → IsNetwork asked numbers ss us count → count_by is_some ss ≤ length us
shapes_within asked numbers ss us count is =
    let alphas : List ℕ = map (λ (u : User). u.alpha) us in
    let few = counted_in ss alphas (λ n q at. let used = is.used n q at in map_in (λ (u : User). u.alpha) us (user_at n used.0) used.1) in
    let long : length alphas ≡ length us = length-map us (λ (u : User). u.alpha) in
    omega (arith, few, long)

module _ (asked asked' : Asked) (numbers numbers' : BTreeMap Shape ℕ) (ss ss' : ShapeValues) (us us' : List User) (count count' : ℕ) (was : IsNetwork asked numbers ss us count) where
  -- two shapes have two numbers
  one_number : (m n : ℕ) (p q : SelectionValue) → shape_in ss m ≡ Some p → shape_in ss n ≡ Some q → key_of p ≡ key_of q → m ≡ n
  one_number m n p q at there e = same_found m n (sym (was.numbered m p at) ∙ (ap (number_of numbers) e ∙ was.numbered n q there))

  pub network_stays : KeepsEntered asked asked' → ((k : Shape) → number_of numbers' k ≡ number_of numbers k) → ((u : User) → In u us → In u us') → count ≤ count'
      → IsNetwork asked' numbers' ss us' count'
  network_stays keeps same users more = record {
    entered = λ n q at. let entered = was.entered n q at in (entered.0, entered.1, keeps entered.0 n entered.2);
    within = λ n q at. let l = was.within n q at in omega (arith, l, more);
    numbered = λ n q at. same (key_of q) ∙ was.numbered n q at;
    found = λ k n at. was.found k n (sym (same k) ∙ at);
    used = λ n q at. let used = was.used n q at in (used.0, users (user_at n used.0) used.1);
  }

  -- users less, none of them the last of its shape
  pub network_left : (number : ℕ) → ((u : User) → u.alpha ≢ number → In u us → In u us')
      → ((q : SelectionValue) → shape_in ss number ≡ Some q → (place : NodePlace) × In (user_at number place) us') → IsNetwork asked numbers ss us' count
  network_left number users used = record {
    entered = was.entered;
    within = was.within;
    numbered = was.numbered;
    found = was.found;
    used = λ n q at. elim (cases_eq n number) as (λ _. (place : NodePlace) × In (user_at n place) us') [
      | inl e ↦ subst (λ i. (place : NodePlace) × In (user_at i place) us') (sym e) (used q (ap (shape_in ss) (sym e) ∙ at))
      | inr d ↦ let before = was.used n q at in (before.0, users (user_at n before.0) d before.1)
    ];
  }

  module _ (number : ℕ) (others : (n : ℕ) → n ≢ number → shape_in ss' n ≡ shape_in ss n) where
    module _ (p : PatternValue) (free : shape_in ss number ≡ None) (there : shape_in ss' number ≡ Some (selection p))
        (first : (n : ℕ) (q : SelectionValue) → shape_in ss n ≡ Some q → key_of q ≢ shape_of p) (updates : tree.Updates shape_cmp numbers numbers' (shape_of p) (Some number)) where
      shape_here : (n : ℕ) (q : SelectionValue) → n ≡ number → shape_in ss' n ≡ Some q → selection p ≡ q
      shape_here n q e at = same_shape (selection p) q (sym there ∙ (ap (shape_in ss') (sym e) ∙ at))

      numbered_more : (n : ℕ) (q : SelectionValue) → shape_in ss' n ≡ Some q → number_of numbers' (key_of q) ≡ Some n
      numbered_more n q at = elim (cases_eq n number) as (λ _. number_of numbers' (key_of q) ≡ Some n) [
        | inl e ↦ ap (number_of numbers') (ap key_of (sym (shape_here n q e at)) ∙ selection_key p) ∙ (updates.1 ∙ ap Some (sym e))
        | inr d ↦
            let old : shape_in ss n ≡ Some q = sym (others n d) ∙ at in
            updates.2 (key_of q) (key_differs (shape_of p) (key_of q) (λ e. first n q old (sym e))) ∙ was.numbered n q old
      ]

      found_more : (k : Shape) (n : ℕ) → number_of numbers' k ≡ Some n → (q : PatternValue) × (shape_of q ≡ k) × (shape_in ss' n ≡ Some (selection q))
      found_more k n at = by_test (is_at (shape_cmp (shape_of p)) k)
          (λ t.
          let now : number_of numbers' k ≡ Some number = updates.0 k ∙ ap (λ b. cond b (Some number) (number_of numbers k)) t in
          let e : n ≡ number = same_found n number (sym at ∙ now) in
          (p, key_is (shape_of p) k t, ap (shape_in ss') e ∙ there))
          (λ f.
          let old = was.found k n (sym (updates.2 k f) ∙ at) in
          (old.0, old.1, others n (λ e. not_there (shape_in ss number) (selection old.0) free (ap (shape_in ss) (sym e) ∙ old.2)) ∙ old.2))

      pub network_more : IsEntered asked' p number → number < count' → KeepsEntered asked asked' → count ≤ count'
          → (place : NodePlace) → In (user_at number place) us' → ((u : User) → In u us → In u us') → IsNetwork asked' numbers' ss' us' count'
      network_more entered long keeps more place here users = record {
        entered = λ n t at. elim (cases_eq n number) as (λ _. (q : PatternValue) × (selection q ≡ t) × IsEntered asked' q n) [
          | inl e ↦ (p, shape_here n t e at, subst (IsEntered asked' p) (sym e) entered)
          | inr d ↦ let before = was.entered n t (sym (others n d) ∙ at) in (before.0, before.1, keeps before.0 n before.2)
        ];
        within = λ n t at. elim (cases_eq n number) as (λ _. n < count') [
          | inl e ↦ omega (arith, e, long)
          | inr d ↦ (let l = was.within n t (sym (others n d) ∙ at) in omega (arith, l, more))
        ];
        numbered = numbered_more;
        found = found_more;
        used = λ n t at. elim (cases_eq n number) as (λ _. (there : NodePlace) × In (user_at n there) us') [
          | inl e ↦ (place, subst (λ i. In (user_at i place) us') (sym e) here)
          | inr d ↦ let before = was.used n t (sym (others n d) ∙ at) in (before.0, users (user_at n before.0) before.1)
        ];
      }

    module _ (lost : SelectionValue) (there : shape_in ss number ≡ Some lost) (gone : shape_in ss' number ≡ None)
        (updates : tree.Updates shape_cmp numbers numbers' (key_of lost) None) where
      -- what stands there now stood there, under another number
      other_number : (n : ℕ) (q : SelectionValue) → shape_in ss' n ≡ Some q → n ≢ number
      other_number n q at e = not_there (shape_in ss' number) q gone (ap (shape_in ss') (sym e) ∙ at)

      before_then : (n : ℕ) (q : SelectionValue) → shape_in ss' n ≡ Some q → shape_in ss n ≡ Some q
      before_then n q at = sym (others n (other_number n q at)) ∙ at

      numbered_less : (n : ℕ) (q : SelectionValue) → shape_in ss' n ≡ Some q → number_of numbers' (key_of q) ≡ Some n
      numbered_less n q at =
          let old : shape_in ss n ≡ Some q = before_then n q at in
          updates.2 (key_of q) (key_differs (key_of lost) (key_of q) (λ e. other_number n q at (one_number n number q lost old there (sym e)))) ∙ was.numbered n q old

      found_less : (k : Shape) (n : ℕ) → number_of numbers' k ≡ Some n → (q : PatternValue) × (shape_of q ≡ k) × (shape_in ss' n ≡ Some (selection q))
      found_less k n at = by_test (is_at (shape_cmp (key_of lost)) k)
          (λ t. absurd (not_there (number_of numbers' k) n (updates.0 k ∙ ap (λ b. cond b None (number_of numbers k)) t) at))
          (λ f.
          let old = was.found k n (sym (updates.2 k f) ∙ at) in
          let d : n ≢ number = λ e. key_apart (key_of lost) k f
          (ap key_of (same_shape lost (selection old.0) (sym there ∙ (ap (shape_in ss) (sym e) ∙ old.2))) ∙ (selection_key old.0 ∙ old.1)) in
          (old.0, old.1, others n d ∙ old.2))

      pub network_less : LosesOnly number asked asked' → count' ≡ count → ((u : User) → u.alpha ≢ number → In u us → In u us') → IsNetwork asked' numbers' ss' us' count'
      network_less loses same users = record {
        entered = λ n t at. let before = was.entered n t (before_then n t at) in (before.0, before.1, loses before.0 n (other_number n t at) before.2);
        within = λ n t at. let l = was.within n t (before_then n t at) in omega (arith, l, same);
        numbered = numbered_less;
        found = found_less;
        used = λ n t at. let before = was.used n t (before_then n t at) in (before.0, users (user_at n before.0) (other_number n t at) before.1);
      }
