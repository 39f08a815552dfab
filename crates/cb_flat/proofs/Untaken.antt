-- A fact that no pattern of a branch takes leaves its lists as they are.
use Rattle.std.proofs.Common.{◌≡◌, ◌∙◌, ◌++◌, ℕ, suc, false, List, [], ◌∷◌, Option, None, Some, ap, ap₂, arith, filter, flat_map, map, sym, refl}
use Rattle.std.specs.List.{All}
use Rattle.std.specs.Prelude.{slice_index_or}
use Rattle.cb_constraints.specs.PatternValues.{PatternValue}
use Rattle.cb_facts.specs.FactLists.{IndexedFacts, fact_at, with_fact, without_fact}
use Rattle.cb_facts.specs.Facts.{FactValue}
use Rattle.cb_fit.specs.Shapes.{is_selected}
use Rattle.cb_flat.proofs.Parts.{same_test}
use Rattle.cb_flat.proofs.Whole.{end_is}
use Rattle.cb_flat.specs.Taking.{NoneTakes, takes}
use Rattle.cb_matches.proofs.Growth.{Fact}
use Rattle.cb_matches.specs.Matches.{Partial, extended, group_holds, grown, matches_of, next, no_parts, with_address}
use Rattle.cb_matches.specs.Order.{WaysRise}
use Rattle.cb_nodes.proofs.Facts.{flat_with, flat_without}
use Rattle.cb_nodes.specs.Flat.{FlatNode, Lists, all_hold, alone, branch_last, branch_nodes, grouping, holds_alone, joining, lists_from, node_list, testing}
use Rattle.cb_nodes.specs.Lists.{branch_lists}
use Rattle.cb_nodes.specs.Patterns.{HaveIndices, Unselected}
use Rattle.cb_rules.specs.Elements.{Elements}

-- a pattern that a fact is not selected for goes on with it in no way
no_way : Unselected → (x : Option (List ℕ)) (p : PatternValue) (f : Fact) (m : Partial) → is_selected p f.1 ≡ false → extended x p m f ≡ []
no_way unselected x p f m none = ap (map (grown x f.0 m)) (unselected p f.1 (with_address x f.0 m.env) none)

-- lists that are alike, one by one
flat_same : (g h : Partial → List Partial) → ((m : Partial) → g m ≡ h m) → (ms : List Partial) → flat_map g ms ≡ flat_map h ms
flat_same g h same [] = refl
flat_same g h same (m ∷ ms) = ap₂ (λ (a b : List Partial). a ++ b) (same m) (flat_same g h same ms)

first_of : {X : Type 0} (P : X → Type 0) (x : X) (xs : List X) → All P (x ∷ xs) → P x
first_of P x xs all = all 0 x (omega (arith))

others_of : {X : Type 0} (P : X → Type 0) (x : X) (xs : List X) → All P (x ∷ xs) → All P xs
others_of P x xs all k d h = all (suc k) d (omega (arith, h))

-- what two lists of facts give, where they differ by a fact that gives nothing
module _ (unselected : Unselected) (f : Fact) (fs fs' : IndexedFacts) (alike : (g : Fact → List Partial) → g f ≡ [] → flat_map g fs ≡ flat_map g fs') where
  next_alike : (x : Option (List ℕ)) (p : PatternValue) → is_selected p f.1 ≡ false → (ms : List Partial) → next x p fs ms ≡ next x p fs' ms
  next_alike x p none ms =
      flat_same (λ m. flat_map (extended x p m) fs) (λ m. flat_map (extended x p m) fs') (λ m. alike (extended x p m) (no_way unselected x p f m none)) ms

  one_untaken : (n : FlatNode) → takes f n ≡ false → (ls : Lists) → node_list n fs ls ≡ node_list n fs' ls
  one_untaken (joining from x p ts) none ls = ap (filter (all_hold ts)) (next_alike x p none (ls from))
  one_untaken (testing from t) none ls = refl
  one_untaken (grouping from inner positive width) none ls = refl
  one_untaken (alone from p positive) none ls =
      same_test (holds_alone positive p fs) (holds_alone positive p fs') (ls from) (λ m h. ap (group_holds positive) (next_alike None p none (m ∷ [])))

  all_untaken : (ns : List FlatNode) → NoneTakes f ns → (ls : List (List Partial)) → lists_from ns fs ls ≡ lists_from ns fs' ls
  all_untaken [] none ls = refl
  all_untaken (n ∷ ns) none ls =
      ap (λ it. lists_from ns fs (ls ++ it ∷ [])) (one_untaken n (first_of (λ m. takes f m ≡ false) n ns none) (λ k. slice_index_or ls k []))
      ∙ all_untaken ns (others_of (λ m. takes f m ≡ false) n ns none) (ls ++ node_list n fs' (λ k. slice_index_or ls k []) ∷ [])

  lists_alike : (ns : List FlatNode) → NoneTakes f ns → (k : ℕ) → branch_lists ns fs k ≡ branch_lists ns fs' k
  lists_alike ns none k = ap (λ it. slice_index_or it k []) (all_untaken ns none ((no_parts ∷ []) ∷ []))

-- one fact more, and one fact less
module _ (unselected : Unselected) (ix : ℕ) (f : FactValue) (fs : IndexedFacts) (ns : List FlatNode) (none : NoneTakes (ix, f) ns) where
  pub lists_with : fact_at fs ix ≡ None → (k : ℕ) → branch_lists ns (with_fact fs ix f) k ≡ branch_lists ns fs k
  lists_with absent k = lists_alike unselected (ix, f) (with_fact fs ix f) fs (λ g nothing. flat_with g ix f nothing fs absent) ns none k

  pub lists_without : fact_at fs ix ≡ Some f → (k : ℕ) → branch_lists ns (without_fact fs ix) k ≡ branch_lists ns fs k
  lists_without there k = lists_alike unselected (ix, f) (without_fact fs ix) fs (λ g nothing. flat_without g ix f nothing fs there) ns none k

-- so the matches stay
module _ (rise : WaysRise) (es : Elements) (fs fs' : IndexedFacts) (ns : List FlatNode) (indices : HaveIndices fs) (indices' : HaveIndices fs') (are : ns ≡ branch_nodes es) where
  pub matches_stay : ((k : ℕ) → branch_lists ns fs k ≡ branch_lists ns fs' k) → matches_of es fs ≡ matches_of es fs'
  matches_stay same = sym (end_is rise es fs ns (branch_last es) indices are refl) ∙ (same (branch_last es) ∙ end_is rise es fs' ns (branch_last es) indices' are refl)
