-- What has a name, under rising numbers: one is taken out, and one is put after the others.
use Rattle.std.proofs.Common.{◌≡◌, ◌≢◌, ◌∙◌, ◌++◌, ◌⊎◌, inl, inr, ℕ, Bool, true, false, cond, List, [], ◌∷◌, Greater, Option, Some, None, option_map, refl, ap, subst}
use Rattle.std.proofs.lemmas.Bool.{false_from_ne_true}
use Rattle.std.proofs.lemmas.Cmp.{eq_by_cmp_equiv, nat_cmp_total}
use Rattle.std.proofs.lemmas.List.{map-append}
use Rattle.std.proofs.lemmas.List.Elements.{All-head, All-tail}
use Rattle.std.proofs.lemmas.Map.Keys.{IsDistinct-from_sorted}
use Rattle.std.proofs.lemmas.Map.Views.{lookup-from_Contains}
use Rattle.std.specs.BTreeMap as tree
use Rattle.std.specs.BTreeMap.{BTreeMap, insert_entry, is_at}
use Rattle.std.specs.Cmp.Lexicographic.{slice_cmp, texts_ties, bytes_decides}
use Rattle.std.specs.List.{All, Contains}
use Rattle.std.specs.Map.{keys_of, lookup, values_of}
use Rattle.std.specs.Ordering.{eq_by_cmp, is_eq, match_ordering, nat_cmp}
use Rattle.std.specs.Str.{bytes_eq}
use Rattle.cb_facts.proofs.Inverses.{added, removed, taken_back}
use Rattle.cb_facts.proofs.MemberLaws.{is_at-Decides}
use Rattle.cb_facts.specs.FactLists.{ChangesOnly}
use Rattle.cb_rules.specs.Internal.{AreNumberedBy, name_under}

-- the numbers by names
abbrev pub Numbers : Type 0
Numbers = BTreeMap (List ℕ) ℕ

abbrev pub number_by : Numbers → List ℕ → Option ℕ
number_by numbers name = tree.get (slice_cmp nat_cmp) numbers name

-- the number comes after those of all
abbrev pub IsAfterEach : {V : Type 0} → List (ℕ × V) → ℕ → Type 0
IsAfterEach entries k = All (λ q. nat_cmp k q ≡ Greater) (keys_of entries)

names_by : (n m : List ℕ) (t : Bool) → bytes_eq n m ≡ t → (n ≡ m) ⊎ (n ≢ m)
names_by n m true e = inl ((bytes_decides n m).0 e)
names_by n m false e = inr (λ same. cc (e, (bytes_decides n m).1 same))

pub name-cases : (n m : List ℕ) → (n ≡ m) ⊎ (n ≢ m)
name-cases n m = names_by n m (bytes_eq n m) refl

pub numbers-change : (m n : Numbers) (name : List ℕ) (answer : Option ℕ) → tree.Updates (slice_cmp nat_cmp) m n name answer → ChangesOnly (number_by m) (number_by n) name answer
numbers-change m n name answer u = record {
  here = u.1;
  others = λ q apart. u.2 q (false_from_ne_true (is_at (slice_cmp nat_cmp name) q) (λ e. apart ((bytes_decides name q).0 (texts_ties name q ∙ e))));
}

-- a number after those of all is free, and what is put there comes last
pub free : {V : Type 0} (entries : List (ℕ × V)) (k : ℕ) → IsAfterEach entries k → lookup (is_at (nat_cmp k)) entries ≡ None
free [] k after = refl
free ((q, v) ∷ entries) k after =
    ap (λ o. cond (is_eq o) (Some v) (lookup (is_at (nat_cmp k)) entries)) (All-head (λ i. nat_cmp k i ≡ Greater) q (keys_of entries) after)
    ∙ free entries k (All-tail (λ i. nat_cmp k i ≡ Greater) q (keys_of entries) after)

pub at_end : {V : Type 0} (entries : List (ℕ × V)) (k : ℕ) (v : V) → IsAfterEach entries k → insert_entry nat_cmp entries k v ≡ entries ++ (k, v) ∷ []
at_end [] k v after = refl
at_end ((q, w) ∷ entries) k v after =
    ap (λ o. match_ordering o ((k, v) ∷ (q, w) ∷ entries) ((q, v) ∷ entries) ((q, w) ∷ insert_entry nat_cmp entries k v)) (All-head (λ i. nat_cmp k i ≡ Greater) q (keys_of entries) after)
    ∙ ap (λ t. (q, w) ∷ t) (at_end entries k v (All-tail (λ i. nat_cmp k i ≡ Greater) q (keys_of entries) after))

pub values-push : {V : Type 0} (entries : List (ℕ × V)) (k : ℕ) (v : V) → IsAfterEach entries k → values_of (insert_entry nat_cmp entries k v) ≡ values_of entries ++ v ∷ []
values-push entries k v after = ap values_of (at_end entries k v after) ∙ map-append (λ e. e.1) entries ((k, v) ∷ [])

module _ {V : Type 0} (named : V → List ℕ) where
  names-change : (m n : BTreeMap ℕ V) (k : ℕ) (v : Option V) → tree.Updates nat_cmp m n k v
      → ChangesOnly (name_under named m.entries) (name_under named n.entries) k (option_map named v)
  names-change m n k v u = record {
    here = ap (option_map named) u.1;
    others = λ q apart. ap (option_map named) (u.2 q (false_from_ne_true (is_at (nat_cmp k) q) (λ e. apart ((is_at-Decides k q).0 e))));
  }

  pub numbered-taken : (old new : BTreeMap ℕ V) (m n : Numbers) (k : ℕ) (name : List ℕ) → AreNumberedBy named old.entries (number_by m) → name_under named old.entries k ≡ Some name
      → tree.Updates nat_cmp old new k None → tree.Updates (slice_cmp nat_cmp) m n name None → tree.IsOrdered nat_cmp new → AreNumberedBy named new.entries (number_by n)
  numbered-taken old new m n k name inv there update numbers_update rising =
      let change = names-change old new k None update in
      let find_change = numbers-change m n name None numbers_update in
      record { rising = rising; agree = removed (name_under named old.entries) (name_under named new.entries) (number_by m) (number_by n) k name (name-cases name) inv.agree there change find_change }

  pub numbered-pushed : (old new : BTreeMap ℕ V) (m n : Numbers) (k : ℕ) (v : V) (name shared : List ℕ) → AreNumberedBy named old.entries (number_by m) → shared ≡ name → named v ≡ name
      → ((q : ℕ) → name_under named old.entries q ≢ Some name) → IsAfterEach old.entries k → tree.Updates nat_cmp old new k (Some v) → tree.Updates (slice_cmp nat_cmp) m n shared (Some k)
      → tree.IsOrdered nat_cmp new → AreNumberedBy named new.entries (number_by n)
  numbered-pushed old new m n k v name shared inv same is absent after update numbers_update rising =
      let change = subst (λ q. ChangesOnly (name_under named old.entries) (name_under named new.entries) k (Some q)) is (names-change old new k (Some v) update) in
      let find_change = subst (λ q. ChangesOnly (number_by m) (number_by n) q (Some k)) same (numbers-change m n shared (Some k) numbers_update) in
      let room = ap (option_map named) (free old.entries k after) in
      record { rising = rising; agree = added (name_under named old.entries) (name_under named new.entries) (number_by m) (number_by n) k name (name-cases name) inv.agree room absent change find_change }

  -- a number that is noted and taken out again leaves the look-up as it was
  pub numbered-undone : (entries : List (ℕ × V)) (m n o : Numbers) (k : ℕ) (name shared again : List ℕ) → AreNumberedBy named entries (number_by m) → shared ≡ name → again ≡ name
      → ((q : ℕ) → name_under named entries q ≢ Some name) → tree.Updates (slice_cmp nat_cmp) m n shared (Some k) → tree.Updates (slice_cmp nat_cmp) n o again None → AreNumberedBy named entries (number_by o)
  numbered-undone entries m n o k name shared again inv same back absent grown undone =
      let add = subst (λ q. ChangesOnly (number_by m) (number_by n) q (Some k)) same (numbers-change m n shared (Some k) grown) in
      let undo = subst (λ q. ChangesOnly (number_by n) (number_by o) q None) back (numbers-change n o again None undone) in
      record {
        rising = inv.rising;
        agree = taken_back (name_under named entries) (number_by m) (number_by n) (number_by o) k name (name-cases name) inv.agree absent add undo;
      }

  -- what is there has the number of its name
  pub numbered : (entries : List (ℕ × V)) (find : List ℕ → Option ℕ) (m : ℕ) (v : V) → AreNumberedBy named entries find → Contains entries (m, v) → find (named v) ≡ Some m
  numbered entries find m v inv c =
      inv.agree.known (named v) m (ap (option_map named) (lookup-from_Contains {eq = eq_by_cmp nat_cmp} (eq_by_cmp_equiv nat_cmp_total) m v entries (IsDistinct-from_sorted nat_cmp (keys_of entries) inv.rising) c))
