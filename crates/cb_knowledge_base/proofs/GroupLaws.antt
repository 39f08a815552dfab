-- Groups under rising numbers: one is taken out by its name, and one is put after the others.
use Rattle.std.proofs.Common.{◌≡◌, ◌≢◌, ◌∙◌, ◌++◌, ◌⊎◌, inl, inr, ℕ, Bool, true, false, cond, List, [], ◌∷◌, Greater, Option, Some, None, option_map, refl, sym, ap, subst}
use Rattle.std.proofs.lemmas.Cmp.{eq_by_cmp_equiv, nat_cmp_total}
use Rattle.std.proofs.lemmas.List.{map-append}
use Rattle.std.proofs.lemmas.List.Elements.{All-head, All-tail}
use Rattle.std.proofs.lemmas.Map.Keys.{IsDistinct-from_sorted}
use Rattle.std.proofs.lemmas.Map.Views.{lookup-from_Contains}
use Rattle.std.specs.BTreeMap as tree
use Rattle.std.specs.BTreeMap.{BTreeMap, insert_entry, is_at}
use Rattle.std.specs.Cmp.Lexicographic.{slice_cmp, texts_ties, bytes_decides}
use Rattle.std.specs.List.{Contains}
use Rattle.std.specs.Map.{keys_of, lookup, remove_entry, values_of}
use Rattle.std.specs.Ordering.{eq_by_cmp, is_eq, match_ordering, nat_cmp}
use Rattle.std.specs.Str.{bytes_eq}
use Rattle.std.proofs.lemmas.Bool.{false_from_ne_true}
use Rattle.cb_facts.proofs.Inverses.{added, removed, taken_back}
use Rattle.cb_facts.proofs.MemberLaws.{contains_here, contains_there, is_at-Decides}
use Rattle.cb_facts.specs.FactLists.{ChangesOnly}
use Rattle.cb_knowledge_base.specs.Deffacts.{DeffactsTable}
use Rattle.cb_knowledge_base.specs.Internal.Groups.{AreNumbered, Group, IsAfterAll, NumberedGroups, name_at}

-- the numbers by names
abbrev pub Numbers : Type 0
Numbers = BTreeMap (List ℕ) ℕ

abbrev pub number_of : Numbers → List ℕ → Option ℕ
number_of numbers name = tree.get (slice_cmp nat_cmp) numbers name

names_by : (n m : List ℕ) (t : Bool) → bytes_eq n m ≡ t → (n ≡ m) ⊎ (n ≢ m)
names_by n m true e = inl ((bytes_decides n m).0 e)
names_by n m false e = inr (λ same. cc (e, (bytes_decides n m).1 same))

name-cases : (n m : List ℕ) → (n ≡ m) ⊎ (n ≢ m)
name-cases n m = names_by n m (bytes_eq n m) refl

numbers-change : (m n : Numbers) (name : List ℕ) (answer : Option ℕ) → tree.Updates (slice_cmp nat_cmp) m n name answer → ChangesOnly (number_of m) (number_of n) name answer
numbers-change m n name answer u = record {
  here = u.1;
  others = λ q apart. u.2 q (false_from_ne_true (is_at (slice_cmp nat_cmp name) q) (λ e. apart ((bytes_decides name q).0 (texts_ties name q ∙ e))));
}

names-change : (m n : BTreeMap ℕ Group) (k : ℕ) (group : Option Group) → tree.Updates nat_cmp m n k group
    → ChangesOnly (name_at m.entries) (name_at n.entries) k (option_map (λ g. g.0) group)
names-change m n k group u = record {
  here = ap (option_map (λ g. g.0)) u.1;
  others = λ q apart. ap (option_map (λ g. g.0)) (u.2 q (false_from_ne_true (is_at (nat_cmp k) q) (λ e. apart ((is_at-Decides k q).0 e))));
}

pub numbered-taken : (old new : BTreeMap ℕ Group) (m n : Numbers) (k : ℕ) (name : List ℕ) → AreNumbered old.entries (number_of m) → number_of m name ≡ Some k
    → tree.Updates nat_cmp old new k None → tree.Updates (slice_cmp nat_cmp) m n name None → tree.IsOrdered nat_cmp new → AreNumbered new.entries (number_of n)
numbered-taken old new m n k name inv found groups_update numbers_update rising =
    let change = names-change old new k None groups_update in
    let find_change = numbers-change m n name None numbers_update in
    let there = inv.agree.listed name k found in
    record { rising = rising; agree = removed (name_at old.entries) (name_at new.entries) (number_of m) (number_of n) k name (name-cases name) inv.agree there change find_change }

-- a number after those of all groups is free, and its group comes last
pub free : (groups : NumberedGroups) (k : ℕ) → IsAfterAll groups k → lookup (is_at (nat_cmp k)) groups ≡ None
free [] k after = refl
free ((q, g) ∷ groups) k after =
    ap (λ o. cond (is_eq o) (Some g) (lookup (is_at (nat_cmp k)) groups)) (All-head (λ i. nat_cmp k i ≡ Greater) q (keys_of groups) after)
    ∙ free groups k (All-tail (λ i. nat_cmp k i ≡ Greater) q (keys_of groups) after)

at_end : (groups : NumberedGroups) (k : ℕ) (g : Group) → IsAfterAll groups k → insert_entry nat_cmp groups k g ≡ groups ++ (k, g) ∷ []
at_end [] k g after = refl
at_end ((q, h) ∷ groups) k g after =
    ap (λ o. match_ordering o ((k, g) ∷ (q, h) ∷ groups) ((q, g) ∷ groups) ((q, h) ∷ insert_entry nat_cmp groups k g)) (All-head (λ i. nat_cmp k i ≡ Greater) q (keys_of groups) after)
    ∙ ap (λ t. (q, h) ∷ t) (at_end groups k g (All-tail (λ i. nat_cmp k i ≡ Greater) q (keys_of groups) after))

pub values-push : (groups : NumberedGroups) (k : ℕ) (g : Group) → IsAfterAll groups k → values_of (insert_entry nat_cmp groups k g) ≡ values_of groups ++ g ∷ []
values-push groups k g after = ap values_of (at_end groups k g after) ∙ map-append (λ e. e.1) groups ((k, g) ∷ [])

not_named_first : (groups : NumberedGroups) (g : Group) (name : List ℕ) (n : ℕ) (t u : Bool) → bytes_eq name g.0 ≡ u → cond u (Some g.1) (lookup (bytes_eq name) (values_of groups)) ≡ None
    → option_map (λ h. h.0) (cond t (Some g) (lookup (is_at (nat_cmp n)) groups)) ≡ Some name → (lookup (bytes_eq name) (values_of groups) ≡ None → name_at groups n ≢ Some name) → ⊥
not_named_first groups g name n t true e none at more = cc
not_named_first groups g name n true false e none at more =
    let same : g.0 ≡ name = cc in
    let yes : bytes_eq name g.0 ≡ true = (bytes_decides name g.0).1 (sym same) in
    cc
not_named_first groups g name n false false e none at more = more none at

-- no number leads to a name that no group has
pub not_named : (groups : NumberedGroups) (name : List ℕ) → lookup (bytes_eq name) (values_of groups) ≡ None → (n : ℕ) → name_at groups n ≢ Some name
not_named [] name none n at = cc
not_named ((m, g) ∷ groups) name none n at =
    not_named_first groups g name n (is_at (nat_cmp n) m) (bytes_eq name g.0) refl none at (λ h. not_named groups name h n)

pub numbered-pushed : (old new : BTreeMap ℕ Group) (m n : Numbers) (k : ℕ) (g : Group) (name shared : List ℕ) → AreNumbered old.entries (number_of m) → shared ≡ name → g.0 ≡ name
    → lookup (bytes_eq name) (values_of old.entries) ≡ None → IsAfterAll old.entries k → tree.Updates nat_cmp old new k (Some g) → tree.Updates (slice_cmp nat_cmp) m n shared (Some k)
    → tree.IsOrdered nat_cmp new → AreNumbered new.entries (number_of n)
numbered-pushed old new m n k g name shared inv same named none after groups_update numbers_update rising =
    let change = subst (λ q. ChangesOnly (name_at old.entries) (name_at new.entries) k (Some q)) named (names-change old new k (Some g) groups_update) in
    let find_change = subst (λ q. ChangesOnly (number_of m) (number_of n) q (Some k)) same (numbers-change m n shared (Some k) numbers_update) in
    let room = ap (option_map (λ h. h.0)) (free old.entries k after) in
    let absent = not_named old.entries name none in
    record { rising = rising; agree = added (name_at old.entries) (name_at new.entries) (number_of m) (number_of n) k name (name-cases name) inv.agree room absent change find_change }

-- a number that is noted and taken out again leaves the look-up as it was
pub numbered-undone : (groups : NumberedGroups) (m n o : Numbers) (k : ℕ) (name shared again : List ℕ) → AreNumbered groups (number_of m) → shared ≡ name → again ≡ name
    → lookup (bytes_eq name) (values_of groups) ≡ None → tree.Updates (slice_cmp nat_cmp) m n shared (Some k) → tree.Updates (slice_cmp nat_cmp) n o again None → AreNumbered groups (number_of o)
numbered-undone groups m n o k name shared again inv same back none grown undone =
    let add = subst (λ q. ChangesOnly (number_of m) (number_of n) q (Some k)) same (numbers-change m n shared (Some k) grown) in
    let undo = subst (λ q. ChangesOnly (number_of n) (number_of o) q None) back (numbers-change n o again None undone) in
    record {
      rising = inv.rising;
      agree = taken_back (name_at groups) (number_of m) (number_of n) (number_of o) k name (name-cases name) inv.agree (not_named groups name none) add undo;
    }

taken_first : (groups : NumberedGroups) (m n : ℕ) (g : Group) (name : List ℕ) (t u : Bool) → is_at (nat_cmp n) m ≡ t → bytes_eq name g.0 ≡ u
    → option_map (λ h. h.0) (cond t (Some g) (lookup (is_at (nat_cmp n)) groups)) ≡ Some name → (g.0 ≡ name → m ≡ n)
    → (name_at groups n ≡ Some name → values_of (remove_entry (is_at (nat_cmp n)) groups) ≡ remove_entry (bytes_eq name) (values_of groups))
    → values_of (cond t groups ((m, g) ∷ remove_entry (is_at (nat_cmp n)) groups)) ≡ cond u (values_of groups) (g ∷ remove_entry (bytes_eq name) (values_of groups))
taken_first groups m n g name true true te ue at only more = refl
taken_first groups m n g name true false te ue at only more =
    let same : g.0 ≡ name = cc in
    let yes : bytes_eq name g.0 ≡ true = (bytes_decides name g.0).1 (sym same) in
    absurd (cc)
taken_first groups m n g name false true te ue at only more =
    let is : n ≡ m = sym (only (sym ((bytes_decides name g.0).0 ue))) in
    let yes : is_at (nat_cmp n) m ≡ true = (is_at-Decides n m).1 is in
    absurd (cc)
taken_first groups m n g name false false te ue at only more = ap (λ gs. g ∷ gs) (more at)

taken_by : (groups : NumberedGroups) (n : ℕ) (name : List ℕ) → name_at groups n ≡ Some name → ((m : ℕ) (g : Group) → Contains groups (m, g) → g.0 ≡ name → m ≡ n)
    → values_of (remove_entry (is_at (nat_cmp n)) groups) ≡ remove_entry (bytes_eq name) (values_of groups)
taken_by [] n name at only = refl
taken_by ((m, g) ∷ groups) n name at only =
    taken_first groups m n g name (is_at (nat_cmp n) m) (bytes_eq name g.0) refl refl at (only m g (contains_here (m, g) groups))
    (λ there. taken_by groups n name there (λ k h c. only k h (contains_there (m, g) (k, h) groups c)))

-- a group that is there has the number of its name
numbered : (groups : NumberedGroups) (find : List ℕ → Option ℕ) (m : ℕ) (g : Group) → AreNumbered groups find → Contains groups (m, g) → find g.0 ≡ Some m
numbered groups find m g inv c =
    inv.agree.known g.0 m (ap (option_map (λ h. h.0)) (lookup-from_Contains {eq = eq_by_cmp nat_cmp} (eq_by_cmp_equiv nat_cmp_total) m g groups (IsDistinct-from_sorted nat_cmp (keys_of groups) inv.rising) c))

only_one : (groups : NumberedGroups) (find : List ℕ → Option ℕ) (n m : ℕ) (name : List ℕ) (g : Group) → AreNumbered groups find → find name ≡ Some n → Contains groups (m, g) → g.0 ≡ name → m ≡ n
only_one groups find n m name g inv found c same =
    let numbers : Some m ≡ Some n = sym (numbered groups find m g inv c) ∙ ap find same ∙ found in
    cc

-- the group with the number of a name is the first with that name
pub values-taken : (groups : NumberedGroups) (find : List ℕ → Option ℕ) (n : ℕ) (name : List ℕ) → AreNumbered groups find → find name ≡ Some n
    → values_of (remove_entry (is_at (nat_cmp n)) groups) ≡ remove_entry (bytes_eq name) (values_of groups)
values-taken groups find n name inv found =
    taken_by groups n name (inv.agree.listed name n found) (λ m g c same. only_one groups find n m name g inv found c same)

missing : (groups : NumberedGroups) (name : List ℕ) → ((m : ℕ) (g : Group) → Contains groups (m, g) → g.0 ≢ name) → lookup (bytes_eq name) (values_of groups) ≡ None
missing [] name none = refl
missing ((m, g) ∷ groups) name none =
    ap (λ t. cond t (Some g.1) (lookup (bytes_eq name) (values_of groups))) (false_from_ne_true (bytes_eq name g.0) (λ e. none m g (contains_here (m, g) groups) (sym ((bytes_decides name g.0).0 e))))
    ∙ missing groups name (λ k h c. none k h (contains_there (m, g) (k, h) groups c))

-- no group has a name that has no number
pub missing-name : (groups : NumberedGroups) (find : List ℕ → Option ℕ) (name : List ℕ) → AreNumbered groups find → find name ≡ None → lookup (bytes_eq name) (values_of groups) ≡ None
missing-name groups find name inv none =
    missing groups name (λ m g c same. let there : None ≡ Some m = sym none ∙ ap find (sym same) ∙ numbered groups find m g inv c in cc)

same_first : (table : DeffactsTable) (g : Group) (test : List ℕ → Bool) (t : Bool) → cond t (Some g.1) (lookup test table) ≡ None → (lookup test table ≡ None → remove_entry test table ≡ table)
    → cond t table (g ∷ remove_entry test table) ≡ g ∷ table
same_first table g test true none more = absurd (cc)
same_first table g test false none more = ap (λ gs. g ∷ gs) (more none)

-- where no group has the name, none is taken out
pub taken-none : (table : DeffactsTable) (test : List ℕ → Bool) → lookup test table ≡ None → remove_entry test table ≡ table
taken-none [] test none = refl
taken-none (g ∷ table) test none = same_first table g test (test g.0) none (taken-none table test)
