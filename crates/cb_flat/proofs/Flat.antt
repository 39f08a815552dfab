-- The lists that nodes make.
use Rattle.std.proofs.Common.{◌≡◌, ℕ, zero, suc, ◌+◌, ◌<◌, List, [], ◌∷◌, ◌++◌, filter, length, refl, sym, ◌∙◌, ap, ap₂, false, subst, arith}
use Rattle.std.specs.List.{list_any}
use Rattle.std.specs.Prelude.{slice_index_or}
use Rattle.cb_facts.specs.FactLists.{IndexedFacts}
use Rattle.cb_nodes.specs.Flat.{AreLists, FlatNode, Lists, alone, begins, branch_nodes, grouping, holds_alone, holds_by, joining, lists_from, lists_of, next_where, node_list, testing}
use Rattle.cb_flat.proofs.Named.{AllAt, IsBelow, at_each, below_all, from_each}
use Rattle.cb_matches.specs.Matches.{Partial, test_holds}
use Rattle.cb_rules.specs.Elements.{Elements}

pub in_front : {A : Type 0} (none : A) (xs : List A) (x : A) (k : ℕ) → k < length xs → slice_index_or (xs ++ x ∷ []) k none ≡ slice_index_or xs k none
in_front none [] x k h = absurd (omega (arith, h))
in_front none (y ∷ xs) x zero h = refl
in_front none (y ∷ xs) x (suc k) h = in_front none xs x k (omega (arith, h))

pub at_end : {A : Type 0} (none : A) (xs : List A) (x : A) → slice_index_or (xs ++ x ∷ []) (length xs) none ≡ x
at_end none [] x = refl
at_end none (y ∷ xs) x = at_end none xs x

long_more : {A : Type 0} (xs : List A) (x : A) → length (xs ++ x ∷ []) ≡ suc (length xs)
long_more [] x = refl
long_more (y ∷ xs) x = ap suc (long_more xs x)

-- what nodes make one behind the other of what is before them
abbrev pub gathered : {A : Type 0} → (FlatNode → (ℕ → A) → A) → A → List FlatNode → List A → List A
gathered step none [] xs = xs
gathered step none (n ∷ ns) xs = gathered step none ns (xs ++ step n (λ k. slice_index_or xs k none) ∷ [])

pub gathered_front : {A : Type 0} (step : FlatNode → (ℕ → A) → A) (none : A) (ns : List FlatNode) (xs : List A) (j : ℕ) → j < length xs
    → slice_index_or (gathered step none ns xs) j none ≡ slice_index_or xs j none
gathered_front step none [] xs j l = refl
gathered_front step none (n ∷ ns) xs j l =
    let x = step n (λ k. slice_index_or xs k none) in
    gathered_front step none ns (xs ++ x ∷ []) j (let e = long_more xs x in omega (arith, e, l)) ∙ in_front none xs x j l

-- where a node looks at what is before it alone, what is made is what the nodes make of it
pub gathered_is : {A : Type 0} (step : FlatNode → (ℕ → A) → A) (none : A) → ((n : FlatNode) (k : ℕ) (f g : ℕ → A) → IsBelow k n → ((j : ℕ) → j < k → f j ≡ g j) → step n f ≡ step n g)
    → (ns : List FlatNode) (xs : List A) (k : ℕ) → k ≡ length xs → AllAt IsBelow k ns
    → AllAt (λ j n. slice_index_or (gathered step none ns xs) j none ≡ step n (λ i. slice_index_or (gathered step none ns xs) i none)) k ns
gathered_is step none local [] xs k e h = tt
gathered_is {A} step none local (n ∷ ns) xs k e h =
    let x : A = step n (λ i. slice_index_or xs i none) in
    let longer : suc k ≡ length (xs ++ x ∷ []) = ap suc e ∙ sym (long_more xs x) in (
      ap (λ j. slice_index_or (gathered step none ns (xs ++ x ∷ [])) j none) e
          ∙ (gathered_front step none ns (xs ++ x ∷ []) (length xs) (omega (arith, e, longer))
          ∙ (at_end none xs x
          ∙ local n k (λ i. slice_index_or xs i none) (λ i. slice_index_or (gathered step none ns (xs ++ x ∷ [])) i none) h.0
          (λ j l. sym (gathered_front step none (n ∷ ns) xs j (omega (arith, e, l)))))),
      gathered_is step none local ns (xs ++ x ∷ []) (suc k) longer h.1,
    )

-- the lists that nodes make, from the one with the number k on
abbrev pub MakeLists : IndexedFacts → Lists → ℕ → FlatNode → Type 0
MakeLists fs ls k n = ls k ≡ node_list n fs ls

lists_gathered : (ns : List FlatNode) (fs : IndexedFacts) (ls : List (List Partial)) → lists_from ns fs ls ≡ gathered (λ n l. node_list n fs l) [] ns ls
lists_gathered [] fs ls = refl
lists_gathered (n ∷ ns) fs ls = lists_gathered ns fs (ls ++ node_list n fs (λ k. slice_index_or ls k []) ∷ [])

pub list_local : (fs : IndexedFacts) (n : FlatNode) (k : ℕ) (f g : Lists) → IsBelow k n → ((j : ℕ) → j < k → f j ≡ g j) → node_list n fs f ≡ node_list n fs g
list_local fs (joining from x p ts) k f g l h = ap (λ it. next_where x p ts fs it) (h from l)
list_local fs (testing from t) k f g l h = ap (λ it. filter (λ m. test_holds t m.env) it) (h from l)
list_local fs (grouping from inner positive width) k f g l h =
    ap₂ (λ (is : List Partial) (it : List Partial). filter (λ m. holds_by positive (list_any (begins m.parts) is)) it) (h inner l.1) (h from l.0)
list_local fs (alone from p positive) k f g l h = ap (λ it. filter (holds_alone positive p fs) it) (h from l)

pub all_lists : (ns : List FlatNode) (fs : IndexedFacts) (first : List Partial) → AllAt IsBelow 1 ns → AllAt (MakeLists fs (lists_of ns fs first)) 1 ns
all_lists ns fs first h =
    subst (λ it. AllAt (MakeLists fs (λ j. slice_index_or it j [])) 1 ns) (sym (lists_gathered ns fs (first ∷ [])))
    (gathered_is (λ n l. node_list n fs l) [] (list_local fs) ns (first ∷ []) 1 refl h)

first_list : (ns : List FlatNode) (fs : IndexedFacts) (first : List Partial) → lists_of ns fs first 0 ≡ first
first_list ns fs first = ap (λ it. slice_index_or it 0 []) (lists_gathered ns fs (first ∷ [])) ∙ gathered_front (λ n l. node_list n fs l) [] ns (first ∷ []) 0 (omega (arith))

pub are_lists : (ns : List FlatNode) (fs : IndexedFacts) (first : List Partial) → AllAt IsBelow 1 ns → AreLists ns fs first (lists_of ns fs first)
are_lists ns fs first h = record {
  start = first_list ns fs first;
  each = λ k d l. ap (λ j. lists_of ns fs first j) (let e : suc k ≡ k + 1 = omega (arith) in e) ∙ at_each (MakeLists fs (lists_of ns fs first)) 1 ns (all_lists ns fs first h) k d l;
}

-- the lists of a branch are those that its nodes make
pub branch_lists : (es : Elements) (fs : IndexedFacts) (first : List Partial) → AreLists (branch_nodes es) fs first (lists_of (branch_nodes es) fs first)
branch_lists es fs first = are_lists (branch_nodes es) fs first (below_all false es 0 1 0 (omega (arith)))

pub each_made : (ns : List FlatNode) (fs : IndexedFacts) (first : List Partial) (ls : Lists) → AreLists ns fs first ls → AllAt (MakeLists fs ls) 1 ns
each_made ns fs first ls a = from_each (MakeLists fs ls) 1 ns (λ i d l. ap ls (let e : i + 1 ≡ suc i = omega (arith) in e) ∙ a.each i d l)
