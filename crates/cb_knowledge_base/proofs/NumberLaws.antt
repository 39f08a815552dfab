-- Numbers in rising order: one is put after the others, and one is taken out.
use Rattle.std.proofs.Common.{◌≡◌, ◌∙◌, ◌++◌, ◌+◌, ◌≤◌, ℕ, Bool, true, false, cond, not, List, [], ◌∷◌, Less, Greater, refl, sym, ap, arith, nat_eq, subst}
use Rattle.std.proofs.lemmas.Bool.Decides.{nat_tests}
use Rattle.std.proofs.lemmas.List.Elements.{All-head, All-tail}
use Rattle.std.proofs.lemmas.Map.Keys.{sorted_tail}
use Rattle.std.proofs.lemmas.Map.Views.{All-after_first}
use Rattle.std.specs.BTreeMap.{is_at}
use Rattle.std.specs.BTreeSet.{insert_key}
use Rattle.std.specs.Cmp.{unsigned_tied}
use Rattle.std.specs.List.{All, filter}
use Rattle.std.specs.List.Sorted.{IsStrictlySortedBy}
use Rattle.std.specs.Ordering.{match_ordering, nat_cmp}
use Rattle.std.specs.Set.{remove_key}
use Rattle.cb_facts.proofs.MemberLaws.{is_at-Decides}

after : (last n : ℕ) → n ≤ last → nat_cmp (last + 1) n ≡ Greater
after last n le = grind (arith, nat_tests)

-- a number after all of them comes last
pub at_end : (numbers : List ℕ) (last : ℕ) → All (λ n. n ≤ last) numbers → insert_key nat_cmp numbers (last + 1) ≡ numbers ++ (last + 1) ∷ []
at_end [] last up_to = refl
at_end (n ∷ numbers) last up_to =
    ap (λ o. match_ordering o ((last + 1) ∷ n ∷ numbers) (n ∷ numbers) (n ∷ insert_key nat_cmp numbers (last + 1))) (after last n (All-head (λ i. i ≤ last) n numbers up_to))
    ∙ ap (λ ns. n ∷ ns) (at_end numbers last (All-tail (λ i. i ≤ last) n numbers up_to))

differs : (id n : ℕ) → nat_cmp id n ≡ Less → nat_eq id n ≡ false
differs id n less = grind (arith, nat_tests)

all_stay : (numbers : List ℕ) (id : ℕ) → All (λ n. nat_cmp id n ≡ Less) numbers → numbers ≡ filter (λ n. not (nat_eq id n)) numbers
all_stay [] id less = refl
all_stay (n ∷ numbers) id less =
    ap (λ ns. n ∷ ns) (all_stay numbers id (All-tail (λ i. nat_cmp id i ≡ Less) n numbers less))
    ∙ ap (λ t. cond (not t) (n ∷ filter (λ i. not (nat_eq id i)) numbers) (filter (λ i. not (nat_eq id i)) numbers)) (sym (differs id n (All-head (λ i. nat_cmp id i ≡ Less) n numbers less)))

taken_by : (numbers left rest : List ℕ) (n : ℕ) (t u : Bool) → t ≡ u → (t ≡ true → numbers ≡ rest) → left ≡ rest → cond t numbers (n ∷ left) ≡ cond (not u) (n ∷ rest) rest
taken_by numbers left rest n true true same here more = here refl
taken_by numbers left rest n true false same here more = absurd (cc)
taken_by numbers left rest n false true same here more = absurd (cc)
taken_by numbers left rest n false false same here more = ap (λ ns. n ∷ ns) more

others_stay : (numbers : List ℕ) (n id : ℕ) → IsStrictlySortedBy nat_cmp (n ∷ numbers) → is_at (nat_cmp id) n ≡ true → numbers ≡ filter (λ i. not (nat_eq id i)) numbers
others_stay numbers n id rising here =
    let is : n ≡ id = sym ((is_at-Decides id n).0 here) in
    all_stay numbers id (subst (λ k. All (λ i. nat_cmp k i ≡ Less) numbers) is (All-after_first nat_cmp n numbers rising))

-- one number goes, and the others stay
pub taken : (numbers : List ℕ) (id : ℕ) → IsStrictlySortedBy nat_cmp numbers → remove_key (is_at (nat_cmp id)) numbers ≡ filter (λ n. not (nat_eq id n)) numbers
taken [] id rising = refl
taken (n ∷ numbers) id rising =
    taken_by numbers (remove_key (is_at (nat_cmp id)) numbers) (filter (λ i. not (nat_eq id i)) numbers) n (is_at (nat_cmp id) n) (nat_eq id n) (unsigned_tied id n)
    (λ here. others_stay numbers n id rising here) (taken numbers id (sorted_tail nat_cmp n numbers rising))
