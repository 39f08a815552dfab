-- A list put in order: it is in order, has the same elements, and what ties stands as before; no other list is so.
use Rattle.std.proofs.Common.{◌≡◌, ◌<◌, ◌≤◌, ℕ, Bool, true, false, List, [], ◌∷◌, ap, arith, cond, get_or, if◌then◌else◌, length, not, refl, suc, sym, ◌∙◌}
use Rattle.std.proofs.lemmas.Bool.{false_from_ne_true, false≢true, true_from_ne_false}
use Rattle.std.proofs.lemmas.List.Elements.{recursion_from_All}
use Rattle.std.proofs.lemmas.List.Sorted.{IsPermutation-cons, IsPermutation-middle, IsPermutation-refl, IsPermutation-sym, IsPermutation-trans, sorted_far}
use Rattle.std.specs.Cmp.{IsStrictWeakOrder, first_so, second_so}
use Rattle.std.specs.List.{AllByRecursion, filter}
use Rattle.std.specs.List.Sorted.{IsPermutation, IsSortedBy, IsStableBy, ties}
use Rattle.cb_agenda.specs.Orders.{IsInOrder, placed, sorted}

not_so : (b : Bool) → not b ≡ true → b ≡ false
not_so true h = absurd (false≢true h)
not_so false h = refl

pub all_more : {X : Type 0} {P Q : X → Type 0} → ((x : X) → P x → Q x) → (xs : List X) → AllByRecursion P xs → AllByRecursion Q xs
all_more more [] h = tt
all_more more (x ∷ xs) h = (more x h.0, all_more more xs h.1)

module _ {X : Type 0} (before : X → X → Bool) where
  all_placed_by : (P : X → Type 0) (b : Bool) (x y : X) (ys rest : List X) → P x → AllByRecursion P (y ∷ ys) → AllByRecursion P rest → AllByRecursion P (if b then y ∷ rest else x ∷ y ∷ ys)
  all_placed_by P true x y ys rest h all more = (all.0, more)
  all_placed_by P false x y ys rest h all more = (h, all)

  pub all_placed : (P : X → Type 0) (x : X) (ys : List X) → P x → AllByRecursion P ys → AllByRecursion P (placed before x ys)
  all_placed P x [] h all = (h, tt)
  all_placed P x (y ∷ ys) h all = all_placed_by P (before y x) x y ys (placed before x ys) h all (all_placed P x ys h all.1)

  pub all_sorted : (P : X → Type 0) (xs : List X) → AllByRecursion P xs → AllByRecursion P (sorted before xs)
  all_sorted P [] all = tt
  all_sorted P (x ∷ xs) all = all_placed P x (sorted before xs) all.0 (all_sorted P xs all.1)

  same_placed_by : (b : Bool) (x y : X) (ys rest : List X) → IsPermutation (x ∷ ys) rest → IsPermutation (x ∷ y ∷ ys) (if b then y ∷ rest else x ∷ y ∷ ys)
  same_placed_by true x y ys rest h =
      IsPermutation-trans (x ∷ y ∷ ys) (y ∷ x ∷ ys) (y ∷ rest) (IsPermutation-sym (y ∷ x ∷ ys) (x ∷ y ∷ ys) (IsPermutation-middle (y ∷ []) x ys)) (IsPermutation-cons y (x ∷ ys) rest h)
  same_placed_by false x y ys rest h = IsPermutation-refl (x ∷ y ∷ ys)

  same_placed : (x : X) (ys : List X) → IsPermutation (x ∷ ys) (placed before x ys)
  same_placed x [] = IsPermutation-refl (x ∷ [])
  same_placed x (y ∷ ys) = same_placed_by (before y x) x y ys (placed before x ys) (same_placed x ys)

  pub same_sorted : (xs : List X) → IsPermutation xs (sorted before xs)
  same_sorted [] = IsPermutation-refl []
  same_sorted (x ∷ xs) =
      IsPermutation-trans (x ∷ xs) (x ∷ sorted before xs) (placed before x (sorted before xs)) (IsPermutation-cons x xs (sorted before xs) (same_sorted xs)) (same_placed x (sorted before xs))

module _ {X : Type 0} (before : X → X → Bool) (o : IsStrictWeakOrder before) where
  in_order_placed_by : (b : Bool) (x y : X) (ys : List X) → before y x ≡ b → IsInOrder before (y ∷ ys) → IsInOrder before (placed before x ys)
      → IsInOrder before (if b then y ∷ placed before x ys else x ∷ y ∷ ys)
  in_order_placed_by true x y ys e h more = (all_placed before (λ z. before z y ≡ false) x ys (o.one_way y x e) h.0, more)
  in_order_placed_by false x y ys e h more = ((e, all_more (λ z after. o.chain z y x after e) ys h.0), h)

  in_order_placed : (x : X) (ys : List X) → IsInOrder before ys → IsInOrder before (placed before x ys)
  in_order_placed x [] h = (tt, tt)
  in_order_placed x (y ∷ ys) h = in_order_placed_by (before y x) x y ys refl h (in_order_placed x ys h.1)

  pub in_order_sorted : (xs : List X) → IsInOrder before (sorted before xs)
  in_order_sorted [] = tt
  in_order_sorted (x ∷ xs) = in_order_placed x (sorted before xs) (in_order_sorted xs)

  -- of those that tie with one, none comes before another
  tied : (x y z : X) → ties before x y ≡ true → ties before x z ≡ true → before y z ≡ false
  tied x y z h k =
      let first : not (before y x) ≡ true = second_so (not (before x y)) (not (before y x)) h in
      let second : not (before x z) ≡ true = first_so (not (before x z)) (not (before z x)) k in
      o.chain y x z (not_so (before y x) first) (not_so (before x z) second)

  kept_placed_by : (q : X → Bool) (b c d : Bool) (x y : X) (ys rest kept : List X) → q y ≡ c → q x ≡ d → before y x ≡ b
      → (q y ≡ true → q x ≡ true → before y x ≡ false)
      → filter q rest ≡ cond d (x ∷ kept) kept → filter q ys ≡ kept
      → filter q (if b then y ∷ rest else x ∷ y ∷ ys) ≡ cond d (x ∷ cond c (y ∷ kept) kept) (cond c (y ∷ kept) kept)
  kept_placed_by q false c d x y ys rest kept e f b apart more less = rw (f, e, less) refl
  kept_placed_by q true true true x y ys rest kept e f b apart more less = absurd (false≢true (sym (apart e f) ∙ b))
  kept_placed_by q true true false x y ys rest kept e f b apart more less = rw (e, more) refl
  kept_placed_by q true false d x y ys rest kept e f b apart more less = rw (e, more) refl

  kept_placed : (q : X → Bool) → ((y z : X) → q y ≡ true → q z ≡ true → before y z ≡ false) → (x : X) (ys : List X) → filter q (placed before x ys) ≡ filter q (x ∷ ys)
  kept_placed q apart x [] = refl
  kept_placed q apart x (y ∷ ys) =
      kept_placed_by q (before y x) (q y) (q x) x y ys (placed before x ys) (filter q ys) refl refl refl (apart y x) (kept_placed q apart x ys) refl

  stable_sorted : (x : X) (xs : List X) → filter (ties before x) (sorted before xs) ≡ filter (ties before x) xs
  stable_sorted x [] = refl
  stable_sorted x (y ∷ ys) =
      kept_placed (ties before x) (tied x) y (sorted before ys) ∙ ap (λ zs. cond (ties before x y) (y ∷ zs) zs) (stable_sorted x ys)

  -- what comes before the first of a list in order ties with none of it
  none_ties : (x : X) (ys : List X) → AllByRecursion (λ y. before x y ≡ true) ys → filter (ties before x) ys ≡ []
  none_ties x [] h = refl
  none_ties x (y ∷ ys) h = let e = h.0 in rw (e, none_ties x ys h.1) refl

  all_after : (x y : X) (ys : List X) → before x y ≡ true → IsInOrder before (y ∷ ys) → AllByRecursion (λ z. before x z ≡ true) (y ∷ ys)
  all_after x y ys e h = (e, all_more (λ z after. true_from_ne_false (before x z) (λ no. let n : before x y ≡ false = o.chain x z y no after in false≢true (sym n ∙ e))) ys h.0)

  ties_itself : (x : X) → ties before x x ≡ true
  ties_itself x = let n : before x x ≡ false = false_from_ne_true (before x x) (λ e. false≢true (sym (o.one_way x x e) ∙ e)) in rw (n) refl

  -- the first of one does not come after the first of the other
  first_not_after : (y z : X) (ys zs : List X) → IsInOrder before (z ∷ zs) → filter (ties before y) (y ∷ ys) ≡ filter (ties before y) (z ∷ zs) → before y z ≡ false
  first_not_after y z ys zs h same = false_from_ne_true (before y z) (λ e.
      let none : filter (ties before y) (z ∷ zs) ≡ [] = none_ties y (z ∷ zs) (all_after y z zs e h) in
      let some : filter (ties before y) (y ∷ ys) ≡ y ∷ filter (ties before y) ys = rw (ties_itself y) refl in
      let wrong : y ∷ filter (ties before y) ys ≡ [] = sym some ∙ same ∙ none in
      cc)

  rest_same_by : (b : Bool) (x : X) (ys zs : List X) → cond b (x ∷ ys) ys ≡ cond b (x ∷ zs) zs → ys ≡ zs
  rest_same_by true x ys zs e = cc
  rest_same_by false x ys zs e = e

  firsts_same : (y z : X) (ys zs : List X) → IsInOrder before (y ∷ ys) → IsInOrder before (z ∷ zs)
      → ((x : X) → filter (ties before x) (y ∷ ys) ≡ filter (ties before x) (z ∷ zs)) → y ≡ z
  firsts_same y z ys zs g h same =
      let n : before y z ≡ false = first_not_after y z ys zs h (same y) in
      let m : before z y ≡ false = first_not_after z y zs ys g (sym (same z)) in
      let both : ties before y z ≡ true = rw (n, m) refl in
      let left : filter (ties before y) (y ∷ ys) ≡ y ∷ filter (ties before y) ys = rw (ties_itself y) refl in
      let right : filter (ties before y) (z ∷ zs) ≡ z ∷ filter (ties before y) zs = rw (both) refl in
      let e : y ∷ filter (ties before y) ys ≡ z ∷ filter (ties before y) zs = sym left ∙ same y ∙ right in
      cc

  same_by_ties : (ys zs : List X) → IsInOrder before ys → IsInOrder before zs → ((x : X) → filter (ties before x) ys ≡ filter (ties before x) zs) → ys ≡ zs
  same_by_ties [] [] g h same = refl
  same_by_ties [] (z ∷ zs) g h same = let right : filter (ties before z) (z ∷ zs) ≡ z ∷ filter (ties before z) zs = rw (ties_itself z) refl in let e = same z in cc
  same_by_ties (y ∷ ys) [] g h same = let left : filter (ties before y) (y ∷ ys) ≡ y ∷ filter (ties before y) ys = rw (ties_itself y) refl in let e = same y in cc
  same_by_ties (y ∷ ys) (z ∷ zs) g h same =
      let e : y ≡ z = firsts_same y z ys zs g h same in
      let rest : ys ≡ zs = same_by_ties ys zs g.1 h.1 (λ x. rest_same_by (ties before x y) y (filter (ties before x) ys) (filter (ties before x) zs)
      (same x ∙ ap (λ w. filter (ties before x) (w ∷ zs)) (sym e))) in
      ap (λ w. w ∷ ys) e ∙ ap (λ ws. z ∷ ws) rest

  in_order_from_places : (xs : List X) → ((i j : ℕ) (d : X) → i ≤ j → j < length xs → before (get_or xs j d) (get_or xs i d) ≡ false) → IsInOrder before xs
  in_order_from_places [] h = tt
  in_order_from_places (x ∷ xs) h = (
    recursion_from_All (λ y. before y x ≡ false) xs (λ j d below. h 0 (suc j) d (omega arith) (omega arith)),
    in_order_from_places xs (λ i j d le below. h (suc i) (suc j) d (omega arith) (omega arith)),
  )

  -- what a stable sort gives
  pub sorted_is : (xs ys : List X) → IsSortedBy before ys → IsStableBy before xs ys → ys ≡ sorted before xs
  sorted_is xs ys up stable =
      same_by_ties ys (sorted before xs) (in_order_from_places ys (sorted_far before o ys up)) (in_order_sorted xs) (λ x. stable x ∙ sym (stable_sorted x xs))
