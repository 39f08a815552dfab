-- How many ways there are, up to 65.
use Rattle.std.proofs.Common.{◌≡◌, ◌≤◌, ◌<◌, ◌∙◌, ◌+◌, ◌*◌, ◌++◌, ◌⊎◌, ℕ, zero, suc, List, [], ◌∷◌, arith, inl, inr, length, sym, ap, ap₂}
use Rattle.std.proofs.Math.Nat.{min-eq_left, min-eq_right, min-le_right, mul-suc, mul-zero, suc-mul, mul_assoc, mul_comm, zero-mul}
use Rattle.std.proofs.lemmas.Bool.{cases_lt}
use Rattle.std.proofs.lemmas.List.{length-append, length-map}
use Rattle.cb_rule_forms.specs.Branches.{combined, ways_through, ways_through_all, ways_through_one}
use Rattle.cb_rule_forms.specs.Internal.{capped}
use Rattle.cb_rule_forms.specs.WrittenElements.{Written, Writtens, written}
use Rattle.cb_rule_forms.proofs.WayLaws.{led_by}

pub small : (n : ℕ) → n ≤ 65 → capped n ≡ n
small n h = min-eq_left h

large : (n : ℕ) → 65 ≤ n → capped n ≡ 65
large n h = min-eq_right h

up : (m n k : ℕ) → k ≡ m + n → 65 ≤ n → 65 ≤ k
up m n k e h = omega arith

same_large : (m n : ℕ) → 65 ≤ m → 65 ≤ n → capped m ≡ capped n
same_large m n g h = large m g ∙ sym (large n h)

at_least : (a : ℕ) → 65 ≤ a → 65 ≤ capped a
at_least a h = let e : capped a ≡ 65 = large a h in omega arith

-- what a factor, or a summand, is above 65 does not matter
large_mul : (a b : ℕ) → 65 ≤ a → capped (capped a * b) ≡ capped (a * b)
large_mul a zero h = ap capped (mul-zero (capped a) ∙ sym (mul-zero a))
large_mul a (suc b) h = same_large _ _ (up _ _ _ (mul-suc (capped a) b) (at_least a h)) (up _ _ _ (mul-suc a b) h)

cap_mul : (a b : ℕ) → capped (capped a * b) ≡ capped (a * b)
cap_mul a b = by (cases_lt a 65)
  where
    by : (a < 65) ⊎ (65 ≤ a) → capped (capped a * b) ≡ capped (a * b)
    by (inl s) = ap (λ n. capped (n * b)) (small a (omega arith))
    by (inr l) = large_mul a b l

cap_add : (a b : ℕ) → capped (a + capped b) ≡ capped (a + b)
cap_add a b = by (cases_lt b 65)
  where
    by : (b < 65) ⊎ (65 ≤ b) → capped (a + capped b) ≡ capped (a + b)
    by (inl s) = ap (λ n. capped (a + n)) (small b (omega arith))
    by (inr l) = let h = at_least b l in same_large _ _ (omega arith) (omega arith)

first_add : (a b : ℕ) → capped (capped a + b) ≡ capped (a + b)
first_add a b = by (cases_lt a 65)
  where
    by : (a < 65) ⊎ (65 ≤ a) → capped (capped a + b) ≡ capped (a + b)
    by (inl s) = ap (λ n. capped (n + b)) (small a (omega arith))
    by (inr l) = let h = at_least a l in same_large _ _ (omega arith) (omega arith)

three : (n x r : ℕ) → (n * x) * r ≡ x * (n * r)
three n x r = ap (λ k. k * r) (mul_comm n x) ∙ mul_assoc x n r

times : (n x r : ℕ) → capped (capped (n * capped x) * r) ≡ capped (n * (x * r))
times n x r =
    cap_mul (n * capped x) r
    ∙ (ap capped (three n (capped x) r) ∙ (cap_mul x (n * r) ∙ ap capped (sym (three n x r) ∙ mul_assoc n x r)))

plus : (n x r : ℕ) → capped (capped (n + capped x) + r) ≡ capped (n + (x + r))
plus n x r =
    let move : (n + capped x) + r ≡ (n + r) + capped x = omega arith in
    let back : (n + r) + x ≡ n + (x + r) = omega arith in
    first_add (n + capped x) r ∙ (ap capped move ∙ (cap_add (n + r) x ∙ ap capped back))

length_combined : (xs ys : List (List Written)) → length (combined xs ys) ≡ length xs * length ys
length_combined [] ys = sym (zero-mul (length ys))
length_combined (x ∷ xs) ys =
    let here = length-map ys (λ second. x ++ second) in
    let more = length_combined xs ys in
    let all = length-append (led_by x ys) (combined xs ys) in
    let product = suc-mul (length xs) (length ys) in
    all ∙ (ap₂ (λ m n. m + n) here more ∙ (swap (length ys) (length xs * length ys) ∙ sym product))
  where
    swap : (m n : ℕ) → m + n ≡ n + m
    swap m n = omega arith

-- an element more
pub all_more : (n : ℕ) (w : Written) (ws : Writtens)
    → capped (capped (n * capped (length (ways_through w))) * length (ways_through_all ws)) ≡ capped (n * length (ways_through_all (written w ws)))
all_more n w ws = times n (length (ways_through w)) (length (ways_through_all ws)) ∙ ap (λ k. capped (n * k)) (sym (length_combined (ways_through w) (ways_through_all ws)))

pub one_more : (n : ℕ) (w : Written) (ws : Writtens)
    → capped (capped (n + capped (length (ways_through w))) + length (ways_through_one ws)) ≡ capped (n + length (ways_through_one (written w ws)))
one_more n w ws = plus n (length (ways_through w)) (length (ways_through_one ws)) ∙ ap (λ k. capped (n + k)) (sym (length-append (ways_through w) (ways_through_one ws)))

pub no_more : (n : ℕ) → capped n ≤ 65
no_more n = min-le_right n 65

-- a number is at most 64 where the cut one is
pub under : (n k : ℕ) → k ≡ capped n → k ≤ 64 → n ≤ 64
under n k e h = by (cases_lt n 65)
  where
    by : (n < 65) ⊎ (65 ≤ n) → n ≤ 64
    by (inl s) = omega arith
    by (inr l) = let c : capped n ≡ 65 = large n l in omega arith
