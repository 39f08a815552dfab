-- The first part of a list that is cut, found from the front.
use Rattle.std.proofs.Common.{◌≡◌, ◌<◌, ◌≤◌, ℕ, ◌+◌, Bool, true, false, List, [], ◌∷◌, ◌++◌, length, get_or, take, drop, refl, sym, ap, ◌∙◌, arith, if◌then◌else◌}
use Rattle.std.proofs.lemmas.List.{drop_more, take_more, drop_all, take-append-drop, take-take, drop-take}
use Rattle.cb_forms.specs.Cutting.{cut_from, cut}

module _ (takes : List ℕ → ℕ → Bool) where
  -- the first part begins with the first element
  pub split-begin : (s : List ℕ) → 0 < length s → cut_from takes (take 1 s) (drop 1 s) ≡ cut takes s
  split-begin [] h = absurd (omega arith)
  split-begin (x ∷ xs) h = refl

  -- it goes on with an element that it takes
  pub split-more : (s : List ℕ) (i : ℕ) → i < length s → takes (take i s) (get_or s i 0) ≡ true → cut_from takes (take (i + 1) s) (drop (i + 1) s) ≡ cut_from takes (take i s) (drop i s)
  split-more s i lt h =
      let one : cut_from takes (take i s) (drop i s) ≡ cut_from takes (take i s ++ get_or s i 0 ∷ []) (drop (i + 1) s) = rw (drop_more s i 0 lt) (ap (λ t. if t then cut_from takes (take i s ++ get_or s i 0 ∷ []) (drop (i + 1) s) else take i s ∷ cut_from takes (get_or s i 0 ∷ []) (drop (i + 1) s)) h) in
      rw (take_more s i 0 lt) (sym one)

  -- it ends at the end, or before an element that it doesn't take
  pub split-all : (s : List ℕ) (i : ℕ) → length s ≤ i → cut_from takes (take i s) (drop i s) ≡ take i s ∷ cut takes (drop i s)
  split-all s i le = rw (drop_all i s le) refl

  pub split-end : (s : List ℕ) (i : ℕ) → i < length s → takes (take i s) (get_or s i 0) ≡ false → cut_from takes (take i s) (drop i s) ≡ take i s ∷ cut takes (drop i s)
  split-end s i lt h = rw (drop_more s i 0 lt) (ap (λ t. if t then cut_from takes (take i s ++ get_or s i 0 ∷ []) (drop (i + 1) s) else take i s ∷ cut_from takes (get_or s i 0 ∷ []) (drop (i + 1) s)) h)

-- the first bytes of a text in two runs
pub take-both : (i n : ℕ) (s : List ℕ) → take (i + n) s ≡ take i s ++ take n (drop i s)
take-both i n s = sym (take-append-drop i (take (i + n) s)) ∙ (ap (λ l. l ++ drop i (take (i + n) s)) (take-take i (i + n) s (omega arith)) ∙ ap (λ l. take i s ++ l) (drop-take i n s))
