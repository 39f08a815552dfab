-- Fields at a place, by what was dropped before.
use Rattle.std.proofs.Common.{arith, ◌≡◌, ◌∙◌, ◌+◌, ◌-◌, ◌≤◌, List, ℕ, ap, drop, sym}
use Rattle.std.proofs.lemmas.List.{drop-drop}

pub drop_to : {X : Type 0} (xs : List X) (from to : ℕ) → from ≤ to → drop (to - from) (drop from xs) ≡ drop to xs
drop_to xs from to h = drop-drop (to - from) from xs ∙ ap (λ n. drop n xs) (omega arith)

pub drop_past : {X : Type 0} (xs : List X) (from to k at : ℕ) → from ≤ to → at ≡ to + k → drop k (drop (to - from) (drop from xs)) ≡ drop at xs
drop_past xs from to k at h e = ap (drop k) (drop_to xs from to h) ∙ (drop-drop k to xs ∙ ap (λ n. drop n xs) (sym e))
