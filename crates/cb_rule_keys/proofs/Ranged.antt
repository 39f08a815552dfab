-- Places that are found, one number after another: those of a list from a place on and before another, where the numbers rise.
use Rattle.std.proofs.Common.{◌≡◌, ◌≢◌, ◌<◌, ◌≤◌, ℕ, ◌+◌, List, ap, arith, get_or, inl, inr, length}
use Rattle.std.proofs.lemmas.List.{get_or_default}
use Rattle.std.proofs.lemmas.Bool.{cases_lt}

module _ {K : Type 0} (number : K → ℕ) (found : List K) (first end : ℕ) where
  -- the places before one have lower numbers than a bound, and the others have not
  pub record IsBound (at b : ℕ) : Type 0 where
    pub from : first ≤ at
    pub below : (k : ℕ) (d : K) → first ≤ k → k < at → number (get_or found k d) < b
    pub above : (k : ℕ) (d : K) → at ≤ k → k < end → b ≤ number (get_or found k d)

  pub begins : IsBound first 0
  begins = record { from = omega arith; below = λ k d h l. absurd (omega (arith, h, l)); above = λ k d h l. omega arith }

  module _ (ends : end ≤ length found) (rises : (i j : ℕ) (d : K) → first ≤ i → i < j → j < end → number (get_or found i d) ≤ number (get_or found j d)) where
    module _ (at b : ℕ) (is : IsBound at b) (d : K) (within : at < end) where
      pub bound_below : b ≤ number (get_or found at d)
      bound_below = is.above at d (omega arith) within

      -- none between is found
      pub none_between : (n : ℕ) → b ≤ n → n < number (get_or found at d) → (k : ℕ) → first ≤ k → k < end → number (get_or found k d) ≡ n → ⊥
      none_between n low high k from before same =
          elim (cases_lt k at) as (λ _. ⊥) [
            | inl l ↦ (let lower = is.below k d from l in omega (arith, same, low, lower))
            | inr l ↦ elim (cases_lt at k) as (λ _. ⊥) [
              | inl m ↦ (let up = rises at k d is.from m before in omega (arith, same, high, up))
              | inr m ↦ (let e : k ≡ at = omega (arith, l, m) in let there = ap (λ j. number (get_or found j d)) e in omega (arith, same, high, there))
            ]
          ]

      -- the bound behind the places of the number
      pub goes_on : (to : ℕ) → at < to → to ≤ end → ((k : ℕ) (e : K) → at ≤ k → k < to → number (get_or found k e) ≡ number (get_or found at e))
          → ((e : K) → to < end → number (get_or found to e) ≡ number (get_or found at e) → ⊥) → IsBound to (number (get_or found at d) + 1)
      goes_on to up high passed stops = record {
        from = let low = is.from in omega (arith, low, up);
        below = λ k e h l. elim (cases_lt k at) as (λ _. number (get_or found k e) < here + 1) [
          | inl m ↦ (let lower = is.below k e h m in omega (arith, lower, low))
          | inr m ↦ (let same = passed k e m l in let other = at_any e in omega (arith, same, other))
        ];
        above = λ k e h l. elim (cases_lt to k) as (λ _. here + 1 ≤ number (get_or found k e)) [
          | inl m ↦ (let next = first_other e (omega (arith, m, l)) in let more = rises to k e from_to m l in omega (arith, next, more))
          | inr m ↦ (let same : k ≡ to = omega (arith, m, h) in let next = first_other e (omega (arith, same, l)) in let there = ap (λ n. number (get_or found n e)) same in omega (arith, next, there))
        ];
      }
        where
          here : ℕ
          here = number (get_or found at d)

          low : b ≤ here
          low = bound_below

          from_to : first ≤ to
          from_to = let l = is.from in omega (arith, l, up)

          at_any : (e : K) → number (get_or found at e) ≡ here
          at_any e = ap number (get_or_default found at e d (omega (arith, within, ends)))

          first_other : (e : K) → to < end → here + 1 ≤ number (get_or found to e)
          first_other e h =
              let more = rises at to e is.from up h in
              let other : number (get_or found to e) ≢ number (get_or found at e) = stops e h in
              let same = at_any e in
              omega (arith, more, other, same)

    -- at the end none from the bound on is found
    pub none_after : (at b : ℕ) → IsBound at b → end ≤ at → (n : ℕ) → b ≤ n → (k : ℕ) (d : K) → first ≤ k → k < end → number (get_or found k d) ≡ n → ⊥
    none_after at b is over n low k d from before same =
        let lower = is.below k d from (omega (arith, before, over)) in
        omega (arith, same, low, lower)
