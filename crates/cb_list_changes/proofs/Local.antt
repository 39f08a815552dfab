-- What a number stands for in a list depends on no later list.
use Rattle.std.proofs.Common.{◌≡◌, ◌∙◌, ◌≤◌, ◌↔◌, ℕ, zero, suc, List, Option, Some, ap, arith, refl, slice_get, sym}
use Rattle.std.specs.Option.{option_map_or}
use Rattle.cb_beta.specs.BetaMemories.{BetaMemoryValue}
use Rattle.cb_beta.specs.Tokens.{TokenValue, Tokens, partial_after, token_at, with_taken}
use Rattle.cb_list_changes.proofs.Places.{by_option, same_tokens}
use Rattle.cb_list_changes.specs.Resting.{AgreeTo}
use Rattle.cb_matches.specs.Matches.{Partial, no_parts}
use Rattle.cb_token_lists.specs.Partials.{AreBelow, Meets, SourceValue, meets_here, meets_below, partial_at, partial_in, tokens_in}

-- what a number stands for depends on what its parent does alone
abbrev by_token : Option (List ℕ) → (ℕ → Partial) → Option TokenValue → Partial
by_token x before o = option_map_or (λ (t : TokenValue). with_taken x t.taken (before t.parent)) o no_parts

pub after_alike : (x : Option (List ℕ)) (ts : Tokens) (at at' : ℕ → Partial) (i : ℕ) → ((t : TokenValue) → token_at ts i ≡ Some t → at t.parent ≡ at' t.parent)
    → partial_after x ts at i ≡ partial_after x ts at' i
after_alike x ts at at' i same =
    by_option (token_at ts i)
    (λ none. ap (by_token x at) none ∙ sym (ap (by_token x at') none))
    (λ t there. ap (by_token x at) there ∙ (ap (with_taken x t.taken) (same t there) ∙ sym (ap (by_token x at') there)))

abbrev by_source : Tokens → ℕ → (ℕ → ℕ → Partial) → Option SourceValue → Partial
by_source ts i before o = option_map_or (λ (s : SourceValue). partial_after s.address ts (before s.from) i) o no_parts

module _ (sources : List SourceValue) (below : AreBelow sources) (k : ℕ) where
  local_in : (lists lists' : List BetaMemoryValue) → AgreeTo k lists lists' → (n j i : ℕ) → j ≤ k → partial_in sources lists n j i ≡ partial_in sources lists' n j i
  local_in lists lists' agree zero j i l = refl
  local_in lists lists' agree (suc n) zero i l = refl
  local_in lists lists' agree (suc n) (suc j) i l =
      by_option (slice_get sources j)
      (λ none. ap (by_source (tokens_in lists (suc j)) i (partial_in sources lists n)) none ∙ sym (ap (by_source (tokens_in lists' (suc j)) i (partial_in sources lists' n)) none))
      (λ s is.
      let b = below j s is in
      ap (by_source (tokens_in lists (suc j)) i (partial_in sources lists n)) is
      ∙ (after_alike s.address (tokens_in lists (suc j)) (partial_in sources lists n s.from) (partial_in sources lists' n s.from) i
      (λ t there. local_in lists lists' agree n s.from t.parent (omega (arith, b, l)))
      ∙ (ap (λ ts. partial_after s.address ts (partial_in sources lists' n s.from) i) (sym (same_tokens lists lists' (suc j) (agree (suc j) l)))
      ∙ sym (ap (by_source (tokens_in lists' (suc j)) i (partial_in sources lists' n)) is))))

  pub local : (lists lists' : List BetaMemoryValue) → AgreeTo k lists lists' → (j i : ℕ) → j ≤ k → partial_at sources lists j i ≡ partial_at sources lists' j i
  local lists lists' agree j i l = local_in lists lists' agree (suc j) j i l

  pub met_local : (lists lists' : List BetaMemoryValue) → AgreeTo k lists lists' → (from g j i : ℕ) → j ≤ k → Meets sources lists from g j i → Meets sources lists' from g j i
  met_local lists lists' agree from g j i l meets_here = meets_here
  met_local lists lists' agree from g j i l (meets_below n i' s t is there more) =
      let b = below n s is in
      meets_below n i' s t is (ap (λ ts. token_at ts i') (same_tokens lists lists' (suc n) (agree (suc n) l)) ∙ there) (met_local lists lists' agree from g s.from t.parent (omega (arith, b, l)) more)

  pub met_same_local : (lists lists' : List BetaMemoryValue) → AgreeTo k lists lists' → (from g j i : ℕ) → j ≤ k → Meets sources lists from g j i ↔ Meets sources lists' from g j i
  met_same_local lists lists' agree from g j i l = (met_local lists lists' agree from g j i l, met_local lists' lists (λ n m. sym (agree n m)) from g j i l)
