-- The tokens of pairs of a partial match and a fact.
use Rattle.std.proofs.Common.{◌≡◌, ◌≢◌, ◌∙◌, ◌++◌, ◌⊎◌, ℕ, true, false, List, [], ◌∷◌, Option, Some, None, Less, Equal, ap, inl, inr, refl, subst, sym}
use Rattle.std.specs.Cmp.{nat_cmp_total, tied_itself}
use Rattle.std.specs.Cmp.Lexicographic.{lists_total, slice_cmp}
use Rattle.std.specs.Ordering.{nat_cmp}
use Rattle.cb_alpha.specs.AlphaMemories.{Candidates}
use Rattle.cb_beta.specs.BetaMemories.{BetaMemoryValue, Gains}
use Rattle.cb_beta.specs.Tokens.{TakenValue, TokenValue, candidate_of}
use Rattle.cb_constraints.specs.PatternValues.{PatternValue}
use Rattle.cb_exprs.specs.Bindings.{Bindings}
use Rattle.cb_exprs.specs.Terms.{Term}
use Rattle.cb_facts.specs.Facts.{FactValue}
use Rattle.cb_fit.specs.Ways.{WayValue, ways}
use Rattle.cb_join_node.specs.Joins.{IsOfFact, IsOfWay, IsOfWays, IsPair, JoinsOne, token_of}
use Rattle.cb_matches.proofs.Lists.{chain_weaker, in_either, in_left, in_right}
use Rattle.cb_matches.specs.Chains.{Chain, In}
use Rattle.cb_matches.specs.Matches.{Partial, grown}
use Rattle.cb_matches.specs.Order.{WaysRise}
use Rattle.cb_nodes.specs.Flat.{all_hold}
use Rattle.cb_token_lists.proofs.Arrivals.{come_alike, come_then, none_come, one_comes}
use Rattle.cb_token_lists.specs.Growth.{Comes}

-- the ways of a pattern and a fact are distinct
pub ways_apart : WaysRise → (p : PatternValue) (f : FactValue) (env : Bindings) → Chain (λ (v : WayValue) (w : WayValue). v ≢ w) (ways p f env)
ways_apart rise p f env =
    chain_weaker (λ (v : WayValue) (w : WayValue). slice_cmp nat_cmp v.cuts w.cuts ≡ Less) (λ (v : WayValue) (w : WayValue). v ≢ w)
    (λ v w h e.
    let level : slice_cmp nat_cmp v.cuts v.cuts ≡ Equal = tied_itself (lists_total nat_cmp_total) v.cuts in
    let less : slice_cmp nat_cmp v.cuts v.cuts ≡ Less = subst (λ it. slice_cmp nat_cmp v.cuts it ≡ Less) (ap (λ it. it.cuts) (sym e)) h in
    absurd (let no : Equal ≡ Less = sym level ∙ less in cc))
    (ways p f env) (rise p f env)

-- a token says what it is of
pub one_parent : (i j c d ix iy : ℕ) (v w : WayValue) → token_of i c ix v ≡ token_of j d iy w → i ≡ j
one_parent i j c d ix iy v w e = ap (λ (t : TokenValue). t.parent) e

pub one_candidate : (i j c d ix iy : ℕ) (v w : WayValue) → token_of i c ix v ≡ token_of j d iy w → c ≡ d
one_candidate i j c d ix iy v w e = let both : Some c ≡ Some d = ap candidate_of e in cc

pub one_way : (i j c d ix iy : ℕ) (v w : WayValue) → token_of i c ix v ≡ token_of j d iy w → v ≡ w
one_way i j c d ix iy v w e = ap (λ (t : TokenValue). taken_way t) e
  where
    taken_way : TokenValue → WayValue
    taken_way t = way_or t.taken
      where
        way_or : Option TakenValue → WayValue
        way_or None = v
        way_or (Some it) = it.way

-- of a list without doubles the next is not among those before
pub next_apart : (ws : List WayValue) (w : WayValue) (rest : List WayValue) → Chain (λ (u : WayValue) (v : WayValue). u ≢ v) (ws ++ w ∷ rest) → In w ws → ⊥
next_apart [] w rest once h = absurd h
next_apart (v ∷ ws) w rest once (inl e) = once.0 w (in_right w ws (w ∷ rest) (inl refl)) (sym e)
next_apart (v ∷ ws) w rest once (inr h) = next_apart ws w rest once.1 h

module _ (x : Option (List ℕ)) (ts : List Term) (m : Partial) (number candidate ix : ℕ) where
  -- a way by which the tests don't hold gives no token
  pub no_token : (own : BetaMemoryValue) (way : WayValue) → all_hold ts (grown x ix m way) ≡ false → Comes own own (IsOfWay x ts m number candidate ix way)
  no_token own way fails = none_come own (IsOfWay x ts m number candidate ix way) (λ t h. let no : true ≡ false = sym h.0 ∙ fails in cc)

  -- and one by which they hold gives one
  pub a_token : (old new : BetaMemoryValue) (way : WayValue) (i : ℕ) → all_hold ts (grown x ix m way) ≡ true → Gains old new i (token_of number candidate ix way)
      → Comes old new (IsOfWay x ts m number candidate ix way)
  a_token old new way i holds is =
      come_alike old new (λ t. t ≡ token_of number candidate ix way) (IsOfWay x ts m number candidate ix way) (λ t e. (holds, e)) (λ t h. h.1)
      (one_comes old new i (token_of number candidate ix way) is)

  -- no ways, and one way more
  pub no_ways : (own : BetaMemoryValue) → Comes own own (IsOfWays x ts m number candidate ix [])
  no_ways own = none_come own (IsOfWays x ts m number candidate ix []) (λ t h. h.1)

  pub ways_more : (old now new : BetaMemoryValue) (ws : List WayValue) (way : WayValue) → (In way ws → ⊥) → Comes old now (IsOfWays x ts m number candidate ix ws)
      → Comes now new (IsOfWay x ts m number candidate ix way) → Comes old new (IsOfWays x ts m number candidate ix (ws ++ way ∷ []))
  ways_more old now new ws way apart first second =
      come_alike old new (λ t. IsOfWays x ts m number candidate ix ws t ⊎ IsOfWay x ts m number candidate ix way t) (IsOfWays x ts m number candidate ix (ws ++ way ∷ []))
      (λ t h. elim h as (λ _. IsOfWays x ts m number candidate ix (ws ++ way ∷ []) t) [
        | inl k ↦ (k.0, in_left k.0 ws (way ∷ []) k.1, k.2)
        | inr k ↦ (way, in_right way ws (way ∷ []) (inl refl), k)
      ])
      (λ t h. elim (in_either h.0 ws (way ∷ []) h.1) as (λ _. IsOfWays x ts m number candidate ix ws t ⊎ IsOfWay x ts m number candidate ix way t) [
        | inl k ↦ inl (h.0, k, h.2)
        | inr k ↦ inr (subst (λ it. IsOfWay x ts m number candidate ix it t) (the_one h.0 k) h.2)
      ])
      (come_then old now new (IsOfWays x ts m number candidate ix ws) (IsOfWay x ts m number candidate ix way) first second
      (λ t h k. apart (subst (λ it. In it ws) (one_way number number candidate candidate ix ix h.0 way (sym h.2.1 ∙ k.1)) h.1)))
    where
      the_one : (v : WayValue) → In v (way ∷ []) → v ≡ way
      the_one v (inl e) = e
      the_one v (inr h) = absurd h

  -- one way alone
  pub one_way_comes : (old new : BetaMemoryValue) (ws : List WayValue) (way : WayValue) → ws ≡ way ∷ [] → Comes old new (IsOfWay x ts m number candidate ix way)
      → Comes old new (IsOfWays x ts m number candidate ix ws)
  one_way_comes old new ws way e is =
      come_alike old new (IsOfWay x ts m number candidate ix way) (IsOfWays x ts m number candidate ix ws)
      (λ t h. (way, subst (In way) (sym e) (inl refl), h))
      (λ t h. subst (λ it. IsOfWay x ts m number candidate ix it t) (the_one h.0 (subst (In h.0) e h.1)) h.2)
      is
    where
      the_one : (v : WayValue) → In v (way ∷ []) → v ≡ way
      the_one v (inl e) = e
      the_one v (inr h) = absurd h

module _ (x : Option (List ℕ)) (p : PatternValue) (ts : List Term) where
  -- what comes of facts says of which
  pub differ_by_fact : (m : Partial) (number : ℕ) (cs : Candidates) (i j : ℕ) (t : TokenValue) → IsOfFact x p ts m number cs i t → IsOfFact x p ts m number cs j t → i ≡ j
  differ_by_fact m number cs i j t h k = one_candidate number number i j h.0.0 k.0.0 h.2.0 k.2.0 (sym h.2.2.1 ∙ k.2.2.1)

  -- and of partial matches
  pub differ_by_partial : (at : ℕ → Partial) (candidate : ℕ) (f : ℕ × FactValue) (i j : ℕ) (t : TokenValue)
      → IsPair x p ts (at i) i candidate f t → IsPair x p ts (at j) j candidate f t → i ≡ j
  differ_by_partial at candidate f i j t h k = one_parent i j candidate candidate f.0 f.0 h.0 k.0 (sym h.2.1 ∙ k.2.1)

  pub differ_by_number : (at : ℕ → Partial) (facts : ℕ → Option (ℕ × FactValue)) (i j : ℕ) (t : TokenValue) → JoinsOne x p ts (at i) i facts t → JoinsOne x p ts (at j) j facts t → i ≡ j
  differ_by_number at facts i j t h k = one_parent i j h.0 k.0 h.1.0.0 k.1.0.0 h.1.2.0 k.1.2.0 (sym h.1.2.2.1 ∙ k.1.2.2.1)
