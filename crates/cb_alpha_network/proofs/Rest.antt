-- Alpha memories in no change, and what a change does to one.
use Rattle.std.proofs.Common.{◌≡◌, ◌⊎◌, ◌∙◌, ◌++◌, ◌∷◌, ℕ, true, List, [], Option, Some, None, ap, cond, inl, inr, nat_eq, refl, subst, sym, arith, eq-eqb}
use Rattle.std.proofs.lemmas.Bool.{cases_eq}
use Rattle.cb_alpha.specs.AlphaMemories.{AlphaMemoryValue, GainsFact, IsEnded, LosesFact, candidate_in, live, live_in}
use Rattle.cb_alpha.specs.Turning.{is_number, were_in}
use Rattle.cb_alpha_network.specs.Internal.{AreNoted, IsAsserted, IsRetracted, KeepsOtherMemories}
use Rattle.cb_alpha_network.specs.Networks.{ChangesFrom, IsAtRest, MemoryValues, memory_in}
use Rattle.cb_fit.specs.Shapes.{SelectionValue, selects}
use Rattle.cb_facts.specs.Facts.{FactValue}
use Rattle.cb_matches.proofs.Lists.{by_test, in_left, in_right}
use Rattle.cb_matches.specs.Chains.{In}

-- what is there, and what was
pub live_at_rest : (m : AlphaMemoryValue) → m.gone ≡ None → (i : ℕ) → live m i ≡ candidate_in m.candidates i
live_at_rest m e i = ap (λ g. live_in m.candidates g i) e

pub were_without : (m : AlphaMemoryValue) → m.come ≡ None → (i : ℕ) → were_in m i ≡ candidate_in m.candidates i
were_without m e i = ap (λ come. cond (is_number come i) None (candidate_in m.candidates i)) e

-- a change ends
pub ended_at_rest : (m : AlphaMemoryValue) → IsAtRest m → IsEnded m m
ended_at_rest m rest = record {
  candidates = λ i. sym (live_at_rest m rest.none_gone i);
  gone = rest.none_gone;
  come = rest.none_come;
  joins = refl;
}

pub ended_then : (a b c : AlphaMemoryValue) → IsEnded a b → IsEnded b c → IsEnded a c
ended_then a b c one two = record {
  candidates = λ i. two.candidates i ∙ (live_at_rest b one.gone i ∙ one.candidates i);
  gone = two.gone;
  come = two.come;
  joins = two.joins ∙ one.joins;
}

pub rest_ended : (m m' : AlphaMemoryValue) → IsEnded m m' → IsAtRest m'
rest_ended m m' ended = record { none_gone = ended.gone; none_come = ended.come }

-- a change begins
pub from_rest : (m : AlphaMemoryValue) → IsAtRest m → ChangesFrom m m
from_rest m rest = record {
  joins = refl;
  were = λ i. were_without m rest.none_come i ∙ sym (live_at_rest m rest.none_gone i);
}

pub gains_from : (m m' : AlphaMemoryValue) (number : ℕ) (f : ℕ × FactValue) → IsAtRest m → GainsFact m m' number f → ChangesFrom m m'
gains_from m m' number f rest gains = record {
  joins = gains.joins;
  were = λ i. ap (λ come. cond (is_number come i) None (candidate_in m'.candidates i)) gains.come ∙ elim (cases_eq i number) as (λ _. cond (nat_eq i number) None (candidate_in m'.candidates i) ≡ live m i) [
    | inl e ↦ ap (λ b. cond b None (candidate_in m'.candidates i)) (eq-eqb i number e) ∙ sym (live_at_rest m rest.none_gone i ∙ (ap (candidate_in m.candidates) e ∙ gains.free))
    | inr d ↦ by_test (nat_eq i number)
        (λ t. absurd (d (same_number i number t)))
        (λ t. ap (λ b. cond b None (candidate_in m'.candidates i)) t ∙ (gains.others i d ∙ sym (live_at_rest m rest.none_gone i)))
  ];
}
  where
    same_number : (a b : ℕ) → nat_eq a b ≡ true → a ≡ b
    same_number a b t = grind arith

pub loses_from : (m m' : AlphaMemoryValue) (number ix : ℕ) → IsAtRest m → LosesFact m m' number ix → ChangesFrom m m'
loses_from m m' number ix rest loses = record {
  joins = loses.joins;
  were = λ i. were_without m' (loses.come ∙ rest.none_come) i ∙ (ap (λ cs. candidate_in cs i) loses.candidates ∙ sym (live_at_rest m rest.none_gone i));
}

pub asserted_from : (o : Option SelectionValue) (ix : ℕ) (f : FactValue) (m m' : AlphaMemoryValue) → IsAtRest m → IsAsserted o ix f m m' → ChangesFrom m m'
asserted_from None ix f m m' rest same = subst (ChangesFrom m) (sym same) (from_rest m rest)
asserted_from (Some p) ix f m m' rest is = by_test (selects p f)
    (λ t. let gains = is.0 t in gains_from m m' gains.0 (ix, f) rest gains.1)
    (λ t. subst (ChangesFrom m) (sym (is.1 t)) (from_rest m rest))

pub retracted_from : (ix : ℕ) (m m' : AlphaMemoryValue) → IsAtRest m → IsRetracted ix m m' → ChangesFrom m m'
retracted_from ix m m' rest (inl loses) = loses_from m m' loses.0 ix rest loses.1
retracted_from ix m m' rest (inr same) = subst (ChangesFrom m) (sym same.0) (from_rest m rest)

-- which memories a change concerns
module _ (ms ms' : MemoryValues) (noted : List ℕ) (number : ℕ) (was : AreNoted ms noted) (others : KeepsOtherMemories number ms ms') where
  pub noted_still : IsAtRest (memory_in ms' number) → AreNoted ms' noted
  noted_still rest n = elim (cases_eq n number) as (λ _. IsAtRest (memory_in ms' n) ⊎ In n noted) [
    | inl e ↦ inl (subst (λ i. IsAtRest (memory_in ms' i)) (sym e) rest)
    | inr d ↦ subst (λ m. IsAtRest m ⊎ In n noted) (sym (others n d)) (was n)
  ]

  pub noted_more : AreNoted ms' (noted ++ number ∷ [])
  noted_more n = elim (cases_eq n number) as (λ _. IsAtRest (memory_in ms' n) ⊎ In n (noted ++ number ∷ [])) [
    | inl e ↦ inr (in_right n noted (number ∷ []) (inl e))
    | inr d ↦ elim (was n) as (λ _. IsAtRest (memory_in ms' n) ⊎ In n (noted ++ number ∷ [])) [
      | inl rest ↦ inl (subst IsAtRest (sym (others n d)) rest)
      | inr i ↦ inr (in_left n noted (number ∷ []) i)
    ]
  ]
