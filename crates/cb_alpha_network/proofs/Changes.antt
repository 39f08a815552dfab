-- What an assert and a retract do to an alpha network.
use Rattle.std.proofs.Common.{◌≡◌, ◌≢◌, ◌∙◌, ℕ, true, false, IfOk, List, OnOk, Some, None, Result, Ok, Err, ap, inl, inr, refl, subst, sym}
use Rattle.std.specs.BTreeMap.{BTreeMap}
use Rattle.cb_alpha.specs.AlphaMemories.{AlphaMemoryValue, GainsFact, LosesFact, index_of, live}
use Rattle.cb_alpha.specs.Turning.{AlphaTurns, IsAlphaOver}
use Rattle.cb_alpha_network.proofs.OneByOne.{in_or_not}
use Rattle.cb_alpha_network.proofs.Rest.{asserted_from, from_rest, retracted_from}
use Rattle.cb_alpha_network.specs.Asked.{IsEntered}
use Rattle.cb_alpha_network.specs.Internal.{ChangesThose, IsAsserted, IsNetwork, IsRetracted}
use Rattle.cb_alpha_network.specs.Networks.{AlphaNetworkValue, AlphasTurn, AreAlphas, AreAtRest, ChangesFrom, HasNoFact, IsShapeAt, MemoryValues, NetworkChangesFrom, memory_at, memory_in, shape_at}
use Rattle.cb_alpha_network.specs.declared.asked.Asked.{Asked}
use Rattle.cb_constraints.specs.PatternValues.{PatternValue}
use Rattle.cb_facts.specs.FactLists.{IndexedFacts, fact_at, with_fact, without_fact}
use Rattle.cb_facts.specs.Facts.{FactValue}
use Rattle.cb_fit.specs.Shapes.{SelectionValue, is_selected, selection, selects}
use Rattle.cb_fit.specs.declared.shape.Shape.{Shape}
use Rattle.cb_matches.proofs.Lists.{by_test}
use Rattle.cb_matches.specs.Chains.{In}
use Rattle.cb_matches.specs.Order.{IsRising}

-- a fact for an answer that isn't refused
pub if_on : {A E P : Type 0} {Q : A → Type 0} (r : Result A E) → ((a : A) → Q a → P) → IfOk r Q → OnOk r P
if_on (Ok a) f q = f a q
if_on (Err e) f q = tt

pub on_any : {A E P : Type 0} (r : Result A E) → P → OnOk r P
on_any (Ok a) p = p
on_any (Err e) p = tt

-- the laws of an alpha memory that are used here
abbrev pub Comes : Type 0
Comes = (p : PatternValue) (m m' : AlphaMemoryValue) (number ix : ℕ) (f : FactValue) (fs : IndexedFacts)
    → IsAlphaOver p fs m → GainsFact m m' number (ix, f) → fact_at fs ix ≡ None → is_selected p f ≡ true → AlphaTurns p m' fs (with_fact fs ix f)

abbrev pub ComesWithout : Type 0
ComesWithout = (p : PatternValue) (m : AlphaMemoryValue) (ix : ℕ) (f : FactValue) (fs : IndexedFacts)
    → IsAlphaOver p fs m → fact_at fs ix ≡ None → is_selected p f ≡ false → AlphaTurns p m fs (with_fact fs ix f)

abbrev pub Goes : Type 0
Goes = (p : PatternValue) (m m' : AlphaMemoryValue) (number ix : ℕ) (fs : IndexedFacts)
    → IsAlphaOver p fs m → LosesFact m m' number ix → IsRising fs → AlphaTurns p m' fs (without_fact fs ix)

abbrev pub GoesAbsent : Type 0
GoesAbsent = (p : PatternValue) (m : AlphaMemoryValue) (ix : ℕ) (fs : IndexedFacts)
    → IsAlphaOver p fs m → ((n : ℕ) → index_of (live m n) ≢ Some ix) → AlphaTurns p m fs (without_fact fs ix)

abbrev pub GoesWithout : Type 0
GoesWithout = (p : PatternValue) (m : AlphaMemoryValue) (ix : ℕ) (f : FactValue) (fs : IndexedFacts)
    → IsAlphaOver p fs m → IsRising fs → fact_at fs ix ≡ Some f → is_selected p f ≡ false → AlphaTurns p m fs (without_fact fs ix)

-- the numbers of all that select a fact are found
abbrev pub AreFound : AlphaNetworkValue → FactValue → List ℕ → Type 0
AreFound v f found = (n : ℕ) (p : PatternValue) → IsShapeAt v n p → is_selected p f ≡ true → In n found

module _ (asked : Asked) (numbers : BTreeMap Shape ℕ) (v : AlphaNetworkValue) (count : ℕ) (is : IsNetwork asked numbers v.shapes v.users count) where
  -- what is entered under its number is found
  pub are_found : (f : FactValue) (found : List ℕ) → ((p : PatternValue) (n : ℕ) → IsEntered asked p n → is_selected p f ≡ true → In n found) → AreFound v f found
  are_found f found all n p at t =
      let entered = is.entered n (selection p) at in
      all entered.0 n entered.2 (ap (λ s. selects s f) entered.1 ∙ t)

  -- the memory of each shape has no fact with an index that none has
  pub none_with : (ix : ℕ) → HasNoFact v ix → (n : ℕ) (q : SelectionValue) → shape_at v n ≡ Some q → (i : ℕ) → index_of (live (memory_at v n) i) ≢ Some ix
  none_with ix free n q at =
      let entered = is.entered n q at in
      free n entered.0 (at ∙ ap Some (sym entered.1))

module _ (v : AlphaNetworkValue) (ms' : MemoryValues) (ix : ℕ) (f : FactValue) (found : List ℕ) where
  abbrev changed : AlphaNetworkValue
  changed = record { shapes = v.shapes; users = v.users; memories = ms' }

  -- a fact comes
  module _ (done : ChangesThose (λ n. IsAsserted (shape_at v n) ix f) found v.memories ms') where
    pub asserted_changes : AreAtRest v.memories → NetworkChangesFrom v changed
    asserted_changes rest = record {
      shapes = refl;
      users = refl;
      memories = λ n. elim (in_or_not n found) as (λ _. ChangesFrom (memory_at v n) (memory_in ms' n)) [
        | inl i ↦ asserted_from (shape_at v n) ix f (memory_at v n) (memory_in ms' n) (rest n) (done.changed n i)
        | inr out ↦ subst (ChangesFrom (memory_at v n)) (sym (done.others n out)) (from_rest (memory_at v n) (rest n))
      ];
    }

    pub asserted_turns : Comes → ComesWithout → AreFound v f found → (fs : IndexedFacts) → AreAlphas v fs → fact_at fs ix ≡ None → AlphasTurn changed fs (with_fact fs ix f)
    asserted_turns comes without all fs was free n p at = by_test (is_selected p f)
        (λ t. let gains = (is_asserted (all n p at t)).0 t in comes p (memory_at v n) (memory_in ms' n) gains.0 ix f fs over gains.1 free t)
        (λ t. let same : memory_in ms' n ≡ memory_at v n = elim (in_or_not n found) as (λ _. memory_in ms' n ≡ memory_at v n) [
          | inl i ↦ (is_asserted i).1 t
          | inr out ↦ done.others n out
        ] in
        subst (λ m. AlphaTurns p m fs (with_fact fs ix f)) (sym same) (without p (memory_at v n) ix f fs over free t))
      where
        over : IsAlphaOver p fs (memory_at v n)
        over = was.over n p at

        is_asserted : In n found → IsAsserted (Some (selection p)) ix f (memory_at v n) (memory_in ms' n)
        is_asserted i = subst (λ o. IsAsserted o ix f (memory_at v n) (memory_in ms' n)) at (done.changed n i)

  -- a fact goes
  module _ (done : ChangesThose (λ n. IsRetracted ix) found v.memories ms') where
    pub retracted_changes : AreAtRest v.memories → NetworkChangesFrom v changed
    retracted_changes rest = record {
      shapes = refl;
      users = refl;
      memories = λ n. elim (in_or_not n found) as (λ _. ChangesFrom (memory_at v n) (memory_in ms' n)) [
        | inl i ↦ retracted_from ix (memory_at v n) (memory_in ms' n) (rest n) (done.changed n i)
        | inr out ↦ subst (ChangesFrom (memory_at v n)) (sym (done.others n out)) (from_rest (memory_at v n) (rest n))
      ];
    }

    pub retracted_turns : Goes → GoesAbsent → GoesWithout → AreFound v f found → (fs : IndexedFacts) → AreAlphas v fs → IsRising fs → fact_at fs ix ≡ Some f
        → AlphasTurn changed fs (without_fact fs ix)
    retracted_turns goes absent without all fs was rising there n p at = elim (in_or_not n found) as (λ _. AlphaTurns p (memory_in ms' n) fs (without_fact fs ix)) [
      | inl i ↦ by_retracted (done.changed n i)
      | inr out ↦ by_test (is_selected p f)
          (λ t. absurd (out (all n p at t)))
          (λ t. stays (done.others n out) (without p (memory_at v n) ix f fs over rising there t))
    ]
      where
        over : IsAlphaOver p fs (memory_at v n)
        over = was.over n p at

        stays : memory_in ms' n ≡ memory_at v n → AlphaTurns p (memory_at v n) fs (without_fact fs ix) → AlphaTurns p (memory_in ms' n) fs (without_fact fs ix)
        stays same turns = subst (λ m. AlphaTurns p m fs (without_fact fs ix)) (sym same) turns

        by_retracted : IsRetracted ix (memory_at v n) (memory_in ms' n) → AlphaTurns p (memory_in ms' n) fs (without_fact fs ix)
        by_retracted (inl loses) = goes p (memory_at v n) (memory_in ms' n) loses.0 ix fs over loses.1 rising
        by_retracted (inr same) = stays same.0 (absent p (memory_at v n) ix fs over same.1)
