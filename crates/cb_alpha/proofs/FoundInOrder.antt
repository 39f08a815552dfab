-- The least and the greatest values that the facts of an alpha memory have in the fields of a join.
use Rattle.std.proofs.Common.{◌≡◌, ◌∙◌, ◌<◌, ◌≤◌, ℕ, zero, suc, List, [], ◌∷◌, Option, Some, None, ap, arith, get_or, length, map, refl, slice_get, subst, sym}
use Rattle.std.proofs.lemmas.Option.{get_or_from_slice_get, slice_get-get_or}
use Rattle.std.specs.List.{All}
use Rattle.cb_alpha.proofs.Ranges.{first_here, last_here}
use Rattle.cb_alpha.proofs.ReadFacts.{same_some}
use Rattle.cb_alpha.specs.AlphaMemories.{AlphaMemoryValue, AreFirstInFacts, AreLastInFacts, HasFactWith, live, live_in, values_in}
use Rattle.cb_alpha.specs.Buckets.{AreFirstWithin, AreLastWithin, IsFiledWith, values_at}
use Rattle.cb_alpha.specs.Internal.Joined.{IsFiled, JoinIndexValue, fields_of}
use Rattle.cb_facts.specs.declared.value.Value.{Value}
use Rattle.cb_fit.specs.declared.join_fields.JoinField.{JoinField}

get_mapped : (js : List JoinIndexValue) (k : ℕ) (fields : List JoinField) → slice_get (map fields_of js) k ≡ Some fields → (j : JoinIndexValue) × (slice_get js k ≡ Some j) × (j.fields ≡ fields)
get_mapped [] k fields e = absurd (let no : None ≡ Some fields = e in cc)
get_mapped (j ∷ js) zero fields e = (j, refl, let it : Some j.fields ≡ Some fields = e in cc)
get_mapped (j ∷ js) (suc k) fields e = get_mapped js k fields e

within : {X : Type 0} (xs : List X) (k : ℕ) (x : X) → slice_get xs k ≡ Some x → k < length xs
within [] k x e = absurd (let no : None ≡ Some x = e in cc)
within (y ∷ ys) zero x e = omega (arith)
within (y ∷ ys) (suc k) x e = let l = within ys k x e in omega (arith, l)

all_get : {X : Type 0} (P : X → Type 0) (xs : List X) → All P xs → (k : ℕ) (x : X) → slice_get xs k ≡ Some x → P x
all_get P xs all k x e = subst P (get_or_from_slice_get xs k x x e) (all k x (within xs k x e))

module _ (m : AlphaMemoryValue) (js : List JoinIndexValue) (joins : m.joins ≡ map fields_of js) (filed : All (IsFiled (live_in m.candidates m.gone)) js)
    (k : ℕ) (fields : List JoinField) (asked : slice_get m.joins k ≡ Some fields) where
  the_join : (j : JoinIndexValue) × (slice_get js k ≡ Some j) × (j.fields ≡ fields)
  the_join = get_mapped js k fields (ap (λ it. slice_get it k) (sym joins) ∙ asked)

  pub is_there : {P : Type 0} → length js ≤ k → P
  is_there past = absurd (let l = within js k the_join.0 the_join.1 in omega (arith, l, past))

  module _ (j : JoinIndexValue) (l : k < length js) (is : j ≡ get_or js k j) where
    there : slice_get js k ≡ Some j
    there = slice_get-get_or js k j l ∙ ap Some (sym is)

    same : j.fields ≡ fields
    same = ap fields_of (same_some (slice_get js k) there the_join.1) ∙ the_join.2

    has : (n : ℕ) → values_at j.facts n ≡ values_in fields (live m n)
    has n = all_get (IsFiled (live_in m.candidates m.gone)) js filed k j there n ∙ ap (λ it. values_in it (live m n)) same

    to_fact : (ws : List Value) → IsFiledWith j.facts ws → HasFactWith m fields ws
    to_fact ws h = (h.0, sym (has h.0) ∙ h.1)

    from_fact : (ws : List Value) → HasFactWith m fields ws → IsFiledWith j.facts ws
    from_fact ws h = (h.0, has h.0 ∙ h.1)

    pub first_in_facts : (low high : List Value) (first : Option (List Value)) → AreFirstWithin j.facts low high first → AreFirstInFacts m fields low high first
    first_in_facts low high first is = first_here (IsFiledWith j.facts) low high (HasFactWith m fields) to_fact from_fact first is

    pub last_in_facts : (low high : List Value) (last : Option (List Value)) → AreLastWithin j.facts low high last → AreLastInFacts m fields low high last
    last_in_facts low high last is = last_here (IsFiledWith j.facts) low high (HasFactWith m fields) to_fact from_fact last is
