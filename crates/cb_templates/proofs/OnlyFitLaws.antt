-- Only what fits the slots of a template makes a fact.
use Rattle.std.proofs.Common.{◌≡◌, ◌⊎◌, inl, inr, ◌∙◌, ◌&&◌, ℕ, Bool, true, false, not, List, [], ◌∷◌, Option, Some, None, Result, Ok, Err, All, Contains, is_some, refl, sym, ap, if◌then◌else◌}
use Rattle.std.proofs.lemmas.List.Elements.{All-cons, All-nil}
use Rattle.std.specs.Cmp.{IsEquivalence, first_so, second_so}
use Rattle.std.specs.Cmp.Lexicographic.{nat_list_eq_equiv}
use Rattle.std.specs.List.{AllByRecursion, IsDistinct, list_all}
use Rattle.std.specs.Str.{bytes_eq}
use Rattle.cb_facts.specs.Facts.{FactValue}
use Rattle.cb_facts.specs.Results.{ok_then, with_first}
use Rattle.cb_facts.specs.Values.{is_multifield, spliced}
use Rattle.cb_facts.specs.declared.value.Value.TheVariants as value
use Rattle.cb_facts.specs.declared.value.Value.{Value}
use Rattle.cb_forms.specs.declared.fault.Fault.{Fault}
use Rattle.cb_templates.proofs.Members.{first_or_other, none_among}
use Rattle.cb_templates.proofs.SlotValueLaws.{default_is, given_found, is_built, left_out, one_of}
use Rattle.cb_templates.specs.Building.{Given, are_distinct, built, filled, given_for, given_names, one_value, slot_values, can_take, value_or_default}
use Rattle.cb_templates.specs.SlotValues.{CanTake, FitsSlots, IsGiven}
use Rattle.cb_templates.specs.Slots.{GivenValues, SlotShape, slot_named}
use Rattle.cb_templates.specs.Templates.{Templates, slots_of}

each_known : (slots : List SlotShape) (given : Given) (name : List ℕ) (vs : List Value) → list_all (λ g. is_some (slot_named slots g.0)) given ≡ true → IsGiven given name vs
    → is_some (slot_named slots name) ≡ true
each_known slots [] name vs all is = absurd (none_among (name, vs) is)
each_known slots (g ∷ given) name vs all is =
    by (first_or_other g (name, vs) given is) (each_known slots given name vs (second_so (is_some (slot_named slots g.0)) (list_all (λ x. is_some (slot_named slots x.0)) given) all))
  where
    by : (g ≡ (name, vs)) ⊎ Contains given (name, vs) → (Contains given (name, vs) → is_some (slot_named slots name) ≡ true) → is_some (slot_named slots name) ≡ true
    by (inl same) more =
        ap (λ (p : GivenValues). is_some (slot_named slots p.0)) (sym same) ∙ first_so (is_some (slot_named slots g.0)) (list_all (λ x. is_some (slot_named slots x.0)) given) all
    by (inr there) more = more there

-- a name that is not given differs from all that are
all_differ : (given : Given) (name : List ℕ) → given_for given name ≡ None → AllByRecursion (λ n. bytes_eq name n ≡ false) (given_names given)
all_differ [] name none = tt
all_differ (g ∷ given) name none = by (bytes_eq g.0 name) refl none (all_differ given name)
  where
    by : (t : Bool) → bytes_eq g.0 name ≡ t → (if t then Some g.1 else given_for given name) ≡ None → (given_for given name ≡ None → AllByRecursion (λ n. bytes_eq name n ≡ false) (given_names given))
        → AllByRecursion (λ n. bytes_eq name n ≡ false) (given_names (g ∷ given))
    by true e is more = absurd (cc)
    by false e is more = (IsEquivalence.symm nat_list_eq_equiv name g.0 ∙ e, more is)

none_of : {X : Type 0} (o : Option X) → not (is_some o) ≡ true → o ≡ None
none_of None h = refl
none_of (Some x) h = absurd (cc)

given_once : (given : Given) → are_distinct given ≡ true → IsDistinct bytes_eq (given_names given)
unfolding IsDistinct
given_once [] h = tt
given_once (g ∷ given) h =
    (all_differ given g.0 (none_of (given_for given g.0) (first_so (not (is_some (given_for given g.0))) (are_distinct given) h)), given_once given (second_so (not (is_some (given_for given g.0))) (are_distinct given) h))

-- a slot that has a value can take what it is given
taken_by : (vs : List Value) (v : Value) (m t : Bool) → m ≡ t → (if t then Ok (value.Multi (spliced vs)) else one_value vs) ≡ Ok v → (m ≡ true) ⊎ ((w : Value) × (vs ≡ w ∷ []) × (is_multifield w ≡ false))
taken_by vs v m true e h = inl e
taken_by vs v m false e h = let one = one_of vs v h in inr (v, one.alone, one.is_single)

slot_can_take : (given : Given) (s : SlotShape) (v : Value) → are_distinct given ≡ true → value_or_default s (given_for given s.name) ≡ Ok v → CanTake given s
slot_can_take given s v once h = record {
  values = λ vs is. taken_by vs v s.is_multi s.is_multi refl (sym (ap (value_or_default s) (given_found given s.name vs once is)) ∙ h);
  left_out = λ none. ap is_some (default_is s.default v (sym (ap (value_or_default s) (left_out given s.name none)) ∙ h));
}

all_can : (slots : List SlotShape) (given : Given) (pairs : List (List ℕ × Value)) → are_distinct given ≡ true → filled slots given ≡ Ok pairs → All (CanTake given) slots
all_can [] given pairs once h = All-nil (CanTake given)
all_can (s ∷ slots) given pairs once h = by (value_or_default s (given_for given s.name)) refl (filled slots given) h (λ others is. all_can slots given others once is)
  where
    by : (r : Result Value Fault) → value_or_default s (given_for given s.name) ≡ r → (rest : Result (List (List ℕ × Value)) Fault) → with_first (ok_then (λ v. (s.name, v)) r) rest ≡ Ok pairs
        → ((others : List (List ℕ × Value)) → rest ≡ Ok others → All (CanTake given) slots) → All (CanTake given) (s ∷ slots)
    by (Err f) e rest is more = absurd (cc)
    by (Ok v) e (Err f) is more = absurd (cc)
    by (Ok v) e (Ok others) is more = All-cons (CanTake given) s slots (slot_can_take given s v once e) (more others refl)

pub built_fits : (templates : Templates) (relation : List ℕ) (slots : List SlotShape) (given : Given) (fact : FactValue) → slots_of templates relation ≡ Some slots
    → built templates relation (slot_values given) ≡ Ok fact → FitsSlots slots given
built_fits templates relation slots given fact has h =
    let made = is_built templates relation slots given fact has h in
    let known : Bool = list_all (λ g. is_some (slot_named slots g.0)) given in
    let taken : Bool = list_all (λ s. can_take s (given_for given s.name)) slots in
    let once : are_distinct given ≡ true = first_so (are_distinct given) taken (second_so known (are_distinct given && taken) made.fitting) in
    record {
      known = λ name vs is. each_known slots given name vs (first_so known (are_distinct given && taken) made.fitting) is;
      once = given_once given once;
      each = all_can slots given made.pairs once made.filling;
    }
