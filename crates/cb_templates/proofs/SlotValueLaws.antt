-- A slot has the values that it is given, or its default.
use Rattle.std.proofs.Common.{◌≡◌, ◌⊎◌, inl, inr, ◌∙◌, ◌&&◌, ℕ, Bool, true, false, cond, not, List, [], ◌∷◌, Option, Some, None, Result, Ok, Err, Contains, is_some, refl, sym, ap, ap₂, subst, if◌then◌else◌}
use Rattle.std.specs.Cmp.{IsEquivalence, first_so, second_so}
use Rattle.std.specs.Cmp.Lexicographic.{bytes_decides, nat_list_eq_equiv}
use Rattle.std.specs.List.{list_all}
use Rattle.std.specs.Map.{lookup}
use Rattle.std.specs.Option.{ok_or}
use Rattle.std.specs.Str.{bytes_eq}
use Rattle.cb_facts.proofs.MemberLaws.{contains_here, contains_there}
use Rattle.cb_facts.specs.Facts.{FactValue, template_fact}
use Rattle.cb_facts.specs.Results.{ok_then, with_first}
use Rattle.cb_facts.specs.Values.{is_multifield, spliced}
use Rattle.cb_facts.specs.declared.value.Value.TheVariants as value
use Rattle.cb_facts.specs.declared.value.Value.{Value}
use Rattle.cb_forms.specs.declared.fault.Fault.TheVariants.{FactDoesNotFit, OneValueWanted}
use Rattle.cb_forms.specs.declared.fault.Fault.{Fault}
use Rattle.cb_templates.proofs.Members.{first_or_other, none_among}
use Rattle.cb_templates.specs.Building.{Given, are_distinct, built, built_by, filled, fits, given_for, one_value, slot_values, can_take, value_or_default}
use Rattle.cb_templates.specs.SlotValues.{IsGiven, IsLeftOut, slot_value}
use Rattle.cb_templates.specs.Slots.{GivenValues, SlotShape, slot_named}
use Rattle.cb_templates.specs.Templates.{Templates, slots_of}

-- what is given is found, where no slot is given twice
pub given_found : (given : Given) (name : List ℕ) (vs : List Value) → are_distinct given ≡ true → IsGiven given name vs → given_for given name ≡ Some vs
given_found [] name vs apart is = absurd (none_among (name, vs) is)
given_found (g ∷ given) name vs apart is = by (first_or_other g (name, vs) given is) (given_found given name vs (second_so (not (is_some (given_for given g.0))) (are_distinct given) apart))
  where
    here : (t : Bool) → bytes_eq g.0 name ≡ t → t ≡ true → (if t then Some g.1 else given_for given name) ≡ Some g.1
    here true e h = refl
    here false e h = absurd (cc)

    there : (t : Bool) → bytes_eq g.0 name ≡ t → given_for given name ≡ Some vs → (if t then Some g.1 else given_for given name) ≡ Some vs
    there true e h =
        let same : g.0 ≡ name = (bytes_decides g.0 name).0 e in
        let once : not (is_some (given_for given g.0)) ≡ true = first_so (not (is_some (given_for given g.0))) (are_distinct given) apart in
        let twice : not (is_some (given_for given g.0)) ≡ false = ap (λ n. not (is_some (given_for given n))) same ∙ ap (λ o. not (is_some o)) h in
        absurd (cc)
    there false e h = h

    by : (g ≡ (name, vs)) ⊎ Contains given (name, vs) → (Contains given (name, vs) → given_for given name ≡ Some vs) → given_for (g ∷ given) name ≡ Some vs
    by (inl same) more =
        let names : bytes_eq g.0 name ≡ true = (bytes_decides g.0 name).1 (ap (λ (p : GivenValues). p.0) same) in
        here (bytes_eq g.0 name) refl names ∙ ap (λ (p : GivenValues). Some p.1) same
    by (inr c) more = there (bytes_eq g.0 name) refl (more c)

-- what is found is given
pub found_given : (given : Given) (name : List ℕ) (vs : List Value) → given_for given name ≡ Some vs → IsGiven given name vs
found_given [] name vs h = absurd (cc)
found_given (g ∷ given) name vs h = by (bytes_eq g.0 name) refl h (found_given given name vs)
  where
    by : (t : Bool) → bytes_eq g.0 name ≡ t → (if t then Some g.1 else given_for given name) ≡ Some vs → (given_for given name ≡ Some vs → IsGiven given name vs) → IsGiven (g ∷ given) name vs
    by true e is more =
        let same : g.1 ≡ vs = cc in
        subst (Contains (g ∷ given)) (ap₂ (λ (n : List ℕ) (us : List Value). (n, us)) ((bytes_decides g.0 name).0 e) same) (contains_here g given)
    by false e is more = contains_there g (name, vs) given (more is)

-- what is not given is not found
pub left_out : (given : Given) (name : List ℕ) → IsLeftOut given name → given_for given name ≡ None
left_out given name none = by (given_for given name) refl
  where
    by : (o : Option (List Value)) → given_for given name ≡ o → given_for given name ≡ None
    by None e = e
    by (Some vs) e = absurd (none vs (found_given given name vs e))

-- what a fact of these slots is filled with
pub record Filled (given : Given) (name : List ℕ) (slot : SlotShape) (pairs : List (List ℕ × Value)) : Type 0 where
  pub v : Value
  pub from : value_or_default slot (given_for given name) ≡ Ok v
  pub is : lookup (bytes_eq name) pairs ≡ Some v

filled_at : (slots : List SlotShape) (given : Given) (name : List ℕ) (slot : SlotShape) (pairs : List (List ℕ × Value)) → filled slots given ≡ Ok pairs → slot_named slots name ≡ Some slot
    → Filled given name slot pairs
filled_at [] given name slot pairs h at = absurd (cc)
filled_at (s ∷ slots) given name slot pairs h at =
    by (value_or_default s (given_for given s.name)) refl (filled slots given) h (λ others is here. filled_at slots given name slot others is here)
  where
    first : (v : Value) (others : List (List ℕ × Value)) (t : Bool) → value_or_default s (given_for given s.name) ≡ Ok v → bytes_eq s.name name ≡ t → (if t then Some s else slot_named slots name) ≡ Some slot
        → (slot_named slots name ≡ Some slot → Filled given name slot others) → Filled given name slot ((s.name, v) ∷ others)
    first v others true value_is e is more =
        let slot_is : s ≡ slot = cc in
        let name_is : s.name ≡ name = (bytes_decides s.name name).0 e in
        record {
          v = v;
          from = sym (ap (λ n. value_or_default slot (given_for given n)) name_is) ∙ sym (ap (λ z. value_or_default z (given_for given s.name)) slot_is) ∙ value_is;
          is = ap (λ t. cond t (Some v) (lookup (bytes_eq name) others)) (IsEquivalence.symm nat_list_eq_equiv name s.name ∙ e);
        }
    first v others false value_is e is more =
        let rest = more is in
        record { v = rest.v; from = rest.from; is = ap (λ t. cond t (Some v) (lookup (bytes_eq name) others)) (IsEquivalence.symm nat_list_eq_equiv name s.name ∙ e) ∙ rest.is }

    by : (r : Result Value Fault) → value_or_default s (given_for given s.name) ≡ r → (rest : Result (List (List ℕ × Value)) Fault) → with_first (ok_then (λ v. (s.name, v)) r) rest ≡ Ok pairs
        → ((others : List (List ℕ × Value)) → rest ≡ Ok others → slot_named slots name ≡ Some slot → Filled given name slot others) → Filled given name slot pairs
    by (Err f) e rest is more = absurd (cc)
    by (Ok v) e (Err f) is more = absurd (cc)
    by (Ok v) e (Ok others) is more =
        let same : (s.name, v) ∷ others ≡ pairs = cc in
        subst (Filled given name slot) same (first v others (bytes_eq s.name name) e refl at (more others refl))

-- a fact of a template that was built
pub record IsBuilt (relation : List ℕ) (slots : List SlotShape) (given : Given) (fact : FactValue) : Type 0 where
  pub pairs : List (List ℕ × Value)
  pub fitting : fits slots given ≡ true
  pub filling : filled slots given ≡ Ok pairs
  pub fact_is : template_fact relation pairs ≡ fact

pub is_built : (templates : Templates) (relation : List ℕ) (slots : List SlotShape) (given : Given) (fact : FactValue) → slots_of templates relation ≡ Some slots
    → built templates relation (slot_values given) ≡ Ok fact → IsBuilt relation slots given fact
is_built templates relation slots given fact has h = by (fits slots given) refl (filled slots given) refl (sym (ap (λ o. built_by relation o (slot_values given)) has) ∙ h)
  where
    by : (t : Bool) → fits slots given ≡ t → (r : Result (List (List ℕ × Value)) Fault) → filled slots given ≡ r → (if t then ok_then (template_fact relation) r else Err FactDoesNotFit) ≡ Ok fact
        → IsBuilt relation slots given fact
    by false e r f is = absurd (cc)
    by true e (Err x) f is = absurd (cc)
    by true e (Ok pairs) f is =
        let same : template_fact relation pairs ≡ fact = cc in
        record { pairs = pairs; fitting = e; filling = f; fact_is = same }

-- the slot of a fact, by what it is given
pub record HasValue (given : Given) (name : List ℕ) (slot : SlotShape) (fact : FactValue) : Type 0 where
  pub v : Value
  pub from : value_or_default slot (given_for given name) ≡ Ok v
  pub is : slot_value fact name ≡ Some v
  pub once : are_distinct given ≡ true

has_value : (templates : Templates) (relation : List ℕ) (slots : List SlotShape) (given : Given) (fact : FactValue) (name : List ℕ) (slot : SlotShape)
    → slots_of templates relation ≡ Some slots → slot_named slots name ≡ Some slot → built templates relation (slot_values given) ≡ Ok fact → HasValue given name slot fact
has_value templates relation slots given fact name slot has at h =
    let made = is_built templates relation slots given fact has h in
    let here = filled_at slots given name slot made.pairs made.filling at in
    let there : Bool = list_all (λ g. is_some (slot_named slots g.0)) given in
    let taken : Bool = list_all (λ s. can_take s (given_for given s.name)) slots in
    record {
      v = here.v;
      from = here.from;
      is = sym (ap (λ it. slot_value it name) made.fact_is) ∙ here.is;
      once = first_so (are_distinct given) taken (second_so there (are_distinct given && taken) made.fitting);
    }

multi_value : (slot : SlotShape) (vs : List Value) (v : Value) (t : Bool) → t ≡ true → (if t then Ok (value.Multi (spliced vs)) else one_value vs) ≡ Ok v → value.Multi (spliced vs) ≡ v
multi_value slot vs v true e h = cc
multi_value slot vs v false e h = absurd (cc)

pub multi_slot : (templates : Templates) (relation : List ℕ) (slots : List SlotShape) (given : Given) (fact : FactValue) (name : List ℕ) (slot : SlotShape) (vs : List Value)
    → slots_of templates relation ≡ Some slots → slot_named slots name ≡ Some slot → built templates relation (slot_values given) ≡ Ok fact → slot.is_multi ≡ true → IsGiven given name vs
    → slot_value fact name ≡ Some (value.Multi (spliced vs))
multi_slot templates relation slots given fact name slot vs has at h multi is =
    let there = has_value templates relation slots given fact name slot has at h in
    let made : value_or_default slot (Some vs) ≡ Ok there.v = sym (ap (value_or_default slot) (given_found given name vs there.once is)) ∙ there.from in
    there.is ∙ ap Some (sym (multi_value slot vs there.v slot.is_multi multi made))

-- the one value of a slot
pub record IsOne (vs : List Value) (v : Value) : Type 0 where
  pub alone : vs ≡ v ∷ []
  pub is_single : is_multifield v ≡ false

pub one_of : (vs : List Value) (v : Value) → one_value vs ≡ Ok v → IsOne vs v
one_of [] v h = absurd (cc)
one_of (x ∷ y ∷ vs) v h = absurd (cc)
one_of (x ∷ []) v h = by (is_multifield x) refl h
  where
    by : (t : Bool) → is_multifield x ≡ t → (if t then Err OneValueWanted else Ok x) ≡ Ok v → IsOne (x ∷ []) v
    by true e is = absurd (cc)
    by false e is =
        let same : x ≡ v = cc in
        record { alone = ap (λ y. y ∷ []) same; is_single = ap is_multifield (sym same) ∙ e }

one_by : (vs : List Value) (v : Value) (t : Bool) → t ≡ false → (if t then Ok (value.Multi (spliced vs)) else one_value vs) ≡ Ok v → IsOne vs v
one_by vs v true e h = absurd (cc)
one_by vs v false e h = one_of vs v h

pub one_slot : (templates : Templates) (relation : List ℕ) (slots : List SlotShape) (given : Given) (fact : FactValue) (name : List ℕ) (slot : SlotShape) (vs : List Value)
    → slots_of templates relation ≡ Some slots → slot_named slots name ≡ Some slot → built templates relation (slot_values given) ≡ Ok fact → slot.is_multi ≡ false → IsGiven given name vs
    → (v : Value) × (vs ≡ v ∷ []) × (is_multifield v ≡ false) × (slot_value fact name ≡ Some v)
one_slot templates relation slots given fact name slot vs has at h single is =
    let there = has_value templates relation slots given fact name slot has at h in
    let made : value_or_default slot (Some vs) ≡ Ok there.v = sym (ap (value_or_default slot) (given_found given name vs there.once is)) ∙ there.from in
    let one = one_by vs there.v slot.is_multi single made in
    (there.v, one.alone, one.is_single, there.is)

pub default_is : (o : Option Value) (v : Value) → ok_or o FactDoesNotFit ≡ Ok v → o ≡ Some v
default_is None v h = absurd (cc)
default_is (Some w) v h = let same : w ≡ v = cc in ap Some same

pub left_default : (templates : Templates) (relation : List ℕ) (slots : List SlotShape) (given : Given) (fact : FactValue) (name : List ℕ) (slot : SlotShape)
    → slots_of templates relation ≡ Some slots → slot_named slots name ≡ Some slot → built templates relation (slot_values given) ≡ Ok fact → IsLeftOut given name
    → (v : Value) × (slot.default ≡ Some v) × (slot_value fact name ≡ Some v)
left_default templates relation slots given fact name slot has at h none =
    let there = has_value templates relation slots given fact name slot has at h in
    let made : value_or_default slot None ≡ Ok there.v = sym (ap (value_or_default slot) (left_out given name none)) ∙ there.from in
    (there.v, default_is slot.default there.v made, there.is)

pub relation_is : (templates : Templates) (relation : List ℕ) (slots : List SlotShape) (given : Given) (fact : FactValue) → slots_of templates relation ≡ Some slots
    → built templates relation (slot_values given) ≡ Ok fact → fact.relation ≡ relation
relation_is templates relation slots given fact has h = sym (ap (λ (it : FactValue). it.relation) (is_built templates relation slots given fact has h).fact_is)
