-- What fits the slots of a template makes a fact.
use Rattle.std.proofs.Common.{◌≡◌, ◌⊎◌, inl, inr, ◌∙◌, ◌&&◌, ◌||◌, ℕ, Bool, true, false, not, List, [], ◌∷◌, Option, Some, None, Ok, Err, All, is_some, refl, sym, ap, subst, if◌then◌else◌}
use Rattle.std.proofs.lemmas.List.Elements.{All-head, All-tail}
use Rattle.std.proofs.lemmas.Map.Keys.{IsDistinct-head, IsDistinct-tail}
use Rattle.std.specs.Cmp.{IsEquivalence}
use Rattle.std.specs.Cmp.Lexicographic.{nat_list_eq_equiv}
use Rattle.std.specs.List.{AllByRecursion, IsDistinct, list_all}
use Rattle.std.specs.Option.{ok_or}
use Rattle.std.specs.Str.{bytes_eq}
use Rattle.std.proofs.lemmas.Bool.{and_from}
use Rattle.cb_facts.proofs.MemberLaws.{contains_here, contains_there}
use Rattle.cb_facts.specs.Facts.{FactValue, template_fact}
use Rattle.cb_facts.specs.Results.{ok_then, with_first}
use Rattle.cb_facts.specs.Values.{is_multifield, spliced}
use Rattle.cb_facts.specs.declared.value.Value.TheVariants as value
use Rattle.cb_facts.specs.declared.value.Value.{Value}
use Rattle.cb_forms.specs.declared.fault.Fault.TheVariants.{FactDoesNotFit, OneValueWanted}
use Rattle.cb_templates.proofs.SlotValueLaws.{found_given, given_found}
use Rattle.cb_templates.specs.Building.{Given, are_distinct, built, built_by, filled, fits, given_for, given_names, is_one_value, one_value, slot_values, can_take, value_or_default}
use Rattle.cb_templates.specs.SlotValues.{CanTake, FitsSlots, IsGiven, IsLeftOut}
use Rattle.cb_templates.specs.Slots.{SlotShape, slot_named}
use Rattle.cb_templates.specs.Templates.{Templates, slots_of}

all_known : (slots : List SlotShape) (given : Given) → ((name : List ℕ) (vs : List Value) → IsGiven given name vs → is_some (slot_named slots name) ≡ true)
    → list_all (λ g. is_some (slot_named slots g.0)) given ≡ true
all_known slots [] known = refl
all_known slots ((name, vs) ∷ given) known =
    and_from (is_some (slot_named slots name)) (list_all (λ g. is_some (slot_named slots g.0)) given) (known name vs (contains_here (name, vs) given))
    (all_known slots given (λ other us is. known other us (contains_there (name, vs) (other, us) given is)))

-- a name that differs from all that are given is not given
not_given : (given : Given) (name : List ℕ) → AllByRecursion (λ n. bytes_eq name n ≡ false) (given_names given) → given_for given name ≡ None
not_given [] name differ = refl
not_given (g ∷ given) name differ =
    ap (λ t. if t then Some g.1 else given_for given name) (IsEquivalence.symm nat_list_eq_equiv g.0 name ∙ differ.0) ∙ not_given given name differ.1

all_once : (given : Given) → IsDistinct bytes_eq (given_names given) → are_distinct given ≡ true
all_once [] once = refl
all_once (g ∷ given) once =
    and_from (not (is_some (given_for given g.0))) (are_distinct given)
    (ap (λ o. not (is_some o)) (not_given given g.0 (IsDistinct-head bytes_eq g.0 (given_names given) once))) (all_once given (IsDistinct-tail bytes_eq g.0 (given_names given) once))

-- a slot that can take what it is given has a value
pub record HasOne (s : SlotShape) (o : Option (List Value)) : Type 0 where
  pub takes_it : can_take s o ≡ true
  pub v : Value
  pub is : value_or_default s o ≡ Ok v

multi_one : (s : SlotShape) (vs : List Value) → s.is_multi ≡ true → HasOne s (Some vs)
multi_one s vs multi = record {
  takes_it = ap (λ t. t || is_one_value vs) multi;
  v = value.Multi (spliced vs);
  is = ap (λ t. if t then Ok (value.Multi (spliced vs)) else one_value vs) multi;
}

single_by : (s : SlotShape) (v : Value) (t : Bool) → s.is_multi ≡ t → is_multifield v ≡ false → HasOne s (Some (v ∷ []))
single_by s v true e plain = multi_one s (v ∷ []) e
single_by s v false e plain = record {
  takes_it = ap (λ t. t || true) e;
  v = v;
  is = ap (λ t. if t then Ok (value.Multi (spliced (v ∷ []))) else one_value (v ∷ [])) e ∙ ap (λ t. if t then Err OneValueWanted else Ok v) plain;
}

default_by : (s : SlotShape) (o : Option Value) → s.default ≡ o → is_some o ≡ true → HasOne s None
default_by s None e there = absurd (cc)
default_by s (Some v) e there = record { takes_it = ap is_some e; v = v; is = ap (λ o. ok_or o FactDoesNotFit) e }

has_one : (given : Given) (s : SlotShape) → are_distinct given ≡ true → CanTake given s → HasOne s (given_for given s.name)
has_one given s once can = by (given_for given s.name) refl
  where
    values : (vs : List Value) → (s.is_multi ≡ true) ⊎ ((v : Value) × (vs ≡ v ∷ []) × (is_multifield v ≡ false)) → HasOne s (Some vs)
    values vs (inl multi) = multi_one s vs multi
    values vs (inr one) = subst (λ us. HasOne s (Some us)) (sym one.1) (single_by s one.0 s.is_multi refl one.2)

    none_given : given_for given s.name ≡ None → IsLeftOut given s.name
    none_given e vs is =
        let there : given_for given s.name ≡ Some vs = given_found given s.name vs once is in
        cc

    by : (o : Option (List Value)) → given_for given s.name ≡ o → HasOne s o
    by None e = default_by s s.default refl (can.left_out (none_given e))
    by (Some vs) e = values vs (can.values vs (found_given given s.name vs e))

-- all slots of a template
pub record AllHave (slots : List SlotShape) (given : Given) : Type 0 where
  pub take : list_all (λ s. can_take s (given_for given s.name)) slots ≡ true
  pub pairs : List (List ℕ × Value)
  pub are : filled slots given ≡ Ok pairs

all_have : (slots : List SlotShape) (given : Given) → are_distinct given ≡ true → All (CanTake given) slots → AllHave slots given
all_have [] given once can = record { take = refl; pairs = []; are = refl }
all_have (s ∷ slots) given once can =
    let one = has_one given s once (All-head (CanTake given) s slots can) in
    let more = all_have slots given once (All-tail (CanTake given) s slots can) in
    record {
      take = and_from (can_take s (given_for given s.name)) (list_all (λ x. can_take x (given_for given x.name)) slots) one.takes_it more.take;
      pairs = (s.name, one.v) ∷ more.pairs;
      are = ap (λ r. with_first (ok_then (λ v. (s.name, v)) r) (filled slots given)) one.is ∙ ap (λ rest. with_first (Ok (s.name, one.v)) rest) more.are;
    }

pub fits_built : (templates : Templates) (relation : List ℕ) (slots : List SlotShape) (given : Given) → slots_of templates relation ≡ Some slots → FitsSlots slots given
    → (fact : FactValue) × (built templates relation (slot_values given) ≡ Ok fact)
fits_built templates relation slots given has fit =
    let once = all_once given fit.once in
    let them = all_have slots given once fit.each in
    let known : Bool = list_all (λ g. is_some (slot_named slots g.0)) given in
    let taken : Bool = list_all (λ s. can_take s (given_for given s.name)) slots in
    let fitting : fits slots given ≡ true = and_from known (are_distinct given && taken) (all_known slots given fit.known) (and_from (are_distinct given) taken once them.take) in (
      template_fact relation them.pairs,
      ap (λ o. built_by relation o (slot_values given)) has
          ∙ ap (λ t. if t then ok_then (template_fact relation) (filled slots given) else Err FactDoesNotFit) fitting
          ∙ ap (ok_then (template_fact relation)) them.are,
    )
