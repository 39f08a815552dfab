-- An ordered fact has the fields of the values that it is given.
use Rattle.std.proofs.Common.{◌≡◌, ◌∙◌, ◌++◌, ℕ, false, List, [], ◌∷◌, Some, None, Ok, Err, All, map, refl, sym, ap, append_assoc}
use Rattle.std.proofs.lemmas.List.Elements.{All-head, All-tail}
use Rattle.cb_facts.specs.Facts.{ordered_fact}
use Rattle.cb_facts.specs.Values.{fields_in, is_multifield, spliced, value_of_field}
use Rattle.cb_facts.specs.declared.single.Single.{Single}
use Rattle.cb_facts.specs.declared.value.Value.TheVariants as value
use Rattle.cb_facts.specs.declared.value.Value.{Value}
use Rattle.cb_forms.specs.declared.fault.Fault.TheVariants.{FactDoesNotFit}
use Rattle.cb_templates.specs.Building.{Given, built, built_by, field_values, slot_values}
use Rattle.cb_templates.specs.Slots.{SlotShape}
use Rattle.cb_templates.specs.Templates.{Templates, slots_of}

pub fields_only : (templates : Templates) (relation : List ℕ) (vs : List Value) → slots_of templates relation ≡ None → built templates relation (field_values vs) ≡ Ok (ordered_fact relation (spliced vs))
fields_only templates relation vs h = ap (λ o. built_by relation o (field_values vs)) h

pub no_slots_built : (templates : Templates) (relation : List ℕ) (given : Given) → slots_of templates relation ≡ None → built templates relation (slot_values given) ≡ Err FactDoesNotFit
no_slots_built templates relation given h = ap (λ o. built_by relation o (slot_values given)) h

pub no_fields_built : (templates : Templates) (relation : List ℕ) (slots : List SlotShape) (vs : List Value) → slots_of templates relation ≡ Some slots → built templates relation (field_values vs) ≡ Err FactDoesNotFit
no_fields_built templates relation slots vs h = ap (λ o. built_by relation o (field_values vs)) h

-- a value that is no multifield is its one field
one_field : (v : Value) (singles : List Single) → is_multifield v ≡ false → map value_of_field (fields_in v ++ singles) ≡ v ∷ map value_of_field singles
one_field (value.Symbol bytes) singles h = refl
one_field (value.Str bytes) singles h = refl
one_field (value.Int n) singles h = refl
one_field (value.Fact ix) singles h = refl
one_field (value.Multi fields) singles h = absurd (cc)

pub each_value : (vs : List Value) → All (λ v. is_multifield v ≡ false) vs → map value_of_field (spliced vs) ≡ vs
each_value [] h = refl
each_value (v ∷ vs) h =
    one_field v (spliced vs) (All-head (λ w. is_multifield w ≡ false) v vs h)
    ∙ ap (λ ws. v ∷ ws) (each_value vs (All-tail (λ w. is_multifield w ≡ false) v vs h))

pub multifield_spliced : (before after : List Value) (singles : List Single) → spliced (before ++ value.Multi singles ∷ after) ≡ spliced before ++ (singles ++ spliced after)
multifield_spliced [] after singles = refl
multifield_spliced (v ∷ before) after singles =
    ap (λ fs. fields_in v ++ fs) (multifield_spliced before after singles) ∙ sym (append_assoc (fields_in v) (spliced before) (singles ++ spliced after))
