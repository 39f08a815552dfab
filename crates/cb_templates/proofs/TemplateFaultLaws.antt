-- Attributes and slots are read as their faults and their shapes say.
use Rattle.std.proofs.Common.{◌≡◌, ◌||◌, ◌++◌, ℕ, Bool, true, false, not, List, [], ◌∷◌, Option, Some, None, Result, Ok, Err, refl, sym, ap, ap₂, ◌∙◌, subst, codes, is_some, if◌then◌else◌}
use Rattle.std.specs.Cmp.Lexicographic.{bytes_decides}
use Rattle.std.specs.List.{IsDistinct}
use Rattle.std.specs.Option.{option_flatten, option_map, option_map_or, option_or}
use Rattle.std.specs.Str.{bytes_eq}
use Rattle.std.proofs.lemmas.List.{append-nil, append_assoc}
use Rattle.cb_forms.specs.Members.{call_of, head_and_rest}
use Rattle.cb_forms.specs.Trees.{Trees, no_trees, tree}
use Rattle.cb_forms.specs.declared.fault.Fault.{Fault}
use Rattle.cb_forms.specs.declared.fault.Fault.TheVariants.{MalformedForm, ValueNotAllowed, NotInProfile, TemplateInUse}
use Rattle.cb_facts.specs.Results.{Returns, ok_then, and_then}
use Rattle.cb_facts.specs.declared.refused.Refused.{Refused}
use Rattle.cb_facts.specs.declared.refused.Refused.TheVariants as refused
use Rattle.cb_templates.proofs.SlotLaws.{slots_differ}
use Rattle.cb_templates.proofs.TemplateReads.{IsRead, default_read, guarded, read_is, settled_reads, then_read, type_read}
use Rattle.cb_facts.specs.FaultLists.{ReadsAs, unless, first_of, unless_faulty}
use Rattle.cb_words.specs.Reserved.{is_reserved}
use Rattle.cb_templates.specs.Templates.{without_comment}
use Rattle.cb_templates.specs.Internal.{attribute_by, attributes_after, default_of, finished, no_attributes, slot_by, slot_defined, slot_with, types_of, with_default, with_types, slots_after}
use Rattle.cb_templates.specs.Slots.{Types, SlotShape, allows_all, names, slot_named}
use Rattle.cb_templates.specs.TemplateFaults.{and_name, and_slot, attribute_faults, attributes_faults, default_attribute_faults, is_among, kept_faults, kind_faults, named_slot_faults, named_template_faults, slot_form_faults, slots_form_faults, template_faults, type_attribute_faults}
use Rattle.cb_templates.specs.TemplateShapes.{after_head, attribute, default_in, default_said, kind_of, slot_headed, slot_of_kind, slot_said, slots_said, types_in, types_said, value_for}
use Rattle.cb_templates.specs.declared.attribute.Attributes.{Attributes}
use Rattle.cb_templates.specs.declared.attribute.SlotDefault.{SlotDefault}
use Rattle.cb_templates.specs.declared.attribute.SlotDefault.TheVariants.{Required, Derived, Fixed}

-- the names are those of the attributes that are given
record IsGivenBy (a : Attributes) (names : List (List ℕ)) : Type 0 where
  types : is_some a.types ≡ is_among names (codes "type")
  default : is_some a.default ≡ is_among names (codes "default")

-- the attributes that there are, and those that forms say
abbrev said_with : Bool → Attributes → Trees → Attributes
said_with is_multi a ts = record {
  types = option_or a.types (option_map types_said (attribute (codes "type") ts));
  default = option_or a.default (option_flatten (option_map (default_said is_multi) (attribute (codes "default") ts)));
}

or_none : {X : Type 0} (o : Option X) → o ≡ option_or o None
or_none None = refl
or_none (Some x) = refl

mapped : {X Y Z : Type 0} (r : Result X Fault) (g : X → Y) (next : Y → Result Z Fault) → and_then (ok_then g r) next ≡ and_then r (λ x. next (g x))
mapped (Ok x) g next = refl
mapped (Err f) g next = refl

no_default : (name : List ℕ) → bytes_eq name (codes "type") ≡ true → bytes_eq name (codes "default") ≡ false
no_default name is = ap (λ n. bytes_eq n (codes "default")) ((bytes_decides name (codes "type")).0 is)

module _ (is_multi : Bool) (name : List ℕ) (us ts : Trees) where
  -- `(type ..)` after attributes with these types and this default
  type_next : (o : Option Types) (d : Option SlotDefault) (before : List (List ℕ)) → bytes_eq name (codes "type") ≡ true → is_some o ≡ is_among before (codes "type") → is_some d ≡ is_among before (codes "default")
      → ((b : Attributes) → IsGivenBy b (name ∷ before) → IsRead (attributes_after is_multi b ts) (attributes_faults is_multi (name ∷ before) ts) (Some (said_with is_multi b ts)))
      → IsRead (and_then (if is_some o then Err MalformedForm else ok_then (with_types (record { types = o; default = d })) (types_of us)) (λ b. attributes_after is_multi b ts))
      ((unless (not (is_among before (codes "type"))) MalformedForm ++ type_attribute_faults us) ++ attributes_faults is_multi (name ∷ before) ts)
      (Some (record { types = option_or o (Some (types_said us)); default = option_or d (option_flatten (option_map (default_said is_multi) (attribute (codes "default") ts))) }))
  type_next (Some types) d before is known known' others = subst (λ b. first_of ((unless (not b) MalformedForm ++ type_attribute_faults us) ++ attributes_faults is_multi (name ∷ before) ts) ≡ Some MalformedForm) known refl
  type_next None d before is known known' others =
      let given : (types : Types) → IsGivenBy (record { types = Some types; default = d }) (name ∷ before) = λ types. record {
        types = ap (λ b. b || is_among before (codes "type")) (sym is);
        default = known' ∙ ap (λ b. b || is_among before (codes "default")) (sym (no_default name is));
      } in
      let read = then_read (types_of us) (type_attribute_faults us) (attributes_faults is_multi (name ∷ before) ts) (Some (types_said us)) (Some (record { types = Some (types_said us); default = option_or d (option_flatten (option_map (default_said is_multi) (attribute (codes "default") ts))) })) (λ types. attributes_after is_multi (record { types = Some types; default = d }) ts) (type_read us) (λ types same. subst (λ it. IsRead (attributes_after is_multi (record { types = Some types; default = d }) ts) (attributes_faults is_multi (name ∷ before) ts) (option_map (λ said. record { types = Some said; default = option_or d (option_flatten (option_map (default_said is_multi) (attribute (codes "default") ts))) }) it)) (sym same) (others (record { types = Some types; default = d }) (given types))) in
      subst (λ b. IsRead (and_then (ok_then (with_types (record { types = None; default = d })) (types_of us)) (λ b'. attributes_after is_multi b' ts)) ((unless (not b) MalformedForm ++ type_attribute_faults us) ++ attributes_faults is_multi (name ∷ before) ts) (Some (record { types = Some (types_said us); default = option_or d (option_flatten (option_map (default_said is_multi) (attribute (codes "default") ts))) }))) known (subst (λ r. IsRead r (type_attribute_faults us ++ attributes_faults is_multi (name ∷ before) ts) (Some (record { types = Some (types_said us); default = option_or d (option_flatten (option_map (default_said is_multi) (attribute (codes "default") ts))) }))) (sym (mapped (types_of us) (with_types (record { types = None; default = d })) (λ b'. attributes_after is_multi b' ts))) read)

  -- `(default ..)` after them
  default_next : (o : Option Types) (d : Option SlotDefault) (before : List (List ℕ)) → bytes_eq name (codes "type") ≡ false → bytes_eq name (codes "default") ≡ true → is_some o ≡ is_among before (codes "type") → is_some d ≡ is_among before (codes "default")
      → ((b : Attributes) → IsGivenBy b (name ∷ before) → IsRead (attributes_after is_multi b ts) (attributes_faults is_multi (name ∷ before) ts) (Some (said_with is_multi b ts)))
      → IsRead (and_then (if is_some d then Err MalformedForm else ok_then (with_default (record { types = o; default = d })) (default_of is_multi us)) (λ b. attributes_after is_multi b ts))
      ((unless (not (is_among before (codes "default"))) MalformedForm ++ default_attribute_faults is_multi us) ++ attributes_faults is_multi (name ∷ before) ts)
      (Some (record { types = option_or o (option_map types_said (attribute (codes "type") ts)); default = option_or d (default_said is_multi us) }))
  default_next o (Some said) before is_no is known known' others = subst (λ b. first_of ((unless (not b) MalformedForm ++ default_attribute_faults is_multi us) ++ attributes_faults is_multi (name ∷ before) ts) ≡ Some MalformedForm) known' refl
  default_next o None before is_no is known known' others =
      let given : (said : SlotDefault) → IsGivenBy (record { types = o; default = Some said }) (name ∷ before) = λ said. record {
        types = known ∙ ap (λ b. b || is_among before (codes "type")) (sym is_no);
        default = ap (λ b. b || is_among before (codes "default")) (sym is);
      } in
      let read = then_read (default_of is_multi us) (default_attribute_faults is_multi us) (attributes_faults is_multi (name ∷ before) ts) (default_said is_multi us) (Some (record { types = option_or o (option_map types_said (attribute (codes "type") ts)); default = option_or None (default_said is_multi us) })) (λ said. attributes_after is_multi (record { types = o; default = Some said }) ts) (default_read is_multi us) (λ said same. subst (λ it. IsRead (attributes_after is_multi (record { types = o; default = Some said }) ts) (attributes_faults is_multi (name ∷ before) ts) (Some (record { types = option_or o (option_map types_said (attribute (codes "type") ts)); default = it }))) (sym same) (others (record { types = o; default = Some said }) (given said))) in
      subst (λ b. IsRead (and_then (ok_then (with_default (record { types = o; default = None })) (default_of is_multi us)) (λ b'. attributes_after is_multi b' ts)) ((unless (not b) MalformedForm ++ default_attribute_faults is_multi us) ++ attributes_faults is_multi (name ∷ before) ts) (Some (record { types = option_or o (option_map types_said (attribute (codes "type") ts)); default = default_said is_multi us }))) known' (subst (λ r. IsRead r (default_attribute_faults is_multi us ++ attributes_faults is_multi (name ∷ before) ts) (Some (record { types = option_or o (option_map types_said (attribute (codes "type") ts)); default = default_said is_multi us }))) (sym (mapped (default_of is_multi us) (with_default (record { types = o; default = None })) (λ b'. attributes_after is_multi b' ts))) read)

attributes_read : (is_multi : Bool) (a : Attributes) (before : List (List ℕ)) (ts : Trees) → IsGivenBy a before → IsRead (attributes_after is_multi a ts) (attributes_faults is_multi before ts) (Some (said_with is_multi a ts))
attributes_read is_multi a before no_trees given = (refl, ap₂ (λ (o : Option Types) (d : Option SlotDefault). Some (record { types = o; default = d })) (sym (or_none a.types)) (sym (or_none a.default)))
attributes_read is_multi a before (tree t ts) given = by (call_of t) (λ name b by_names. attributes_read is_multi b (name ∷ before) ts by_names)
  where
    named : (name : List ℕ) (us : Trees) (is_type is_default : Bool) → bytes_eq name (codes "type") ≡ is_type → bytes_eq name (codes "default") ≡ is_default
        → ((b : Attributes) → IsGivenBy b (name ∷ before) → IsRead (attributes_after is_multi b ts) (attributes_faults is_multi (name ∷ before) ts) (Some (said_with is_multi b ts)))
        → IsRead (and_then (if is_type then (if is_some a.types then Err MalformedForm else ok_then (with_types a) (types_of us)) else (if is_default then (if is_some a.default then Err MalformedForm else ok_then (with_default a) (default_of is_multi us)) else Err NotInProfile)) (λ b. attributes_after is_multi b ts))
        ((if is_type then unless (not (is_among before (codes "type"))) MalformedForm ++ type_attribute_faults us else (if is_default then unless (not (is_among before (codes "default"))) MalformedForm ++ default_attribute_faults is_multi us else NotInProfile ∷ [])) ++ attributes_faults is_multi (name ∷ before) ts)
        (Some (record { types = option_or a.types (option_map types_said (option_or (if is_type then Some us else None) (attribute (codes "type") ts))); default = option_or a.default (option_flatten (option_map (default_said is_multi) (option_or (if is_default then Some us else None) (attribute (codes "default") ts)))) }))
    named name us true true is is' others =
        let no = no_default name is in absurd (cc)
    named name us true false is is' others = type_next is_multi name us ts a.types a.default before is given.types given.default others
    named name us false true is is' others = default_next is_multi name us ts a.types a.default before is is' given.types given.default others
    named name us false false is is' others = refl

    by : (c : Option (List ℕ × Trees)) → ((name : List ℕ) (b : Attributes) → IsGivenBy b (name ∷ before) → IsRead (attributes_after is_multi b ts) (attributes_faults is_multi (name ∷ before) ts) (Some (said_with is_multi b ts)))
        → IsRead (and_then (attribute_by is_multi a c) (λ b. attributes_after is_multi b ts)) (attribute_faults is_multi before c ++ attributes_faults is_multi (and_name before c) ts)
        (Some (record { types = option_or a.types (option_map types_said (option_or (after_head (codes "type") c) (attribute (codes "type") ts))); default = option_or a.default (option_flatten (option_map (default_said is_multi) (option_or (after_head (codes "default") c) (attribute (codes "default") ts)))) }))
    by None others = refl
    by (Some (name, us)) others = named name us (bytes_eq name (codes "type")) (bytes_eq name (codes "default")) refl refl (others name)

kept_read : (name : List ℕ) (is_multi : Bool) (types : Types) (d : Option SlotDefault) → IsRead (slot_with name is_multi types d) (kept_faults types d) (Some (record { name = name; is_multi = is_multi; types = types; default = value_for is_multi types d }))
kept_read name is_multi types None = (refl, refl)
kept_read name is_multi types (Some Derived) = (refl, refl)
kept_read name is_multi types (Some Required) = (refl, refl)
kept_read name is_multi types (Some (Fixed v)) = by (allows_all types v)
  where
    by : (b : Bool) → IsRead {X = SlotShape} (if b then Ok (record { name = name; is_multi = is_multi; types = types; default = Some v }) else Err ValueNotAllowed) (unless b ValueNotAllowed) (Some (record { name = name; is_multi = is_multi; types = types; default = Some v }))
    by true = (refl, refl)
    by false = refl

-- the names are those of the slots
abbrev AreNamesOf : List (List ℕ) → List SlotShape → Type 0
AreNamesOf names slots = (name : List ℕ) → is_some (slot_named slots name) ≡ is_among names name

named_read : (slots : List SlotShape) (before : List (List ℕ)) (is_multi : Bool) (o : Option (List ℕ × Trees)) → AreNamesOf before slots → IsRead (slot_defined slots is_multi o) (named_slot_faults is_multi before o) (option_map (slot_said is_multi) o)
named_read slots before is_multi None known = refl
named_read slots before is_multi (Some (name, ts)) known =
    let empty : IsGivenBy no_attributes [] = record { types = refl; default = refl } in
    let inner = then_read (attributes_after is_multi no_attributes ts) (attributes_faults is_multi [] ts) (kept_faults (types_in ts) (default_in is_multi ts)) (Some (said_with is_multi no_attributes ts)) (Some (slot_said is_multi (name, ts))) (finished name is_multi) (attributes_read is_multi no_attributes [] ts empty) (λ b same.
    let is : said_with is_multi no_attributes ts ≡ b = cc in
    subst (λ it. IsRead (finished name is_multi it) (kept_faults (types_in ts) (default_in is_multi ts)) (Some (slot_said is_multi (name, ts)))) is (kept_read name is_multi (types_in ts) (default_in is_multi ts))) in
    let all = guarded (is_some (slot_named slots name)) MalformedForm (and_then (attributes_after is_multi no_attributes ts) (finished name is_multi)) (attributes_faults is_multi [] ts ++ kept_faults (types_in ts) (default_in is_multi ts)) (Some (slot_said is_multi (name, ts))) inner in
    subst (λ b. IsRead (slot_defined slots is_multi (Some (name, ts))) (unless (not b) MalformedForm ++ (attributes_faults is_multi [] ts ++ kept_faults (types_in ts) (default_in is_multi ts))) (Some (slot_said is_multi (name, ts)))) (known name) all

pub slot_read : (slots : List SlotShape) (before : List (List ℕ)) (c : Option (List ℕ × Trees)) → AreNamesOf before slots → IsRead (slot_by slots c) (slot_form_faults before c) (slot_headed c)
slot_read slots before None known = refl
slot_read slots before (Some (head, ts)) known = by (bytes_eq head (codes "slot")) (bytes_eq head (codes "multislot"))
  where
    by : (is_slot is_multislot : Bool) → IsRead (if is_slot then slot_defined slots false (head_and_rest ts) else (if is_multislot then slot_defined slots true (head_and_rest ts) else Err MalformedForm)) (kind_faults (if is_slot then Some false else (if is_multislot then Some true else None)) before ts) (slot_of_kind (if is_slot then Some false else (if is_multislot then Some true else None)) ts)
    by true is_multislot = named_read slots before false (head_and_rest ts) known
    by false true = named_read slots before true (head_and_rest ts) known
    by false false = refl

named_so : (before : List (List ℕ)) (c : Option (List ℕ × Trees)) (s : SlotShape) → slot_headed c ≡ Some s → and_slot before c ≡ s.name ∷ before
named_so before None s is = absurd (cc)
named_so before (Some (head, ts)) s is = by (kind_of head) is
  where
    said : (is_multi : Bool) (o : Option (List ℕ × Trees)) → option_map (slot_said is_multi) o ≡ Some s → and_name before o ≡ s.name ∷ before
    said is_multi None e = absurd (cc)
    said is_multi (Some (name, us)) e =
        let same : slot_said is_multi (name, us) ≡ s = cc in ap (λ (it : SlotShape). it.name ∷ before) same

    by : (k : Option Bool) → slot_of_kind k ts ≡ Some s → and_name before (head_and_rest ts) ≡ s.name ∷ before
    by None e = absurd (cc)
    by (Some is_multi) e = said is_multi (head_and_rest ts) e

one_more_named : (slots : List SlotShape) (s : SlotShape) (name : List ℕ) → is_some (slot_named (slots ++ s ∷ []) name) ≡ bytes_eq s.name name || is_some (slot_named slots name)
one_more_named [] s name = by (bytes_eq s.name name)
  where
    by : (b : Bool) → is_some (if b then Some s else None) ≡ b || false
    by true = refl
    by false = refl
one_more_named (x ∷ slots) s name = by (bytes_eq x.name name) (bytes_eq s.name name) (one_more_named slots s name)
  where
    by : (b c : Bool) → is_some (slot_named (slots ++ s ∷ []) name) ≡ c || is_some (slot_named slots name) → is_some (if b then Some x else slot_named (slots ++ s ∷ []) name) ≡ c || is_some (if b then Some x else slot_named slots name)
    by true true ih = refl
    by true false ih = refl
    by false c ih = ih

slots_read : (slots : List SlotShape) (before : List (List ℕ)) (ts : Trees) → AreNamesOf before slots → IsRead (slots_after slots ts) (slots_form_faults before ts) (Some (slots ++ slots_said ts))
slots_read slots before no_trees known = (refl, ap Some (append-nil slots))
slots_read slots before (tree t ts) known = then_read (slot_by slots (call_of t)) (slot_form_faults before (call_of t)) (slots_form_faults (and_slot before (call_of t)) ts) (slot_headed (call_of t)) (Some (slots ++ slots_said (tree t ts))) (λ s. slots_after (slots ++ s ∷ []) ts) (slot_read slots before (call_of t) known) (λ s same.
    let names_are = named_so before (call_of t) s same in
    let known' : AreNamesOf (and_slot before (call_of t)) (slots ++ s ∷ []) = λ name. one_more_named slots s name ∙ (ap (λ b. bytes_eq s.name name || b) (known name) ∙ ap (λ names. is_among names name) (sym names_are)) in
    let value_is : Some ((slots ++ s ∷ []) ++ slots_said ts) ≡ Some (slots ++ slots_said (tree t ts)) = ap Some (append_assoc slots (s ∷ []) (slots_said ts)) ∙ ap (λ o. Some (slots ++ option_map_or (λ x. x ∷ slots_said ts) o (slots_said ts))) (sym same) in
    subst (λ v. IsRead (slots_after (slots ++ s ∷ []) ts) (slots_form_faults (and_slot before (call_of t)) ts) v) value_is (slots_read (slots ++ s ∷ []) (and_slot before (call_of t)) ts known'))

-- going through forms as they are written comes to the list and the shapes
pub slots_said_so : (ts : Trees) → slots_after [] ts ≡ unless_faulty (slots_form_faults [] ts) (slots_said ts)
slots_said_so ts = read_is (slots_after [] ts) (slots_form_faults [] ts) (slots_said ts) (slots_read [] [] ts (λ name. refl))

-- a call that does so reads the slots
pub slots_as_said : (result : Result (List SlotShape) Refused) (ts : Trees) → Returns result (slots_after [] ts) → ReadsAs (λ slots. slots) result (slots_form_faults [] ts) (slots_said ts)
slots_as_said result ts is = settled_reads result (slots_form_faults [] ts) (slots_said ts) (subst (Returns result) (slots_said_so ts) is)

-- where the slots are refused, so is the template
pub slots_refused : {T V : Type 0} (view : T → V) (shape : V) (in_use : List ℕ → Bool) (ts : Trees) (name : List ℕ) (us : Trees) (r : Refused) → head_and_rest ts ≡ Some (name, us) → is_reserved name ≡ false → in_use name ≡ false
    → Returns {T = List SlotShape} (Err r) (slots_after [] (without_comment us)) → ReadsAs view (Err r) (template_faults in_use ts) shape
slots_refused view shape in_use ts name us refused.NoMemory head free unused h = tt
slots_refused view shape in_use ts name us (refused.Fault f) head free unused h =
    let slots = slots_form_faults [] (without_comment us) in
    ap (λ o. first_of (named_template_faults in_use o)) head
    ∙ ap (λ b. first_of (unless (not b) MalformedForm ++ (unless (not (in_use name)) TemplateInUse ++ slots))) free
    ∙ ap (λ b. first_of (unless (not b) TemplateInUse ++ slots)) unused
    ∙ slots_as_said (Err (refused.Fault f)) (without_comment us) h

-- no two slots have one name
pub said_differ : (ts : Trees) → slots_form_faults [] ts ≡ [] → IsDistinct bytes_eq (names (slots_said ts))
said_differ ts h = slots_differ ts (slots_said ts) (slots_said_so ts ∙ ap (λ fs. unless_faulty fs (slots_said ts)) h)
