-- The slots of a template and of its facts: their names differ, and a fact has them all, in the template's order.
use Rattle.std.proofs.Common.{◌≡◌, ◌||◌, ◌++◌, ◌∙◌, ℕ, Bool, true, false, List, [], ◌∷◌, Option, Some, None, Result, Ok, Err, map, is_some, refl, sym, ap, subst, if◌then◌else◌}
use Rattle.std.proofs.lemmas.Map.Keys.{IsDistinct-push}
use Rattle.std.specs.Cmp.{IsEquivalence}
use Rattle.std.specs.Cmp.Lexicographic.{nat_list_eq_equiv}
use Rattle.std.specs.List.{IsDistinct, list_any}
use Rattle.std.specs.Option.{option_flatten}
use Rattle.std.specs.Str.{bytes_eq}
use Rattle.cb_forms.specs.Members.{call_of, head_and_rest}
use Rattle.cb_forms.specs.Trees.{Trees, no_trees, tree}
use Rattle.cb_forms.specs.declared.fault.Fault.{Fault}
use Rattle.cb_forms.specs.declared.fault.Fault.TheVariants.{MalformedForm}
use Rattle.cb_facts.specs.Facts.{FactValue, template_fact}
use Rattle.cb_facts.specs.declared.value.Value.{Value}
use Rattle.cb_templates.specs.Building.{Given, PartValues, field_values, slot_values, filled, fits, given_for, value_or_default, slots_built, built_by, built}
use Rattle.cb_facts.specs.Results.{and_then, ok_then, with_first}
use Rattle.cb_templates.specs.Internal.{attributes_after, finished, slot_defined, no_attributes, slot_by, slot_with, slots_after}
use Rattle.cb_templates.specs.Slots.{SlotShape, Types, allows_all, names, slot_named}
use Rattle.cb_templates.specs.Laws.{content_names}
use Rattle.cb_templates.specs.Templates.{Templates, slots_of}
use Rattle.cb_templates.specs.declared.attribute.Attributes.{Attributes}
use Rattle.cb_templates.specs.declared.attribute.SlotDefault.{SlotDefault}
use Rattle.cb_templates.specs.declared.attribute.SlotDefault.TheVariants.{Required, Derived, Fixed}

-- what was answered where a test refuses
unless : {X : Type 0} (t : Bool) (f : Fault) (r : Result X Fault) (x : X) → (if t then Err f else r) ≡ Ok x → r ≡ Ok x
unless true f r x h = absurd (cc)
unless false f r x h = h

unless_not : {X : Type 0} (t : Bool) (f : Fault) (r : Result X Fault) (x : X) → (if t then Err f else r) ≡ Ok x → t ≡ false
unless_not true f r x h = absurd (cc)
unless_not false f r x h = refl

only_if : {X : Type 0} (t : Bool) (f : Fault) (r : Result X Fault) (x : X) → (if t then r else Err f) ≡ Ok x → r ≡ Ok x
only_if true f r x h = h
only_if false f r x h = absurd (cc)

abbrev name_in : Result SlotShape Fault → List ℕ → List ℕ
name_in (Ok s) other = s.name
name_in (Err f) other = other

-- a slot has the name that it is given
named : (name : List ℕ) (m : Bool) (ts : Types) (d : Option SlotDefault) (s : SlotShape) → slot_with name m ts d ≡ Ok s → s.name ≡ name
named name m ts None s h = sym (ap (λ r. name_in r name) h)
named name m ts (Some Derived) s h = sym (ap (λ r. name_in r name) h)
named name m ts (Some Required) s h = sym (ap (λ r. name_in r name) h)
named name m ts (Some (Fixed v)) s h =
    let fixed : Result SlotShape Fault = Ok (record { name = name; is_multi = m; types = ts; default = Some v }) in
    sym (ap (λ r. name_in r name) (only_if (allows_all ts v) _ fixed s h))

named_then : (name : List ℕ) (m : Bool) (r : Result Attributes Fault) (s : SlotShape) → and_then r (finished name m) ≡ Ok s → s.name ≡ name
named_then name m (Ok a) s h = named name m (option_flatten a.types) a.default s h
named_then name m (Err f) s h = absurd (cc)

-- no slot has the name
abbrev IsNew : List SlotShape → List ℕ → Type 0
IsNew before name = is_some (slot_named before name) ≡ false

new_named : (before : List SlotShape) (m : Bool) (head : Option (List ℕ × Trees)) (s : SlotShape) → slot_defined before m head ≡ Ok s → IsNew before s.name
new_named before m None s h = absurd (cc)
new_named before m (Some (name, ts)) s h =
    let made : Result SlotShape Fault = and_then (attributes_after m no_attributes ts) (finished name m) in
    let same : s.name ≡ name = named_then name m (attributes_after m no_attributes ts) s (unless (is_some (slot_named before name)) MalformedForm made s h) in
    ap (λ n. is_some (slot_named before n)) same ∙ unless_not (is_some (slot_named before name)) MalformedForm made s h

new_slot_by : (before : List SlotShape) (head : List ℕ) (ts : Trees) (t u : Bool) (s : SlotShape)
    → (if t then slot_defined before false (head_and_rest ts) else (if u then slot_defined before true (head_and_rest ts) else Err MalformedForm)) ≡ Ok s → IsNew before s.name
new_slot_by before head ts true u s h = new_named before false (head_and_rest ts) s h
new_slot_by before head ts false true s h = new_named before true (head_and_rest ts) s h
new_slot_by before head ts false false s h = absurd (cc)

new_slot : (before : List SlotShape) (call : Option (List ℕ × Trees)) (s : SlotShape) → slot_by before call ≡ Ok s → IsNew before s.name
new_slot before None s h = absurd (cc)
new_slot before (Some (head, ts)) s h = new_slot_by before head ts _ _ s h

some_of : {X : Type 0} (t u : Bool) (x : X) (r : Option X) → is_some r ≡ u → is_some (if t then Some x else r) ≡ (t || u)
some_of true u x r e = refl
some_of false u x r e = e

-- whether a slot has the name
named_among : (before : List SlotShape) (name : List ℕ) → is_some (slot_named before name) ≡ list_any (bytes_eq name) (names before)
named_among [] name = refl
named_among (s ∷ before) name =
    some_of (bytes_eq s.name name) (list_any (bytes_eq name) (names before)) s (slot_named before name) (named_among before name)
    ∙ ap (λ t. t || list_any (bytes_eq name) (names before)) ((IsEquivalence.symm nat_list_eq_equiv) s.name name)

names_push : (before : List SlotShape) (s : SlotShape) → names before ++ s.name ∷ [] ≡ names (before ++ s ∷ [])
names_push [] s = refl
names_push (t ∷ before) s = ap (λ ns. t.name ∷ ns) (names_push before s)

one_more : (before : List SlotShape) (s : SlotShape) → IsDistinct bytes_eq (names before) → IsNew before s.name → IsDistinct bytes_eq (names (before ++ s ∷ []))
one_more before s distinct new =
    subst (IsDistinct bytes_eq) (names_push before s) (IsDistinct-push nat_list_eq_equiv (names before) s.name distinct (sym (named_among before s.name) ∙ new))

differ_then : (before : List SlotShape) (r : Result SlotShape Fault) (ts : Trees) (slots : List SlotShape) → and_then r (λ s. slots_after (before ++ s ∷ []) ts) ≡ Ok slots
    → ((s : SlotShape) → r ≡ Ok s → slots_after (before ++ s ∷ []) ts ≡ Ok slots → IsDistinct bytes_eq (names slots)) → IsDistinct bytes_eq (names slots)
differ_then before (Ok s) ts slots h more = more s refl h
differ_then before (Err f) ts slots h more = absurd (cc)

differ : (ts : Trees) (before slots : List SlotShape) → IsDistinct bytes_eq (names before) → slots_after before ts ≡ Ok slots → IsDistinct bytes_eq (names slots)
differ no_trees before slots distinct h =
    let same : before ≡ slots = cc in
    subst (λ them. IsDistinct bytes_eq (names them)) same distinct
differ (tree t ts) before slots distinct h =
    differ_then before (slot_by before (call_of t)) ts slots h (λ s made rest. differ ts (before ++ s ∷ []) slots (one_more before s distinct (new_slot before (call_of t) s made)) rest)

-- No two slots of a template have one name.
pub slots_differ : (ts : Trees) (slots : List SlotShape) → slots_after [] ts ≡ Ok slots → IsDistinct bytes_eq (names slots)
unfolding IsDistinct
slots_differ ts slots h = differ ts [] slots _ h

filled_one : (name : List ℕ) (before : List (List ℕ)) (r : Result Value Fault) (rest : Result (List (List ℕ × Value)) Fault) (pairs : List (List ℕ × Value))
    → with_first (ok_then (λ v. (name, v)) r) rest ≡ Ok pairs → ((others : List (List ℕ × Value)) → rest ≡ Ok others → map (λ p. p.0) others ≡ before) → map (λ p. p.0) pairs ≡ name ∷ before
filled_one name before (Err f) rest pairs h more = absurd (cc)
filled_one name before (Ok v) (Err f) pairs h more = absurd (cc)
filled_one name before (Ok v) (Ok others) pairs h more =
    let same : (name, v) ∷ others ≡ pairs = cc in
    ap (λ (ps : List (List ℕ × Value)). map (λ p. p.0) ps) (sym same) ∙ ap (λ ns. name ∷ ns) (more others refl)

filled_names : (slots : List SlotShape) (given : Given) (pairs : List (List ℕ × Value)) → filled slots given ≡ Ok pairs → map (λ p. p.0) pairs ≡ names slots
filled_names [] given pairs h =
    let same : [] ≡ pairs = cc in
    ap (λ (ps : List (List ℕ × Value)). map (λ p. p.0) ps) (sym same)
filled_names (s ∷ slots) given pairs h =
    filled_one s.name (names slots) (value_or_default s (given_for given s.name)) (filled slots given) pairs h (λ others is. filled_names slots given others is)

of_template : (relation : List ℕ) (r : Result (List (List ℕ × Value)) Fault) (fact : FactValue) (slots : List SlotShape) → ok_then (template_fact relation) r ≡ Ok fact
    → ((pairs : List (List ℕ × Value)) → r ≡ Ok pairs → map (λ p. p.0) pairs ≡ names slots) → content_names fact.content ≡ names slots
of_template relation (Err f) fact slots h more = absurd (cc)
of_template relation (Ok pairs) fact slots h more =
    let same : template_fact relation pairs ≡ fact = cc in
    ap (λ (it : FactValue). content_names it.content) (sym same) ∙ more pairs refl

by_slots : (relation : List ℕ) (slots : List SlotShape) (given : Given) (fact : FactValue) → slots_built relation slots given ≡ Ok fact → content_names fact.content ≡ names slots
by_slots relation slots given fact h =
    of_template relation (filled slots given) fact slots (only_if (fits slots given) _ (ok_then (template_fact relation) (filled slots given)) fact h) (filled_names slots given)

by_template : (relation : List ℕ) (slots : List SlotShape) (parts : PartValues) (fact : FactValue) → built_by relation (Some slots) parts ≡ Ok fact → content_names fact.content ≡ names slots
by_template relation slots (field_values vs) fact h = absurd (cc)
by_template relation slots (slot_values given) fact h = by_slots relation slots given fact h

-- A fact of a template has the template's slots, in the template's order, whatever it is given.
pub fact_has_slots : (templates : Templates) (relation : List ℕ) (parts : PartValues) (slots : List SlotShape) (fact : FactValue) → slots_of templates relation ≡ Some slots → built templates relation parts ≡ Ok fact
    → content_names fact.content ≡ names slots
fact_has_slots templates relation parts slots fact has h = by_template relation slots parts fact (sym (ap (λ o. built_by relation o parts) has) ∙ h)
