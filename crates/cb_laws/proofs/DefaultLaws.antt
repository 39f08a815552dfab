-- The default of a slot is a multifield exactly in a multislot.
use Rattle.std.proofs.Common.{◌≡◌, ◌∙◌, ◌||◌, ℕ, Bool, true, false, List, [], ◌∷◌, Option, Some, None, Result, Ok, Err, All, codes, is_some, pos, refl, sym, ap, subst, if◌then◌else◌}
use Rattle.std.proofs.lemmas.List.Elements.{All-cons, All-nil}
use Rattle.std.specs.Option.{ok_or, option_flatten}
use Rattle.std.specs.Str.{bytes_eq}
use Rattle.cb_facts.specs.Results.{and_then, ok_then}
use Rattle.cb_facts.specs.Values.{constant_of, is_multifield, spliced}
use Rattle.cb_facts.specs.declared.value.Value.{Value}
use Rattle.cb_facts.specs.declared.value.Value.TheVariants as value
use Rattle.cb_forms.specs.Members.{call_of, head_and_rest}
use Rattle.cb_forms.specs.Trees.{Tree, Trees, atom, branch, no_trees, tree}
use Rattle.cb_forms.specs.declared.fault.Fault.{Fault}
use Rattle.cb_forms.specs.declared.fault.Fault.TheVariants.{MalformedForm, NotInProfile, ValueNotAllowed}
use Rattle.cb_forms.specs.declared.token.Token.{Token}
use Rattle.cb_forms.specs.declared.token.Token.TheVariants as token
use Rattle.cb_laws.specs.Reached.{HasItsDefault}
use Rattle.cb_laws.proofs.SlotFormLaws.{AreSlots}
use Rattle.cb_templates.specs.Internal.{attribute_by, attributes_after, default_constant, default_constants, default_of, finished, multi_default, no_attributes, one_default, slot_by, slot_defined, slot_with, types_of, with_default, with_types}
use Rattle.cb_templates.specs.SlotForms.{derived, is_variable, no_constant}
use Rattle.cb_templates.specs.Slots.{SlotShape, Types, allows_all, are_only}
use Rattle.cb_templates.specs.declared.slot_type.SlotType.TheVariants as type

-- the type of a value, and of what an option holds: so types get a name here that their crate gives no name outside
abbrev type_of : {A : Type 0} → A → Type 0
type_of {A} a = A

abbrev type_in : {A : Type 0} → Option A → Type 0
type_in {A} o = A

abbrev Attributes : Type 0
Attributes = type_of no_attributes

abbrev SlotDefault : Type 0
SlotDefault = type_in no_attributes.default

-- what a slot with this default is like
abbrev Suits : Bool → SlotDefault → Type 0
Suits m d = (name : List ℕ) (ts : Types) (s : SlotShape) → slot_with name m ts (Some d) ≡ Ok s → HasItsDefault s

-- whatever default is read, it suits
abbrev Suit : Bool → Result SlotDefault Fault → Type 0
Suit m r = (d : SlotDefault) → r ≡ Ok d → Suits m d

abbrev slot_of : List ℕ → Bool → Types → Option Value → SlotShape
slot_of name m ts o = record { name = name; is_multi = m; types = ts; default = o }

default_is : (name : List ℕ) (m : Bool) (ts : Types) (v : Value) → is_multifield v ≡ m → HasItsDefault (slot_of name m ts (Some v))
default_is name m ts v fine w h =
    let same : v ≡ w = cc in
    ap is_multifield (sym same) ∙ fine

one_if : (t u : Bool) → is_multifield (if t then value.Str [] else (if u then value.Int (pos 0) else value.Symbol (codes "nil"))) ≡ false
one_if true u = refl
one_if false true = refl
one_if false false = refl

derived_is : (m : Bool) (ts : Types) → is_multifield (derived m ts) ≡ m
derived_is true ts = refl
derived_is false ts = one_if (are_only type.Str ts) (are_only type.Integer ts || are_only type.Number ts)

none_suits : {m : Bool} {d : SlotDefault} → ((name : List ℕ) (ts : Types) → slot_with name m ts (Some d) ≡ Ok (slot_of name m ts None)) → Suit m (Ok d)
none_suits {m} {d} is e at name ts s h =
    let same : d ≡ e = cc in
    let made : Ok (slot_of name m ts None) ≡ Ok s = sym (is name ts) ∙ ap (λ x. slot_with name m ts (Some x)) same ∙ h in
    let slot_is : slot_of name m ts None ≡ s = cc in
    subst HasItsDefault slot_is (λ v bad. absurd (cc))

derived_suits : {m : Bool} {d : SlotDefault} → ((name : List ℕ) (ts : Types) → slot_with name m ts (Some d) ≡ Ok (slot_of name m ts (Some (derived m ts)))) → Suit m (Ok d)
derived_suits {m} {d} is e at name ts s h =
    let same : d ≡ e = cc in
    let made : Ok (slot_of name m ts (Some (derived m ts))) ≡ Ok s = sym (is name ts) ∙ ap (λ x. slot_with name m ts (Some x)) same ∙ h in
    let slot_is : slot_of name m ts (Some (derived m ts)) ≡ s = cc in
    subst HasItsDefault slot_is (default_is name m ts (derived m ts) (derived_is m ts))

allowed_is : (name : List ℕ) (m : Bool) (ts : Types) (v : Value) (s : SlotShape) (t : Bool) → is_multifield v ≡ m → (if t then Ok (slot_of name m ts (Some v)) else Err ValueNotAllowed) ≡ Ok s → HasItsDefault s
allowed_is name m ts v s true fine h =
    let same : slot_of name m ts (Some v) ≡ s = cc in
    subst HasItsDefault same (default_is name m ts v fine)
allowed_is name m ts v s false fine h = absurd (cc)

fixed_suits : {X : Type 0} {m : Bool} (make : X → SlotDefault) (val : X → Value) (r : Result X Fault)
    → ((name : List ℕ) (ts : Types) (x : X) → slot_with name m ts (Some (make x)) ≡ (if allows_all ts (val x) then Ok (slot_of name m ts (Some (val x))) else Err ValueNotAllowed))
    → ((x : X) → r ≡ Ok x → is_multifield (val x) ≡ m) → Suit m (ok_then make r)
fixed_suits {X} {m} make val (Err f) is fine d at name ts s h = absurd (cc)
fixed_suits {X} {m} make val (Ok x) is fine d at name ts s h =
    let same : make x ≡ d = cc in
    allowed_is name m ts (val x) s (allows_all ts (val x)) (fine x refl) (sym (is name ts x) ∙ ap (λ y. slot_with name m ts (Some y)) same ∙ h)

one_of_two : {m : Bool} {r q : Result SlotDefault Fault} (t : Bool) → Suit m r → Suit m q → Suit m (if t then r else q)
one_of_two true f g = f
one_of_two false f g = g

-- a constant is no multifield
token_single : (t : Token) (v : Value) → ok_or (constant_of t) (no_constant t) ≡ Ok v → is_multifield v ≡ false
token_single (token.Symbol bytes) v h = let same : value.Symbol bytes ≡ v = cc in ap is_multifield (sym same)
token_single (token.Str bytes) v h = let same : value.Str bytes ≡ v = cc in ap is_multifield (sym same)
token_single (token.Int n) v h = let same : value.Int n ≡ v = cc in ap is_multifield (sym same)
token_single (token.Var name) v h = absurd (cc)
token_single (token.MultiVar name) v h = absurd (cc)
token_single token.Any v h = absurd (cc)
token_single token.MultiAny v h = absurd (cc)
token_single (token.Global name) v h = absurd (cc)
token_single token.And v h = absurd (cc)
token_single token.Or v h = absurd (cc)
token_single token.Not v h = absurd (cc)

constant_single : (t : Tree) (v : Value) → default_constant t ≡ Ok v → is_multifield v ≡ false
constant_single (atom t) v h = token_single t v h
constant_single (branch ts) v h = absurd (cc)

one_suits : (ts : Trees) → Suit false (one_default ts)
one_suits no_trees d at = absurd (cc)
one_suits (tree t no_trees) d at = fixed_suits _ (λ v. v) (default_constant t) (λ name ts v. refl) (constant_single t) d at
one_suits (tree t (tree u ts)) d at = absurd (cc)

multi_suits : (ts : Trees) → Suit true (multi_default ts)
multi_suits ts = fixed_suits _ (λ vs. value.Multi (spliced vs)) (default_constants ts) (λ name us vs. refl) (λ vs at. refl)

written_suits : (m : Bool) (ts : Trees) → Suit m (if m then multi_default ts else one_default ts)
written_suits true ts = multi_suits ts
written_suits false ts = one_suits ts

default_suits : (m : Bool) (ts : Trees) → Suit m (default_of m ts)
default_suits m ts =
    one_of_two (is_variable (codes "NONE") ts) (none_suits (λ name us. refl))
    (one_of_two (is_variable (codes "DERIVE") ts) (derived_suits (λ name us. refl)) (written_suits m ts))

-- what the attributes of a slot say of its default suits it
abbrev AllSuit : Bool → Option SlotDefault → Type 0
AllSuit m o = (d : SlotDefault) → o ≡ Some d → Suits m d

attribute_suits_by : (m : Bool) (a b : Attributes) (t u : Bool) (ts : Result Types Fault) (ds : Result SlotDefault Fault) (o : Bool) (p : Bool) → AllSuit m a.default → Suit m ds
    → (if t then (if o then Err MalformedForm else ok_then (with_types a) ts) else (if u then (if p then Err MalformedForm else ok_then (with_default a) ds) else Err NotInProfile)) ≡ Ok b
    → AllSuit m b.default
attribute_suits_by m a b true u (Ok x) ds false p fine suit h =
    let same : with_types a x ≡ b = cc in
    subst (λ (it : Attributes). AllSuit m it.default) same fine
attribute_suits_by m a b true u (Err f) ds false p fine suit h = absurd (cc)
attribute_suits_by m a b true u ts ds true p fine suit h = absurd (cc)
attribute_suits_by m a b false true ts (Ok x) o false fine suit h =
    let same : with_default a x ≡ b = cc in
    subst (λ (it : Attributes). AllSuit m it.default) same (λ d at. let is : x ≡ d = cc in subst (Suits m) is (suit x refl))
attribute_suits_by m a b false true ts (Err f) o false fine suit h = absurd (cc)
attribute_suits_by m a b false true ts ds o true fine suit h = absurd (cc)
attribute_suits_by m a b false false ts ds o p fine suit h = absurd (cc)

attribute_suits : (m : Bool) (a b : Attributes) (call : Option (List ℕ × Trees)) → AllSuit m a.default → attribute_by m a call ≡ Ok b → AllSuit m b.default
attribute_suits m a b None fine h = absurd (cc)
attribute_suits m a b (Some (name, ts)) fine h =
    attribute_suits_by m a b (bytes_eq name (codes "type")) (bytes_eq name (codes "default")) (types_of ts) (default_of m ts) (is_some a.types) (is_some a.default) fine (default_suits m ts) h

attributes_suit : (forms : Trees) (m : Bool) (a all : Attributes) → AllSuit m a.default → attributes_after m a forms ≡ Ok all → AllSuit m all.default
attributes_suit no_trees m a all fine h =
    let same : a ≡ all = cc in
    subst (λ (it : Attributes). AllSuit m it.default) same fine
attributes_suit (tree t ts) m a all fine h = by (attribute_by m a (call_of t)) refl h (λ b. attributes_suit ts m b all)
  where
    by : (r : Result Attributes Fault) → attribute_by m a (call_of t) ≡ r → and_then r (λ b. attributes_after m b ts) ≡ Ok all
        → ((b : Attributes) → AllSuit m b.default → attributes_after m b ts ≡ Ok all → AllSuit m all.default) → AllSuit m all.default
    by (Err f) e is more = absurd (cc)
    by (Ok b) e is more = more b (attribute_suits m a b (call_of t) fine e) is

-- a slot that is read
with_suits : (name : List ℕ) (m : Bool) (ts : Types) (o : Option SlotDefault) (s : SlotShape) → AllSuit m o → slot_with name m ts o ≡ Ok s → HasItsDefault s
with_suits name m ts None s fine h =
    let same : slot_of name m ts (Some (derived m ts)) ≡ s = cc in
    subst HasItsDefault same (default_is name m ts (derived m ts) (derived_is m ts))
with_suits name m ts (Some d) s fine h = fine d refl name ts s h

finished_suits : (name : List ℕ) (m : Bool) (ts : Trees) (s : SlotShape) → and_then (attributes_after m no_attributes ts) (finished name m) ≡ Ok s → HasItsDefault s
finished_suits name m ts s h = by (attributes_after m no_attributes ts) refl h
  where
    by : (r : Result Attributes Fault) → attributes_after m no_attributes ts ≡ r → and_then r (finished name m) ≡ Ok s → HasItsDefault s
    by (Err f) e is = absurd (cc)
    by (Ok all) e is = with_suits name m (option_flatten all.types) all.default s (attributes_suit ts m no_attributes all (λ d bad. absurd (cc)) e) is

defined_suits : (m : Bool) (call : Option (List ℕ × Trees)) (s : SlotShape) → slot_defined [] m call ≡ Ok s → HasItsDefault s
defined_suits m None s h = absurd (cc)
defined_suits m (Some (name, ts)) s h = finished_suits name m ts s h

slot_suits_by : (ts : Trees) (s : SlotShape) (t u : Bool)
    → (if t then slot_defined [] false (head_and_rest ts) else (if u then slot_defined [] true (head_and_rest ts) else Err MalformedForm)) ≡ Ok s → HasItsDefault s
slot_suits_by ts s true u h = defined_suits false (head_and_rest ts) s h
slot_suits_by ts s false true h = defined_suits true (head_and_rest ts) s h
slot_suits_by ts s false false h = absurd (cc)

slot_suits : (call : Option (List ℕ × Trees)) (s : SlotShape) → slot_by [] call ≡ Ok s → HasItsDefault s
slot_suits None s h = absurd (cc)
slot_suits (Some (head, ts)) s h = slot_suits_by ts s (bytes_eq head (codes "slot")) (bytes_eq head (codes "multislot")) h

pub slots_suit : (forms : Trees) (slots : List SlotShape) → AreSlots forms slots → All HasItsDefault slots
slots_suit no_trees [] h = All-nil HasItsDefault
slots_suit no_trees (s ∷ slots) h = absurd h
slots_suit (tree t ts) [] h = absurd h
slots_suit (tree t ts) (s ∷ slots) h = All-cons HasItsDefault s slots (slot_suits (call_of t) s h.0) (slots_suit ts slots h.1)
