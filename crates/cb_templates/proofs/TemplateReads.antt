-- A template is read as its faults and its shape say.
use Rattle.std.proofs.Common.{◌≡◌, ◌||◌, ◌++◌, ℕ, Bool, true, false, not, List, [], ◌∷◌, Option, Some, None, Result, Ok, Err, refl, sym, ap, ap₂, ◌∙◌, subst, codes, is_some, if◌then◌else◌}
use Rattle.std.proofs.lemmas.List.{append-nil}
use Rattle.std.specs.Option.{ok_or, option_flatten, option_map, option_map_or}
use Rattle.cb_forms.specs.Members.{symbol_of}
use Rattle.cb_forms.specs.Trees.{Tree, atom, branch, Trees, no_trees, tree}
use Rattle.cb_forms.specs.declared.fault.Fault.{Fault}
use Rattle.cb_forms.specs.declared.fault.Fault.TheVariants.{MalformedForm, NotInProfile}
use Rattle.cb_facts.specs.Results.{Returns, ok_then, and_then, with_first}
use Rattle.cb_facts.specs.Values.{constant_of, spliced}
use Rattle.cb_facts.specs.declared.refused.Refused.{Refused}
use Rattle.cb_facts.specs.declared.refused.Refused.TheVariants as refused
use Rattle.cb_facts.specs.declared.value.Value.{Value}
use Rattle.cb_facts.specs.declared.value.Value.TheVariants as value
use Rattle.cb_facts.specs.FaultLists.{ReadsAs, unless, first_of, unless_faulty}
use Rattle.cb_templates.specs.Internal.{default_constant, default_constants, default_of, multi_default, one_default, some_types, type_by, types_after, types_of}
use Rattle.cb_templates.specs.SlotForms.{is_variable, no_constant, type_named}
use Rattle.cb_templates.specs.Slots.{with_type}
use Rattle.cb_templates.specs.TemplateFaults.{constant_faults, constants_faults, default_attribute_faults, is_no_form, is_one_form, type_attribute_faults, type_name_faults, types_faults}
use Rattle.cb_templates.specs.TemplateShapes.{constant_in, constants_listed, default_said, default_by, types_listed, types_said}
use Rattle.cb_templates.specs.declared.attribute.SlotDefault.TheVariants.{Required, Derived, Fixed}
use Rattle.cb_templates.specs.declared.slot_type.SlotType.{SlotType}

-- what is read is the first of these faults, or this where there is none
abbrev pub IsRead : {X : Type 0} → Result X Fault → List Fault → Option X → Type 0
IsRead (Ok x) faults value = (faults ≡ []) × (value ≡ Some x)
IsRead (Err f) faults value = first_of faults ≡ Some f

-- so it is what the faults leave of the value
pub read_is : {X : Type 0} (r : Result X Fault) (fs : List Fault) (x : X) → IsRead r fs (Some x) → r ≡ unless_faulty fs x
read_is (Ok y) fs x (none, is) =
    let same : x ≡ y = cc in ap Ok (sym same) ∙ ap (λ gs. unless_faulty gs x) (sym none)
read_is (Err f) [] x is = absurd (cc)
read_is (Err f) (g ∷ fs) x is = cc

pub settled_reads : {T : Type 0} (result : Result T Refused) (fs : List Fault) (t : T) → Returns result (unless_faulty fs t) → ReadsAs (λ it. it) result fs t
settled_reads (Ok u) [] t is =
    let same : t ≡ u = cc in (refl, sym same)
settled_reads (Ok u) (f ∷ fs) t is = absurd (cc)
settled_reads (Err (refused.Fault f)) [] t is = absurd (cc)
settled_reads (Err (refused.Fault f)) (g ∷ fs) t is = cc
settled_reads (Err refused.NoMemory) fs t is = tt

pub first_stays : (fs gs : List Fault) (f : Fault) → first_of fs ≡ Some f → first_of (fs ++ gs) ≡ Some f
first_stays [] gs f is = absurd (cc)
first_stays (g ∷ fs) gs f is = is

-- one thing after another: the faults of the first come first
pub then_read : {X Y : Type 0} (r : Result X Fault) (fs gs : List Fault) (v : Option X) (w : Option Y) (next : X → Result Y Fault) → IsRead r fs v → ((x : X) → v ≡ Some x → IsRead (next x) gs w) → IsRead (and_then r next) (fs ++ gs) w
then_read (Ok x) fs gs v w next (none, is) more = subst (λ it. IsRead (next x) (it ++ gs) w) (sym none) (more x is)
then_read (Err f) fs gs v w next is more = first_stays fs gs f is

pub map_read : {X Y : Type 0} (r : Result X Fault) (fs : List Fault) (v : Option X) (w : Option Y) (g : X → Y) → IsRead r fs v → ((x : X) → v ≡ Some x → w ≡ Some (g x)) → IsRead (ok_then g r) fs w
map_read (Ok x) fs v w g (none, is) same = (none, same x is)
map_read (Err f) fs v w g is same = is

pub guarded : {X : Type 0} (b : Bool) (f : Fault) (r : Result X Fault) (fs : List Fault) (v : Option X) → IsRead r fs v → IsRead (if b then Err f else r) (unless (not b) f ++ fs) v
guarded true f r fs v is = refl
guarded false f r fs v is = is

pub types_read : (types : List SlotType) (ts : Trees) → IsRead (types_after types ts) (types_faults ts) (Some (types_listed types ts))
types_read types no_trees = (refl, refl)
types_read types (tree t ts) = by (symbol_of t) (λ more. types_read more ts)
  where
    named : (k : Option SlotType) → ((more : List SlotType) → IsRead (types_after more ts) (types_faults ts) (Some (types_listed more ts))) → IsRead (and_then (ok_or k NotInProfile) (λ more. types_after (with_type types more) ts)) (unless (is_some k) NotInProfile ++ types_faults ts) (Some (types_listed (option_map_or (with_type types) k types) ts))
    named None others = refl
    named (Some k) others = others (with_type types k)

    by : (o : Option (List ℕ)) → ((more : List SlotType) → IsRead (types_after more ts) (types_faults ts) (Some (types_listed more ts))) → IsRead (and_then (type_by o) (λ more. types_after (with_type types more) ts)) (type_name_faults o ++ types_faults ts) (Some (types_listed (option_map_or (with_type types) (option_flatten (option_map type_named o)) types) ts))
    by None others = refl
    by (Some name) others = named (type_named name) others

pub type_read : (ts : Trees) → IsRead (types_of ts) (type_attribute_faults ts) (Some (types_said ts))
type_read ts = by (is_variable (codes "VARIABLE") ts) ts
  where
    by : (b : Bool) (us : Trees) → IsRead (if b then Ok None else some_types us) (if b then [] else unless (not (is_no_form us)) MalformedForm ++ types_faults us) (Some (if b then None else Some (types_listed [] us)))
    by true us = (refl, refl)
    by false no_trees = refl
    by false (tree t us) = map_read (types_after [] (tree t us)) (types_faults (tree t us)) (Some (types_listed [] (tree t us))) (Some (Some (types_listed [] (tree t us)))) Some (types_read [] (tree t us)) (λ x is. ap Some is)

constant_read : (t : Tree) → IsRead (default_constant t) (constant_faults t) (constant_in t)
constant_read (atom t) = by (constant_of t)
  where
    by : (o : Option Value) → IsRead (ok_or o (no_constant t)) (unless (is_some o) (no_constant t)) o
    by None = refl
    by (Some v) = (refl, refl)
constant_read (branch ts) = refl

both_read : (r : Result Value Fault) (rs : Result (List Value) Fault) (fs gs : List Fault) (v : Option Value) (vs : List Value) → IsRead r fs v → IsRead rs gs (Some vs) → IsRead (with_first r rs) (fs ++ gs) (Some (option_map_or (λ x. x ∷ vs) v vs))
both_read (Err f) rs fs gs v vs is are = first_stays fs gs f is
both_read (Ok x) (Err f) fs gs v vs (none, is) are = subst (λ it. first_of (it ++ gs) ≡ Some f) (sym none) are
both_read (Ok x) (Ok xs) fs gs v vs (none, is) (no_more, are) =
    let same : vs ≡ xs = cc in
    (ap₂ (λ a b. a ++ b) none no_more, ap (λ o. Some (option_map_or (λ y. y ∷ vs) o vs)) is ∙ ap (λ it. Some (x ∷ it)) same)

constants_read : (ts : Trees) → IsRead (default_constants ts) (constants_faults ts) (Some (constants_listed ts))
constants_read no_trees = (refl, refl)
constants_read (tree t ts) = both_read (default_constant t) (default_constants ts) (constant_faults t) (constants_faults ts) (constant_in t) (constants_listed ts) (constant_read t) (constants_read ts)

one_read : (ts : Trees) → IsRead (one_default ts) (unless (is_one_form ts) MalformedForm ++ constants_faults ts) (default_by (constants_listed ts))
one_read no_trees = refl
one_read (tree t no_trees) = subst (λ fs. IsRead (ok_then Fixed (default_constant t)) fs (default_by (option_map_or (λ v. v ∷ []) (constant_in t) []))) (sym (append-nil (constant_faults t))) (map_read (default_constant t) (constant_faults t) (constant_in t) (default_by (option_map_or (λ v. v ∷ []) (constant_in t) [])) Fixed (constant_read t) (λ x is. ap (λ o. default_by (option_map_or (λ v. v ∷ []) o [])) is))
one_read (tree t (tree u ts)) = refl

pub default_read : (is_multi : Bool) (ts : Trees) → IsRead (default_of is_multi ts) (default_attribute_faults is_multi ts) (default_said is_multi ts)
default_read is_multi ts = by (is_variable (codes "NONE") ts) (is_variable (codes "DERIVE") ts) is_multi
  where
    by : (none derive multi : Bool) → IsRead (if none then Ok Required else (if derive then Ok Derived else (if multi then multi_default ts else one_default ts))) (if none || derive then [] else unless (multi || is_one_form ts) MalformedForm ++ constants_faults ts) (if none then Some Required else (if derive then Some Derived else (if multi then Some (Fixed (value.Multi (spliced (constants_listed ts)))) else default_by (constants_listed ts))))
    by true derive multi = (refl, refl)
    by false true multi = (refl, refl)
    by false false true = map_read (default_constants ts) (constants_faults ts) (Some (constants_listed ts)) (Some (Fixed (value.Multi (spliced (constants_listed ts))))) (λ vs. Fixed (value.Multi (spliced vs))) (constants_read ts) (λ vs is. ap (λ o. option_map_or (λ us. Some (Fixed (value.Multi (spliced us)))) o None) is)
    by false false false = one_read ts
