-- The slots of a template, read each by itself.
use Rattle.std.proofs.Common.{◌≡◌, ◌↔◌, ◌∙◌, ◌++◌, ℕ, Bool, true, false, List, [], ◌∷◌, Option, Some, None, Result, Ok, Err, codes, is_some, refl, sym, ap, subst, append_assoc, append-nil, if◌then◌else◌}
use Rattle.std.proofs.lemmas.Map.Keys.{IsDistinct-head, IsDistinct-tail}
use Rattle.std.specs.Cmp.Lexicographic.{bytes_decides}
use Rattle.std.specs.List.{AllByRecursion, IsDistinct}
use Rattle.std.specs.Str.{bytes_eq}
use Rattle.cb_facts.specs.Results.{and_then}
use Rattle.cb_forms.specs.Members.{call_of, head_and_rest}
use Rattle.cb_forms.specs.Trees.{Tree, Trees, atom, branch, no_trees, tree}
use Rattle.cb_forms.specs.declared.fault.Fault.{Fault}
use Rattle.cb_forms.specs.declared.fault.Fault.TheVariants.{MalformedForm}
use Rattle.cb_forms.specs.declared.token.Token.TheVariants as token
use Rattle.cb_templates.specs.Internal.{attributes_after, finished, no_attributes, slot_by, slot_defined, slots_after}
use Rattle.cb_templates.specs.Slots.{SlotShape, names, slot_named}
use Rattle.cb_templates.proofs.SlotLaws.{slots_differ}

-- each form by itself is this slot, with no other slot before it
abbrev pub AreSlots : Trees → List SlotShape → Type 0
AreSlots no_trees [] = Unit {0}
AreSlots no_trees (s ∷ slots) = ⊥
AreSlots (tree t ts) [] = ⊥
AreSlots (tree t ts) (s ∷ slots) = (slot_by [] (call_of t) ≡ Ok s) × AreSlots ts slots

-- no slot before has the name
abbrev IsNew : List SlotShape → List ℕ → Type 0
IsNew before name = slot_named before name ≡ None

-- A slot that is read has the name that is written: else it could be read again after itself, and two slots would have one name.
twice : (s : SlotShape) → IsDistinct bytes_eq (s.name ∷ s.name ∷ []) → ⊥
twice s apart =
    let differs : bytes_eq s.name s.name ≡ false = (IsDistinct-head bytes_eq s.name (s.name ∷ []) apart).0 in
    let same : bytes_eq s.name s.name ≡ true = (bytes_decides s.name s.name).1 refl in
    cc

abbrev form_of : List ℕ → List ℕ → Trees → Tree
form_of head name ts = branch (tree (atom (token.Symbol head)) (tree (atom (token.Symbol name)) ts))

named_form : (head name : List ℕ) (ts : Trees) (s : SlotShape) → slot_by [] (Some (head, tree (atom (token.Symbol name)) ts)) ≡ Ok s
    → (slot_named (s ∷ []) name ≡ None → slot_by (s ∷ []) (Some (head, tree (atom (token.Symbol name)) ts)) ≡ Ok s) → s.name ≡ name
named_form head name ts s h again = by (bytes_eq s.name name) refl
  where
    by : (t : Bool) → bytes_eq s.name name ≡ t → s.name ≡ name
    by true e = (bytes_decides s.name name).0 e
    by false e =
        let other : slot_named (s ∷ []) name ≡ None = ap (λ t. if t then Some s else None) e in
        let first : and_then (slot_by [] (call_of (form_of head name ts))) (λ x. slots_after (x ∷ []) (tree (form_of head name ts) no_trees)) ≡ slots_after (s ∷ []) (tree (form_of head name ts) no_trees) =
        ap (λ r. and_then r (λ x. slots_after (x ∷ []) (tree (form_of head name ts) no_trees))) h in
        let second : and_then (slot_by (s ∷ []) (call_of (form_of head name ts))) (λ x. slots_after (s ∷ x ∷ []) no_trees) ≡ Ok (s ∷ s ∷ []) =
        ap (λ r. and_then r (λ x. slots_after (s ∷ x ∷ []) no_trees)) (again other) in
        absurd (twice s (slots_differ (tree (form_of head name ts) (tree (form_of head name ts) no_trees)) (s ∷ s ∷ []) (first ∙ second)))

-- what a name and attributes say, where no slot before has the name
abbrev said : Bool → List ℕ → Trees → Result SlotShape Fault
said m name ts = and_then (attributes_after m no_attributes ts) (finished name m)

again_if : (m : Bool) (name : List ℕ) (ts : Trees) (s : SlotShape) → said m name ts ≡ Ok s → slot_named (s ∷ []) name ≡ None
    → (if is_some (slot_named (s ∷ []) name) then Err MalformedForm else said m name ts) ≡ Ok s
again_if m name ts s h none = ap (λ o. if is_some o then Err MalformedForm else said m name ts) none ∙ h

named : (name : List ℕ) (m : Bool) (ts : Trees) (s : SlotShape) → said m name ts ≡ Ok s → s.name ≡ name
named name false ts s h = named_form (codes "slot") name ts s h (again_if false name ts s h)
named name true ts s h = named_form (codes "multislot") name ts s h (again_if true name ts s h)

-- A slot after others is one by itself with a name that none of them has.
module _ (before : List SlotShape) (s : SlotShape) where
  alone_by : (m : Bool) (name : List ℕ) (ts : Trees) (o : Option SlotShape) → slot_named before name ≡ o
      → (if is_some o then Err MalformedForm else and_then (attributes_after m no_attributes ts) (finished name m)) ≡ Ok s → (slot_defined [] m (Some (name, ts)) ≡ Ok s) × IsNew before s.name
  alone_by m name ts None e h = (h, ap (slot_named before) (named name m ts s h) ∙ e)
  alone_by m name ts (Some x) e h = absurd (cc)

  alone_defined : (m : Bool) (call : Option (List ℕ × Trees)) → slot_defined before m call ≡ Ok s → (slot_defined [] m call ≡ Ok s) × IsNew before s.name
  alone_defined m None h = absurd (cc)
  alone_defined m (Some (name, ts)) h = alone_by m name ts (slot_named before name) refl h

  alone_if : (head : List ℕ) (ts : Trees) (t u : Bool)
      → (if t then slot_defined before false (head_and_rest ts) else (if u then slot_defined before true (head_and_rest ts) else Err MalformedForm)) ≡ Ok s
      → ((if t then slot_defined [] false (head_and_rest ts) else (if u then slot_defined [] true (head_and_rest ts) else Err MalformedForm)) ≡ Ok s) × IsNew before s.name
  alone_if head ts true u h = alone_defined false (head_and_rest ts) h
  alone_if head ts false true h = alone_defined true (head_and_rest ts) h
  alone_if head ts false false h = absurd (cc)

  alone : (call : Option (List ℕ × Trees)) → slot_by before call ≡ Ok s → (slot_by [] call ≡ Ok s) × IsNew before s.name
  alone None h = absurd (cc)
  alone (Some (head, ts)) h = alone_if head ts (bytes_eq head (codes "slot")) (bytes_eq head (codes "multislot")) h

  after_defined : (m : Bool) (call : Option (List ℕ × Trees)) → IsNew before s.name → slot_defined [] m call ≡ Ok s → slot_defined before m call ≡ Ok s
  after_defined m None new h = absurd (cc)
  after_defined m (Some (name, ts)) new h =
      let is_new : slot_named before name ≡ None = sym (ap (slot_named before) (named name m ts s h)) ∙ new in
      ap (λ o. if is_some o then Err MalformedForm else and_then (attributes_after m no_attributes ts) (finished name m)) is_new ∙ h

  after_if : (ts : Trees) (t u : Bool) → IsNew before s.name
      → (if t then slot_defined [] false (head_and_rest ts) else (if u then slot_defined [] true (head_and_rest ts) else Err MalformedForm)) ≡ Ok s
      → (if t then slot_defined before false (head_and_rest ts) else (if u then slot_defined before true (head_and_rest ts) else Err MalformedForm)) ≡ Ok s
  after_if ts true u new h = after_defined false (head_and_rest ts) new h
  after_if ts false true new h = after_defined true (head_and_rest ts) new h
  after_if ts false false new h = absurd (cc)

  after_others : (call : Option (List ℕ × Trees)) → IsNew before s.name → slot_by [] call ≡ Ok s → slot_by before call ≡ Ok s
  after_others None new h = absurd (cc)
  after_others (Some (head, ts)) new h = after_if ts (bytes_eq head (codes "slot")) (bytes_eq head (codes "multislot")) new h

-- slots that are read after others, and each by itself
pub record Reads (before : List SlotShape) (forms : Trees) (slots : List SlotShape) : Type 0 where
  pub more : List SlotShape
  pub each : AreSlots forms more
  pub is : before ++ more ≡ slots

reads : (forms : Trees) (before slots : List SlotShape) → slots_after before forms ≡ Ok slots → Reads before forms slots
reads no_trees before slots h =
    let same : before ≡ slots = cc in
    record { more = []; each = tt; is = append-nil before ∙ same }
reads (tree t ts) before slots h = by (slot_by before (call_of t)) refl h (λ s. reads ts (before ++ s ∷ []) slots)
  where
    by : (r : Result SlotShape Fault) → slot_by before (call_of t) ≡ r → and_then r (λ s. slots_after (before ++ s ∷ []) ts) ≡ Ok slots
        → ((s : SlotShape) → slots_after (before ++ s ∷ []) ts ≡ Ok slots → Reads (before ++ s ∷ []) ts slots) → Reads before (tree t ts) slots
    by (Err f) e is more = absurd (cc)
    by (Ok s) e is more =
        let others = more s is in
        record { more = s ∷ others.more; each = ((alone before s (call_of t) e).0, others.each); is = sym (append_assoc before (s ∷ []) others.more) ∙ others.is }

-- of slots with different names, each is new after those before it
at_place : (P : List ℕ → Type 0) (before after : List SlotShape) (s : SlotShape) → AllByRecursion P (names (before ++ s ∷ after)) → P s.name
at_place P [] after s h = h.0
at_place P (b ∷ before) after s h = at_place P before after s h.1

new_after : (before after : List SlotShape) (s : SlotShape) → IsDistinct bytes_eq (names (before ++ s ∷ after)) → IsNew before s.name
new_after [] after s h = refl
new_after (b ∷ before) after s h =
    let differs : bytes_eq b.name s.name ≡ false = at_place (λ n. bytes_eq b.name n ≡ false) before after s (IsDistinct-head bytes_eq b.name (names (before ++ s ∷ after)) h) in
    ap (λ t. if t then Some b else slot_named before s.name) differs ∙ new_after before after s (IsDistinct-tail bytes_eq b.name (names (before ++ s ∷ after)) h)

accepted : (forms : Trees) (before more : List SlotShape) → AreSlots forms more → IsDistinct bytes_eq (names (before ++ more)) → slots_after before forms ≡ Ok (before ++ more)
accepted no_trees before [] each apart = ap Ok (sym (append-nil before))
accepted no_trees before (s ∷ more) each apart = absurd each
accepted (tree t ts) before [] each apart = absurd each
accepted (tree t ts) before (s ∷ more) each apart =
    let one : slot_by before (call_of t) ≡ Ok s = after_others before s (call_of t) (new_after before more s apart) each.0 in
    let same : (before ++ s ∷ []) ++ more ≡ before ++ s ∷ more = append_assoc before (s ∷ []) more in
    ap (λ r. and_then r (λ x. slots_after (before ++ x ∷ []) ts)) one
    ∙ accepted ts (before ++ s ∷ []) more each.1 (subst (λ them. IsDistinct bytes_eq (names them)) (sym same) apart)
    ∙ ap Ok same

pub each_slot : (forms : Trees) (slots : List SlotShape) → (slots_after [] forms ≡ Ok slots) ↔ (AreSlots forms slots × IsDistinct bytes_eq (names slots))
each_slot forms slots = (λ h. let them = reads forms [] slots h in (subst (AreSlots forms) them.is them.each, slots_differ forms slots h), λ h. accepted forms [] slots h.0 h.1)
