-- What of a form is read next.
use Rattle.std.proofs.Common.{◌≡◌, ◌∙◌, ◌++◌, ℕ, Bool, true, false, not, List, [], ◌∷◌, Option, Some, None, Result, Ok, Err, arith, refl, sym, ap, ap₂, subst, if◌then◌else◌}
use Rattle.std.proofs.lemmas.Slice.Eq.{bytes_eq-Decides}
use Rattle.std.specs.Prelude.{MatchResult}
use Rattle.std.specs.List.{list_all}
use Rattle.std.specs.Str.{bytes_eq}
use Rattle.cb_expr_forms.specs.ExprFaults.{given_slot_faults, type_faults, values_faults}
use Rattle.cb_expr_forms.specs.ExprForms.{slot_expr, exprs_of}
use Rattle.cb_facts.specs.FaultLists.{first_of, unless}
use Rattle.cb_expr_forms.specs.Internal.{IsChange, IsChangeFault, IsFact, IsSlot, IsSlotFault, IsFilling, IsFillingFault, content_by}
use Rattle.cb_expr_forms.specs.Scopes.{is_known}
use Rattle.cb_expr_forms.specs.declared.slot_form.SlotForm.{SlotForm}
use Rattle.cb_expr_forms.proofs.Heads.{called}
use Rattle.cb_exprs.specs.Terms.{Term, constant}
use Rattle.cb_facts.specs.Results.{Reports}
use Rattle.cb_facts.specs.Values.{fields_in}
use Rattle.cb_facts.specs.declared.refused.Refused.{Refused}
use Rattle.cb_facts.specs.declared.refused.Refused.TheVariants as refused
use Rattle.cb_facts.specs.declared.single.Single.{Single}
use Rattle.cb_forms.specs.Members.{call_of}
use Rattle.cb_forms.specs.Trees.{Tree, branch, Trees, tree, atom}
use Rattle.cb_forms.specs.declared.fault.Fault.TheVariants.{FactDoesNotFit, ValueNotAllowed}
use Rattle.cb_forms.specs.declared.token.Token.TheVariants as token
use Rattle.cb_words.specs.Reserved.{is_reserved}
use Rattle.cb_templates.specs.Slots.{SlotShape, allows, slot_named}

-- a fact of a relation
pub is_fact : (t : Tree) (relation : List ℕ) (ts : Trees) → call_of t ≡ Some (relation, ts) → is_reserved relation ≡ false → IsFact t relation ts
is_fact t relation ts h free =
    let there : IsFact (branch (tree (atom (token.Symbol relation)) ts)) relation ts = record {
      fact_is = λ templates. refl;
      faults_are = λ s. ap (λ b. unless (not b) FactDoesNotFit ++ content_by s relation ts) free;
      smaller = omega arith;
    } in
    subst (λ it. IsFact it relation ts) (sym (called t relation ts h)) there

found_so : (b : Bool) (r s : SlotShape) (o : Option SlotShape) (name : List ℕ) → (if b then Some r else o) ≡ Some s → (b ≡ true → r.name ≡ name) → (o ≡ Some s → s.name ≡ name) → s.name ≡ name
found_so true r s o name h here next = let same : r ≡ s = cc in sym (ap (λ it. it.name) same) ∙ here refl
found_so false r s o name h here next = next h

named_so : (slots : List SlotShape) (name : List ℕ) (s : SlotShape) → slot_named slots name ≡ Some s → s.name ≡ name
named_so [] name s h = absurd (cc)
named_so (r ∷ slots) name s h = found_so (bytes_eq r.name name) r s (slot_named slots name) name h (λ e. (bytes_eq-Decides r.name name).0 e) (λ g. named_so slots name s g)

-- a slot that the template has, with its values
pub is_slot : (slots : List SlotShape) (given : List (List ℕ)) (t : Tree) (name : List ℕ) (ts : Trees) (slot : SlotShape) (is_given : Bool) (r : Result SlotForm Refused)
    → call_of t ≡ Some (name, ts) → slot_named slots name ≡ Some slot → is_given ≡ is_known given slot.name
    → MatchResult r (IsFilling slot is_given ts) (λ e. Reports e (IsFillingFault slot is_given ts)) → MatchResult r (IsSlot slots given t) (λ e. Reports e (IsSlotFault slots given t))
is_slot slots given t name ts slot is_given (Ok c) h has known filling =
    let same : slot.name ≡ name = named_so slots name slot has in
    let so : is_known given name ≡ is_given = ap (is_known given) (sym same) ∙ sym known in
    let there : IsSlot slots given (branch (tree (atom (token.Symbol name)) ts)) c = record {
      name_is = sym same ∙ sym filling.slot_is;
      expr_is = λ templates. ap (λ o. slot_expr o (exprs_of templates ts)) has ∙ filling.expr_is templates;
      faults_are = λ s. ap₂ (λ o b. given_slot_faults o b ts (λ types. values_faults s types ts)) has so ∙ filling.faults_are s;
      smaller = let less = filling.smaller in omega arith;
    } in
    subst (λ it. IsSlot slots given it c) (sym (called t name ts h)) there
is_slot slots given t name ts slot is_given (Err (refused.Fault f)) h has known filling =
    let same : slot.name ≡ name = named_so slots name slot has in
    let so : is_known given name ≡ is_given = ap (is_known given) (sym same) ∙ sym known in
    let there : IsSlotFault slots given (branch (tree (atom (token.Symbol name)) ts)) f =
    λ s. ap₂ (λ o b. first_of (given_slot_faults o b ts (λ types. values_faults s types ts))) has so ∙ filling s in
    subst (λ it. IsSlotFault slots given it f) (sym (called t name ts h)) there
is_slot slots given t name ts slot is_given (Err refused.NoMemory) h has known filling = tt

-- a slot that a `modify` names
pub is_change : (given : List (List ℕ)) (t : Tree) (name : List ℕ) (ts : Trees) → call_of t ≡ Some (name, ts) → is_known given name ≡ false → IsChange given t name ts
is_change given t name ts h new =
    let there : IsChange given (branch (tree (atom (token.Symbol name)) ts)) name ts = record {
      name_is = refl;
      count_is = refl;
      exprs_are = λ templates. refl;
      faults_are = λ s. ap (λ b. unless (not b) FactDoesNotFit ++ values_faults s None ts) new;
      smaller = omega arith;
    } in
    subst (λ it. IsChange given it name ts) (sym (called t name ts h)) there

pub is_change_fault : (given : List (List ℕ)) (t : Tree) (name : List ℕ) (ts : Trees) → call_of t ≡ Some (name, ts) → is_known given name ≡ true → IsChangeFault given t FactDoesNotFit
is_change_fault given t name ts h known =
    let there : IsChangeFault given (branch (tree (atom (token.Symbol name)) ts)) FactDoesNotFit = λ s. ap (λ b. first_of (unless (not b) FactDoesNotFit ++ values_faults s None ts)) known in
    subst (λ it. IsChangeFault given it FactDoesNotFit) (sym (called t name ts h)) there

any_field : (fields : List Single) → list_all (allows None) fields ≡ true
any_field [] = refl
any_field (f ∷ fields) = any_field fields

-- a field of an ordered fact may be of any type
pub any_type : (t : Term) → type_faults None t ≡ []
any_type (constant v) = ap (λ b. unless b ValueNotAllowed) (any_field (fields_in v))
any_type t = refl
