-- Slots that are read one after another.
use Rattle.std.proofs.Common.{◌≡◌, ◌<◌, ◌+◌, ◌∙◌, ◌++◌, ℕ, suc, Bool, true, false, List, [], ◌∷◌, Option, Some, None, drop, get_or, length, option_map, refl, sym, ap, append_assoc, if◌then◌else◌}
use Rattle.std.proofs.lemmas.List.{at_drop_more}
use Rattle.std.specs.Str.{bytes_eq}
use Rattle.cb_constraints.specs.PatternValues.{SlotValue}
use Rattle.cb_expr_forms.specs.ExprForms.{slot_name}
use Rattle.cb_expr_forms.specs.Scopes.{Scope}
use Rattle.cb_forms.specs.Members.{members}
use Rattle.cb_forms.specs.Trees.{Tree, atom, branch, no_trees, tree, tree_of}
use Rattle.cb_forms.specs.declared.form.Form.{Form}
use Rattle.cb_forms.specs.declared.token.Token.TheVariants as token
use Rattle.cb_rule_forms.specs.PatternFaults.{pattern_slot_faults, pattern_slots_faults}
use Rattle.cb_rule_forms.specs.Patterns.{slot_in, slots_in}
use Rattle.cb_facts.specs.Places.{place_in}
use Rattle.cb_templates.specs.Slots.{SlotShape, names, slot_named}
use Rattle.cb_templates.specs.Templates.{Templates}

unplaced_by : (t : Bool) (s : SlotShape) (p : Option ℕ) (r : Option SlotShape) → (p ≡ None → r ≡ None) → (if t then Some 0 else option_map suc p) ≡ None → (if t then Some s else r) ≡ None
unplaced_by true s p r next h = absurd (cc)
unplaced_by false s None r next h = next refl
unplaced_by false s (Some i) r next h = absurd (cc)

-- a slot without a place is none
pub unplaced : (slots : List SlotShape) (name : List ℕ) → place_in (names slots) name ≡ None → slot_named slots name ≡ None
unplaced [] name h = refl
unplaced (s ∷ slots) name h = unplaced_by (bytes_eq s.name name) s (place_in (names slots) name) (slot_named slots name) (unplaced slots name) h

same_name : (templates : Templates) (slots : List SlotShape) (t : Tree) → (slot_in templates slots t).name ≡ slot_name t
same_name templates slots (atom k) = refl
same_name templates slots (branch no_trees) = refl
same_name templates slots (branch (tree (branch vs) ts)) = refl
same_name templates slots (branch (tree (atom (token.Symbol bytes)) ts)) = refl
same_name templates slots (branch (tree (atom (token.Str bytes)) ts)) = refl
same_name templates slots (branch (tree (atom (token.Int n)) ts)) = refl
same_name templates slots (branch (tree (atom (token.Var x)) ts)) = refl
same_name templates slots (branch (tree (atom (token.MultiVar x)) ts)) = refl
same_name templates slots (branch (tree (atom token.Any) ts)) = refl
same_name templates slots (branch (tree (atom token.MultiAny) ts)) = refl
same_name templates slots (branch (tree (atom (token.Global x)) ts)) = refl
same_name templates slots (branch (tree (atom token.And) ts)) = refl
same_name templates slots (branch (tree (atom token.Or) ts)) = refl
same_name templates slots (branch (tree (atom token.Not) ts)) = refl

-- the faults after one slot more
pub next_faults : (s : Scope) (slots : List SlotShape) (given given' : List (List ℕ)) (forms : List Form) (i : ℕ) (form : Form) (slot : SlotValue)
    → i < length forms → get_or forms i form ≡ form → pattern_slots_faults s slots given (members (drop i forms)) ≡ pattern_slots_faults s slots [] (members forms)
    → pattern_slot_faults s slots given (tree_of form) ≡ [] → slot ≡ slot_in s.templates slots (tree_of form) → given' ≡ given ++ slot.name ∷ []
    → pattern_slots_faults s slots given' (members (drop (i + 1) forms)) ≡ pattern_slots_faults s slots [] (members forms)
next_faults s slots given given' forms i form slot within is inv none is_slot is_given =
    let t = tree_of form in
    let rest = members (drop (i + 1) forms) in
    ap (λ g. pattern_slots_faults s slots g rest) (is_given ∙ ap (λ n. given ++ n ∷ []) (ap (λ (v : SlotValue). v.name) is_slot ∙ same_name s.templates slots t))
    ∙ sym (ap (λ fs. fs ++ pattern_slots_faults s slots (given ++ slot_name t ∷ []) rest) none)
    ∙ sym (at_drop_more (λ fs. pattern_slots_faults s slots given (members fs)) forms i form within ∙ ap (λ it. pattern_slots_faults s slots given (members (it ∷ drop (i + 1) forms))) is)
    ∙ inv

-- the slots after one slot more
pub next_values : (templates : Templates) (slots : List SlotShape) (forms : List Form) (i : ℕ) (form : Form) (slot : SlotValue) (those grown all : List SlotValue)
    → i < length forms → get_or forms i form ≡ form → grown ≡ those ++ slot ∷ [] → slot ≡ slot_in templates slots (tree_of form)
    → those ++ slots_in templates slots (members (drop i forms)) ≡ all → grown ++ slots_in templates slots (members (drop (i + 1) forms)) ≡ all
next_values templates slots forms i form slot those grown all within is is_grown is_slot inv =
    let rest = slots_in templates slots (members (drop (i + 1) forms)) in
    ap (λ them. them ++ rest) is_grown ∙ append_assoc those (slot ∷ []) rest ∙ ap (λ v. those ++ v ∷ rest) is_slot
    ∙ sym (ap (λ them. those ++ them) (at_drop_more (λ fs. slots_in templates slots (members fs)) forms i form within ∙ ap (λ it. slots_in templates slots (members (it ∷ drop (i + 1) forms))) is))
    ∙ inv
