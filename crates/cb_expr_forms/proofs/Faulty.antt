-- A part that has a fault.
use Rattle.std.proofs.Common.{◌≡◌, ◌≤◌, ◌<◌, ◌+◌, ◌∙◌, ℕ, suc, zero, List, [], ◌∷◌, Some, Err, arith, drop, get_or, length, sym, ap}
use Rattle.std.proofs.lemmas.List.{at_drop_more}
use Rattle.cb_expr_forms.specs.ExprFaults.{change_faults, changes_faults, slot_faults, slots_faults}
use Rattle.cb_facts.specs.FaultLists.{ReadsAs, first_of}
use Rattle.cb_expr_forms.specs.Scopes.{Scope}
use Rattle.cb_expr_forms.specs.Internal.Sizes.{tree_size, trees_size}
use Rattle.cb_facts.specs.Results.{Reports}
use Rattle.cb_facts.specs.declared.refused.Refused.{Refused}
use Rattle.cb_facts.specs.declared.refused.Refused.TheVariants as refused
use Rattle.cb_forms.specs.Members.{members}
use Rattle.cb_forms.specs.Trees.{tree_of}
use Rattle.cb_forms.specs.declared.fault.Fault.{Fault}
use Rattle.cb_forms.specs.declared.form.Form.{Form}
use Rattle.cb_templates.specs.Slots.{SlotShape}
use Rattle.cb_facts.proofs.FirstFaults.{first_append}

-- its first fault is the first of the whole
pub fails_told : {U W : Type 0} (other : U → W) (w : W) (r : Refused) (P : Fault → Type 0) (gs : List Fault) → ((f : Fault) → P f → first_of gs ≡ Some f) → Reports r P → ReadsAs other (Err r) gs w
fails_told other w (refused.Fault f) P gs same h = same f h
fails_told other w refused.NoMemory P gs same h = tt

-- a member of a list is no larger than the list
pub item_fits : (fs : List Form) (i : ℕ) (f : Form) → i < length fs → get_or fs i f ≡ f → tree_size (tree_of f) ≤ trees_size (members fs)
item_fits [] i f within is = absurd (omega arith)
item_fits (x ∷ fs) zero f within is = let same : tree_size (tree_of x) ≡ tree_size (tree_of f) = ap (λ it. tree_size (tree_of it)) is in omega arith
item_fits (x ∷ fs) (suc i) f within is = let rest = item_fits fs i f (omega arith) is in omega arith

-- the next of the slots that a fact gives
pub next_slot : (s : Scope) (slots : List SlotShape) (given : List (List ℕ)) (forms : List Form) (i : ℕ) (form : Form) (f : Fault)
    → i < length forms → get_or forms i form ≡ form → slots_faults s slots given (members (drop i forms)) ≡ slots_faults s slots [] (members forms)
    → first_of (slot_faults s slots given (tree_of form)) ≡ Some f → first_of (slots_faults s slots [] (members forms)) ≡ Some f
next_slot s slots given forms i form f within is inv h =
    ap first_of (sym inv ∙ at_drop_more (λ fs. slots_faults s slots given (members fs)) forms i form within ∙ ap (λ it. slots_faults s slots given (members (it ∷ drop (i + 1) forms))) is)
    ∙ first_append (slot_faults s slots given (tree_of form)) _ f h

-- the next of the slots that a `modify` names
pub next_change : (s : Scope) (given first : List (List ℕ)) (forms : List Form) (i : ℕ) (form : Form) (f : Fault)
    → i < length forms → get_or forms i form ≡ form → changes_faults s given (members (drop i forms)) ≡ changes_faults s first (members forms)
    → first_of (change_faults s given (tree_of form)) ≡ Some f → first_of (changes_faults s first (members forms)) ≡ Some f
next_change s given first forms i form f within is inv h =
    ap first_of (sym inv ∙ at_drop_more (λ fs. changes_faults s given (members fs)) forms i form within ∙ ap (λ it. changes_faults s given (members (it ∷ drop (i + 1) forms))) is)
    ∙ first_append (change_faults s given (tree_of form)) _ f h
