-- Facts that have no fault, by their fields or slots; slots in another order.
use Rattle.std.proofs.Common.{◌≡◌, ◌↔◌, ◌∙◌, ◌||◌, ◌&&◌, ◌++◌, ℕ, Bool, true, false, not, List, [], ◌∷◌, Option, Some, None, map, is_some, append-nil, append_assoc, refl, sym, ap, ap₂, subst}
use Rattle.std.proofs.lemmas.Cmp.{nat_list_eq_equiv}
use Rattle.std.proofs.lemmas.List.Elements.{All-cons, All-head, All-nil, All-tail}
use Rattle.std.proofs.lemmas.List.Sorted.{All-permutation, IsPermutation-map, list_any-IsPermutation}
use Rattle.std.proofs.lemmas.Map.Keys.{IsDistinct-IsPermutation, IsDistinct-head, IsDistinct-push, IsDistinct-tail}
use Rattle.std.specs.Prelude.{IsPermutation}
use Rattle.std.specs.List.{All, AllByRecursion, IsDistinct}
use Rattle.std.specs.Str.{bytes_eq}
use Rattle.cb_expr_forms.specs.ExprFaults.{are_filled, content_faults, fact_faults, given_slot_faults, slot_faults, slots_faults, values_faults}
use Rattle.cb_expr_forms.specs.ExprForms.{exprs_of, fact_of, fact_with, given_slot, slot_exprs, slot_name, slot_names}
use Rattle.cb_facts.specs.FaultLists.{first_of, unless}
use Rattle.cb_expr_forms.specs.Laws.{AreFaultless, AreRight, GiveSlots, GiveTheSame, NoListAfterEquals, fact_giving, followed_by, list_of}
use Rattle.cb_expr_forms.specs.Scopes.{Scope, is_known}
use Rattle.cb_expr_forms.proofs.Heads.{called, unslotted_faults}
use Rattle.cb_expr_forms.proofs.Known.{same_words, turned}
use Rattle.cb_expr_forms.proofs.RightLaws.{both_none, holds_not, fields_right, holds, none_both, right_fields}
use Rattle.cb_exprs.specs.Terms.{Term}
use Rattle.cb_forms.specs.Members.{call_of}
use Rattle.cb_forms.specs.Trees.{Tree, Trees, no_trees, tree, trees_of}
use Rattle.cb_forms.specs.declared.fault.Fault.{Fault}
use Rattle.cb_forms.specs.declared.fault.Fault.TheVariants.{FactDoesNotFit}
use Rattle.cb_words.specs.Reserved.{is_reserved}
use Rattle.cb_templates.specs.Slots.{SlotShape, Types, slot_named}
use Rattle.cb_templates.specs.Templates.{Templates, slots_of}
use Rattle.cb_facts.proofs.FirstFaults.{first_append}

-- what is wrong with a fact after its relation, by the template that is known
abbrev after_relation : Scope → Option (List SlotShape) → Trees → List Fault
after_relation s known ts = content_faults known (values_faults s None ts) (λ slots. slots_faults s slots [] ts)

by_template : (s : Scope) (relation : List ℕ) (ts : Trees) (known : Option (List SlotShape)) → slots_of s.templates relation ≡ known
    → fact_faults s (list_of relation ts) ≡ unless (not (is_reserved relation)) FactDoesNotFit ++ after_relation s known ts
by_template s relation ts known h = ap (λ o. unless (not (is_reserved relation)) FactDoesNotFit ++ after_relation s o ts) h

fact_right : (s : Scope) (relation : List ℕ) (ts : Trees) (known : Option (List SlotShape)) → slots_of s.templates relation ≡ known
    → (fact_faults s (list_of relation ts) ≡ []) ↔ ((is_reserved relation ≡ false) × (after_relation s known ts ≡ []))
fact_right s relation ts known h =
    let first = unless (not (is_reserved relation)) FactDoesNotFit in
    let so = by_template s relation ts known h in (
      λ none. let parts = both_none first (after_relation s known ts) (sym so ∙ none) in (holds_not (is_reserved relation) FactDoesNotFit parts.0, parts.1),
      λ right. so ∙ none_both first (after_relation s known ts) (ap (λ b. unless (not b) FactDoesNotFit) right.0) right.1,
    )

pub ordered_right : (s : Scope) (relation : List ℕ) (ts : Trees) → slots_of s.templates relation ≡ None
    → (fact_faults s (list_of relation ts) ≡ []) ↔ ((is_reserved relation ≡ false) × (AreRight s ts × NoListAfterEquals ts))
ordered_right s relation ts h =
    let both = fact_right s relation ts None h in
    (λ none. let parts = both.0 none in (parts.0, fields_right s ts parts.1), λ right. both.1 (right.0, right_fields s ts right.1.0 right.1.1))

-- a slot after those with these names is right where it has another name and is right by itself
alone_by : (o : Option SlotShape) (b : Bool) (ts : Trees) (values : Types → List Fault) → (given_slot_faults o b ts values ≡ []) ↔ ((b ≡ false) × (given_slot_faults o false ts values ≡ []))
alone_by None b ts values = (λ h. absurd (cc), λ h. absurd (let some = h.1 in cc))
alone_by (Some slot) true ts values = (λ h. absurd (cc), λ h. absurd (let given = h.0 in cc))
alone_by (Some slot) false ts values = (λ h. (refl, h), λ h. h.1)

alone_in : (s : Scope) (slots : List SlotShape) (given : List (List ℕ)) (t : Tree) (o : Option (List ℕ × Trees)) → call_of t ≡ o
    → (slot_faults s slots given t ≡ []) ↔ ((is_known given (slot_name t) ≡ false) × (slot_faults s slots [] t ≡ []))
alone_in s slots given t None is =
    let after = unslotted_faults s slots given t is in
    let first = unslotted_faults s slots [] t is in
    (λ h. absurd (cc), λ h. absurd (let none = h.1 in cc))
alone_in s slots given t (Some (name, us)) is =
    subst (λ it. (slot_faults s slots given it ≡ []) ↔ ((is_known given (slot_name it) ≡ false) × (slot_faults s slots [] it ≡ []))) (sym (called t name us is))
    (alone_by (slot_named slots name) (is_known given name) us (λ types. values_faults s types us))

alone : (s : Scope) (slots : List SlotShape) (given : List (List ℕ)) (t : Tree)
    → (slot_faults s slots given t ≡ []) ↔ ((is_known given (slot_name t) ≡ false) × (slot_faults s slots [] t ≡ []))
alone s slots given t = alone_in s slots given t (call_of t) refl

-- a name that is not among those that differ from it
within : (P : List ℕ → Type 0) (before : List (List ℕ)) (n : List ℕ) (rest : List (List ℕ)) → AllByRecursion P (before ++ n ∷ rest) → P n
within P [] n rest h = h.0
within P (g ∷ before) n rest h = within P before n rest h.1

apart : (given : List (List ℕ)) (n : List ℕ) (rest : List (List ℕ)) → IsDistinct bytes_eq (given ++ n ∷ rest) → is_known given n ≡ false
apart [] n rest h = refl
apart (g ∷ given) n rest h =
    ap (λ b. b || is_known given n) (within (λ y. bytes_eq g y ≡ false) given n rest (IsDistinct-head bytes_eq g (given ++ n ∷ rest) h))
    ∙ apart given n rest (IsDistinct-tail bytes_eq g (given ++ n ∷ rest) h)

one_more : (given : List (List ℕ)) (n : List ℕ) → IsDistinct bytes_eq given → is_known given n ≡ false → IsDistinct bytes_eq (given ++ n ∷ [])
one_more given n distinct new = IsDistinct-push nat_list_eq_equiv given n distinct (turned given n ∙ new)

none_distinct : IsDistinct bytes_eq []
unfolding IsDistinct
none_distinct = tt

-- the slots that are given after those with these names
slots_right : (s : Scope) (slots : List SlotShape) (given : List (List ℕ)) (ts : Trees) → IsDistinct bytes_eq given → slots_faults s slots given ts ≡ []
    → AreFaultless (slot_faults s slots []) ts × (IsDistinct bytes_eq (given ++ slot_names ts) × (are_filled slots (given ++ slot_names ts) ≡ true))
slots_right s slots given no_trees distinct h =
    let same : given ++ [] ≡ given = append-nil given in
    (tt, (subst (IsDistinct bytes_eq) (sym same) distinct, ap (are_filled slots) same ∙ holds (are_filled slots given) FactDoesNotFit h))
slots_right s slots given (tree t ts) distinct h =
    let parts = both_none (slot_faults s slots given t) (slots_faults s slots (given ++ slot_name t ∷ []) ts) h in
    let here = (alone s slots given t).0 parts.0 in
    let rest = slots_right s slots (given ++ slot_name t ∷ []) ts (one_more given (slot_name t) distinct here.0) parts.1 in
    let same : (given ++ slot_name t ∷ []) ++ slot_names ts ≡ given ++ slot_name t ∷ slot_names ts = append_assoc given (slot_name t ∷ []) (slot_names ts) in
    ((here.1, rest.0), (subst (IsDistinct bytes_eq) same rest.1.0, ap (are_filled slots) (sym same) ∙ rest.1.1))

right_slots : (s : Scope) (slots : List SlotShape) (given : List (List ℕ)) (ts : Trees) → AreFaultless (slot_faults s slots []) ts
    → IsDistinct bytes_eq (given ++ slot_names ts) → are_filled slots (given ++ slot_names ts) ≡ true → slots_faults s slots given ts ≡ []
right_slots s slots given no_trees right distinct filled = ap (λ b. unless b FactDoesNotFit) (ap (are_filled slots) (sym (append-nil given)) ∙ filled)
right_slots s slots given (tree t ts) right distinct filled =
    let same : (given ++ slot_name t ∷ []) ++ slot_names ts ≡ given ++ slot_name t ∷ slot_names ts = append_assoc given (slot_name t ∷ []) (slot_names ts) in
    none_both (slot_faults s slots given t) (slots_faults s slots (given ++ slot_name t ∷ []) ts)
    ((alone s slots given t).1 (apart given (slot_name t) (slot_names ts) distinct, right.0))
    (right_slots s slots (given ++ slot_name t ∷ []) ts right.1 (subst (IsDistinct bytes_eq) (sym same) distinct) (ap (are_filled slots) same ∙ filled))

pub fact_slots_right : (s : Scope) (relation : List ℕ) (slots : List SlotShape) (ts : Trees) → slots_of s.templates relation ≡ Some slots
    → (fact_faults s (list_of relation ts) ≡ []) ↔ ((is_reserved relation ≡ false) × (GiveSlots s slots ts × (are_filled slots (slot_names ts) ≡ true)))
fact_slots_right s relation slots ts h =
    let both = fact_right s relation ts (Some slots) h in (
      λ none. let parts = both.0 none in let them = slots_right s slots [] ts none_distinct parts.1 in (parts.0, ((them.0, them.1.0), them.1.1)),
      λ right. both.1 (right.0, right_slots s slots [] ts right.1.0.0 right.1.0.1 right.1.1),
    )

-- the first slot that has a fault
first_slot : (s : Scope) (slots : List SlotShape) (given : List (List ℕ)) (before : Trees) (t : Tree) (after : Trees) (f : Fault) → AreFaultless (slot_faults s slots []) before
    → IsDistinct bytes_eq (given ++ slot_names before) → first_of (slot_faults s slots (given ++ slot_names before) t) ≡ Some f
    → first_of (slots_faults s slots given (followed_by before (tree t after))) ≡ Some f
first_slot s slots given no_trees t after f right distinct h =
    first_append (slot_faults s slots given t) (slots_faults s slots (given ++ slot_name t ∷ []) after) f
    (ap (λ names. first_of (slot_faults s slots names t)) (sym (append-nil given)) ∙ h)
first_slot s slots given (tree u us) t after f right distinct h =
    let more = given ++ slot_name u ∷ [] in
    let same : more ++ slot_names us ≡ given ++ slot_name u ∷ slot_names us = append_assoc given (slot_name u ∷ []) (slot_names us) in
    let none = (alone s slots given u).1 (apart given (slot_name u) (slot_names us) distinct, right.0) in
    ap (λ fs. first_of (fs ++ slots_faults s slots more (followed_by us (tree t after)))) none
    ∙ first_slot s slots more us t after f right.1 (subst (IsDistinct bytes_eq) (sym same) distinct) (ap (λ names. first_of (slot_faults s slots names t)) same ∙ h)

pub first_slot_reported : (s : Scope) (relation : List ℕ) (slots : List SlotShape) (before : Trees) (t : Tree) (after : Trees) (f : Fault) → is_reserved relation ≡ false
    → slots_of s.templates relation ≡ Some slots → GiveSlots s slots before → first_of (slot_faults s slots (slot_names before) t) ≡ Some f
    → first_of (fact_faults s (list_of relation (followed_by before (tree t after)))) ≡ Some f
first_slot_reported s relation slots before t after f free is right h =
    let all = followed_by before (tree t after) in
    ap first_of (by_template s relation all (Some slots) is) ∙ ap (λ b. first_of (unless (not b) FactDoesNotFit ++ slots_faults s slots [] all)) free
    ∙ first_slot s slots [] before t after f right.0 right.1 h

-- forms of a list, each by itself
all_faultless : (faults : Tree → List Fault) (forms : List Tree) → AreFaultless faults (trees_of forms) → All (λ t. faults t ≡ []) forms
all_faultless faults [] h = All-nil (λ t. faults t ≡ [])
all_faultless faults (t ∷ forms) h = All-cons (λ u. faults u ≡ []) t forms h.0 (all_faultless faults forms h.1)

faultless_all : (faults : Tree → List Fault) (forms : List Tree) → All (λ t. faults t ≡ []) forms → AreFaultless faults (trees_of forms)
faultless_all faults [] h = tt
faultless_all faults (t ∷ forms) h = (All-head (λ u. faults u ≡ []) t forms h, faultless_all faults forms (All-tail (λ u. faults u ≡ []) t forms h))

-- the slot that a form gives, with its value
abbrev given_by : Templates → List SlotShape → Tree → List ℕ × Term
given_by templates slots t = (slot_name t, given_slot templates slots t)

names_by : (templates : Templates) (slots : List SlotShape) (forms : List Tree) → slot_names (trees_of forms) ≡ map (λ g. g.0) (map (given_by templates slots) forms)
names_by templates slots [] = refl
names_by templates slots (t ∷ forms) = ap (λ ns. slot_name t ∷ ns) (names_by templates slots forms)

values_by : (templates : Templates) (slots : List SlotShape) (forms : List Tree) → slot_exprs templates slots (trees_of forms) ≡ map (λ g. g.1) (map (given_by templates slots) forms)
values_by templates slots [] = refl
values_by templates slots (t ∷ forms) = ap (λ ts. given_slot templates slots t ∷ ts) (values_by templates slots forms)

fact_by : (templates : Templates) (relation : List ℕ) (slots : List SlotShape) (forms : List Tree) → slots_of templates relation ≡ Some slots
    → fact_of templates (list_of relation (trees_of forms)) ≡ fact_giving relation (map (given_by templates slots) forms)
fact_by templates relation slots forms h =
    let ts = trees_of forms in
    ap (λ o. fact_with relation o (exprs_of templates ts) (slot_names ts) (λ them. slot_exprs templates them ts)) h
    ∙ ap₂ (λ names values. fact_with relation (Some slots) [] names (λ them. values)) (names_by templates slots forms) (values_by templates slots forms)

names_moved : (templates : Templates) (slots : List SlotShape) (forms others : List Tree) → IsPermutation (map (given_by templates slots) forms) (map (given_by templates slots) others)
    → IsPermutation (slot_names (trees_of forms)) (slot_names (trees_of others))
names_moved templates slots forms others h =
    let first = map (given_by templates slots) forms in
    let second = map (given_by templates slots) others in
    subst (λ ns. IsPermutation ns (slot_names (trees_of others))) (sym (names_by templates slots forms))
    (subst (IsPermutation (map (λ g. g.0) first)) (sym (names_by templates slots others)) (IsPermutation-map (λ g. g.0) first second h))

filled_alike : (slots : List SlotShape) (names others : List (List ℕ)) → ((n : List ℕ) → is_known names n ≡ is_known others n) → are_filled slots names ≡ are_filled slots others
filled_alike [] names others same = refl
filled_alike (s ∷ slots) names others same = ap₂ (λ b c. (b || is_some s.default) && c) (same s.name) (filled_alike slots names others same)

pub slots_in_any_order : (s : Scope) (relation : List ℕ) (slots : List SlotShape) (forms others : List Tree) → slots_of s.templates relation ≡ Some slots
    → IsPermutation forms others → fact_faults s (list_of relation (trees_of forms)) ≡ []
    → (fact_faults s (list_of relation (trees_of others)) ≡ [])
    × GiveTheSame (fact_of s.templates (list_of relation (trees_of forms))) (fact_of s.templates (list_of relation (trees_of others)))
slots_in_any_order s relation slots forms others is permuted none =
    let right = (fact_slots_right s relation slots (trees_of forms) is).0 none in
    let faults : Tree → List Fault = slot_faults s slots [] in
    let each = faultless_all faults others (All-permutation (λ t. faults t ≡ []) forms others permuted (all_faultless faults forms right.1.0.0)) in
    let pairs = IsPermutation-map (given_by s.templates slots) forms others permuted in
    let first = slot_names (trees_of forms) in
    let second = slot_names (trees_of others) in
    let names : IsPermutation first second = names_moved s.templates slots forms others pairs in
    let alike = filled_alike slots first second (λ n. list_any-IsPermutation (λ m. bytes_eq m n) first second names) in (
      (fact_slots_right s relation slots (trees_of others) is).1
          (right.0, ((each, IsDistinct-IsPermutation bytes_eq same_words first second names right.1.0.1), sym alike ∙ right.1.1)),
      record {
        relation = relation;
        given = map (given_by s.templates slots) forms;
        others = map (given_by s.templates slots) others;
        first_is = fact_by s.templates relation slots forms is;
        second_is = fact_by s.templates relation slots others is;
        permuted = pairs;
      },
    )
