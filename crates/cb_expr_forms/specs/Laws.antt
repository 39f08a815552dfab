-- What the laws of forms speak of.
use Rattle.std.specs.Prelude.{◌≡◌, ◌&&◌, ℕ, List, [], Some, false, map, IsPermutation}
use Rattle.std.specs.List.{IsDistinct}
use Rattle.std.specs.Str.{bytes_eq}
use Rattle.cb_expr_forms.specs.ExprFaults.{begins_with_list, faults_of, is_equals, slot_faults}
use Rattle.cb_expr_forms.specs.ExprForms.{slot_names}
use Rattle.cb_expr_forms.specs.Scopes.{Scope}
use Rattle.cb_exprs.specs.FactTerms.{FactTerm}
use Rattle.cb_exprs.specs.Terms.{Term, constant, variable, call, Terms, no_terms, term, terms}
use Rattle.cb_forms.specs.Trees.{Tree, atom, branch, Trees, no_trees, tree}
use Rattle.cb_forms.specs.declared.fault.Fault.{Fault}
use Rattle.cb_forms.specs.declared.token.Token.TheVariants as token
use Rattle.cb_templates.specs.Slots.{SlotShape}

-- the list `(name form ..)`
abbrev pub list_of : List ℕ → Trees → Tree
list_of name ts = branch (tree (atom (token.Symbol name)) ts)

-- these forms and then those
abbrev pub followed_by : Trees → Trees → Trees
followed_by no_trees us = us
followed_by (tree t ts) us = tree t (followed_by ts us)

-- each form, by itself, has none of these faults
abbrev pub AreFaultless : (Tree → List Fault) → Trees → Type 0
AreFaultless faults no_trees = Unit {0}
AreFaultless faults (tree t ts) = (faults t ≡ []) × AreFaultless faults ts

-- each form, by itself, is an expression without a fault
abbrev pub AreRight : Scope → Trees → Type 0
AreRight s ts = AreFaultless (faults_of s) ts

-- no list follows the symbol `=`
abbrev pub NoListAfterEquals : Trees → Type 0
NoListAfterEquals no_trees = Unit {0}
NoListAfterEquals (tree t ts) = ((is_equals t && begins_with_list ts) ≡ false) × NoListAfterEquals ts

-- each form, by itself, gives a slot without a fault, and no two give the same slot
abbrev pub GiveSlots : Scope → List SlotShape → Trees → Type 0
GiveSlots s slots ts = AreFaultless (slot_faults s slots []) ts × IsDistinct bytes_eq (slot_names ts)

-- the fact of a relation that gives these slots these values, in this order
abbrev pub fact_giving : List ℕ → List (List ℕ × Term) → FactTerm
fact_giving relation given =
    record { shape = record { relation = relation; slots = Some (map (λ g. g.0) given) }; values = terms (map (λ g. g.1) given) }

-- two facts of one relation that give the same slots the same values, each in its own order
pub record GiveTheSame (f g : FactTerm) : Type 0 where
  pub relation : List ℕ
  pub given : List (List ℕ × Term)
  pub others : List (List ℕ × Term)
  pub first_is : f ≡ fact_giving relation given
  pub second_is : g ≡ fact_giving relation others
  pub permuted : IsPermutation given others

abbrev mutual
  -- The expression is made of constants, variables and calls without an effect: it names no global.
  pub IsPlain : Term → Type 0
  IsPlain (constant v) = Unit {0}
  IsPlain (variable x) = Unit {0}
  IsPlain (call f ts) = ArePlain ts
  IsPlain t = ⊥

  -- Terms of constants, variables and calls of functions alone.
  pub ArePlain : Terms → Type 0
  ArePlain no_terms = Unit {0}
  ArePlain (term t ts) = IsPlain t × ArePlain ts
