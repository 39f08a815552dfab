-- Rows of constraints, and which constraints each is or what is wrong with it.
use Rattle.std.proofs.Common.{◌≡◌, ℕ, List, [], ◌∷◌, Option, Some, None, codes, true, false, refl}
use Rattle.cb_constraints.specs.Constraints.{Check, Constraint, Demand, Test, constant, variable, nothing, each, either}
use Rattle.cb_facts.specs.FaultLists.{first_of}
use Rattle.cb_expr_forms.specs.Scopes.{Scope}
use Rattle.cb_expr_forms.specs.declared.scope.Side.TheVariants.{Left}
use Rattle.cb_facts.specs.declared.value.Value.TheVariants as value
use Rattle.cb_forms.specs.Trees.{Tree, atom, branch, trees_of}
use Rattle.cb_forms.specs.declared.fault.Fault.{Fault}
use Rattle.cb_forms.specs.declared.fault.Fault.TheVariants.{MalformedForm, FactDoesNotFit, NotOnLeftSide}
use Rattle.cb_forms.specs.declared.token.Token.TheVariants as token
use Rattle.cb_rule_forms.specs.Members.{members_in}
use Rattle.cb_rule_forms.specs.PatternFaults.{constraints_faults, pattern_faults}
use Rattle.cb_rule_forms.specs.Rows.{row_in}

abbrev scope : Scope
scope = record {
  side = Left;
  variables = [];
  globals = [];
  templates = (codes "t", record { name = codes "k"; is_multi = false; types = None; default = None } ∷ record { name = codes "m"; is_multi = true; types = None; default = None } ∷ []) ∷ [];
}

abbrev red : Tree
red = atom (token.Symbol (codes "red"))

abbrev blue : Tree
blue = atom (token.Symbol (codes "blue"))

abbrev x : Tree
x = atom (token.Var (codes "x"))

abbrev xs : Tree
xs = atom (token.MultiVar (codes "x"))

abbrev and : Tree
and = atom token.And

abbrev or : Tree
or = atom token.Or

abbrev tilde : Tree
tilde = atom token.Not

abbrev any : Tree
any = atom token.Any

abbrev colon : Tree
colon = atom (token.Symbol (codes ":"))

abbrev list : Tree
list = branch (trees_of (x ∷ []))

abbrev row : List Tree → List Constraint
row ts = row_in [] (members_in (trees_of ts))

abbrev fault : List Tree → Option Fault
fault ts = first_of (constraints_faults scope (trees_of ts))

abbrev is : Test → Check
is t = record { negated = false; test = t }

abbrev word : List ℕ → Test
word bytes = constant (value.Symbol bytes)

abbrev one : Demand → Constraint
one d = record { segment = false; demand = d }

-- ?x&red|blue, red|blue, ?x|red, ?x&~red
apart_is : row (x ∷ and ∷ red ∷ or ∷ blue ∷ []) ≡ one (either (Some (codes "x")) ((is (word (codes "red")) ∷ []) ∷ (is (word (codes "blue")) ∷ []) ∷ [])) ∷ []
apart_is = refl

either_is : row (red ∷ or ∷ blue ∷ []) ≡ one (either None ((is (word (codes "red")) ∷ []) ∷ (is (word (codes "blue")) ∷ []) ∷ [])) ∷ []
either_is = refl

variable_first_is : row (x ∷ or ∷ red ∷ []) ≡ one (either None ((is (variable (codes "x")) ∷ []) ∷ (is (word (codes "red")) ∷ []) ∷ [])) ∷ []
variable_first_is = refl

each_is : row (x ∷ and ∷ tilde ∷ red ∷ []) ≡ one (each (is (variable (codes "x")) ∷ record { negated = true; test = word (codes "red") } ∷ [])) ∷ []
each_is = refl

-- ?x~red is two constraints, $?x&red takes a segment, `:` alone is a constant
two_are : row (x ∷ tilde ∷ red ∷ []) ≡ one (each (is (variable (codes "x")) ∷ [])) ∷ one (each (record { negated = true; test = word (codes "red") } ∷ [])) ∷ []
two_are = refl

segment_is : row (xs ∷ and ∷ red ∷ []) ≡ record { segment = true; demand = each (is (variable (codes "x")) ∷ is (word (codes "red")) ∷ []) } ∷ []
segment_is = refl

colon_is : row (colon ∷ any ∷ []) ≡ one (each (is (word (codes ":")) ∷ [])) ∷ one nothing ∷ []
colon_is = refl

-- red|, |red, ?&red, red&?, ~~red, ~?
nothing_after : fault (red ∷ or ∷ []) ≡ Some MalformedForm
nothing_after = refl

nothing_before : fault (or ∷ list ∷ []) ≡ Some MalformedForm
nothing_before = refl

wildcard_before : fault (any ∷ and ∷ red ∷ []) ≡ Some MalformedForm
wildcard_before = refl

wildcard_after : fault (red ∷ and ∷ any ∷ []) ≡ Some MalformedForm
wildcard_after = refl

negated_twice : fault (tilde ∷ tilde ∷ red ∷ []) ≡ Some MalformedForm
negated_twice = refl

negated_wildcard : fault (tilde ∷ any ∷ []) ≡ Some MalformedForm
negated_wildcard = refl

-- red|&(?x), red&(?x), ~ (?x), "=" (?x), : (?x), ?*g*
connective_first : fault (red ∷ or ∷ and ∷ list ∷ []) ≡ Some MalformedForm
connective_first = refl

list_after_check : fault (red ∷ and ∷ list ∷ []) ≡ Some FactDoesNotFit
list_after_check = refl

list_negated : fault (tilde ∷ list ∷ []) ≡ Some FactDoesNotFit
list_negated = refl

string_is_no_sign : fault (atom (token.Str (codes "=")) ∷ list ∷ []) ≡ Some FactDoesNotFit
string_is_no_sign = refl

no_expression : fault (colon ∷ list ∷ []) ≡ Some MalformedForm
no_expression = refl

global_is_not : fault (red ∷ and ∷ tilde ∷ atom (token.Global (codes "g")) ∷ []) ≡ Some NotOnLeftSide
global_is_not = refl

-- (t (k ?) (m)), (t (k ?) (k ?)), (t (k)), (t (k $?x)), (t (k ~))
abbrev of_template : List Tree → Option Fault
of_template ts = first_of (pattern_faults scope (codes "t") (trees_of ts))

abbrev slot : List ℕ → List Tree → Tree
slot name ts = branch (trees_of (atom (token.Symbol name) ∷ ts))

slots_fit : of_template (slot (codes "k") (any ∷ []) ∷ slot (codes "m") [] ∷ []) ≡ None
slots_fit = refl

slot_twice : of_template (slot (codes "k") (any ∷ []) ∷ slot (codes "k") (any ∷ []) ∷ []) ≡ Some FactDoesNotFit
slot_twice = refl

slot_empty : of_template (slot (codes "k") [] ∷ []) ≡ Some FactDoesNotFit
slot_empty = refl

slot_segment : of_template (slot (codes "k") (xs ∷ []) ∷ []) ≡ Some FactDoesNotFit
slot_segment = refl

slot_faulty : of_template (slot (codes "k") (tilde ∷ []) ∷ []) ≡ Some MalformedForm
slot_faulty = refl
