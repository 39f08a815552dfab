-- What is wrong with a row of constraints, in the order in which it is looked for.
use Rattle.std.specs.Prelude.{◌&&◌, ◌++◌, Bool, true, false, List, [], ◌∷◌}
use Rattle.cb_expr_forms.specs.ExprFaults.{faults_of}
use Rattle.cb_facts.specs.FaultLists.{unless}
use Rattle.cb_expr_forms.specs.Scopes.{Scope}
use Rattle.cb_forms.specs.declared.fault.Fault.{Fault}
use Rattle.cb_forms.specs.declared.fault.Fault.TheVariants.{MalformedForm, FactDoesNotFit, NotOnLeftSide}
use Rattle.cb_forms.specs.declared.token.Token.{Token}
use Rattle.cb_forms.specs.declared.token.Token.TheVariants as token
use Rattle.cb_rule_forms.specs.Members.{WrittenCheck, single, predicate, return_value, stray, missing, Member, wildcard, both, any_of, check}

-- A constant and a variable may stand alone, a global may not. A wildcard and a connective are no checks.
abbrev pub single_faults : Token → List Fault
single_faults (token.Symbol bytes) = []
single_faults (token.Str bytes) = []
single_faults (token.Int n) = []
single_faults (token.Var name) = []
single_faults (token.MultiVar name) = []
single_faults (token.Global name) = NotOnLeftSide ∷ []
single_faults t = MalformedForm ∷ []

-- what is wrong with a check
abbrev pub written_faults : Scope → WrittenCheck → List Fault
written_faults s (single t) = single_faults t
written_faults s (predicate t) = faults_of s t
written_faults s (return_value t) = faults_of s t
written_faults s stray = FactDoesNotFit ∷ []
written_faults s missing = MalformedForm ∷ []

abbrev pub is_check : Member → Bool
is_check (check negated w) = true
is_check m = false

-- A check comes first among these members.
abbrev pub begins_with_check : List Member → Bool
begins_with_check [] = false
begins_with_check (m ∷ ms) = is_check m

-- What is wrong with a member before these others, by whether a check comes just before it. A connective stands between two checks.
abbrev pub member_faults : Scope → Bool → Member → List Member → List Fault
member_faults s after (wildcard several) ms = []
member_faults s after both ms = unless (after && begins_with_check ms) MalformedForm
member_faults s after any_of ms = unless (after && begins_with_check ms) MalformedForm
member_faults s after (check negated w) ms = written_faults s w

-- what is wrong with members, by whether a check comes just before them
abbrev pub row_faults : Scope → Bool → List Member → List Fault
row_faults s after [] = []
row_faults s after (m ∷ ms) = member_faults s after m ms ++ row_faults s (is_check m) ms
