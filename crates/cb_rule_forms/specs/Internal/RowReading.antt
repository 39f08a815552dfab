-- What the program reads next of a row of constraints: needed by the code alone.
use Rattle.std.specs.Prelude.{◌≡◌, ◌++◌, false, List, [], ◌∷◌, Option, Vec, map}
use Rattle.std.specs.Global.{Global}
use Rattle.cb_constraints.specs.Constraints.{Check, Constraint, check_of}
use Rattle.cb_constraints.specs.declared.constraint.Check as program
use Rattle.cb_facts.specs.FaultLists.{first_of, unless}
use Rattle.cb_expr_forms.specs.Scopes.{Scope}
use Rattle.cb_forms.specs.Trees.{Tree, atom, tree_of}
use Rattle.cb_forms.specs.declared.fault.Fault.{Fault}
use Rattle.cb_forms.specs.declared.fault.Fault.TheVariants.{MalformedForm}
use Rattle.cb_forms.specs.declared.token.Token.TheVariants as token
use Rattle.cb_rule_forms.specs.Members.{WrittenCheck, single, predicate, return_value, stray, missing, Member, wildcard, both, any_of, check}
use Rattle.cb_rule_forms.specs.RowFaults.{begins_with_check, row_faults}
use Rattle.cb_rule_forms.specs.Rows.{row_in}
use Rattle.cb_rule_forms.specs.declared.member.Member as program_member
use Rattle.cb_rule_forms.specs.declared.member.Member.TheVariants as member
use Rattle.cb_rule_forms.specs.declared.member.WrittenCheck as program_written
use Rattle.cb_rule_forms.specs.declared.member.WrittenCheck.TheVariants as written
use Rattle.cb_rule_forms.specs.declared.row.Connective.{Connective}
use Rattle.cb_rule_forms.specs.declared.row.Connective.TheVariants as connective

-- what a check of the program is written as
abbrev pub written_of : program_written.WrittenCheck → WrittenCheck
written_of (written.Single t) = single t.now
written_of (written.Predicate t) = predicate (tree_of t.now)
written_of (written.ReturnValue t) = return_value (tree_of t.now)
written_of written.Stray = stray
written_of written.Missing = missing

-- the member that a `Member` of the program is
abbrev pub member_of : program_member.Member → Member
member_of (member.Wildcard several) = wildcard several
member_of member.Both = both
member_of member.OneOf = any_of
member_of (member.Check negated w) = check negated (written_of w)

-- a connective
abbrev pub connective_of : Connective → Member
connective_of connective.Both = both
connective_of connective.OneOf = any_of

-- no connective comes first
abbrev pub EndsConstraint : List Member → Type 0
EndsConstraint (both ∷ ms) = ⊥
EndsConstraint (any_of ∷ ms) = ⊥
EndsConstraint ms = Unit {0}

abbrev pub checks_of : Vec program.Check Global → List Check
checks_of cs = map check_of cs.items

abbrev pub alternatives_of : Vec (Vec program.Check Global) Global → List (List Check)
alternatives_of alternatives = map checks_of alternatives.items

-- after a connective the next check comes to those of the last alternative, and after `|` to an alternative of its own
abbrev pub IsConnected : Connective → List (List Check) → List Check → List (List Check) → List Check → Type 0
IsConnected connective.Both alternatives checks alternatives' checks' = (alternatives' ≡ alternatives) × (checks' ≡ checks)
IsConnected connective.OneOf alternatives checks alternatives' checks' = (alternatives' ≡ alternatives ++ checks ∷ []) × (checks' ≡ [])

-- the form is a wildcard, a connective or `~`
abbrev pub IsMark : Tree → Type 0
IsMark (atom token.Any) = Unit {0}
IsMark (atom token.MultiAny) = Unit {0}
IsMark (atom token.And) = Unit {0}
IsMark (atom token.Or) = Unit {0}
IsMark (atom token.Not) = Unit {0}
IsMark t = ⊥

-- what is wrong with members where a check has to come first
abbrev pub checks_faults : Scope → List Member → List Fault
checks_faults s ms = unless (begins_with_check ms) MalformedForm ++ row_faults s false ms

-- The members are a constraint without a fault and then others, so that this is their first fault, if there is one.
pub record StartsWithConstraint (s : Scope) (fault : Option Fault) (ms : List Member) (c : Constraint) (others : List Member) : Type 0 where
  pub fault_is : fault ≡ first_of (row_faults s false others)
  pub row_is : row_in s.templates ms ≡ c ∷ row_in s.templates others
