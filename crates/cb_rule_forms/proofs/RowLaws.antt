-- Constraints that are read check by check.
use Rattle.std.proofs.Common.{◌≡◌, ◌∙◌, ◌||◌, ◌++◌, Bool, true, false, List, [], ◌∷◌, Some, None, Err, map, refl, sym, ap, ap₂, append_assoc}
use Rattle.cb_constraints.specs.Constraints.{Check, Demand, check_of}
use Rattle.cb_constraints.specs.declared.constraint.Check as program
use Rattle.cb_facts.specs.FaultLists.{ReadsAs, first_of, unless}
use Rattle.cb_expr_forms.specs.Scopes.{Scope}
use Rattle.cb_facts.specs.Results.{Reports}
use Rattle.cb_facts.specs.declared.refused.Refused.{Refused}
use Rattle.cb_facts.specs.declared.refused.Refused.TheVariants as refused
use Rattle.cb_forms.specs.declared.fault.Fault.{Fault}
use Rattle.cb_forms.specs.declared.fault.Fault.TheVariants.{MalformedForm}
use Rattle.cb_rule_forms.specs.Members.{WrittenCheck, Member, wildcard, both, any_of, check}
use Rattle.cb_rule_forms.specs.RowFaults.{begins_with_check, row_faults, written_faults}
use Rattle.cb_rule_forms.specs.Rows.{WrittenConstraint, wild, of_checks, check_in, constraint_in, demand_in, is_several, put_before, row_in, written_constraints}
use Rattle.cb_rule_forms.specs.Internal.RowReading.{StartsWithConstraint, EndsConstraint, IsConnected, checks_faults, connective_of}
use Rattle.cb_rule_forms.specs.declared.row.Connective.{Connective}
use Rattle.cb_rule_forms.specs.declared.row.Connective.TheVariants as connective
use Rattle.cb_templates.specs.Templates.{Templates}
use Rattle.cb_facts.proofs.FirstFaults.{first_append}

or_assoc : (a b c : Bool) → (a || (b || c)) ≡ ((a || b) || c)
or_assoc true b c = refl
or_assoc false b c = refl

-- nothing before constraints
pub put_nothing : (rest : List WrittenConstraint) → put_before false [] [] rest ≡ rest
put_nothing [] = refl
put_nothing (wild several ∷ rest) = refl
put_nothing (of_checks several [] ∷ rest) = refl
put_nothing (of_checks several (cs ∷ others) ∷ rest) = refl

put_check : (a b : Bool) (alternatives : List (List Check)) (cs : List Check) (c : Check) (rest : List WrittenConstraint)
    → put_before a alternatives cs (put_before b [] (c ∷ []) rest) ≡ put_before (a || b) alternatives (cs ++ c ∷ []) rest
put_check a b alternatives cs c [] = refl
put_check a b alternatives cs c (wild several ∷ rest) = refl
put_check a b alternatives cs c (of_checks several [] ∷ rest) = refl
put_check a b alternatives cs c (of_checks several (ds ∷ others) ∷ rest) =
    ap₂ (λ more es. of_checks more (alternatives ++ es ∷ others) ∷ rest) (or_assoc a b several) (sym (append_assoc cs (c ∷ []) ds))

put_alternative : (a b : Bool) (alternatives : List (List Check)) (cs : List Check) (c : Check) (rest : List WrittenConstraint)
    → put_before a alternatives cs (put_before b ((c ∷ []) ∷ []) [] rest) ≡ put_before (a || b) (alternatives ++ (cs ++ c ∷ []) ∷ []) [] rest
put_alternative a b alternatives cs c [] = refl
put_alternative a b alternatives cs c (wild several ∷ rest) = refl
put_alternative a b alternatives cs c (of_checks several [] ∷ rest) = refl
put_alternative a b alternatives cs c (of_checks several (ds ∷ others) ∷ rest) =
    ap₂ (λ more es. of_checks more es ∷ rest) (or_assoc a b several) (sym (append_assoc alternatives ((cs ++ c ∷ []) ∷ []) (ds ∷ others)))

-- a check and a connective
pub written_on : (t : Templates) (k : Connective) (several more : Bool) (alternatives alternatives' : List (List Check)) (cs grown cs' : List Check) (n : Bool) (w : WrittenCheck) (ms : List Member)
    → more ≡ (several || is_several w) → grown ≡ cs ++ check_in t n w ∷ [] → IsConnected k alternatives grown alternatives' cs'
    → put_before several alternatives cs (written_constraints t (check n w ∷ connective_of k ∷ ms)) ≡ put_before more alternatives' cs' (written_constraints t ms)
written_on t connective.Both several more alternatives alternatives' cs grown cs' n w ms is_more is_grown is_connected =
    put_check several (is_several w) alternatives cs (check_in t n w) (written_constraints t ms)
    ∙ ap₂ (λ b es. put_before b alternatives es (written_constraints t ms)) (sym is_more) (sym (is_connected.1 ∙ is_grown))
    ∙ ap (λ alts. put_before more alts cs' (written_constraints t ms)) (sym is_connected.0)
written_on t connective.OneOf several more alternatives alternatives' cs grown cs' n w ms is_more is_grown is_connected =
    put_alternative several (is_several w) alternatives cs (check_in t n w) (written_constraints t ms)
    ∙ ap₂ (λ b es. put_before b (alternatives ++ es ∷ []) [] (written_constraints t ms)) (sym is_more) (sym is_grown)
    ∙ ap₂ (λ alts es. put_before more alts es (written_constraints t ms)) (sym is_connected.0) (sym is_connected.1)

pub faults_on : (s : Scope) (k : Connective) (n : Bool) (w : WrittenCheck) (ms : List Member) → written_faults s w ≡ [] → checks_faults s (check n w ∷ connective_of k ∷ ms) ≡ checks_faults s ms
faults_on s connective.Both n w ms none = ap (λ fs. fs ++ checks_faults s ms) none
faults_on s connective.OneOf n w ms none = ap (λ fs. fs ++ checks_faults s ms) none

check_alone : (t : Templates) (n : Bool) (w : WrittenCheck) (ms : List Member) → EndsConstraint ms → written_constraints t (check n w ∷ ms) ≡ of_checks (is_several w) ((check_in t n w ∷ []) ∷ []) ∷ written_constraints t ms
check_alone t n w [] ends = refl
check_alone t n w (wildcard several ∷ ms) ends = refl
check_alone t n w (both ∷ ms) ends = absurd ends
check_alone t n w (any_of ∷ ms) ends = absurd ends
check_alone t n w (check m v ∷ ms) ends = refl

faults_alone : (s : Scope) (ms : List Member) → EndsConstraint ms → row_faults s true ms ≡ row_faults s false ms
faults_alone s [] ends = refl
faults_alone s (wildcard several ∷ ms) ends = refl
faults_alone s (both ∷ ms) ends = absurd ends
faults_alone s (any_of ∷ ms) ends = absurd ends
faults_alone s (check m v ∷ ms) ends = refl

-- the last check of a constraint
pub ends_with : (s : Scope) (all : List Member) (several more : Bool) (alternatives : List (List Check)) (cs grown : List Check) (n : Bool) (w : WrittenCheck) (ms here : List Member) (d : Demand)
    → checks_faults s here ≡ checks_faults s all → put_before several alternatives cs (written_constraints s.templates here) ≡ written_constraints s.templates all
    → here ≡ check n w ∷ ms → EndsConstraint ms → written_faults s w ≡ []
    → more ≡ (several || is_several w) → grown ≡ cs ++ check_in s.templates n w ∷ [] → d ≡ demand_in (alternatives ++ grown ∷ [])
    → StartsWithConstraint s (first_of (checks_faults s all)) all (record { segment = more; demand = d }) ms
ends_with s all several more alternatives cs grown n w ms here d faults_were were is ends none is_more is_grown is_demand =
    let t = s.templates in record {
      fault_is = ap first_of (sym faults_were ∙ ap (checks_faults s) is ∙ ap (λ fs. fs ++ row_faults s true ms) none ∙ faults_alone s ms ends);
      row_is =
          ap (map constraint_in) (sym were ∙ ap (λ it. put_before several alternatives cs (written_constraints t it)) is ∙ ap (put_before several alternatives cs) (check_alone t n w ms ends))
          ∙ ap₂ (λ b es. record { segment = b; demand = demand_in (alternatives ++ es ∷ []) } ∷ row_in t ms) (sym is_more) (sym is_grown)
          ∙ ap (λ it. record { segment = more; demand = it } ∷ row_in t ms) (sym is_demand);
    }

-- a check with a fault, and no check where one has to come
pub check_faulty : (s : Scope) (n : Bool) (w : WrittenCheck) (ms : List Member) (f : Fault) → first_of (written_faults s w) ≡ Some f → first_of (checks_faults s (check n w ∷ ms)) ≡ Some f
check_faulty s n w ms f h = first_append (written_faults s w) (row_faults s true ms) f h

pub check_missing : (s : Scope) (ms : List Member) → begins_with_check ms ≡ false → first_of (checks_faults s ms) ≡ Some MalformedForm
check_missing s ms h = ap (λ b. first_of (unless b MalformedForm ++ row_faults s false ms)) h

-- where a row, and not checks, begins with what is no wildcard
abbrev IsNoWildcard : Member → Type 0
IsNoWildcard (wildcard several) = ⊥
IsNoWildcard m = Unit {0}

pub same_fault : (s : Scope) (m : Member) (ms : List Member) → IsNoWildcard m → first_of (checks_faults s (m ∷ ms)) ≡ first_of (row_faults s false (m ∷ ms))
same_fault s (wildcard several) ms h = absurd h
same_fault s both ms h = refl
same_fault s any_of ms h = refl
same_fault s (check n w) ms h = refl

-- no first fault, no fault
pub faultless : (fs : List Fault) → None ≡ first_of fs → fs ≡ []
faultless [] h = refl
faultless (f ∷ fs) h = absurd (cc)

-- one more, seen each by itself
pub seen_more : {X Y : Type 0} (f : X → Y) (xs : List X) (x : X) → map f (xs ++ x ∷ []) ≡ map f xs ++ f x ∷ []
seen_more f [] x = refl
seen_more f (y ∷ xs) x = ap (λ ys. f y ∷ ys) (seen_more f xs x)

pub checks_more : (xs ys : List program.Check) (c : program.Check) (d : Check) → ys ≡ xs ++ c ∷ [] → check_of c ≡ d → map check_of ys ≡ map check_of xs ++ d ∷ []
checks_more xs ys c d is same = ap (map check_of) is ∙ seen_more check_of xs c ∙ ap (λ it. map check_of xs ++ it ∷ []) same

-- a part that has a fault, which is told as that of the whole
pub tells : {T V : Type 0} (view : T → V) (v : V) (e : Refused) (fs : List Fault) (P : Fault → Type 0) → ((f : Fault) → first_of fs ≡ Some f → P f) → ReadsAs view (Err e) fs v → Reports e P
tells view v (refused.Fault f) fs P same h = same f h
tells view v refused.NoMemory fs P same h = tt
