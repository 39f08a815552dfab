-- How the logic stores constraints, rows of them, and patterns.
use Rattle.std.specs.Prelude.{◌≡◌, ◌⊎◌, ℕ, Bool, List, Option, Some, None, refl}
use Rattle.std.proofs.Common.{inl, inr}
use Rattle.std.specs.Coded.{Coded, code_by, coded_bool, coded_ℕ, coded_list, coded_option, coded×, coded⊎}
use Rattle.cb_constraints.specs.Constraints.{Test, constant, variable, predicate, return_value, Check, Demand, nothing, each, either, Constraint}
use Rattle.cb_constraints.specs.PatternValues.{PatternParts, fields, slots, PatternValue, SlotValue}
use Rattle.cb_exprs.specs.Internal.Codes.{Piece, term_code}
use Rattle.cb_exprs.specs.Terms.{Term}
use Rattle.cb_facts.specs.declared.value.Value.{Value}

abbrev TestCases : Type 0
TestCases = Value ⊎ (List ℕ ⊎ (Term ⊎ Term))

abbrev test_cases : Test → TestCases
test_cases (constant v) = inl v
test_cases (variable x) = inr (inl x)
test_cases (predicate e) = inr (inr (inl e))
test_cases (return_value e) = inr (inr (inr e))

abbrev test_from : TestCases → Test
test_from (inl v) = constant v
test_from (inr (inl x)) = variable x
test_from (inr (inr (inl e))) = predicate e
test_from (inr (inr (inr e))) = return_value e

pub test_back : (t : Test) → test_from (test_cases t) ≡ t
test_back (constant v) = refl
test_back (variable x) = refl
test_back (predicate e) = refl
test_back (return_value e) = refl

abbrev DemandCases : Type 0
DemandCases = Option (List Check ⊎ (Option (List ℕ) × List (List Check)))

abbrev demand_cases : Demand → DemandCases
demand_cases nothing = None
demand_cases (each cs) = Some (inl cs)
demand_cases (either first alternatives) = Some (inr (first, alternatives))

abbrev demand_from : DemandCases → Demand
demand_from None = nothing
demand_from (Some (inl cs)) = each cs
demand_from (Some (inr p)) = either p.0 p.1

pub demand_back : (d : Demand) → demand_from (demand_cases d) ≡ d
demand_back nothing = refl
demand_back (each cs) = refl
demand_back (either first alternatives) = refl

abbrev PartsCases : Type 0
PartsCases = List Constraint ⊎ List SlotValue

abbrev parts_cases : PatternParts → PartsCases
parts_cases (fields row) = inl row
parts_cases (slots rows) = inr rows

abbrev parts_from : PartsCases → PatternParts
parts_from (inl row) = fields row
parts_from (inr rows) = slots rows

pub parts_back : (p : PatternParts) → parts_from (parts_cases p) ≡ p
parts_back (fields row) = refl
parts_back (slots rows) = refl

module _ (value : Coded Value) (name : Coded (List ℕ)) (piece : Coded Piece) where
  abbrev test_code : Coded Test
  test_code = code_by TestCases (coded⊎ value (coded⊎ name (coded⊎ (term_code piece) (term_code piece)))) test_cases test_from test_back

  abbrev check_code : Coded Check
  check_code = code_by (Bool × Test) (coded× coded_bool test_code) (λ c. (c.negated, c.test)) (λ p. record { negated = p.0; test = p.1 }) (λ _. refl)

  abbrev demand_code : Coded Demand
  demand_code =
      code_by DemandCases (coded_option (coded⊎ (coded_list check_code) (coded× (coded_option name) (coded_list (coded_list check_code))))) demand_cases demand_from demand_back

  abbrev constraint_code : Coded Constraint
  constraint_code = code_by (Bool × Demand) (coded× coded_bool demand_code) (λ c. (c.segment, c.demand)) (λ p. record { segment = p.0; demand = p.1 }) (λ _. refl)

  abbrev pub row_code : Coded (List Constraint)
  row_code = coded_list constraint_code

  abbrev slot_code : Coded SlotValue
  slot_code =
      code_by
      ((List ℕ × ℕ) × List Constraint)
      (coded× (coded× name coded_ℕ) row_code)
      (λ s. ((s.name, s.place), s.row))
      (λ p. record { name = p.0.0; place = p.0.1; row = p.1 })
      (λ _. refl)

  abbrev pub parts_code : Coded PatternParts
  parts_code = code_by PartsCases (coded⊎ row_code (coded_list slot_code)) parts_cases parts_from parts_back

  abbrev pub pattern_code : Coded PatternValue
  pattern_code = code_by (List ℕ × PatternParts) (coded× name parts_code) (λ p. (p.relation, p.parts)) (λ p. record { relation = p.0; parts = p.1 }) (λ _. refl)
