-- What is asked of one field, with alternatives, is decided by values.
use Rattle.std.proofs.Common.{◌≡◌, ◌∙◌, ◌&&◌, ◌||◌, ℕ, Bool, true, false, List, [], ◌∷◌, ◌++◌, Some, None, ap, ap₂, flat_map, refl, sym}
use Rattle.std.proofs.lemmas.Bool.{and_parts}
use Rattle.std.proofs.lemmas.List.Folds.{list_any-append}
use Rattle.std.specs.List.{list_all, list_any}
use Rattle.std.specs.Option.{option_and_then}
use Rattle.cb_constraints.proofs.HoldingLaws.{constants_decide}
use Rattle.cb_constraints.specs.Binders.{binder, binders, binders_of}
use Rattle.cb_constraints.specs.Constraints.{Test, constant, variable, predicate, return_value, Check, Demand, nothing, each, either}
use Rattle.cb_constraints.specs.Holding.{after_demand, check_holds, constant_holds, constants_hold, may_hold, one_holds, provided}
use Rattle.cb_constraints.specs.Internal.Known.{given_to, given_to_all}
use Rattle.cb_fit.proofs.CheckLaws.{agree_one, agrees_still, alike, are_others, checks_claim, in_turn, limits_hold, values_hold, variable_step}
use Rattle.cb_fit.proofs.Leading.{AreWithin, HaveValues, Leads}
use Rattle.cb_fit.specs.Comparisons.{choices, choices_of, compared_checks, comparisons, demand_conditions, is_decided_demand, is_one_variable, is_settled_demand, is_variable, limited_checks, limits}
use Rattle.cb_fit.specs.Decided.{is_met}
use Rattle.cb_exprs.specs.Bindings.{Bindings}
use Rattle.cb_facts.specs.declared.value.Value.{Value}
use Rattle.cb_fit.specs.StandsAlone.{are_constants}

-- the value is that of one of these variables, or one has none
abbrev pub choose_one : Value → Bindings → List (List ℕ) → Bool
choose_one v env names = list_any (agree_one v env) names

-- what is asked of a field holds of its value where the constants, the variables, the comparisons and the alternatives do
abbrev pub demand_holds : Demand → Value → Bindings → Bool
demand_holds d v env = values_hold (may_hold d v && limits_hold v (limits d)) (binders d) (comparisons d) v env && list_all (choose_one v env) (choices d)

and_true : (t : Bool) → t && true ≡ t
and_true true = refl
and_true false = refl

alone : (t l : Bool) → t && l ≡ ((t && true) && (true && true)) && l
alone true l = refl
alone false l = refl

set_apart : (g k l : Bool) → g && (k && l) ≡ ((k && true) && ((g && true) && true)) && l
set_apart true true l = refl
set_apart true false l = refl
set_apart false true l = refl
set_apart false false l = refl

-- alternatives that are variables
variable_first_holds : (negated : Bool) (t : Test) (v : Value) (env : Bindings) (rest : Bool) → is_variable negated t ≡ true
    → (check_holds v env (record { negated = negated; test = t }) && true) || rest ≡ list_any (agree_one v env) (binder negated t ++ []) || rest
variable_first_holds false (variable x) v env rest e = ap (λ b. b || rest) (and_true (agree_one v env x) ∙ or_false (agree_one v env x))
  where
    or_false : (t : Bool) → t ≡ t || false
    or_false true = refl
    or_false false = refl
variable_first_holds false (constant w) v env rest e = absurd (cc)
variable_first_holds false (predicate t) v env rest e = absurd (cc)
variable_first_holds false (return_value t) v env rest e = absurd (cc)
variable_first_holds true t v env rest e = absurd (cc)

variable_may : (negated : Bool) (t : Test) (v : Value) → is_variable negated t ≡ true → constant_holds v negated t && true ≡ true
variable_may false (variable x) v e = refl
variable_may false (constant w) v e = absurd (cc)
variable_may false (predicate t) v e = absurd (cc)
variable_may false (return_value t) v e = absurd (cc)
variable_may true t v e = absurd (cc)

variables_hold : (alternatives : List (List Check)) (v : Value) (env : Bindings) → list_all is_one_variable alternatives ≡ true
    → one_holds alternatives v env ≡ choose_one v env (flat_map binders_of alternatives)
variables_hold [] v env e = refl
variables_hold ([] ∷ more) v env e = absurd (cc)
variables_hold ((c ∷ []) ∷ more) v env e =
    let both = and_parts (is_variable c.negated c.test) (list_all is_one_variable more) e in
    ap (λ b. (check_holds v env c && true) || b) (variables_hold more v env both.1)
    ∙ (variable_first_holds c.negated c.test v env (choose_one v env (flat_map binders_of more)) both.0
    ∙ sym (list_any-append (agree_one v env) (binder c.negated c.test ++ []) (flat_map binders_of more)))
variables_hold ((c ∷ d ∷ cs) ∷ more) v env e = absurd (cc)

variables_may : (alternatives : List (List Check)) (v : Value) (env : Bindings) → list_all is_one_variable alternatives ≡ true
    → choose_one v env (flat_map binders_of alternatives) ≡ list_any (constants_hold v) alternatives && (choose_one v env (flat_map binders_of alternatives) && true)
variables_may [] v env e = refl
variables_may ([] ∷ more) v env e = absurd (cc)
variables_may ((c ∷ []) ∷ more) v env e =
    let both = and_parts (is_variable c.negated c.test) (list_all is_one_variable more) e in
    let all = choose_one v env (flat_map binders_of ((c ∷ []) ∷ more)) in
    sym (ap (λ b. (b || list_any (constants_hold v) more) && (all && true)) (variable_may c.negated c.test v both.0) ∙ and_true all)
variables_may ((c ∷ d ∷ cs) ∷ more) v env e = absurd (cc)

alternatives_hold : (b : Bool) (alternatives : List (List Check)) (v : Value) (env : Bindings) → list_all are_constants alternatives ≡ b → b || list_all is_one_variable alternatives ≡ true
    → one_holds alternatives v env ≡ list_any (constants_hold v) alternatives && list_all (choose_one v env) (choices_of b alternatives)
alternatives_hold true alternatives v env is e = constants_decide alternatives v env is ∙ sym (and_true (list_any (constants_hold v) alternatives))
alternatives_hold false alternatives v env is e = variables_hold alternatives v env e ∙ variables_may alternatives v env e

any_alike : {X : Type 0} (t u : X → Bool) (xs : List X) → ((x : X) → t x ≡ u x) → list_any t xs ≡ list_any u xs
any_alike t u [] h = refl
any_alike t u (x ∷ xs) h = ap₂ (λ a b. a || b) (h x) (any_alike t u xs h)

-- in a pattern that may give values to these names, behind fields with these variables, where variables have `out` behind it
module _ (names stand : List (List ℕ)) (out : Bindings) where
  -- the conditions of a constraint are met behind the pattern
  abbrev pub demand_met : Demand → Bool
  demand_met d = list_all (is_met out) (demand_conditions d)

  pub demand_claim : (d : Demand) (v : Value) (env : Bindings) → is_decided_demand d ≡ true → are_others (binders d) (comparisons d) ≡ true → is_settled_demand names stand d ≡ true
      → AreWithin (binders d) names → HaveValues stand env → Leads names (given_to_all (binders d) v env) out
      → after_demand d v env ≡ provided (demand_holds d v env && demand_met d) (given_to_all (binders d) v env)
  demand_claim nothing v env e others settled within known leads = refl
  demand_claim (each cs) v env e others settled within known leads =
      checks_claim names stand out cs [] v env e (λ y i. absurd (cc)) others settled within known leads
      ∙ ap (λ t. provided (t && demand_met (each cs)) (given_to_all (binders_of cs) v env)) (sym (and_true (values_hold (constants_hold v cs && limits_hold v (limited_checks [] cs)) (binders_of cs) (compared_checks [] cs) v env)))
  demand_claim (either None alternatives) v env e others settled within known leads =
      let chosen = list_all (choose_one v env) (choices (either None alternatives)) in
      ap (λ t. provided t env)
      (alternatives_hold (list_all are_constants alternatives) alternatives v env refl e
      ∙ (alone (may_hold (either None alternatives) v) chosen ∙ sym (and_true (demand_holds (either None alternatives) v env))))
  demand_claim (either (Some x) alternatives) v env e others settled within known leads =
      let grown = given_to x v env in
      let may = may_hold (either (Some x) alternatives) v in
      let sets = choices (either (Some x) alternatives) in
      let chosen = list_all (choose_one v env) sets in
      ap (option_and_then (λ mid. provided (one_holds alternatives v mid) mid)) (variable_step x v env)
      ∙ (in_turn (agree_one v env x) (may && chosen) (λ mid. provided (one_holds alternatives v mid) mid) grown grown
      (λ g. ap (λ t. provided t grown)
      (alternatives_hold (list_all are_constants alternatives) alternatives v grown refl e
      ∙ ap (λ b. may && b) (alike (choose_one v grown) (choose_one v env) sets (λ xs. any_alike (agree_one v grown) (agree_one v env) xs (agrees_still x v env)))))
      ∙ ap (λ t. provided t grown) (set_apart (agree_one v env x) may chosen ∙ sym (and_true (demand_holds (either (Some x) alternatives) v env))))
