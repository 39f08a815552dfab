-- All that a pattern asks, decided by values.
use Rattle.std.proofs.Common.{arith, ◌≡◌, ◌∙◌, ◌&&◌, ◌||◌, ℕ, zero, suc, Bool, true, false, Contains, List, [], ◌∷◌, ◌++◌, Some, ap, ap₂, flat_map, map, refl, subst, sym}
use Rattle.std.proofs.lemmas.Bool.{and_parts, not-true}
use Rattle.std.proofs.lemmas.List.{append-nil, append_assoc}
use Rattle.std.proofs.lemmas.List.Folds.{list_all-append}
use Rattle.std.specs.Cmp.Lexicographic.{bytes_decides}
use Rattle.std.specs.List.{list_all, list_any}
use Rattle.std.specs.Option.{option_and_then, option_map_or}
use Rattle.std.specs.Str.{bytes_eq}
use Rattle.cb_constraints.specs.Binders.{binders}
use Rattle.cb_constraints.specs.Constraints.{Demand}
use Rattle.cb_constraints.specs.Holding.{may_hold, provided}
use Rattle.cb_constraints.specs.Internal.Known.{given_to_all}
use Rattle.cb_eval.specs.Comparison.{same}
use Rattle.cb_fit.proofs.Asked.{Asked, after_all}
use Rattle.cb_fit.proofs.CheckLaws.{agree_one, alike_where, are_others, at_left, in_turn}
use Rattle.cb_fit.proofs.DemandLaws.{choose_one, demand_claim, demand_holds}
use Rattle.cb_fit.proofs.Given.{others_keep}
use Rattle.cb_fit.proofs.Leading.{AreWithin, HaveValues, Leads, away, given_have, given_leads, leads_nowhere, leads_on}
use Rattle.cb_fit.proofs.Members.{behind, in_front}
use Rattle.cb_fit.proofs.Passed.{HasField, Stands, compared, compared_hold, in_pairs, limited_hold, repeated_hold, stands_still}
use Rattle.cb_fit.proofs.PlacedFields.{AskedIf, placed_value, with_a_value}
use Rattle.cb_fit.specs.Comparisons.{are_settled_from, choices, compared_at, compared_from, comparisons, demand_conditions, is_decided_demand, is_other, is_settled_demand, limits, own_compared_at, own_fields_at, own_fields_from, own_holds, own_limits_at, repeated_at, with_others}
use Rattle.cb_fit.specs.Decided.{is_met}
use Rattle.cb_fit.specs.FieldPlaces.{PlacedDemand}
use Rattle.cb_fit.specs.JoinFields.{demand_join_fields, fields_for}
use Rattle.cb_fit.specs.Plain.{is_named}
use Rattle.cb_fit.specs.declared.field_place.FieldPlace.{FieldPlace}
use Rattle.cb_fit.specs.declared.join_fields.JoinField.{JoinField}
use Rattle.cb_exprs.specs.Bindings.{Bindings, value_at}
use Rattle.cb_facts.specs.Facts.{FactContent}
use Rattle.cb_facts.specs.declared.value.Value.{Value}

-- the variables of all that is asked
abbrev pub names_of : Asked → List (List ℕ)
names_of [] = []
names_of (a ∷ more) = binders a.0 ++ names_of more

-- all of it holds, each by what variables have after what was asked before
abbrev pub in_sequence : Asked → Bindings → Bool
in_sequence [] env = true
in_sequence (a ∷ more) env = demand_holds a.0 a.1 env && in_sequence more (given_to_all (binders a.0) a.1 env)

-- what variables have after it
abbrev pub given_over : Asked → Bindings → Bindings
given_over [] env = env
given_over (a ∷ more) env = given_over more (given_to_all (binders a.0) a.1 env)

-- the variables of alternatives are others
abbrev pub are_all_others : List (List ℕ) → List (List (List ℕ)) → Bool
are_all_others names sets = list_all (λ xs. list_all (is_other names) xs) sets

-- a constraint is decided, and compares with other variables than its own
abbrev pub decides : Demand × Value → Bool
decides a = is_decided_demand a.0 && are_others (binders a.0) (comparisons a.0)

-- what is asked
abbrev pub demands_of : Asked → List Demand
demands_of asked = map (λ (a : Demand × Value). a.0) asked

-- what variables have after all of it
pub over_leads : (names : List (List ℕ)) (asked : Asked) (env : Bindings) → AreWithin (names_of asked) names → Leads names env (given_over asked env)
over_leads names [] env within = leads_nowhere names env
over_leads names (a ∷ more) env within =
    let env' = given_to_all (binders a.0) a.1 env in
    leads_on names env env' (given_over more env') (given_leads names (binders a.0) a.1 env (λ y i. within y (in_front y (binders a.0) (names_of more) i)))
    (over_leads names more env' (λ y i. within y (behind y (binders a.0) (names_of more) i)))

-- the conditions of what is asked are met behind the pattern
abbrev pub met_behind : Bindings → Demand × Value → Bool
met_behind out a = list_all (is_met out) (demand_conditions a.0)

pub whole : (names stand : List (List ℕ)) (out : Bindings) (asked : Asked) (env : Bindings) → list_all decides asked ≡ true → are_settled_from names stand (demands_of asked) ≡ true
    → AreWithin (names_of asked) names → HaveValues stand env → Leads names (given_over asked env) out
    → after_all asked env ≡ provided (in_sequence asked env && list_all (met_behind out) asked) (given_over asked env)
whole names stand out [] env e settled within known leads = refl
whole names stand out (a ∷ more) env e settled within known leads =
    let both = and_parts (decides a) (list_all decides more) e in
    let first = and_parts (is_decided_demand a.0) (are_others (binders a.0) (comparisons a.0)) both.0 in
    let settles = and_parts (is_settled_demand names stand a.0) (are_settled_from names (stand ++ binders a.0) (demands_of more)) settled in
    let env' = given_to_all (binders a.0) a.1 env in
    let here = λ (y : List ℕ) (i : is_named y (binders a.0) ≡ true). within y (in_front y (binders a.0) (names_of more) i) in
    let later = λ (y : List ℕ) (i : is_named y (names_of more) ≡ true). within y (behind y (binders a.0) (names_of more) i) in
    ap (option_and_then (after_all more))
    (demand_claim names stand out a.0 a.1 env first.0 first.1 settles.0 here known (leads_on names env' (given_over more env') out (over_leads names more env' later) leads))
    ∙ (in_turn (demand_holds a.0 a.1 env && met_behind out a) (in_sequence more env' && list_all (met_behind out) more) (after_all more) env' (given_over more env')
    (λ g. whole names (stand ++ binders a.0) out more env' both.1 settles.1 later (given_have stand (binders a.0) a.1 env known) leads)
    ∙ ap (λ t. provided t (given_over more env')) (in_pairs (demand_holds a.0 a.1 env) (met_behind out a) (in_sequence more env') (list_all (met_behind out) more)))

-- the variables that aren't these have what they have before
abbrev pub KeepOthers : List (List ℕ) → Bindings → Bindings → Type 0
KeepOthers names before env = (y : List ℕ) → is_named y names ≡ false → value_at y env.variables ≡ value_at y before.variables

-- names are among themselves
pub named_contained : (xs : List (List ℕ)) (x : List ℕ) → Contains xs x → is_named x xs ≡ true
named_contained [] x (k, lt, is) = absurd (omega arith)
named_contained (y ∷ ys) x (zero, lt, is) = ap (λ b. b || is_named x ys) ((bytes_decides x y).1 (sym is))
named_contained (y ∷ ys) x (suc k, lt, is) = later (bytes_eq x y) (named_contained ys x (k, omega arith, is))
  where
    later : (b : Bool) → is_named x ys ≡ true → b || is_named x ys ≡ true
    later true e = refl
    later false e = e

-- two tests say the same of all for which a third holds
any_where : {X : Type 0} (s t u : X → Bool) (xs : List X) → ((x : X) → s x ≡ true → t x ≡ u x) → list_all s xs ≡ true → list_any t xs ≡ list_any u xs
any_where s t u [] h e = refl
any_where s t u (x ∷ xs) h e = let both = and_parts (s x) (list_all s xs) e in ap₂ (λ a b. a || b) (h x both.0) (any_where s t u xs h both.1)

-- alternatives that are other variables hold as before
choices_so : (names : List (List ℕ)) (sets : List (List (List ℕ))) (v : Value) (before env : Bindings) → KeepOthers names before env → are_all_others names sets ≡ true
    → list_all (choose_one v env) sets ≡ list_all (choose_one v before) sets
choices_so names sets v before env rest others =
    alike_where (λ xs. list_all (is_other names) xs) (choose_one v env) (choose_one v before) sets
    (λ xs i. any_where (is_other names) (agree_one v env) (agree_one v before) xs (λ x j. ap (λ o. option_map_or (same v) o true) (rest x (not-true (is_named x names) j))) i) others

heads : {X : Type 0} (x y : X) (xs ys : List X) → x ∷ xs ≡ y ∷ ys → (x ≡ y) × (xs ≡ ys)
heads x y xs ys e = (cc, cc)

with_limits : (m l r k : Bool) → (m && l) && (r && k) ≡ m && ((l && r) && k)
with_limits true true r k = refl
with_limits true false r k = refl
with_limits false l r k = refl

some_is : (b : AskedIf) (a : Demand × Value) → b ≡ with_a_value a → (b.0 ≡ a.0) × (b.1 ≡ Some a.1)
some_is b a is = (ap (λ (c : AskedIf). c.0) is, ap (λ (c : AskedIf). c.1) is)

module _ (content : FactContent) (before : Bindings) where
  -- all that is asked of one field
  abbrev pub may_of : Demand × Value → Bool
  may_of a = may_hold a.0 a.1

  abbrev pub agree_of : Demand × Value → Bool
  agree_of a = list_all (agree_one a.1 before) (binders a.0)

  abbrev pub choose_of : Demand × Value → Bool
  choose_of a = list_all (choose_one a.1 before) (choices a.0)

  -- the fields that are compared with one another, and with other variables
  abbrev pub all_own : List JoinField → List PlacedDemand → Bool
  all_own js ds = list_all (own_holds content) (own_fields_from js ds)

  abbrev pub all_compared : List JoinField → List PlacedDemand → Bool
  all_compared js ds = list_all (compared content before) (compared_from js ds)

  -- what is asked of these places is this
  abbrev pub AreAt : List PlacedDemand → Asked → Type 0
  AreAt ds asked = map (placed_value content) ds ≡ map with_a_value asked

  abbrev pub AllStand : List JoinField → Bindings → Type 0
  AllStand js env = (x : List ℕ) → Stands content before js env x

  -- one constraint
  demand_step : (names : List (List ℕ)) (js : List JoinField) (env : Bindings) (at : FieldPlace) (d : Demand) (v : Value) → HasField content at v → AllStand js env → KeepOthers names before env
      → agree_of (d, v) ≡ true → are_all_others names (choices d) ≡ true
      → demand_holds d v env
      ≡ (may_hold d v
      && (list_all (own_holds content) (own_fields_at js at d) && list_all (compared content before) (compared_at at (with_others js (comparisons d)))))
      && choose_of (d, v)
  demand_step names js env at d v field stand rest agree others =
      let own = list_all (own_holds content) (own_compared_at js at (comparisons d)) in
      let repeated = list_all (own_holds content) (repeated_at js at (binders d)) in
      let more = list_all (compared content before) (compared_at at (with_others js (comparisons d))) in
      let limit = list_all (own_holds content) (own_limits_at at (limits d)) in
      let fields = repeated_at js at (binders d) ++ own_compared_at js at (comparisons d) in
      ap₂ (λ a b. a && b)
      (ap₂ (λ l a. (may_hold d v && l) && a) (limited_hold content before at v field (limits d))
      (ap₂ (λ a b. a && b) (repeated_hold content before js env at v field stand (binders d) agree) (compared_hold content before js env at v field stand (comparisons d))
      ∙ (at_left repeated own more ∙ ap (λ b. b && more) (sym (list_all-append (own_holds content) (repeated_at js at (binders d)) (own_compared_at js at (comparisons d))))))
      ∙ (with_limits (may_hold d v) limit (list_all (own_holds content) fields) more
      ∙ ap (λ b. may_hold d v && (b && more)) (sym (list_all-append (own_holds content) (own_limits_at at (limits d)) fields))))
      (choices_so names (choices d) v before env rest others)

  -- and all of them
  abbrev Together : List PlacedDemand → Asked → List JoinField → Bindings → Type 0
  Together ds asked js env = in_sequence asked env ≡ (list_all may_of asked && (all_own js ds && all_compared js ds)) && list_all choose_of asked

  pub together : (names : List (List ℕ)) (ds : List PlacedDemand) (asked : Asked) (js : List JoinField) (env : Bindings) → AreAt ds asked → AllStand js env → KeepOthers names before env
      → AreWithin (names_of asked) names → list_all agree_of asked ≡ true → list_all (λ (a : Demand × Value). are_all_others names (choices a.0)) asked ≡ true
      → Together ds asked js env
  together names [] [] js env at stand rest within agree others = refl
  together names [] (a ∷ more) js env at stand rest within agree others = absurd (cc)
  together names (d ∷ ds) [] js env at stand rest within agree others = absurd (cc)
  together names (d ∷ ds) (a ∷ more) js env at stand rest within agree others =
      let is = heads (placed_value content d) (with_a_value a) (map (placed_value content) ds) (map with_a_value more) at in
      let here = some_is (placed_value content d) a is.0 in
      let own = binders a.0 in
      let env' = given_to_all own a.1 env in
      let passed = js ++ fields_for d.place own in
      let agrees = and_parts (agree_of a) (list_all agree_of more) agree in
      let other = and_parts (are_all_others names (choices a.0)) (list_all (λ (b : Demand × Value). are_all_others names (choices b.0)) more) others in
      let next = together names ds more passed env' is.1 (λ x. stands_still content before js env d.place own a.1 x here.1 agrees.0 (stand x))
      (λ y i. others_keep y own a.1 env (away names own y (λ z j. within z (in_front z own (names_of more) j)) i) ∙ rest y i)
      (λ y i. within y (behind y own (names_of more) i)) agrees.1 other.1 in
      subst (λ e. Together (record { place = d.place; demand = e } ∷ ds) (a ∷ more) js env) (sym here.0)
      (joined d.place passed env' (demand_step names js env d.place a.0 a.1 here.1 stand rest agrees.0 other.0) next)
    where
      joined : (place : FieldPlace) (passed : List JoinField) (env' : Bindings)
          → demand_holds a.0 a.1 env
          ≡ (may_of a
          && (list_all (own_holds content) (own_fields_at js place a.0)
          && list_all (compared content before) (compared_at place (with_others js (comparisons a.0)))))
          && choose_of a
          → Together ds more passed env'
          → demand_holds a.0 a.1 env && in_sequence more env'
          ≡ (list_all may_of (a ∷ more)
          && (list_all (own_holds content) (own_fields_at js place a.0 ++ own_fields_from passed ds)
          && list_all (compared content before) (compared_at place (with_others js (comparisons a.0)) ++ compared_from passed ds)))
          && list_all choose_of (a ∷ more)
      joined place passed env' first next =
          let own = own_fields_at js place a.0 in
          let others = compared_at place (with_others js (comparisons a.0)) in
          let o = list_all (own_holds content) own in
          let c = list_all (compared content before) others in
          ap₂ (λ s t. s && t) first next
          ∙ (in_pairs (may_of a && (o && c)) (choose_of a) (list_all may_of more && (all_own passed ds && all_compared passed ds)) (list_all choose_of more)
          ∙ ap (λ b. b && list_all choose_of (a ∷ more))
          (in_pairs (may_of a) (o && c) (list_all may_of more) (all_own passed ds && all_compared passed ds)
          ∙ ap (λ b. list_all may_of (a ∷ more) && b)
          (in_pairs o c (all_own passed ds) (all_compared passed ds)
          ∙ ap₂ (λ s t. s && t) (sym (list_all-append (own_holds content) own (own_fields_from passed ds))) (sym (list_all-append (compared content before) others (compared_from passed ds))))))

  -- what variables have after all of it
  pub over_stands : (ds : List PlacedDemand) (asked : Asked) (js : List JoinField) (env : Bindings) → AreAt ds asked → AllStand js env → list_all agree_of asked ≡ true
      → AllStand (js ++ flat_map demand_join_fields ds) (given_over asked env)
  over_stands [] [] js env at stand agree x = subst (λ ks. Stands content before ks env x) (sym (append-nil js)) (stand x)
  over_stands [] (a ∷ more) js env at stand agree x = absurd (cc)
  over_stands (d ∷ ds) [] js env at stand agree x = absurd (cc)
  over_stands (d ∷ ds) (a ∷ more) js env at stand agree x =
      let is = heads (placed_value content d) (with_a_value a) (map (placed_value content) ds) (map with_a_value more) at in
      let here = some_is (placed_value content d) a is.0 in
      let agrees = and_parts (agree_of a) (list_all agree_of more) agree in
      let env' = given_to_all (binders a.0) a.1 env in
      let next = over_stands ds more (js ++ fields_for d.place (binders a.0)) env' is.1
      (λ y. stands_still content before js env d.place (binders a.0) a.1 y here.1 agrees.0 (stand y)) agrees.1 x in
      subst (λ ks. Stands content before ks (given_over more env') x)
      (append_assoc js (fields_for d.place (binders a.0)) (flat_map demand_join_fields ds) ∙ ap (λ e. js ++ (fields_for d.place (binders e) ++ flat_map demand_join_fields ds)) (sym here.0)) next
