-- Whether a pattern that is decided by values fits a fact, and the way in which it does.
use Rattle.std.proofs.Common.{arith, ◌≡◌, ◌≢◌, ◌↔◌, ◌∙◌, ◌&&◌, ◌||◌, ◌∷◌, ◌++◌, inl, ℕ, zero, suc, Bool, true, false, not, Contains, List, [], Option, Some, None, ap, ap₂, flat_map, map, refl, subst, sym, if◌then◌else◌}
use Rattle.std.proofs.lemmas.Bool.{and_from, and_parts}
use Rattle.std.proofs.lemmas.List.{map-append}
use Rattle.std.proofs.lemmas.List.Folds.{flat_map-map, list_all-map}
use Rattle.std.proofs.lemmas.Simd.{map-map}
use Rattle.std.specs.Cmp.{IsTotalOrder}
use Rattle.std.specs.Cmp.Lexicographic.{nat_list_cmp_total, slice_cmp}
use Rattle.std.specs.List.{AllPairs, list_all, list_any}
use Rattle.std.specs.Option.{option_map_or}
use Rattle.std.specs.Ordering.{nat_cmp, ordering_reverse}
use Rattle.std.specs.declared.cmp.Ordering.{Ordering}
use Rattle.std.specs.declared.cmp.Ordering.TheVariants.{Less}
use Rattle.cb_constraints.specs.Binders.{binders, constraints_in}
use Rattle.cb_constraints.specs.Bound.{each_once, given, newly_bound}
use Rattle.cb_constraints.specs.Constraints.{Constraint, Demand}
use Rattle.cb_constraints.specs.Holding.{may_hold, provided}
use Rattle.cb_constraints.specs.PatternValues.{PatternValue}
use Rattle.cb_eval.specs.Comparison.{same}
use Rattle.cb_fit.proofs.AllGiven.{Step, both, bound-gives, gave-all, gives-none}
use Rattle.cb_fit.proofs.Asked.{AreLong, Asked, after_all, are_single, asked_of, parts_in, parts_out}
use Rattle.cb_fit.proofs.CheckLaws.{agree_one, alike, are_others, weaker}
use Rattle.cb_fit.proofs.DemandLaws.{choose_one}
use Rattle.cb_fit.proofs.Givers.{the_names, they_take}
use Rattle.cb_fit.proofs.Leading.{AreWithin, leads_nowhere, none_have}
use Rattle.cb_fit.proofs.Members.{all_of_flat, all_pass, one_passes, only_this}
use Rattle.cb_fit.proofs.LooseDecided.{HoldsLoosely, all_may, asked_loose, long_loose, ones_loose, single_loose}
use Rattle.cb_fit.proofs.PlacedFields.{AskedIf, parts_asked, parts_placed, placed_value, with_a_value}
use Rattle.cb_fit.proofs.Passed.{compare_if, compared}
use Rattle.cb_fit.proofs.Whole.{AllStand, agree_of, all_compared, all_own, are_all_others, choose_of, decides, demands_of, given_over, in_sequence, may_of, met_behind, names_of, over_stands, together, whole}
use Rattle.cb_fit.specs.Comparisons.{ChoiceFieldValue, all_own_hold, are_settled_from, choice_fields, choices, chooses_others, compared_fields, compares, compares_others, comparisons, conditions, demand_choice_fields, demand_conditions, is_decided, is_decided_constraint, is_decided_demand, is_other, own_fields, own_fields_from, settles}
use Rattle.cb_fit.specs.Decided.{AgreeWith, AreMet, AreOneOf, HoldOf, HoldsOf, IsOneOf, ValuesDecide, is_met, ones, taken_by_all, way_by_values}
use Rattle.cb_fit.specs.Plain.{bound_names, is_named}
use Rattle.cb_fit.specs.declared.comparison.ComparedField.{ComparedField}
use Rattle.cb_constraints.specs.Internal.Known.{given_to_all}
use Rattle.cb_exprs.specs.Bindings.{Bindings, no_bindings, value_at, with_variables}
use Rattle.cb_facts.proofs.Equality.{value-Decides}
use Rattle.cb_facts.specs.Facts.{FactContent, FactValue}
use Rattle.cb_facts.specs.declared.value.Value.{Value}
use Rattle.cb_fit.specs.FieldPlaces.{PlacedDemand, field_value, placed_demands}
use Rattle.cb_fit.specs.JoinFields.{demand_join_fields, fields_for, giving_fields, join_fields, value_in}
use Rattle.cb_fit.specs.Related.{Fits}
use Rattle.cb_fit.specs.Shapes.{HasShape, has_shape, is_selected, loose, loose_parts}
use Rattle.cb_fit.specs.Ways.{WayValue, taken_way, ways}
use Rattle.cb_fit.specs.declared.join_fields.JoinField.{JoinField}

-- the laws of ways
pub record WaysAreKnown : Type 0 where
  pub listed : (p : PatternValue) (f : FactValue) (cuts : List ℕ) (before after : Bindings) → Fits p f cuts before after → Contains (ways p f before) (taken_way p before cuts after)
  pub fitting : (p : PatternValue) (f : FactValue) (before : Bindings) (w : WayValue) → Contains (ways p f before) w → (after : Bindings) × (Fits p f w.cuts before after) × (w ≡ taken_way p before w.cuts after)
  pub rising : (p : PatternValue) (f : FactValue) (before : Bindings) → AllPairs (λ v w. slice_cmp nat_cmp v.cuts w.cuts ≡ Less) (ways p f before)
  pub shape : (p : PatternValue) (f : FactValue) (cuts : List ℕ) (before after : Bindings) → Fits p f cuts before after → HasShape p f
  pub tested : (p : PatternValue) (f : FactValue) → has_shape p f ≡ true ↔ HasShape p f
  pub loosely : HoldsLoosely
  pub agree : (p : PatternValue) (f : FactValue) (before : Bindings) (w : WayValue) → Contains (ways p f before) w → AgreeWith (join_fields p.parts) before f.content

-- the variables of these fields
variables_of : (ds : List PlacedDemand) → map (λ (j : JoinField). j.variable) (flat_map demand_join_fields ds) ≡ flat_map (λ (d : PlacedDemand). binders d.demand) ds
variables_of [] = refl
variables_of (d ∷ ds) =
    map-append (λ (j : JoinField). j.variable) (demand_join_fields d) (flat_map demand_join_fields ds)
    ∙ ap₂ (λ (xs ys : List (List ℕ)). xs ++ ys) (each_name (binders d.demand)) (variables_of ds)
  where
    each_name : (names : List (List ℕ)) → map (λ (j : JoinField). j.variable) (fields_for d.place names) ≡ names
    each_name [] = refl
    each_name (x ∷ xs) = ap (λ (ys : List (List ℕ)). x ∷ ys) (each_name xs)

not_less : (cuts : List ℕ) → slice_cmp nat_cmp cuts cuts ≢ Less
not_less cuts e = by (slice_cmp nat_cmp cuts cuts) e (IsTotalOrder.antisymm nat_list_cmp_total cuts cuts)
  where
    by : (r : Ordering) → r ≡ Less → r ≡ ordering_reverse r → ⊥
    by r is d = let turned : Less ≡ ordering_reverse Less = subst (λ s. s ≡ ordering_reverse s) is d in cc

-- a field agrees with a variable, if it has a value
abbrev agree_if : Bindings → Option Value → List ℕ → Bool
agree_if before o x = option_map_or (λ w. option_map_or (λ v. same v w) o false) (value_at x before.variables) true

abbrev joined : FactContent → Bindings → JoinField → Bool
joined content before j = agree_if before (value_in j content) j.variable

joined_if : (content : FactContent) (before : Bindings) (j : JoinField) → ((v : Value) → value_at j.variable before.variables ≡ Some v → value_in j content ≡ Some v) → joined content before j ≡ true
joined_if content before j h = by (value_at j.variable before.variables) refl
  where
    by : (o : Option Value) → value_at j.variable before.variables ≡ o → option_map_or (λ w. option_map_or (λ v. same v w) (value_in j content) false) o true ≡ true
    by None is = refl
    by (Some w) is = ap (λ p. option_map_or (λ v. same v w) p false) (h w is) ∙ (value-Decides w w).1 refl

compared_if : (content : FactContent) (before : Bindings) (c : ComparedField) → HoldsOf c before content → compared content before c ≡ true
compared_if content before c (v, w, field, known, so) =
    ap (λ o. compare_if before o (c.comparison, c.variable)) field ∙ (ap (λ o. option_map_or (compares c.comparison v) o false) known ∙ so)

compared_is : (content : FactContent) (before : Bindings) (c : ComparedField) → compared content before c ≡ true → HoldsOf c before content
compared_is content before c e = by (field_value c.place.slot c.place.field content) (value_at c.variable before.variables) refl refl e
  where
    by : (o p : Option Value) → field_value c.place.slot c.place.field content ≡ o → value_at c.variable before.variables ≡ p
        → option_map_or (λ v. option_map_or (compares c.comparison v) p false) o false ≡ true → HoldsOf c before content
    by None p i j d = absurd (cc)
    by (Some v) None i j d = absurd (cc)
    by (Some v) (Some w) i j d = (v, w, i, j, d)

-- a field is equal to one of several variables, or one of these has no value
abbrev choose_if : Bindings → Option Value → List (List ℕ) → Bool
choose_if before o names = option_map_or (λ v. choose_one v before names) o false

abbrev chosen : FactContent → Bindings → ChoiceFieldValue → Bool
chosen content before c = choose_if before (field_value c.place.slot c.place.field content) c.variables

any_passes : {X : Type 0} (t : X → Bool) (xs : List X) (x : X) → Contains xs x → t x ≡ true → list_any t xs ≡ true
any_passes t [] x (k, lt, is) e = absurd (omega arith)
any_passes t (y ∷ ys) x (zero, lt, is) e = ap (λ b. b || list_any t ys) (ap t is ∙ e)
any_passes t (y ∷ ys) x (suc k, lt, is) e = ap (λ b. t y || b) (any_passes t ys x (k, omega arith, is) e) ∙ or_true (t y)
  where
    or_true : (b : Bool) → b || true ≡ true
    or_true true = refl
    or_true false = refl

passing_one : {X : Type 0} (t : X → Bool) (xs : List X) → list_any t xs ≡ true → (x : X) × Contains xs x × (t x ≡ true)
passing_one t [] e = absurd (cc)
passing_one {X} t (y ∷ ys) e = by (t y) refl (passing_one t ys) e
  where
    by : (b : Bool) → t y ≡ b → (list_any t ys ≡ true → (x : X) × Contains ys x × (t x ≡ true)) → b || list_any t ys ≡ true → (x : X) × Contains (y ∷ ys) x × (t x ≡ true)
    by true is more d = (y, (zero, omega arith, refl), is)
    by false is more d = let it = more d in let lt = it.1.1 in (it.0, (suc it.1.0, omega arith, it.1.2), it.2)

chosen_if : (content : FactContent) (before : Bindings) (c : ChoiceFieldValue) → IsOneOf c before content → chosen content before c ≡ true
chosen_if content before c (v, x, field, one, so) =
    ap (λ o. choose_if before o c.variables) field ∙ any_passes (agree_one v before) c.variables x one (by (value_at x before.variables) refl)
  where
    by : (o : Option Value) → value_at x before.variables ≡ o → option_map_or (same v) o true ≡ true
    by None is = refl
    by (Some w) is = (value-Decides v w).1 (so w is)

chosen_is : (content : FactContent) (before : Bindings) (c : ChoiceFieldValue) → chosen content before c ≡ true → IsOneOf c before content
chosen_is content before c e = by (field_value c.place.slot c.place.field content) refl e
  where
    agrees : (v : Value) (x : List ℕ) (o : Option Value) → option_map_or (same v) o true ≡ true → (w : Value) → o ≡ Some w → v ≡ w
    agrees v x None d w is = absurd (cc)
    agrees v x (Some u) d w is = (value-Decides v u).0 d ∙ inside is
      where
        inside : Some u ≡ Some w → u ≡ w
        inside i = cc

    by : (o : Option Value) → field_value c.place.slot c.place.field content ≡ o → option_map_or (λ v. choose_one v before c.variables) o false ≡ true → IsOneOf c before content
    by None i d = absurd (cc)
    by (Some v) i d = let one = passing_one (agree_one v before) c.variables d in (v, one.0, i, one.1, agrees v one.0 (value_at one.0 before.variables) one.2)

module _ (p : PatternValue) (content : FactContent) (before : Bindings) (e : is_decided p ≡ true) where
  abbrev asked : Asked
  asked = asked_of p.parts content

  abbrev placed : List PlacedDemand
  placed = placed_demands p.parts

  abbrev the_after : Bindings
  the_after = given_over asked before

  abbrev decided_one : Constraint → Bool
  decided_one c = is_decided_constraint c && compares_others c

  decided_all : (list_all decided_one (constraints_in p.parts) ≡ true) × (chooses_others p.parts && settles p.parts ≡ true)
  decided_all = and_parts (list_all decided_one (constraints_in p.parts)) (chooses_others p.parts && settles p.parts) e

  decided_others : (chooses_others p.parts ≡ true) × (settles p.parts ≡ true)
  decided_others = and_parts (chooses_others p.parts) (settles p.parts) decided_all.1

  -- what it compares of one fact
  own_are : own_fields p.parts ≡ own_fields_from [] placed
  own_are = ap (λ b. if b then own_fields_from [] placed else []) e

  abbrev other_choice : ChoiceFieldValue → Bool
  other_choice c = list_all (is_other (bound_names p)) c.variables

  pub single_all : are_single (constraints_in p.parts) ≡ true
  single_all =
      weaker decided_one (λ (c : Constraint). not c.segment) (constraints_in p.parts)
      (λ c i. (and_parts (not c.segment) (is_decided_demand c.demand) (and_parts (is_decided_constraint c) (compares_others c) i).0).0) decided_all.0

  module _ (long : AreLong p.parts content) where
    over_placed : (t : AskedIf → Bool) → list_all (λ (d : PlacedDemand). t (placed_value content d)) placed ≡ list_all (λ (a : Demand × Value). t (with_a_value a)) asked
    over_placed t =
        sym (list_all-map t (placed_value content) placed)
        ∙ (ap (list_all t) (parts_placed p.parts content single_all long) ∙ list_all-map t with_a_value asked)

    flat_over_placed : {Y : Type 0} (t : AskedIf → List Y) → flat_map (λ (d : PlacedDemand). t (placed_value content d)) placed ≡ flat_map (λ (a : Demand × Value). t (with_a_value a)) asked
    flat_over_placed t =
        sym (flat_map-map t (placed_value content) placed)
        ∙ (ap (flat_map t) (parts_placed p.parts content single_all long) ∙ flat_map-map t with_a_value asked)

    names_are : names_of asked ≡ bound_names p
    names_are =
        flat asked
        ∙ (ap (flat_map binders) (parts_asked p.parts content long) ∙ flat_map-map binders (λ (c : Constraint). c.demand) (constraints_in p.parts))
      where
        flat : (more : Asked) → names_of more ≡ flat_map binders (map (λ (a : Demand × Value). a.0) more)
        flat [] = refl
        flat (a ∷ more) = ap (λ xs. binders a.0 ++ xs) (flat more)

    abbrev demand_decides : Demand → Bool
    demand_decides d = is_decided_demand d && are_others (binders d) (comparisons d)

    demands_are : list_all decides asked ≡ true
    demands_are =
        sym (list_all-map demand_decides (λ (a : Demand × Value). a.0) asked)
        ∙ (ap (list_all demand_decides) (parts_asked p.parts content long)
        ∙ (list_all-map demand_decides (λ (c : Constraint). c.demand) (constraints_in p.parts)
        ∙ weaker decided_one (λ (c : Constraint). demand_decides c.demand) (constraints_in p.parts)
        (λ c i.
        let both = and_parts (is_decided_constraint c) (compares_others c) i in
        and_from (is_decided_demand c.demand) (compares_others c) (and_parts (not c.segment) (is_decided_demand c.demand) both.0).1 both.1) decided_all.0))

    over_choices : (t : ChoiceFieldValue → Bool) (u : AskedIf → Bool) → ((d : PlacedDemand) → list_all t (demand_choice_fields d) ≡ u (placed_value content d))
        → list_all t (choice_fields p.parts) ≡ list_all (λ (a : Demand × Value). u (with_a_value a)) asked
    over_choices t u h = all_of_flat t demand_choice_fields placed ∙ (alike (λ d. list_all t (demand_choice_fields d)) (λ d. u (placed_value content d)) placed h ∙ over_placed u)

    choices_others : list_all (λ (a : Demand × Value). are_all_others (bound_names p) (choices a.0)) asked ≡ true
    choices_others =
        sym (over_choices other_choice (λ (b : AskedIf). are_all_others (bound_names p) (choices b.0))
        (λ d. list_all-map other_choice (λ names. record { place = d.place; variables = names }) (choices d.demand)))
        ∙ decided_others.0

    -- conditions
    demands_placed : map (λ (d : PlacedDemand). d.demand) placed ≡ demands_of asked
    demands_placed =
        sym (map-map (λ (b : AskedIf). b.0) (placed_value content) placed)
        ∙ (ap (map (λ (b : AskedIf). b.0)) (parts_placed p.parts content single_all long) ∙ map-map (λ (b : AskedIf). b.0) with_a_value asked)

    settled : are_settled_from (bound_names p) [] (demands_of asked) ≡ true
    settled = ap (are_settled_from (bound_names p) []) (sym demands_placed) ∙ decided_others.1

    all_within : AreWithin (names_of asked) (bound_names p)
    all_within y i = ap (is_named y) (sym names_are) ∙ i

    abbrev conditions_met : Bool
    conditions_met = list_all (met_behind the_after) asked

    conditions_are : list_all (is_met the_after) (conditions p.parts) ≡ conditions_met
    conditions_are =
        all_of_flat (is_met the_after) (λ (d : PlacedDemand). demand_conditions d.demand) placed
        ∙ over_placed (λ (b : AskedIf). list_all (is_met the_after) (demand_conditions b.0))

    exactly : after_all asked before ≡ provided (in_sequence asked before && conditions_met) the_after
    exactly = whole (bound_names p) [] the_after asked before demands_are settled all_within (none_have before) (leads_nowhere (bound_names p) the_after)

    -- the way gives variables what they have behind the pattern
    given_is : with_variables (newly_bound p.parts before the_after) before ≡ the_after
    given_is = bound-gives p.parts before the_after (subst (λ names. Step names before the_after) names_are (over_step asked before))
      where
        over_step : (more : Asked) (env : Bindings) → Step (names_of more) env (given_over more env)
        over_step [] env = gives-none env env refl
        over_step (a ∷ more) env =
            let env' = given_to_all (binders a.0) a.1 env in
            both (binders a.0) (names_of more) env env' (given_over more env') (gave-all (binders a.0) a.1 env) (over_step more env')

    fields_are : map (λ (j : JoinField). j.variable) (join_fields p.parts) ≡ bound_names p
    fields_are = variables_of placed ∙ (flat_over_placed (λ (b : AskedIf). binders b.0) ∙ (flat asked ∙ names_are))
      where
        flat : (more : Asked) → flat_map (λ (a : Demand × Value). binders a.0) more ≡ names_of more
        flat [] = refl
        flat (a ∷ more) = ap (λ xs. binders a.0 ++ xs) (flat more)

    -- variables
    joins_are : list_all (joined content before) (join_fields p.parts) ≡ list_all (λ (a : Demand × Value). list_all (agree_one a.1 before) (binders a.0)) asked
    joins_are =
        all_of_flat (joined content before) demand_join_fields placed
        ∙ (alike (λ (d : PlacedDemand). list_all (joined content before) (demand_join_fields d)) (λ d. list_all (agree_if before (placed_value content d).1) (binders d.demand)) placed
        (λ d. list_all-map (joined content before) (λ x. record { variable = x; slot = d.place.slot; field = d.place.field }) (binders d.demand))
        ∙ over_placed (λ (b : AskedIf). list_all (agree_if before b.1) (binders b.0)))

    -- alternatives
    choices_are : list_all (chosen content before) (choice_fields p.parts) ≡ list_all (λ (a : Demand × Value). list_all (choose_one a.1 before) (choices a.0)) asked
    choices_are =
        over_choices (chosen content before) (λ (b : AskedIf). list_all (choose_if before b.1) (choices b.0))
        (λ d. list_all-map (chosen content before) (λ names. record { place = d.place; variables = names }) (choices d.demand))

    -- where the fields agree with the variables
    module _ (agree : AgreeWith (join_fields p.parts) before content) where
      agrees : list_all (agree_of content before) asked ≡ true
      agrees = sym joins_are ∙ all_pass (joined content before) (join_fields p.parts) (λ j i. joined_if content before j (agree j i))

      nothing_stands : AllStand content before [] before
      nothing_stands x = inl (refl, refl)

      abbrev each_holds : Bool
      each_holds = (list_all (may_of content before) asked && (all_own content before [] placed && all_compared content before [] placed)) && list_all (choose_of content before) asked

      holds_where : in_sequence asked before ≡ each_holds
      holds_where =
          together content before (bound_names p) placed asked [] before (parts_placed p.parts content single_all long) nothing_stands (λ y i. refl)
          all_within agrees choices_others

      -- what the way gives
      pub bound_is : newly_bound p.parts before the_after ≡ taken_by_all (giving_fields p.parts) before content
      bound_is =
          ap (flat_map (given before the_after)) (ap each_once (sym fields_are) ∙ the_names (join_fields p.parts))
          ∙ they_take content before the_after (join_fields p.parts)
          (over_stands content before placed asked [] before (parts_placed p.parts content single_all long) nothing_stands agrees)

      behind_is : with_variables (way_by_values p before content).bound before ≡ the_after
      behind_is = ap (λ bound. with_variables bound before) (sym bound_is) ∙ given_is

      pub hold_all : list_all (λ (a : Demand × Value). may_hold a.0 a.1) asked ≡ true → all_own_hold (own_fields p.parts) content ≡ true → HoldOf (compared_fields p.parts) before content
          → AreOneOf (choice_fields p.parts) before content → AreMet p before content → after_all asked before ≡ Some the_after
      hold_all may own hold one met =
          let all = list_all (may_of content before) asked in
          let others = all_compared content before [] placed in
          exactly
          ∙ ap (λ t. provided t the_after)
          (and_from (in_sequence asked before) conditions_met
          (holds_where
          ∙ and_from (all && (all_own content before [] placed && others)) (list_all (choose_of content before) asked)
          (and_from all (all_own content before [] placed && others) may
          (and_from (all_own content before [] placed) others (ap (λ os. all_own_hold os content) (sym own_are) ∙ own)
          (all_pass (compared content before) (compared_fields p.parts) (λ c i. compared_if content before c (hold c i)))))
          (sym choices_are ∙ all_pass (chosen content before) (choice_fields p.parts) (λ c i. chosen_if content before c (one c i))))
          (sym conditions_are ∙ all_pass (is_met the_after) (conditions p.parts) (λ t i. ap (λ env. is_met env t) (sym behind_is) ∙ met t i)))

      provided_if : (after : Bindings) (t : Bool) → provided t the_after ≡ Some after → t ≡ true
      provided_if after true d = refl
      provided_if after false d = absurd (cc)

      -- and all of it holds where the pattern fits
      module _ (after : Bindings) (h : after_all asked before ≡ Some after) where
        in_both : (in_sequence asked before ≡ true) × (conditions_met ≡ true)
        in_both = and_parts (in_sequence asked before) conditions_met (provided_if after (in_sequence asked before && conditions_met) (sym exactly ∙ h))

        holds : (list_all (may_of content before) asked && (all_own content before [] placed && all_compared content before [] placed) ≡ true) × (list_all (choose_of content before) asked ≡ true)
        holds =
            and_parts (list_all (may_of content before) asked && (all_own content before [] placed && all_compared content before [] placed)) (list_all (choose_of content before) asked)
            (sym holds_where ∙ in_both.0)

        fields_hold : (all_own content before [] placed ≡ true) × (all_compared content before [] placed ≡ true)
        fields_hold =
            and_parts (all_own content before [] placed) (all_compared content before [] placed)
            (and_parts (list_all (may_of content before) asked) (all_own content before [] placed && all_compared content before [] placed) holds.0).1

        pub own_hold : all_own_hold (own_fields p.parts) content ≡ true
        own_hold = ap (λ os. all_own_hold os content) own_are ∙ fields_hold.0

        pub comparisons_hold : HoldOf (compared_fields p.parts) before content
        comparisons_hold c i = compared_is content before c (one_passes (compared content before) (compared_fields p.parts) c fields_hold.1 i)

        pub choices_hold : AreOneOf (choice_fields p.parts) before content
        choices_hold c i = chosen_is content before c (one_passes (chosen content before) (choice_fields p.parts) c (choices_are ∙ holds.1) i)

        pub conditions_hold : AreMet p before content
        conditions_hold t i = ap (λ env. is_met env t) behind_is ∙ one_passes (is_met the_after) (conditions p.parts) t (conditions_are ∙ in_both.1) i

-- the pattern fits where the fact has its shape, and the values agree and compare so
module _ (known : WaysAreKnown) (p : PatternValue) (f : FactValue) (before : Bindings) (e : is_decided p ≡ true) where
  abbrev the_way : WayValue
  the_way = way_by_values p before f.content

  pub the_shape : has_shape p f ≡ true → (p.relation ≡ f.relation) × AreLong p.parts f.content × (list_all (λ (a : Demand × Value). may_hold a.0 a.1) (asked_of p.parts f.content) ≡ true)
  the_shape h =
      let shape : HasShape p f = (known.tested p f).0 h in
      let took = parts_in (loose_parts p.parts) f.content shape.0 no_bindings no_bindings (single_loose p.parts (single_all p f.content before e)) shape.1.1 in (
        shape.1.0,
        long_loose p.parts f.content took.0,
        all_may known.loosely (asked_of p.parts f.content) no_bindings no_bindings (sym (ap (λ asked. after_all asked no_bindings) (asked_loose p.parts f.content)) ∙ took.2),
      )

  -- each way is the one
  each_is : (after : Bindings) → AreLong p.parts f.content → after_all (asked_of p.parts f.content) before ≡ Some after → (w : WayValue) → Contains (ways p f before) w → w ≡ taken_way p before (ones (constraints_in p.parts)) after
  each_is after long is w i =
      let fits = known.fitting p f before w i in
      let took = parts_in p.parts f.content w.cuts before fits.0 (single_all p f.content before e) fits.1.1 in
      fits.2 ∙ (ap (λ cuts. taken_way p before cuts fits.0) took.1 ∙ ap (taken_way p before (ones (constraints_in p.parts))) (same_one fits.0 after (sym took.2 ∙ is)))
    where
      same_one : (a b : Bindings) → Some a ≡ Some b → a ≡ b
      same_one a b d = cc

  selected : is_selected p f ≡ true → (has_shape p f ≡ true) × (all_own_hold (own_fields p.parts) f.content ≡ true)
  selected h = and_parts (has_shape p f) (all_own_hold (own_fields p.parts) f.content) h

  pub fits_so : is_selected p f ≡ true → ValuesDecide p before f.content → ways p f before ≡ the_way ∷ []
  fits_so h (agree, hold, choose, met) =
      let shape = the_shape (selected h).0 in
      let long = shape.1 in
      let after = given_over (asked_of p.parts f.content) before in
      let is = hold_all p f.content before e long agree shape.2 (selected h).1 hold choose met in
      let one = taken_way p before (ones (constraints_in p.parts)) after in
      let there = known.listed p f (ones (constraints_in p.parts)) before after (shape.0, parts_out p.parts f.content before after (single_all p f.content before e) long is) in
      only_this (λ (w : WayValue). w.cuts) one (ways p f before) there (each_is after long is) (known.rising p f before) (not_less (ones (constraints_in p.parts)))
      ∙ ap (λ bound. record { cuts = ones (constraints_in p.parts); bound = bound } ∷ []) (bound_is p f.content before e long agree)

  pub fits_only : (w : WayValue) → Contains (ways p f before) w → (is_selected p f ≡ true) × ValuesDecide p before f.content
  fits_only w i =
      let fits = known.fitting p f before w i in
      let took = parts_in p.parts f.content w.cuts before fits.0 (single_all p f.content before e) fits.1.1 in
      let agree = known.agree p f before w i in (
        and_from (has_shape p f) (all_own_hold (own_fields p.parts) f.content) ((known.tested p f).1 (known.shape p f w.cuts before fits.0 fits.1))
            (own_hold p f.content before e took.0 agree fits.0 took.2),
        (
          agree,
          comparisons_hold p f.content before e took.0 agree fits.0 took.2,
          choices_hold p f.content before e took.0 agree fits.0 took.2,
          conditions_hold p f.content before e took.0 agree fits.0 took.2,
        ),
      )

  pub fits_where : (ways p f before ≢ []) ↔ ((is_selected p f ≡ true) × ValuesDecide p before f.content)
  fits_where = (
    λ some. by (ways p f before) refl some,
    λ (h : (is_selected p f ≡ true) × ValuesDecide p before f.content) none. apart (sym none ∙ fits_so h.0 h.1),
  )
    where
      apart : [] ≡ the_way ∷ [] → ⊥
      apart d = cc

      by : (ws : List WayValue) → ways p f before ≡ ws → ws ≢ [] → (is_selected p f ≡ true) × ValuesDecide p before f.content
      by [] is some = absurd (some refl)
      by (w ∷ ws) is some = fits_only w (subst (λ it. Contains it w) (sym is) (zero, omega arith, refl))

  -- and it takes what the pattern takes without its variables and expressions
  pub loose_cuts : (any : Bindings) (w : WayValue) → Contains (ways (loose p) f any) w → w.cuts ≡ the_way.cuts
  loose_cuts any w i =
      let fits = known.fitting (loose p) f any w i in
      let took = parts_in (loose_parts p.parts) f.content w.cuts any fits.0 (single_loose p.parts (single_all p f.content before e)) fits.1.1 in
      took.1 ∙ ones_loose p.parts
