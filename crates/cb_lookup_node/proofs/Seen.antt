-- Whether a group of one pattern that is looked up holds for a partial match is whether there is a fact that it sees by the values that it gives
-- to the fields.
use Rattle.std.specs.Prelude.{option_to_list}
use Rattle.std.proofs.Common.{◌≡◌, ◌≢◌, ◌↔◌, ◌⊎◌, ◌∙◌, ◌||◌, ◌∷◌, ◌++◌, ℕ, zero, suc, Bool, true, false, List, [], Option, Some, None, ap, ap₂, cond, arith, inl, inr, length, map, not, refl, subst, sym}
use Rattle.std.specs.Cmp.Lexicographic.{bytes_decides}
use Rattle.std.specs.List.{Contains}
use Rattle.std.specs.Str.{bytes_eq}
use Rattle.cb_alpha.specs.AlphaMemories.{values_in}
use Rattle.cb_alpha.specs.JoinValues as joined
use Rattle.cb_alpha.specs.Turning.{AreCandidates}
use Rattle.cb_constraints.specs.PatternValues.{PatternValue}
use Rattle.cb_fit.specs.Comparisons.{choice_fields, compared_fields, conditions, is_decided}
use Rattle.cb_fit.specs.Decided.{AgreeWith, AreOneOf, HoldOf, HoldsOf, ValuesDecide}
use Rattle.cb_fit.specs.Plain.{is_named}
use Rattle.cb_fit.specs.declared.comparison.ComparedField.{ComparedField}
use Rattle.cb_fit.specs.declared.comparison.Comparison.{Comparison}
use Rattle.cb_exprs.specs.Bindings.{Bindings, value_at}
use Rattle.cb_facts.specs.FactLists.{IndexedFacts}
use Rattle.cb_facts.specs.Facts.{FactContent}
use Rattle.cb_facts.specs.declared.value.Value.{Value}
use Rattle.cb_fit.specs.JoinFields.{join_fields, value_in}
use Rattle.cb_fit.specs.declared.join_fields.JoinField.{JoinField}
use Rattle.cb_lookup_node.specs.Internal.{is_ordered, is_well_ordered}
use Rattle.cb_lookup_node.specs.LookupNodes.{AsksBy, Looking, Passes, SeesBy, SeesOne, SeesSome, by_witness, compared_join, compares_with, in_order}
use Rattle.cb_matches.proofs.Growth.{Fact}
use Rattle.cb_matches.proofs.Lists.{by_test}
use Rattle.cb_matches.specs.Chains.{In}
use Rattle.cb_matches.specs.Matches.{Partial}
use Rattle.cb_lookup_node.specs.LookupNodes.{are_by_order}
use Rattle.cb_nodes.specs.Flat.{holds_alone}
use Rattle.cb_scopes.proofs.Comparing.{all_so, so_all}
use Rattle.cb_scopes.specs.Compared.{all_compare}
use Rattle.cb_scopes.specs.Decided.{Sees, field_values, known_fields, variable_values}
use Rattle.cb_scopes.specs.Scopes.{HasValuesOf, Scope}

-- values one by one, and all of them
first_of : (o : Option Value) (others : Option (List Value)) (vs : List Value) → joined.with_first o others ≡ Some vs
    → (v : Value) × (us : List Value) × (o ≡ Some v) × (others ≡ Some us) × (vs ≡ v ∷ us)
first_of None others vs e = absurd (cc)
first_of (Some v) None vs e = absurd (cc)
first_of (Some v) (Some us) vs e = (v, us, refl, refl, inside e)
  where
    inside : Some (v ∷ us) ≡ Some vs → vs ≡ v ∷ us
    inside d = cc

abbrev somes : List Value → List (Option Value)
somes vs = map (λ v. Some v) vs

variables_listed : (js : List JoinField) (env : Bindings) (vs : List Value) → joined.variable_values js env ≡ Some vs → variable_values js env ≡ somes vs
variables_listed [] env vs e = ap somes (inside e)
  where
    inside : Some [] ≡ Some vs → [] ≡ vs
    inside d = cc
variables_listed (j ∷ js) env vs e =
    let (v, us, first, others, are) = first_of (value_at j.variable env.variables) (joined.variable_values js env) vs e in
    ap₂ (λ (o : Option Value) (os : List (Option Value)). o ∷ os) first (variables_listed js env us others) ∙ ap somes (sym are)

fields_listed : (js : List JoinField) (content : FactContent) (vs : List Value) → joined.field_values js content ≡ Some vs → field_values js content ≡ somes vs
fields_listed [] content vs e = ap somes (inside e)
  where
    inside : Some [] ≡ Some vs → [] ≡ vs
    inside d = cc
fields_listed (j ∷ js) content vs e =
    let (v, us, first, others, are) = first_of (value_in j content) (joined.field_values js content) vs e in
    ap₂ (λ (o : Option Value) (os : List (Option Value)). o ∷ os) first (fields_listed js content us others) ∙ ap somes (sym are)

listed_fields : (js : List JoinField) (content : FactContent) (vs : List Value) → field_values js content ≡ somes vs → joined.field_values js content ≡ Some vs
listed_fields [] content [] e = refl
listed_fields [] content (v ∷ vs) e = absurd (cc)
listed_fields (j ∷ js) content [] e = absurd (cc)
listed_fields (j ∷ js) content (v ∷ vs) e =
    ap₂ joined.with_first (first (value_in j content) (Some v) (field_values js content) (somes vs) e)
    (listed_fields js content vs (rest (value_in j content) (Some v) (field_values js content) (somes vs) e))
  where
    first : (o p : Option Value) (os ps : List (Option Value)) → o ∷ os ≡ p ∷ ps → o ≡ p
    first o p os ps d = cc

    rest : (o p : Option Value) (os ps : List (Option Value)) → o ∷ os ≡ p ∷ ps → os ≡ ps
    rest o p os ps d = cc

-- a variable that is known has a value
named_in : (x : List ℕ) (names : Scope) → is_named x names ≡ true → In x names
named_in x [] e = absurd (cc)
named_in x (y ∷ names) e = by (named_in x names) (bytes_eq x y) (bytes_decides x y).0 e
  where
    by : (is_named x names ≡ true → In x names) → (t : Bool) → (t ≡ true → x ≡ y) → t || is_named x names ≡ true → In x (y ∷ names)
    by more true same d = inl (same refl)
    by more false same d = inr (more d)

some_value : (o : Option Value) → o ≢ None → (v : Value) × (o ≡ Some v)
some_value None h = absurd (h refl)
some_value (Some v) h = (v, refl)

module _ (names : Scope) (m : Partial) (scope : HasValuesOf names m) where
  pub all_known : (js : List JoinField) → (vs : List Value) × (joined.variable_values (known_fields js names) m.env ≡ Some vs)
  all_known [] = ([], refl)
  all_known (j ∷ js) = by (is_named j.variable names) refl (all_known js)
    where
      by : (t : Bool) → is_named j.variable names ≡ t → ((vs : List Value) × (joined.variable_values (known_fields js names) m.env ≡ Some vs))
          → (vs : List Value) × (joined.variable_values (cond t (j ∷ known_fields js names) (known_fields js names)) m.env ≡ Some vs)
      by true e (vs, is) =
          let v = some_value (value_at j.variable m.env.variables) ((scope j.variable).1 (named_in j.variable names e)) in
          (v.0 ∷ vs, ap₂ joined.with_first v.1 is)
      by false e more = more

-- members of a list, by place
contained : {A : Type 0} (a : A) (xs : List A) → In a xs → Contains xs a
contained a [] h = absurd h
contained a (x ∷ xs) (inl e) = (0, omega arith, sym e)
contained a (x ∷ xs) (inr h) = let (k, lt, is) = contained a xs h in (suc k, omega (arith, lt), is)

member : {A : Type 0} (a : A) (xs : List A) → Contains xs a → In a xs
member a [] (k, lt, is) = absurd (omega (arith, lt))
member a (x ∷ xs) (zero, lt, is) = inl (sym is)
member a (x ∷ xs) (suc k, lt, is) = inr (member a xs (k, omega (arith, lt), is))

-- what is known by laws
abbrev pub AgreeByValues : Type 0
AgreeByValues = (env : Bindings) (names : List (List ℕ)) → ((x : List ℕ) → (value_at x env.variables ≢ None) ↔ In x names) → (js : List JoinField) (content : FactContent)
    → AgreeWith js env content ↔ (variable_values (known_fields js names) env ≡ field_values (known_fields js names) content)

abbrev pub HoldsBySight : Type 0
HoldsBySight = (p : PatternValue) (fs : IndexedFacts) (m : Partial) → is_decided p ≡ true → (holds_alone true p fs m ≡ true) ↔ Sees p fs m

abbrev pub HoldsOpposite : Type 0
HoldsOpposite = (p : PatternValue) (fs : IndexedFacts) (m : Partial) → holds_alone false p fs m ≡ not (holds_alone true p fs m)

none_contained : {A : Type 0} (a : A) → Contains [] a → ⊥
none_contained a (k, lt, is) = absurd (omega (arith, lt))

one_contained : (c d : ComparedField) → Contains (c ∷ []) d → d ≡ c
one_contained c d (zero, lt, is) = sym is
one_contained c d (suc k, lt, is) = absurd (omega (arith, lt))

pub one_value : {A : Type 0} {a b : A} (o : Option A) → o ≡ Some a → o ≡ Some b → a ≡ b
one_value {A} {a} {b} o e d = let both : Some a ≡ Some b = sym e ∙ d in cc

-- the values of a fact that is there
pub has_fact : (js : List JoinField) (o : Option Fact) (vs : List Value) → values_in js o ≡ Some vs → (f : Fact) × (o ≡ Some f) × (joined.field_values js f.1.content ≡ Some vs)
has_fact js None vs e = absurd (cc)
has_fact js (Some f) vs e = (f, refl, e)

-- values of fields one by one, of which one stands at the end
module _ (f : JoinField → Option Value) (of_all : List JoinField → Option (List Value)) (of_none : of_all [] ≡ Some [])
    (of_more : (j : JoinField) (js : List JoinField) → of_all (j ∷ js) ≡ joined.with_first (f j) (of_all js)) where
  none_given : (vs : List Value) → of_all [] ≡ Some vs → vs ≡ []
  none_given vs e = let both : Some vs ≡ Some [] = sym e ∙ of_none in cc

  pub with_last : (js : List JoinField) (j : JoinField) (vs : List Value) (v : Value) → of_all js ≡ Some vs → f j ≡ Some v → of_all (js ++ j ∷ []) ≡ Some (vs ++ v ∷ [])
  with_last [] j vs v e d = of_more j [] ∙ (ap₂ joined.with_first d of_none ∙ ap (λ (it : List Value). Some (it ++ v ∷ [])) (sym (none_given vs e)))
  with_last (k ∷ js) j vs v e d =
      let (u, us, first, others, are) = first_of (f k) (of_all js) vs (sym (of_more k js) ∙ e) in
      of_more k (js ++ j ∷ []) ∙ (ap₂ joined.with_first first (with_last js j us v others d) ∙ ap (λ (it : List Value). Some (it ++ v ∷ [])) (sym are))

  pub as_many : (js : List JoinField) (vs : List Value) → of_all js ≡ Some vs → length vs ≡ length js
  as_many [] vs e = ap length (none_given vs e)
  as_many (j ∷ js) vs e =
      let (u, us, first, others, are) = first_of (f j) (of_all js) vs (sym (of_more j js) ∙ e) in
      ap length are ∙ ap suc (as_many js us others)

  split_end : (xs : List Value) (x u : Value) (us : List Value) → us ≡ [] → xs ++ x ∷ [] ≡ u ∷ us → (xs ≡ []) × (x ≡ u)
  split_end [] x u us none e = (refl, cc)
  split_end (y ∷ []) x u us none e = absurd (let d : y ∷ (x ∷ []) ≡ u ∷ [] = e ∙ ap (λ it. u ∷ it) none in cc)
  split_end (y ∷ (z ∷ xs)) x u us none e = absurd (let d : y ∷ (z ∷ (xs ++ x ∷ [])) ≡ u ∷ [] = e ∙ ap (λ it. u ∷ it) none in cc)

  one_at_least : (js : List JoinField) (j : JoinField) → of_all (js ++ j ∷ []) ≡ Some [] → ⊥
  one_at_least [] j e = let (u, us, first, others, are) = first_of (f j) (of_all []) [] (sym (of_more j []) ∙ e) in absurd (cc)
  one_at_least (k ∷ js) j e = let (u, us, first, others, are) = first_of (f k) (of_all (js ++ j ∷ [])) [] (sym (of_more k (js ++ j ∷ [])) ∙ e) in absurd (cc)

  pub split_last : (js : List JoinField) (j : JoinField) (vs : List Value) (v : Value) → of_all (js ++ j ∷ []) ≡ Some (vs ++ v ∷ []) → (of_all js ≡ Some vs) × (f j ≡ Some v)
  split_last [] j vs v e =
      let (u, us, first, others, are) = first_of (f j) (of_all []) (vs ++ v ∷ []) (sym (of_more j []) ∙ e) in
      let end = split_end vs v u us (none_given us others) are in
      (of_none ∙ ap Some (sym end.0), first ∙ ap Some (sym end.1))
  split_last (k ∷ js) j [] v e =
      let (u, us, first, others, are) = first_of (f k) (of_all (js ++ j ∷ [])) (v ∷ []) (sym (of_more k (js ++ j ∷ [])) ∙ e) in
      let none : us ≡ [] = cc in
      absurd (one_at_least js j (others ∙ ap Some none))
  split_last (k ∷ js) j (x ∷ vs) v e =
      let (u, us, first, others, are) = first_of (f k) (of_all (js ++ j ∷ [])) (x ∷ (vs ++ v ∷ [])) (sym (of_more k (js ++ j ∷ [])) ∙ e) in
      let rest : us ≡ vs ++ v ∷ [] = cc in
      let same : u ≡ x = cc in
      let more = split_last js j vs v (others ∙ ap Some rest) in
      (of_more k js ∙ (ap₂ joined.with_first first more.0 ∙ ap (λ (it : Value). Some (it ∷ vs)) same), more.1)

module _ (env : Bindings) where
  abbrev variable : JoinField → Option Value
  variable j = value_at j.variable env.variables

  abbrev variables : List JoinField → Option (List Value)
  variables js = joined.variable_values js env

  pub variables_and : (js : List JoinField) (j : JoinField) (vs : List Value) (v : Value) → variables js ≡ Some vs → value_at j.variable env.variables ≡ Some v → variables (js ++ j ∷ []) ≡ Some (vs ++ v ∷ [])
  variables_and = with_last variable variables refl (λ j js. refl)

  pub variables_split : (js : List JoinField) (j : JoinField) (vs : List Value) (v : Value) → variables (js ++ j ∷ []) ≡ Some (vs ++ v ∷ []) → (variables js ≡ Some vs) × (value_at j.variable env.variables ≡ Some v)
  variables_split = split_last variable variables refl (λ j js. refl)

  pub as_many_variables : (js : List JoinField) (vs : List Value) → variables js ≡ Some vs → length vs ≡ length js
  as_many_variables = as_many variable variables refl (λ j js. refl)

module _ (content : FactContent) where
  abbrev fields : List JoinField → Option (List Value)
  fields js = joined.field_values js content

  pub fields_and : (js : List JoinField) (j : JoinField) (vs : List Value) (v : Value) → fields js ≡ Some vs → value_in j content ≡ Some v → fields (js ++ j ∷ []) ≡ Some (vs ++ v ∷ [])
  fields_and = with_last (λ j. value_in j content) fields refl (λ j js. refl)

  pub fields_split : (js : List JoinField) (j : JoinField) (vs : List Value) (v : Value) → fields (js ++ j ∷ []) ≡ Some (vs ++ v ∷ []) → (fields js ≡ Some vs) × (value_in j content ≡ Some v)
  fields_split = split_last (λ j. value_in j content) fields refl (λ j js. refl)

  pub as_many_fields : (js : List JoinField) (vs : List Value) → fields js ≡ Some vs → length vs ≡ length js
  as_many_fields = as_many (λ j. value_in j content) fields refl (λ j js. refl)

no_more : {A : Type 0} (xs : List A) → xs ++ [] ≡ xs
no_more [] = refl
no_more (x ∷ xs) = ap (λ it. x ∷ it) (no_more xs)

no_one : {A : Type 0} (o : Option A) → option_to_list o ≡ [] → o ≡ None
no_one None e = refl
no_one (Some a) e = absurd (cc)

one_alone : {A : Type 0} (o : Option A) (a : A) → option_to_list o ≡ a ∷ [] → o ≡ Some a
one_alone None a e = absurd (cc)
one_alone (Some b) a e = let same : b ≡ a = inside e in ap Some same
  where
    inside : b ∷ [] ≡ a ∷ [] → b ≡ a
    inside d = cc

module _ (agree : AgreeByValues) (by_sight : HoldsBySight) (opposite : HoldsOpposite) (p : PatternValue) (decided : is_decided p ≡ true) (unchosen : choice_fields p.parts ≡ []) (unconditional : conditions p.parts ≡ []) (names : Scope)
    (m : Partial) (scope : HasValuesOf names m) where
  abbrev known : List JoinField
  known = known_fields (join_fields p.parts) names

  values_known : (vs : List Value) × (joined.variable_values known m.env ≡ Some vs)
  values_known = all_known names m scope (join_fields p.parts)

  decides : (content : FactContent) → AgreeWith (join_fields p.parts) m.env content → HoldOf (compared_fields p.parts) m.env content → ValuesDecide p m.env content
  decides content h compare = (
    h,
    compare,
    subst (λ cs. AreOneOf cs m.env content) (sym unchosen) (λ c k. absurd (none_contained c k)),
    λ t k. absurd (none_contained t (subst (λ ts. Contains ts t) unconditional k)),
  )

  -- the values of fields that are known in a fact are those of their variables, where the fact agrees with these
  fields_known : (content : FactContent) → AgreeWith (join_fields p.parts) m.env content → joined.field_values known content ≡ Some values_known.0
  fields_known content h =
      let same = (agree m.env names scope (join_fields p.parts) content).0 h in
      listed_fields known content values_known.0 (sym same ∙ variables_listed known m.env values_known.0 values_known.1)

  agrees : (content : FactContent) (vs : List Value) → joined.variable_values known m.env ≡ Some vs → joined.field_values known content ≡ Some vs → AgreeWith (join_fields p.parts) m.env content
  agrees content vs e d = (agree m.env names scope (join_fields p.parts) content).1 (variables_listed known m.env vs e ∙ sym (fields_listed known content vs d))

  module _ (fs : IndexedFacts) (facts : ℕ → Option Fact) (cands : AreCandidates p fs facts) (js : List JoinField) where
    -- by the order of one field that is compared, or none
    module _ (comparison : Option Comparison) (are : js ≡ known ++ map compared_join (compared_fields p.parts))
        (by : option_to_list comparison ≡ map (λ (c : ComparedField). c.comparison) (compared_fields p.parts)) (order : are_by_order (compared_fields p.parts) ≡ true) where
      -- where nothing is compared
      module _ (none : compared_fields p.parts ≡ []) where
        plain_are : js ≡ known
        plain_are = are ∙ (ap (λ (cs : List ComparedField). known ++ map compared_join cs) none ∙ no_more known)

        plain_to : Sees p fs m → SeesOne None js facts m
        plain_to (f, there, shape, decide) =
            let n = cands.all f there shape in (
              values_known.0,
              ap (λ it. joined.variable_values it m.env) plain_are ∙ values_known.1,
              (n.0, ap₂ values_in plain_are n.1 ∙ fields_known f.1.content decide.0),
            )

        to_plain : SeesOne None js facts m → Sees p fs m
        to_plain (vs, is, (n, e)) =
            let f = has_fact js (facts n) vs e in
            let c = cands.are n f.0 f.1 in
            let values = ap (λ it. joined.variable_values it m.env) (sym plain_are) ∙ is in
            let has = ap (λ it. joined.field_values it f.0.1.content) (sym plain_are) ∙ f.2 in
            (f.0, c.0, c.1, decides f.0.1.content (agrees f.0.1.content vs values has) (subst (λ cs. HoldOf cs m.env f.0.1.content) (sym none) (λ c k. absurd (none_contained c k))))

      -- where one field is
      module _ (c : ComparedField) (one : compared_fields p.parts ≡ c ∷ []) where
        ordered_are : js ≡ known ++ compared_join c ∷ []
        ordered_are = are ∙ ap (λ (cs : List ComparedField). known ++ map compared_join cs) one

        ordered_to : Sees p fs m → SeesOne (Some c.comparison) js facts m
        ordered_to (f, there, shape, decide) =
            let n = cands.all f there shape in
            let (w, v, has, other, compare) = decide.1 c (subst (λ cs. Contains cs c) (sym one) (0, omega arith, refl)) in
            let vs = values_known.0 in (
              vs ++ v ∷ [],
              ap (λ it. joined.variable_values it m.env) ordered_are ∙ variables_and m.env known (compared_join c) vs v values_known.1 other,
              (
                vs ++ w ∷ [],
                (vs, w, v, refl, refl, compare),
                (n.0, ap₂ values_in ordered_are n.1 ∙ fields_and f.1.content known (compared_join c) vs w (fields_known f.1.content decide.0) has),
              ),
            )

        to_ordered : SeesOne (Some c.comparison) js facts m → Sees p fs m
        to_ordered (vs, is, (ws, (ks, w, v, ws_are, vs_are, compare), (n, e))) =
            let f = has_fact js (facts n) ws e in
            let at = cands.are n f.0 f.1 in
            let content = f.0.1.content in
            let values = variables_split m.env known (compared_join c) ks v (ap (λ it. joined.variable_values it m.env) (sym ordered_are) ∙ (is ∙ ap Some vs_are)) in
            let has = fields_split content known (compared_join c) ks w (ap (λ it. joined.field_values it content) (sym ordered_are) ∙ (f.2 ∙ ap Some ws_are)) in
            let holds : HoldOf (c ∷ []) m.env content =
            λ d k. subst (λ it. HoldsOf it m.env content) (sym (one_contained c d k)) (w, v, has.1, values.1, compare) in
            (f.0, at.0, at.1, decides content (agrees content ks values.0 has.0) (subst (λ cs. HoldOf cs m.env content) (sym one) holds))

      sees_in_order : Sees p fs m ↔ SeesOne comparison js facts m
      sees_in_order = by_fields (compared_fields p.parts) refl order
        where
          by_fields : (cs : List ComparedField) → compared_fields p.parts ≡ cs → are_by_order cs ≡ true → Sees p fs m ↔ SeesOne comparison js facts m
          by_fields [] none o =
              let is = no_one comparison (by ∙ ap (map (λ (c : ComparedField). c.comparison)) none) in (
                λ h. subst (λ it. SeesOne it js facts m) (sym is) (plain_to none h),
                λ h. to_plain none (subst (λ it. SeesOne it js facts m) is h),
              )
          by_fields (c ∷ []) one o =
              let is = one_alone comparison c.comparison (by ∙ ap (map (λ (c : ComparedField). c.comparison)) one) in (
                λ h. subst (λ it. SeesOne it js facts m) (sym is) (ordered_to c one h),
                λ h. to_ordered c one (subst (λ it. SeesOne it js facts m) is h),
              )
          by_fields (c ∷ (d ∷ cs)) more o = absurd (cc)

    -- by a witness, whatever is compared
    module _ (cs : List ComparedField) (are : js ≡ known) (compare : cs ≡ compared_fields p.parts) where
      sees_witness : Sees p fs m ↔ SeesSome cs js facts m
      sees_witness = (
        λ h.
            let (f, there, shape, decide) = h in
            let n = cands.all f there shape in
            let hold : all_compare cs m.env f.1.content ≡ true =
            so_all cs m.env f.1.content (λ c k. decide.1 c (subst (λ it. Contains it c) compare (contained c cs k))) in (
              n.0,
              (
                values_known.0,
                ap (λ it. joined.variable_values it m.env) are ∙ values_known.1,
                ap₂ values_in are n.1 ∙ fields_known f.1.content decide.0,
                ap (λ it. compares_with cs it m) n.1 ∙ hold,
              ),
            ),
        λ h.
            let (k, (vs, is, e, hold)) = h in
            let f = has_fact js (facts k) vs e in
            let at = cands.are k f.0 f.1 in
            let content = f.0.1.content in
            let values = ap (λ it. joined.variable_values it m.env) (sym are) ∙ is in
            let has = ap (λ it. joined.field_values it content) (sym are) ∙ f.2 in
            let so : all_compare cs m.env content ≡ true = ap (λ it. compares_with cs it m) (sym f.1) ∙ hold in
            let holds : HoldOf cs m.env content = λ c i. all_so cs m.env content so c (member c cs i) in
            (f.0, at.0, at.1, decides content (agrees content vs values has) (subst (λ it. HoldOf it m.env content) compare holds)),
      )

    sees_so : (looking : Looking) → AsksBy looking js known (compared_fields p.parts) → Sees p fs m ↔ SeesBy looking js facts m
    sees_so (in_order comparison) asks = sees_in_order comparison asks.0 asks.1 asks.2
    sees_so (by_witness cs) asks = sees_witness cs asks.0 asks.1

    module _ (looking : Looking) (asks : AsksBy looking js known (compared_fields p.parts)) where
      holds_where : (holds_alone true p fs m ≡ true) ↔ SeesBy looking js facts m
      holds_where = let so = by_sight p fs m decided in let is = sees_so looking asks in (λ h. is.0 (so.0 h), λ h. so.1 (is.1 h))

      -- whether there is such a fact can be decided
      pub sees_or : SeesBy looking js facts m ⊎ (SeesBy looking js facts m → ⊥)
      sees_or = by_test (holds_alone true p fs m)
          (λ t. inl (holds_where.0 t))
          (λ f. inr (λ h. both (sym f ∙ holds_where.1 h)))
        where
          both : false ≡ true → ⊥
          both d = cc

      -- and the group holds by it
      pub holds_so : (positive : Bool) → (holds_alone positive p fs m ≡ true) ↔ Passes positive (SeesBy looking js facts m)
      holds_so true = holds_where
      holds_so false = (λ h s. to_not (holds_alone true p fs m) (sym (opposite p fs m) ∙ h) (holds_where.1 s), λ none. opposite p fs m ∙ not_to (holds_alone true p fs m) (λ t. none (holds_where.0 t)))
        where
          to_not : (b : Bool) → not b ≡ true → b ≡ true → ⊥
          to_not true e d = cc
          to_not false e d = cc

          not_to : (b : Bool) → (b ≡ true → ⊥) → not b ≡ true
          not_to true h = absurd (h refl)
          not_to false h = refl

-- one comparison of integers at most is in order
ordered_one : (comparison : Option Comparison) (cs : List ComparedField) → option_to_list comparison ≡ map (λ (c : ComparedField). c.comparison) cs → are_by_order cs ≡ true → is_ordered comparison ≡ true
ordered_one comparison [] e o = ap is_ordered (no_one comparison e)
ordered_one comparison (c ∷ []) e o = ap is_ordered (one_alone comparison c.comparison e) ∙ o
ordered_one comparison (c ∷ (d ∷ cs)) e o = absurd (cc)

pub well_ordered : (looking : Looking) (js known : List JoinField) (cs : List ComparedField) → AsksBy looking js known cs → is_well_ordered looking ≡ true
well_ordered (in_order comparison) js ks cs asks = ordered_one comparison cs asks.1 asks.2
well_ordered (by_witness ds) js ks cs asks = refl
