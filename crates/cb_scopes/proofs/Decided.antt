-- Facts by the values of fields whose variables are known, and groups of one pattern that is decided by values.
use Rattle.std.proofs.Common.{arith, ◌≡◌, ◌≢◌, ◌↔◌, ◌⊎◌, ◌∙◌, ◌||◌, ◌∷◌, inl, inr, ℕ, zero, suc, Bool, true, false, cond, not, List, [], Option, Some, None, ap, ap₂, refl, subst, sym}
use Rattle.std.specs.Cmp.Lexicographic.{bytes_decides}
use Rattle.std.specs.List.{Contains, flat_map}
use Rattle.std.specs.Str.{bytes_eq}
use Rattle.cb_constraints.specs.PatternValues.{PatternValue}
use Rattle.cb_fit.specs.Comparisons.{is_decided}
use Rattle.cb_fit.specs.Decided.{AgreeWith, ValuesDecide}
use Rattle.cb_fit.specs.Plain.{is_named}
use Rattle.cb_exprs.specs.Bindings.{Bindings, value_at}
use Rattle.cb_facts.specs.FactLists.{IndexedFacts}
use Rattle.cb_facts.specs.Facts.{FactContent, FactValue}
use Rattle.cb_facts.specs.declared.value.Value.{Value}
use Rattle.cb_fit.specs.JoinFields.{value_in}
use Rattle.cb_fit.specs.Shapes.{is_selected}
use Rattle.cb_fit.specs.Ways.{ways}
use Rattle.cb_fit.specs.declared.join_fields.JoinField.{JoinField}
use Rattle.cb_matches.proofs.Lists.{flat_in, in_flat, in_map, map_in}
use Rattle.cb_matches.specs.Chains.{In}
use Rattle.cb_matches.specs.Matches.{Partial, extended, group_holds, grown, next}
use Rattle.cb_nodes.specs.Flat.{holds_alone}
use Rattle.cb_scopes.specs.Decided.{Sees, field_values, known_fields, variable_values}
use Rattle.cb_scopes.specs.Scopes.{Scope}

-- names by test and by list
pub named_in : (x : List ℕ) (names : Scope) → is_named x names ≡ true → In x names
named_in x [] e = absurd (cc)
named_in x (y ∷ names) e = by (named_in x names) (bytes_eq x y) (bytes_decides x y).0 e
  where
    by : (is_named x names ≡ true → In x names) → (t : Bool) → (t ≡ true → x ≡ y) → t || is_named x names ≡ true → In x (y ∷ names)
    by more true same d = inl (same refl)
    by more false same d = inr (more d)

pub in_named : (x : List ℕ) (names : Scope) → In x names → is_named x names ≡ true
in_named x [] h = absurd h
in_named x (y ∷ names) (inl same) = ap (λ t. t || is_named x names) ((bytes_decides x y).1 same)
in_named x (y ∷ names) (inr h) = later (bytes_eq x y) (in_named x names h)
  where
    later : (t : Bool) → is_named x names ≡ true → t || is_named x names ≡ true
    later true e = refl
    later false e = e

none_or : (o : Option Value) → (o ≡ None) ⊎ ((v : Value) × (o ≡ Some v))
none_or None = inl refl
none_or (Some v) = inr (v, refl)

others_agree : (j : JoinField) (js : List JoinField) (env : Bindings) (content : FactContent) → AgreeWith (j ∷ js) env content → AgreeWith js env content
others_agree j js env content h i (k, lt, is) = h i (suc k, omega arith, is)

module _ (env : Bindings) (content : FactContent) (names : Scope) (scope : (x : List ℕ) → (value_at x env.variables ≢ None) ↔ In x names) where
  -- where the fields agree, those that are known have the values of their variables
  known_values : (js : List JoinField) → AgreeWith js env content → variable_values (known_fields js names) env ≡ field_values (known_fields js names) content
  known_values [] h = refl
  known_values (j ∷ js) h = by (is_named j.variable names) refl (known_values js (others_agree j js env content h))
    where
      same : is_named j.variable names ≡ true → value_at j.variable env.variables ≡ value_in j content
      same e = of (none_or (value_at j.variable env.variables))
        where
          of : (value_at j.variable env.variables ≡ None) ⊎ ((v : Value) × (value_at j.variable env.variables ≡ Some v)) → value_at j.variable env.variables ≡ value_in j content
          of (inl none) = absurd ((scope j.variable).1 (named_in j.variable names e) none)
          of (inr (v, is)) = is ∙ sym (h j (zero, omega arith, refl) v is)

      by : (t : Bool) → is_named j.variable names ≡ t → variable_values (known_fields js names) env ≡ field_values (known_fields js names) content
          → variable_values (cond t (j ∷ known_fields js names) (known_fields js names)) env ≡ field_values (cond t (j ∷ known_fields js names) (known_fields js names)) content
      by true e more = ap₂ (λ (o : Option Value) (os : List (Option Value)). o ∷ os) (same e) more
      by false e more = more

  -- and where these have them, the fields agree
  agree_by_values : (js : List JoinField) → variable_values (known_fields js names) env ≡ field_values (known_fields js names) content → AgreeWith js env content
  agree_by_values [] e j (k, lt, at) v is = absurd (omega arith)
  agree_by_values (i ∷ js) e j at v is = by (agree_by_values js) (is_named i.variable names) refl e at
    where
      known : is_named j.variable names ≡ true
      known = in_named j.variable names ((scope j.variable).0 (λ none. apart (sym is ∙ none)))
        where
          apart : Some v ≡ None → ⊥
          apart d = cc

      first : (o p : Option Value) (os ps : List (Option Value)) → o ∷ os ≡ p ∷ ps → o ≡ p
      first o p os ps d = cc

      rest : (o p : Option Value) (os ps : List (Option Value)) → o ∷ os ≡ p ∷ ps → os ≡ ps
      rest o p os ps d = cc

      by : (variable_values (known_fields js names) env ≡ field_values (known_fields js names) content → AgreeWith js env content) → (t : Bool) → is_named i.variable names ≡ t
          → variable_values (cond t (i ∷ known_fields js names) (known_fields js names)) env ≡ field_values (cond t (i ∷ known_fields js names) (known_fields js names)) content
          → Contains (i ∷ js) j → value_in j content ≡ Some v
      by more true named d (zero, lt, same) =
          ap (λ (u : JoinField). value_in u content) (sym same)
          ∙ (sym (first (value_at i.variable env.variables) (value_in i content) (variable_values (known_fields js names) env) (field_values (known_fields js names) content) d)
          ∙ (ap (λ (u : JoinField). value_at u.variable env.variables) same ∙ is))
      by more true named d (suc k, lt, same) =
          more (rest (value_at i.variable env.variables) (value_in i content) (variable_values (known_fields js names) env) (field_values (known_fields js names) content) d) j (k, omega arith, same) v is
      by more false named d (zero, lt, same) = absurd (both (sym named ∙ (ap (λ (u : JoinField). is_named u.variable names) same ∙ known)))
        where
          both : false ≡ true → ⊥
          both d = cc
      by more false named d (suc k, lt, same) = more d j (k, omega arith, same) v is

  pub agree_where : (js : List JoinField) → AgreeWith js env content ↔ (variable_values (known_fields js names) env ≡ field_values (known_fields js names) content)
  agree_where js = (known_values js, agree_by_values js)

-- a group of one pattern
abbrev pub DecidedByValues : Type 0
DecidedByValues = (p : PatternValue) (f : FactValue) (before : Bindings) → is_decided p ≡ true → (ways p f before ≢ []) ↔ ((is_selected p f ≡ true) × ValuesDecide p before f.content)

some_member : {A : Type 0} (x : A) (xs : List A) → In x xs → xs ≢ []
some_member x [] h e = absurd h
some_member x (y ∷ ys) h e = cc

first_member : {A : Type 0} (xs : List A) → xs ≢ [] → (x : A) × In x xs
first_member [] h = absurd (h refl)
first_member (x ∷ xs) h = (x, inl refl)

holds_some : (ms : List Partial) → (group_holds true ms ≡ true) ↔ (ms ≢ [])
holds_some [] = (λ e. absurd (cc), λ h. absurd (h refl))
holds_some (m ∷ ms) = (λ e d. apart d, λ h. refl)
  where
    apart : m ∷ ms ≡ [] → ⊥
    apart d = cc

pub opposite : (ms : List Partial) → group_holds false ms ≡ not (group_holds true ms)
opposite [] = refl
opposite (m ∷ ms) = refl

pub holds_where : DecidedByValues → (p : PatternValue) (fs : IndexedFacts) (m : Partial) → is_decided p ≡ true → (holds_alone true p fs m ≡ true) ↔ Sees p fs m
holds_where decided p fs m e = (to, from)
  where
    to : holds_alone true p fs m ≡ true → Sees p fs m
    to h =
        let (z, there) = first_member (next None p fs (m ∷ [])) ((holds_some (next None p fs (m ∷ []))).0 h) in
        let (n, one, more) = in_flat (λ (k : Partial). flat_map (extended None p k) fs) z (m ∷ []) there in
        let (f, held, last) = in_flat (extended None p n) z fs more in
        let (w, way, is) = in_map (grown None f.0 n) z (ways p f.1 n.env) last in
        let so = (decided p f.1 n.env e).0 (some_member w (ways p f.1 n.env) way) in
        (f, held, so.0, subst (λ (k : Partial). ValuesDecide p k.env f.1.content) (only n one) so.1)
      where
        only : (n : Partial) → In n (m ∷ []) → n ≡ m
        only n (inl is) = is
        only n (inr h) = absurd h

    from : Sees p fs m → holds_alone true p fs m ≡ true
    from (f, held, shape, so) =
        let (w, way) = first_member (ways p f.1 m.env) ((decided p f.1 m.env e).1 (shape, so)) in
        (holds_some (next None p fs (m ∷ []))).1
        (some_member (grown None f.0 m w) (next None p fs (m ∷ []))
        (flat_in (λ (k : Partial). flat_map (extended None p k) fs) (grown None f.0 m w) (m ∷ []) m (inl refl)
        (flat_in (extended None p m) (grown None f.0 m w) fs f held (map_in (grown None f.0 m) (ways p f.1 m.env) w way))))
