-- The partial matches of a list have the values of its scope.
use Rattle.std.proofs.Common.{◌≡◌, ◌≢◌, ◌≤◌, ◌<◌, ◌↔◌, ◌⊎◌, ◌∙◌, ◌∷◌, ◌++◌, inl, inr, ℕ, zero, suc, Bool, true, false, cond, List, [], Option, Some, None, ap, arith, length, refl, slice_index_or, subst, sym}
use Rattle.std.specs.Cmp.Lexicographic.{bytes_decides}
use Rattle.std.specs.List.{Contains, filter, flat_map, list_any}
use Rattle.std.specs.Prelude.{option_to_list}
use Rattle.std.specs.Str.{bytes_eq}
use Rattle.cb_constraints.specs.PatternValues.{PatternValue}
use Rattle.cb_fit.specs.Plain.{bound_names}
use Rattle.cb_exprs.proofs.ValueLaws.{value_at-with_value}
use Rattle.cb_exprs.specs.Bindings.{Bindings, value_at, with_variables}
use Rattle.cb_facts.specs.FactLists.{IndexedFacts}
use Rattle.cb_facts.specs.Facts.{FactValue}
use Rattle.cb_facts.specs.declared.value.Value.{Value}
use Rattle.cb_facts.specs.declared.value.Value.TheVariants as value
use Rattle.cb_fit.specs.Ways.{WayValue, ways}
use Rattle.cb_matches.proofs.Lists.{contains_in, in_contains, in_either, in_filter, in_flat, in_left, in_map, in_right}
use Rattle.cb_matches.specs.Chains.{In}
use Rattle.cb_matches.specs.Matches.{Partial, extended, grown, next, no_parts, test_holds, with_address}
use Rattle.cb_nodes.specs.Flat.{AreLists, AreWidths, FlatNode, Lists, all_hold, alone, begins, grouping, holds_alone, holds_by, joining, lists_from, node_list, testing}
use Rattle.cb_nodes.specs.Lists.{branch_lists}
use Rattle.cb_scopes.proofs.Made.{node_from, scope_at_start, scope_made, well_from}
use Rattle.cb_scopes.specs.Scopes.{HasValuesOf, Scope, node_scope, scope_of, scopes_from}

-- each of these partial matches has this scope
abbrev pub HaveScope : List Partial → Scope → Type 0
HaveScope ms names = (m : Partial) → In m ms → HasValuesOf names m

-- what is known of ways
abbrev pub WaysHave : Type 0
WaysHave = (p : PatternValue) (f : FactValue) (before : Bindings) (w : WayValue) → Contains (ways p f before) w → (x : List ℕ)
    → (value_at x (with_variables w.bound before).variables ≢ None) ↔ ((value_at x before.variables ≢ None) ⊎ Contains (bound_names p) x)

-- the variable of an address
some_is_not : (v : Value) → Some v ≢ None
some_is_not v e = cc

with_one : (a : Option (List ℕ)) (ix : ℕ) (env : Bindings) (x : List ℕ) → (value_at x (with_address a ix env).variables ≢ None) ↔ ((value_at x env.variables ≢ None) ⊎ In x (option_to_list a))
with_one None ix env x = ((λ some. inl some), from)
  where
    from : (value_at x env.variables ≢ None) ⊎ ⊥ → value_at x env.variables ≢ None
    from (inl some) = some
    from (inr h) = absurd h
with_one (Some z) ix env x = (to, from)
  where
    is : value_at x (with_address (Some z) ix env).variables ≡ cond (bytes_eq x z) (Some (value.Fact ix)) (value_at x env.variables)
    is = value_at-with_value env.variables x z (value.Fact ix)

    to : value_at x (with_address (Some z) ix env).variables ≢ None → (value_at x env.variables ≢ None) ⊎ In x (z ∷ [])
    to some = by (bytes_eq x z) (bytes_decides x z).0 (λ e. some (is ∙ e))
      where
        by : (t : Bool) → (t ≡ true → x ≡ z) → cond t (Some (value.Fact ix)) (value_at x env.variables) ≢ None → (value_at x env.variables ≢ None) ⊎ In x (z ∷ [])
        by true same h = inr (inl (same refl))
        by false same h = inl h

    from : (value_at x env.variables ≢ None) ⊎ In x (z ∷ []) → value_at x (with_address (Some z) ix env).variables ≢ None
    from (inl some) e = by (bytes_eq x z) (sym is ∙ e)
      where
        by : (t : Bool) → cond t (Some (value.Fact ix)) (value_at x env.variables) ≡ None → ⊥
        by true d = some_is_not (value.Fact ix) d
        by false d = some d
    from (inr (inl same)) e =
        some_is_not (value.Fact ix) (sym (ap (λ t. cond t (Some (value.Fact ix)) (value_at x env.variables)) ((bytes_decides x z).1 same)) ∙ (sym is ∙ e))
    from (inr (inr h)) e = absurd h

-- a partial match that grew
grown_scope : WaysHave → (a : Option (List ℕ)) (p : PatternValue) (ix : ℕ) (f : FactValue) (m : Partial) (w : WayValue) (names : Scope) → Contains (ways p f (with_address a ix m.env)) w → HasValuesOf names m
    → HasValuesOf (names ++ (option_to_list a ++ bound_names p)) (grown a ix m w)
grown_scope have a p ix f m w names i scope x = (λ some. into ((have p f (with_address a ix m.env) w i x).0 some), λ h. (have p f (with_address a ix m.env) w i x).1 (back (in_either x names (option_to_list a ++ bound_names p) h)))
  where
    of_before : (value_at x m.env.variables ≢ None) ⊎ In x (option_to_list a) → In x (names ++ (option_to_list a ++ bound_names p))
    of_before (inl some) = in_left x names (option_to_list a ++ bound_names p) ((scope x).0 some)
    of_before (inr h) = in_right x names (option_to_list a ++ bound_names p) (in_left x (option_to_list a) (bound_names p) h)

    into : (value_at x (with_address a ix m.env).variables ≢ None) ⊎ Contains (bound_names p) x → In x (names ++ (option_to_list a ++ bound_names p))
    into (inl some) = of_before ((with_one a ix m.env x).0 some)
    into (inr h) = in_right x names (option_to_list a ++ bound_names p) (in_right x (option_to_list a) (bound_names p) (contains_in x (bound_names p) h))

    own : In x (option_to_list a) ⊎ In x (bound_names p) → (value_at x (with_address a ix m.env).variables ≢ None) ⊎ Contains (bound_names p) x
    own (inl h) = inl ((with_one a ix m.env x).1 (inr h))
    own (inr h) = inr (in_contains x (bound_names p) h)

    back : In x names ⊎ In x (option_to_list a ++ bound_names p) → (value_at x (with_address a ix m.env).variables ≢ None) ⊎ Contains (bound_names p) x
    back (inl h) = inl ((with_one a ix m.env x).1 (inl ((scope x).1 h)))
    back (inr h) = own (in_either x (option_to_list a) (bound_names p) h)

pub next_scope : WaysHave → (a : Option (List ℕ)) (p : PatternValue) (fs : IndexedFacts) (ms : List Partial) (names : Scope) → HaveScope ms names → HaveScope (next a p fs ms) (names ++ (option_to_list a ++ bound_names p))
next_scope have a p fs ms names scope z h =
    let (m, there, more) = in_flat (λ m. flat_map (extended a p m) fs) z ms h in
    let (f, held, last) = in_flat (extended a p m) z fs more in
    let (w, way, is) = in_map (grown a f.0 m) z (ways p f.1 (with_address a f.0 m.env)) last in
    subst (HasValuesOf (names ++ (option_to_list a ++ bound_names p))) (sym is)
    (grown_scope have a p f.0 f.1 m w names (in_contains w (ways p f.1 (with_address a f.0 m.env)) way) (scope m there))

-- what passes a test
passed_scope : (t : Partial → Bool) (ms : List Partial) (names : Scope) → HaveScope ms names → HaveScope (filter t ms) names
passed_scope t ms names scope z h = scope z (in_filter t z ms h).0

-- the list of a node
node_has : WaysHave → (n : FlatNode) (fs : IndexedFacts) (ls : Lists) (ss : ℕ → Scope) → HaveScope (ls (node_from n)) (ss (node_from n)) → HaveScope (node_list n fs ls) (node_scope n ss)
node_has have (joining from x p ts) fs ls ss scope =
    passed_scope (all_hold ts) (next x p fs (ls from)) (ss from ++ (option_to_list x ++ bound_names p)) (next_scope have x p fs (ls from) (ss from) scope)
node_has have (testing from t) fs ls ss scope = passed_scope (λ m. test_holds t m.env) (ls from) (ss from) scope
node_has have (grouping from inner positive width) fs ls ss scope =
    passed_scope (λ m. holds_by positive (list_any (begins m.parts) (ls inner))) (ls from) (ss from) scope
node_has have (alone from p positive) fs ls ss scope = passed_scope (holds_alone positive p fs) (ls from) (ss from) scope

-- lists and scopes side by side
abbrev AreScoped : List (List Partial) → List Scope → Type 0
AreScoped [] [] = Unit {0}
AreScoped [] (s ∷ ss) = ⊥
AreScoped (l ∷ ls) [] = ⊥
AreScoped (l ∷ ls) (s ∷ ss) = HaveScope l s × AreScoped ls ss

none_have : (names : Scope) → HaveScope [] names
none_have names m h = absurd h

scoped_at : (ls : List (List Partial)) (ss : List Scope) → AreScoped ls ss → (k : ℕ) → HaveScope (slice_index_or ls k []) (slice_index_or ss k [])
scoped_at [] [] h k = none_have []
scoped_at [] (s ∷ ss) h k = absurd h
scoped_at (l ∷ ls) [] h k = absurd h
scoped_at (l ∷ ls) (s ∷ ss) h zero = h.0
scoped_at (l ∷ ls) (s ∷ ss) h (suc k) = scoped_at ls ss h.1 k

one_more : (ls : List (List Partial)) (ss : List Scope) (l : List Partial) (s : Scope) → AreScoped ls ss → HaveScope l s → AreScoped (ls ++ l ∷ []) (ss ++ s ∷ [])
one_more [] [] l s h i = (i, tt)
one_more [] (t ∷ ss) l s h i = absurd h
one_more (m ∷ ls) [] l s h i = absurd h
one_more (m ∷ ls) (t ∷ ss) l s h i = (h.0, one_more ls ss l s h.1 i)

all_scoped : WaysHave → (ns : List FlatNode) (fs : IndexedFacts) (ls : List (List Partial)) (ss : List Scope) → AreScoped ls ss → AreScoped (lists_from ns fs ls) (scopes_from ns ss)
all_scoped have [] fs ls ss h = h
all_scoped have (n ∷ ns) fs ls ss h =
    let lists : Lists = λ k. slice_index_or ls k [] in
    let scopes : ℕ → Scope = λ k. slice_index_or ss k [] in
    all_scoped have ns fs (ls ++ node_list n fs lists ∷ []) (ss ++ node_scope n scopes ∷ []) (one_more ls ss (node_list n fs lists) (node_scope n scopes) h (node_has have n fs lists scopes (scoped_at ls ss h (node_from n))))

no_scope : HaveScope (no_parts ∷ []) []
no_scope m (inl is) x = (λ some. absurd (some (ap (λ (n : Partial). value_at x n.env.variables) is)), λ h. absurd h)
no_scope m (inr h) x = absurd h

pub branch_scoped : WaysHave → (ns : List FlatNode) (fs : IndexedFacts) (k : ℕ) → HaveScope (branch_lists ns fs k) (scope_of ns k)
branch_scoped have ns fs k = scoped_at (lists_from ns fs ((no_parts ∷ []) ∷ [])) (scopes_from ns ([] ∷ [])) (all_scoped have ns fs ((no_parts ∷ []) ∷ []) ([] ∷ []) (no_scope, tt)) k

-- and of any lists that nodes with widths make
any_node : FlatNode
any_node = grouping 0 0 true 0

at_most : (k most : ℕ) → k ≤ suc most → (k ≤ most) ⊎ (k ≡ suc most)
at_most zero most l = inl (omega (arith))
at_most (suc k) zero l = inr (omega (arith, l))
at_most (suc k) (suc most) l = elim (at_most k most (omega (arith, l))) as (λ _. (suc k ≤ suc most) ⊎ (suc k ≡ suc (suc most))) [ inl i ↦ inl (omega (arith, i)) | inr e ↦ inr (ap suc e) ]

module _ (have : WaysHave) (ns : List FlatNode) (ws : ℕ → ℕ) (fs : IndexedFacts) (first : List Partial) (ls : Lists) (widths : AreWidths ns ws) (are : AreLists ns fs first ls) (unbound : HaveScope first []) where
  next_scoped : (k : ℕ) → k < length ns → ((j : ℕ) → j ≤ k → HaveScope (ls j) (scope_of ns j)) → HaveScope (ls (suc k)) (scope_of ns (suc k))
  next_scoped k within before =
      let n : FlatNode = slice_index_or ns k any_node in
      let below : node_from n < suc k = well_from k n ws (widths.well k any_node within) in
      subst (λ (it : List Partial). HaveScope it (scope_of ns (suc k))) (sym (are.each k any_node within))
      (subst (HaveScope (node_list n fs ls)) (sym (scope_made ns k any_node within below)) (node_has have n fs ls (scope_of ns) (before (node_from n) (omega (arith, below)))))

  scoped_up_to : (most : ℕ) → most ≤ length ns → (k : ℕ) → k ≤ most → HaveScope (ls k) (scope_of ns k)
  scoped_up_to zero there k l =
      subst (λ (j : ℕ). HaveScope (ls j) (scope_of ns j)) (let e : 0 ≡ k = omega (arith, l) in e)
      (subst (λ (it : List Partial). HaveScope it (scope_of ns 0)) (sym are.start) (subst (HaveScope first) (sym (scope_at_start ns)) unbound))
  scoped_up_to (suc most) there k l =
      let before = scoped_up_to most (omega (arith, there)) in
      elim (at_most k most l) as (λ _. HaveScope (ls k) (scope_of ns k)) [
        | inl i ↦ before k i
        | inr e ↦ subst (λ (j : ℕ). HaveScope (ls j) (scope_of ns j)) (sym e) (next_scoped most (omega (arith, there)) before)
      ]

  pub lists_scoped : (k : ℕ) → k ≤ length ns → HaveScope (ls k) (scope_of ns k)
  lists_scoped k l = scoped_up_to (length ns) (omega (arith)) k l
