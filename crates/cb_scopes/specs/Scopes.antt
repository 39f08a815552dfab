-- Which variables have values in the partial matches of a list.
use Rattle.std.specs.Prelude.{◌≢◌, ◌↔◌, ℕ, None, List, [], ◌∷◌, ◌++◌, option_to_list, slice_index_or}
use Rattle.cb_exprs.specs.Bindings.{value_at}
use Rattle.cb_fit.specs.Plain.{bound_names}
use Rattle.cb_matches.specs.Chains.{In}
use Rattle.cb_matches.specs.Matches.{Partial}
use Rattle.cb_nodes.specs.Flat.{FlatNode, joining, testing, grouping, alone}

-- the names of variables
abbrev pub Scope : Type 0
Scope = List (List ℕ)

-- the variables that have values behind a node, by those before it: a pattern gives values to its variables and to that of its address
abbrev pub node_scope : FlatNode → (ℕ → Scope) → Scope
node_scope (joining from x p ts) ss = ss from ++ (option_to_list x ++ bound_names p)
node_scope (testing from t) ss = ss from
node_scope (grouping from inner positive width) ss = ss from
node_scope (alone from p positive) ss = ss from

-- those of the lists that nodes make, one behind the other
abbrev pub scopes_from : List FlatNode → List Scope → List Scope
scopes_from [] ss = ss
scopes_from (n ∷ ns) ss = scopes_from ns (ss ++ node_scope n (λ k. slice_index_or ss k []) ∷ [])

-- those of the list with this number: before the first node no variable has a value
abbrev pub scope_of : List FlatNode → ℕ → Scope
scope_of ns k = slice_index_or (scopes_from ns ([] ∷ [])) k []

-- just these variables have values in a partial match
abbrev pub HasValuesOf : Scope → Partial → Type 0
HasValuesOf names m = (x : List ℕ) → (value_at x m.env.variables ≢ None) ↔ In x names
