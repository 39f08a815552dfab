-- The scopes of lists as nodes are added, one behind the other.
use Rattle.std.proofs.Common.{◌≡◌, ◌≤◌, ◌<◌, ◌+◌, ◌∙◌, ◌∷◌, ◌++◌, ℕ, zero, suc, List, [], Option, ap, ap₂, arith, length, refl, slice_index_or, sym}
use Rattle.cb_constraints.specs.PatternValues.{PatternValue}
use Rattle.cb_exprs.specs.Terms.{Term}
use Rattle.cb_nodes.specs.Flat.{FlatNode, IsWell, alone, grouping, joining, testing}
use Rattle.cb_scopes.specs.Scopes.{Scope, node_scope, scope_of, scopes_from}

-- a list of scopes with one more
long_more : (ss : List Scope) (s : Scope) → length (ss ++ s ∷ []) ≡ suc (length ss)
long_more [] s = refl
long_more (t ∷ ss) s = ap suc (long_more ss s)

in_front : (ss : List Scope) (s : Scope) (k : ℕ) → k < length ss → slice_index_or (ss ++ s ∷ []) k [] ≡ slice_index_or ss k []
in_front [] s k l = absurd (omega (arith, l))
in_front (t ∷ ss) s zero l = refl
in_front (t ∷ ss) s (suc k) l = in_front ss s k (omega (arith, l))

at_end : (ss : List Scope) (s : Scope) (k : ℕ) → k ≡ length ss → slice_index_or (ss ++ s ∷ []) k [] ≡ s
at_end [] s zero e = refl
at_end [] s (suc k) e = absurd (omega (arith, e))
at_end (t ∷ ss) s zero e = absurd (omega (arith, e))
at_end (t ∷ ss) s (suc k) e = at_end ss s k (omega (arith, e))

-- nodes keep the scopes that there were, and each adds one
kept : (ns : List FlatNode) (ss : List Scope) (k : ℕ) → k < length ss → slice_index_or (scopes_from ns ss) k [] ≡ slice_index_or ss k []
kept [] ss k l = refl
kept (n ∷ ns) ss k l =
    let s : Scope = node_scope n (λ j. slice_index_or ss j []) in
    let e = long_more ss s in
    kept ns (ss ++ s ∷ []) k (omega (arith, e, l)) ∙ in_front ss s k l

long_scopes : (ns : List FlatNode) (ss : List Scope) → length (scopes_from ns ss) ≡ length ns + length ss
long_scopes [] ss = omega (arith)
long_scopes (n ∷ ns) ss =
    let s : Scope = node_scope n (λ j. slice_index_or ss j []) in
    let e = long_scopes ns (ss ++ s ∷ []) in
    let f = long_more ss s in
    omega (arith, e, f)

in_turn : (ns more : List FlatNode) (ss : List Scope) → scopes_from (ns ++ more) ss ≡ scopes_from more (scopes_from ns ss)
in_turn [] more ss = refl
in_turn (n ∷ ns) more ss = in_turn ns more (ss ++ node_scope n (λ j. slice_index_or ss j []) ∷ [])

-- the scope of a list is that of the nodes before it, whatever is behind
pub scope_before : (ns more : List FlatNode) (k : ℕ) → k ≤ length ns → scope_of (ns ++ more) k ≡ scope_of ns k
scope_before ns more k l =
    let e = long_scopes ns ([] ∷ []) in
    ap (λ (it : List Scope). slice_index_or it k []) (in_turn ns more ([] ∷ [])) ∙ kept more (scopes_from ns ([] ∷ [])) k (omega (arith, e, l))

-- before the first node no variable has a value
pub scope_at_start : (ns : List FlatNode) → scope_of ns 0 ≡ []
scope_at_start ns = kept ns ([] ∷ []) 0 (omega (arith))

-- the scope of the list behind a new node
pub scope_of_new : (ns : List FlatNode) (n : FlatNode) → scope_of (ns ++ n ∷ []) (suc (length ns)) ≡ node_scope n (scope_of ns)
scope_of_new ns n =
    let e = long_scopes ns ([] ∷ []) in
    ap (λ (it : List Scope). slice_index_or it (suc (length ns)) []) (in_turn ns (n ∷ []) ([] ∷ []))
    ∙ at_end (scopes_from ns ([] ∷ [])) (node_scope n (scope_of ns)) (suc (length ns)) (omega (arith, e))

-- two nodes make the same scope of any
abbrev pub MakeOneScope : FlatNode → FlatNode → Type 0
MakeOneScope n o = (ss : ℕ → Scope) → node_scope n ss ≡ node_scope o ss

-- each of these nodes does with the one in its place
abbrev pub MakeOneScopes : List FlatNode → List FlatNode → Type 0
MakeOneScopes [] [] = Unit {0}
MakeOneScopes [] (o ∷ os) = ⊥
MakeOneScopes (n ∷ ns) [] = ⊥
MakeOneScopes (n ∷ ns) (o ∷ os) = MakeOneScope n o × MakeOneScopes ns os

one_list : (ns os : List FlatNode) (ss : List Scope) → MakeOneScopes ns os → scopes_from ns ss ≡ scopes_from os ss
one_list [] [] ss h = refl
one_list [] (o ∷ os) ss h = absurd h
one_list (n ∷ ns) [] ss h = absurd h
one_list (n ∷ ns) (o ∷ os) ss h =
    let there : ℕ → Scope = λ j. slice_index_or ss j [] in
    ap (λ (it : Scope). scopes_from ns (ss ++ it ∷ [])) (h.0 there) ∙ one_list ns os (ss ++ node_scope o there ∷ []) h.1

-- then the lists have the same scopes
pub scopes_are_one : (ns os : List FlatNode) → MakeOneScopes ns os → (k : ℕ) → scope_of ns k ≡ scope_of os k
scopes_are_one ns os h k = ap (λ (it : List Scope). slice_index_or it k []) (one_list ns os ([] ∷ []) h)

-- the tests of a node that joins change no scope
pub tests_change_no_scope : (ns more : List FlatNode) (from : ℕ) (x : Option (List ℕ)) (p : PatternValue) (ts us : List Term) (k : ℕ)
    → scope_of (ns ++ joining from x p ts ∷ more) k ≡ scope_of (ns ++ joining from x p us ∷ more) k
tests_change_no_scope ns more from x p ts us k =
    ap (λ (it : List Scope). slice_index_or it k []) (in_turn ns (joining from x p ts ∷ more) ([] ∷ []) ∙ sym (in_turn ns (joining from x p us ∷ more) ([] ∷ [])))

-- the list that a node goes on from: of the scopes before it it reads that one's alone
abbrev pub node_from : FlatNode → ℕ
node_from (joining from x p ts) = from
node_from (testing from t) = from
node_from (grouping from inner positive width) = from
node_from (alone from p positive) = from

scope_read : (n : FlatNode) (ss ts : ℕ → Scope) → ss (node_from n) ≡ ts (node_from n) → node_scope n ss ≡ node_scope n ts
scope_read (joining from x p us) ss ts e = ap₂ (λ (a b : Scope). a ++ b) e refl
scope_read (testing from t) ss ts e = e
scope_read (grouping from inner positive width) ss ts e = e
scope_read (alone from p positive) ss ts e = e

pub well_from : (k : ℕ) (n : FlatNode) (ws : ℕ → ℕ) → IsWell k n ws → node_from n < suc k
well_from k (joining from x p ts) ws h = h
well_from k (testing from t) ws h = h
well_from k (grouping from inner positive width) ws h = h.0
well_from k (alone from p positive) ws h = h

-- each scope is what its node makes of those before it
made : (ns : List FlatNode) (ss : List Scope) (k : ℕ) (d : FlatNode) → k < length ns → node_from (slice_index_or ns k d) < k + length ss
    → slice_index_or (scopes_from ns ss) (k + length ss) [] ≡ node_scope (slice_index_or ns k d) (λ j. slice_index_or (scopes_from ns ss) j [])
made [] ss k d l below = absurd (omega (arith, l))
made (n ∷ ns) ss zero d l below =
    let s : Scope = node_scope n (λ j. slice_index_or ss j []) in
    let e = long_more ss s in
    kept ns (ss ++ s ∷ []) (0 + length ss) (omega (arith, e))
    ∙ (at_end ss s (0 + length ss) (omega (arith))
    ∙ scope_read n (λ j. slice_index_or ss j []) (λ j. slice_index_or (scopes_from (n ∷ ns) ss) j []) (sym (kept (n ∷ ns) ss (node_from n) (omega (arith, below)))))
made (n ∷ ns) ss (suc k) d l below =
    let s : Scope = node_scope n (λ j. slice_index_or ss j []) in
    let longer : suc k + length ss ≡ k + length (ss ++ s ∷ []) = let e = long_more ss s in omega (arith, e) in
    ap (λ (j : ℕ). slice_index_or (scopes_from ns (ss ++ s ∷ [])) j []) longer ∙ made ns (ss ++ s ∷ []) k d (omega (arith, l)) (omega (arith, below, longer))

pub scope_made : (ns : List FlatNode) (k : ℕ) (d : FlatNode) → k < length ns → node_from (slice_index_or ns k d) < suc k → scope_of ns (suc k) ≡ node_scope (slice_index_or ns k d) (scope_of ns)
scope_made ns k d l below = ap (scope_of ns) (let e : suc k ≡ k + 1 = omega (arith) in e) ∙ made ns ([] ∷ []) k d l (omega (arith, below))
