-- The scopes of lists, while nodes are added.
use Rattle.std.proofs.Common.{◌≡◌, ◌∙◌, ◌+◌, ◌≤◌, ◌<◌, ℕ, zero, suc, List, [], ◌∷◌, ◌++◌, length, slice_index_or, refl, ap, arith}
use Rattle.std.proofs.lemmas.List.{length-append}
use Rattle.cb_branch.specs.Internal.Plans.{KeepsScopes, last_tested, node_with}
use Rattle.cb_exprs.specs.Terms.{Term}
use Rattle.cb_nodes.specs.Flat.{FlatNode, alone, grouping, joining, testing}
use Rattle.cb_scopes.specs.Scopes.{Scope, node_scope, scope_of, scopes_from}

-- the scopes as they are made, one behind the other
from_append : (ns more : List FlatNode) (ss : List Scope) → scopes_from (ns ++ more) ss ≡ scopes_from more (scopes_from ns ss)
from_append [] more ss = refl
from_append (n ∷ ns) more ss = from_append ns more (ss ++ node_scope n (λ k. slice_index_or ss k []) ∷ [])

long_scopes : (ns : List FlatNode) (ss : List Scope) → length (scopes_from ns ss) ≡ length ss + length ns
long_scopes [] ss = omega (arith)
long_scopes (n ∷ ns) ss =
    let s : Scope = node_scope n (λ k. slice_index_or ss k []) in
    let one : length (ss ++ s ∷ []) ≡ length ss + 1 = length-append ss (s ∷ []) in
    let rest : length (scopes_from ns (ss ++ s ∷ [])) ≡ length (ss ++ s ∷ []) + length ns = long_scopes ns (ss ++ s ∷ []) in
    omega (arith, one, rest)

at_old : (ss : List Scope) (s : Scope) (k : ℕ) → k < length ss → slice_index_or (ss ++ s ∷ []) k [] ≡ slice_index_or ss k []
at_old [] s k h = absurd (omega (arith, h))
at_old (t ∷ ss) s zero h = refl
at_old (t ∷ ss) s (suc k) h = at_old ss s k (omega (arith, h))

at_new : (ss : List Scope) (s : Scope) → slice_index_or (ss ++ s ∷ []) (length ss) [] ≡ s
at_new [] s = refl
at_new (t ∷ ss) s = at_new ss s

-- one node more: the lists before have the scopes that they had, and the one behind it has its own
pub one_more : (ns : List FlatNode) (n : FlatNode) (k : ℕ) → k ≤ length ns → scope_of (ns ++ n ∷ []) k ≡ scope_of ns k
one_more ns n k h =
    let ss : List Scope = scopes_from ns ([] ∷ []) in
    let s : Scope = node_scope n (λ j. slice_index_or ss j []) in
    let long : length ss ≡ 1 + length ns = long_scopes ns ([] ∷ []) in
    ap (λ (it : List Scope). slice_index_or it k []) (from_append ns (n ∷ []) ([] ∷ [])) ∙ at_old ss s k (omega (arith, h, long))

pub behind_last : (ns : List FlatNode) (n : FlatNode) → scope_of (ns ++ n ∷ []) (suc (length ns)) ≡ node_scope n (scope_of ns)
behind_last ns n =
    let ss : List Scope = scopes_from ns ([] ∷ []) in
    let s : Scope = node_scope n (λ j. slice_index_or ss j []) in
    let long : length ss ≡ 1 + length ns = long_scopes ns ([] ∷ []) in
    let at : suc (length ns) ≡ length ss = omega (arith, long) in
    ap (λ (it : List Scope). slice_index_or it (suc (length ns)) []) (from_append ns (n ∷ []) ([] ∷ []))
    ∙ (ap (λ k. slice_index_or (ss ++ s ∷ []) k []) at ∙ at_new ss s)

pub pushed_keeps : (ns ns' : List FlatNode) (n : FlatNode) → ns' ≡ ns ++ n ∷ [] → KeepsScopes ns ns'
pushed_keeps ns ns' n is =
    let long : length ns' ≡ length ns + 1 = ap length is ∙ length-append ns (n ∷ []) in
    record {
      longer = omega (arith, long);
      same = λ k h. ap (λ (it : List FlatNode). scope_of it k) is ∙ one_more ns n k h;
    }

-- tests that belong to the last node
with_scope : (ts : List Term) (n : FlatNode) (ss : ℕ → Scope) → node_scope (node_with ts n) ss ≡ node_scope n ss
with_scope ts (joining from x p us) ss = refl
with_scope ts (testing from t) ss = refl
with_scope ts (grouping from inner positive width) ss = refl
with_scope ts (alone from p positive) ss = refl

last_scopes : (ts : List Term) (ns : List FlatNode) (ss : List Scope) → scopes_from (last_tested ts ns) ss ≡ scopes_from ns ss
last_scopes ts [] ss = refl
last_scopes ts (n ∷ []) ss = ap (λ (s : Scope). ss ++ s ∷ []) (with_scope ts n (λ k. slice_index_or ss k []))
last_scopes ts (n ∷ m ∷ ns) ss = last_scopes ts (m ∷ ns) (ss ++ node_scope n (λ k. slice_index_or ss k []) ∷ [])

long_last : (ts : List Term) (ns : List FlatNode) → length (last_tested ts ns) ≡ length ns
long_last ts [] = refl
long_last ts (n ∷ []) = refl
long_last ts (n ∷ m ∷ ns) = ap suc (long_last ts (m ∷ ns))

pub tested_scope : (ts : List Term) (ns ns' : List FlatNode) (k : ℕ) → ns' ≡ last_tested ts ns → scope_of ns' k ≡ scope_of ns k
tested_scope ts ns ns' k is = ap (λ (it : List FlatNode). scope_of it k) is ∙ ap (λ (it : List Scope). slice_index_or it k []) (last_scopes ts ns ([] ∷ []))

pub tested_keeps : (ts : List Term) (ns ns' : List FlatNode) → ns' ≡ last_tested ts ns → KeepsScopes ns ns'
tested_keeps ts ns ns' is =
    let long : length ns' ≡ length ns = ap length is ∙ long_last ts ns in
    record { longer = omega (arith, long); same = λ k h. tested_scope ts ns ns' k is }

-- nothing more, and more twice
pub none_keeps : (ns : List FlatNode) → KeepsScopes ns ns
none_keeps ns = record { longer = omega (arith); same = λ k h. refl }

pub both_keep : (ns ms os : List FlatNode) → KeepsScopes ns ms → KeepsScopes ms os → KeepsScopes ns os
both_keep ns ms os one two =
    let a = one.longer in
    let b = two.longer in
    record { longer = omega (arith, a, b); same = λ k h. two.same k (omega (arith, a, h)) ∙ one.same k h }
