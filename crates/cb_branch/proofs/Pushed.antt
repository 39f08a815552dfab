-- A node that is added, if memory is had for it.
use Rattle.std.proofs.Common.{◌≡◌, ◌∙◌, ◌+◌, ◌≤◌, false, List, [], ◌∷◌, ◌++◌, Err, Ok, Result, ap, arith, length, subst, sym}
use Rattle.std.proofs.lemmas.List.{length-append, length-map}
use Rattle.std.specs.Result.{IfOk, OnOk}
use Rattle.cb_branch.proofs.NodeScopes.{both_keep}
use Rattle.cb_branch.proofs.Ready.{push_keeps, push_stands}
use Rattle.cb_branch.specs.Internal.Plans.{IsFurther, KeepsScopes, StandsAt, list_before}
use Rattle.cb_branch.specs.Nodes.{IsPlannedNode, flat_node, flat_nodes}
use Rattle.cb_branch.specs.declared.node.Node.{Node}
use Rattle.cb_branch.specs.declared.planning.End.{End}
use Rattle.cb_nodes.specs.Flat.{FlatNode}
use Rattle.cb_rules.specs.Elements.{Element}
use Rattle.cb_scopes.specs.Scopes.{Scope, node_scope, scope_of}

-- what holds of an answer
pub if_both : {A E : Type 0} (P Q R : A → Type 0) (r : Result A E) → ((a : A) → P a → Q a → R a) → IfOk r P → IfOk r Q → IfOk r R
if_both P Q R (Ok a) f p q = f a p q
if_both P Q R (Err e) f p q = tt

pub if_then : {A E : Type 0} (P Q : A → Type 0) (r : Result A E) → ((a : A) → P a → Q a) → IfOk r P → IfOk r Q
if_then P Q (Ok a) f p = f a p
if_then P Q (Err e) f p = tt

pub always : {A E : Type 0} (P : Type 0) (r : Result A E) → P → OnOk r P
always P (Ok a) p = p
always P (Err e) p = tt

-- the end behind these nodes, of which the last is no pattern's
abbrev pub after : {T : Type 0} → List (Node T) → End → End
after new end = record { list = length new; width = end.width; is_pattern = false }

module _ {T E : Type 0} (old new : List (Node T)) (node : Node T) (end : End) (r : Result End E) (pushed : OnOk r (new ≡ old ++ node ∷ [])) (is : IfOk r (λ (behind : End). behind ≡ after new end)) where
  pub pushed_width : end.width ≤ length old → IfOk r (λ (behind : End). behind.width ≤ length new)
  pushed_width fits =
      if_both (λ (behind : End). new ≡ old ++ node ∷ []) (λ (behind : End). behind ≡ after new end) (λ (behind : End). behind.width ≤ length new) r
      (λ behind p i.
      let long : length new ≡ length old + 1 = ap length p ∙ length-append old (node ∷ []) in
      let wide : behind.width ≡ end.width = ap (λ (it : End). it.width) i in
      omega (arith, fits, long, wide)) pushed is

  pub pushed_scopes : (ns : List FlatNode) → KeepsScopes ns (flat_nodes old) → OnOk r (KeepsScopes ns (flat_nodes new))
  pushed_scopes ns keeps =
      if_both (λ (behind : End). new ≡ old ++ node ∷ []) (λ (behind : End). behind ≡ after new end) (λ (behind : End). KeepsScopes ns (flat_nodes new)) r
      (λ behind p i. both_keep ns (flat_nodes old) (flat_nodes new) keeps (push_keeps old new node p)) pushed is

  -- where the node gives no variable a value
  pub pushed_passes : (n : FlatNode) → flat_node node ≡ n → list_before n ≡ end.list → node_scope n (scope_of (flat_nodes old)) ≡ scope_of (flat_nodes old) end.list
      → IsPlannedNode (scope_of (flat_nodes old)) node → IfOk r (λ (behind : End). (names : Scope) → StandsAt old end names → StandsAt new behind names)
  pushed_passes n flat at scope one =
      if_both (λ (behind : End). new ≡ old ++ node ∷ []) (λ (behind : End). behind ≡ after new end) (λ (behind : End). (names : Scope) → StandsAt old end names → StandsAt new behind names) r
      (λ behind p i names stands. push_stands old new node n end behind names p flat i stands.planned stands.list at scope stands.names one) pushed is

  pub pushed_stands : (n : FlatNode) (names : Scope) → flat_node node ≡ n → list_before n ≡ end.list → node_scope n (scope_of (flat_nodes old)) ≡ scope_of (flat_nodes old) end.list
      → StandsAt old end names → IsPlannedNode (scope_of (flat_nodes old)) node → IfOk r (λ (behind : End). StandsAt new behind names)
  pushed_stands n names flat at scope stands one =
      if_both (λ (behind : End). new ≡ old ++ node ∷ []) (λ (behind : End). behind ≡ after new end) (λ (behind : End). StandsAt new behind names) r
      (λ behind p i. push_stands old new node n end behind names p flat i stands.planned stands.list at scope stands.names one) pushed is

  pub pushed_further : (ns : List FlatNode) (e : Element) → (new ≡ old ++ node ∷ [] → length new ≡ length (flat_nodes new) → IsFurther ns (flat_nodes new) end (after new end) e)
      → IfOk r (λ (behind : End). IsFurther ns (flat_nodes new) end behind e)
  pushed_further ns e go =
      if_both (λ (behind : End). new ≡ old ++ node ∷ []) (λ (behind : End). behind ≡ after new end) (λ (behind : End). IsFurther ns (flat_nodes new) end behind e) r
      (λ behind p i. subst (λ (it : End). IsFurther ns (flat_nodes new) end it e) (sym i) (go p (sym (length-map new flat_node)))) pushed is
