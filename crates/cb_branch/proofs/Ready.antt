-- Nodes that are planned: they are ready for nothing.
use Rattle.std.proofs.Common.{◌≡◌, ◌∙◌, ◌≤◌, ◌<◌, ◌+◌, ℕ, suc, Bool, [], ◌∷◌, ◌++◌, List, None, Some, Global, Vec, Option, ap, arith, false, get_or, length, refl, set, subst, sym, true}
use Rattle.std.proofs.lemmas.List.{length-append, length-map, length-set, map-append}
use Rattle.std.proofs.lemmas.List.Elements.{All-get_or, All-nil, All-push, All-set, All-weaker}
use Rattle.std.specs.List.{All}
use Rattle.std.specs.Option.{IfSome, option_to_list}
use Rattle.cb_beta.specs.BetaMemories.{BetaMemoryValue}
use Rattle.cb_beta.specs.Tokens.{TokenValue}
use Rattle.cb_exprs.specs.declared.expr.Expr.{Expr}
use Rattle.cb_group_node.specs.Nodes.{IsGroupReady}
use Rattle.cb_group_node.specs.declared.node.GroupNode.{GroupNode}
use Rattle.cb_facts.specs.Facts.{FactValue}
use Rattle.cb_join_node.specs.Nodes.{IsByValues, IsReady}
use Rattle.cb_join_node.specs.declared.by_values.ByValues.{ByValues}
use Rattle.cb_join_node.specs.declared.joining.Joining.{Joining}
use Rattle.cb_join_node.specs.declared.node.JoinNode.{JoinNode}
use Rattle.cb_lookup_node.specs.LookupNodes.{IsLookup, IsLookupReady}
use Rattle.cb_lookup_node.specs.declared.node.LookupNode.{LookupNode}
use Rattle.cb_matches.specs.Matches.{Partial}
use Rattle.cb_constraints.specs.PatternValues.{PatternValue}
use Rattle.cb_exprs.specs.Terms.{Term}
use Rattle.cb_fit.specs.Comparisons.{choice_fields, compared_fields, conditions, is_decided}
use Rattle.cb_fit.specs.JoinFields.{join_fields}
use Rattle.cb_fit.specs.Plain.{bound_names}
use Rattle.cb_fit.specs.declared.comparison.ComparedField.{ComparedField}
use Rattle.cb_fit.specs.declared.join_fields.JoinField.{JoinField}
use Rattle.cb_nodes.specs.Patterns.{AreJoinFields}
use Rattle.cb_nodes.specs.Flat.{FlatNode, alone, grouping, joining, testing}
use Rattle.cb_scopes.specs.Decided.{known_fields}
use Rattle.cb_scopes.specs.Scopes.{Scope, node_scope, scope_of}
use Rattle.cb_branch.proofs.BoundNames.{same_before, same_both, same_by, with_several}
use Rattle.cb_branch.proofs.JoinedByValues.{by_values_same, lookup_same}
use Rattle.cb_branch.proofs.NodeScopes.{behind_last, pushed_keeps, tested_scope}
use Rattle.cb_branch.specs.Internal.ByValues.{IsDecidedBy}
use Rattle.cb_branch.specs.Internal.Bounds.{AreSame, with_names}
use Rattle.cb_branch.specs.Internal.Plans.{ArePlanned, KeepsScopes, StandsAt, last_tested, list_before, node_with}
use Rattle.cb_branch.specs.Nodes.{IsPlannedNode, flat_node, flat_nodes, no_tokens}
use Rattle.cb_branch.specs.declared.planning.End.{End}
use Rattle.cb_branch.specs.declared.node.Node.{Node}
use Rattle.cb_branch.specs.declared.node.Node.TheVariants as kept
use Rattle.cb_token_lists.specs.Growth.{AreTokens}
use Rattle.cb_token_lists.specs.Partials.{Meets, SourceValue}

nothing_there : (t : TokenValue) → None ≡ Some t → ⊥
nothing_there t h = cc

-- there is no token, where none is such
no_tokens_are : (Such : TokenValue → Type 0) → ((t : TokenValue) → Such t → ⊥) → AreTokens no_tokens Such
no_tokens_are Such none = record {
  are = λ i t h. absurd (nothing_there t h);
  all = λ t h. absurd (none t h);
  one = λ i j t h k. absurd (nothing_there t h);
}

-- tests change nothing in what a node goes on from
with_before : (ts : List Term) (n : FlatNode) → list_before (node_with ts n) ≡ list_before n
with_before ts (joining from x p us) = refl
with_before ts (testing from t) = refl
with_before ts (grouping from inner positive width) = refl
with_before ts (alone from p positive) = refl

module _ {T : Type 0} where
  -- a node behind a list with the same variables
  pub planned_same : (ss ss' : ℕ → Scope) (node : Node T) → AreSame (ss (list_before (flat_node node))) (ss' (list_before (flat_node node))) → IsPlannedNode ss node → IsPlannedNode ss' node
  planned_same ss ss' (kept.Join alpha node) same was = record {
    prepared = (was.prepared.0, λ by is. by_values_same (ss node.from) (ss' node.from) node.asked by same (was.prepared.1 by is));
    ready = was.ready;
  }
  planned_same ss ss' (kept.Test from test) same was = record { prepared = tt; ready = tt }
  planned_same ss ss' (kept.Group width node) same was = record { prepared = tt; ready = was.ready }
  planned_same ss ss' (kept.Lone alpha node) same was = record { prepared = was.prepared; ready = was.ready }
  planned_same ss ss' (kept.Lookup alpha node) same was = record { prepared = lookup_same (ss node.from) (ss' node.from) node same was.prepared; ready = was.ready }

  -- nodes, where the lists before them have the scopes that they had
  kept_planned : (ss ss' : ℕ → Scope) (nodes : List (Node T)) → ((k : ℕ) → k ≤ length nodes → ss' k ≡ ss k) → All (λ (node : Node T). list_before (flat_node node) ≤ length nodes) nodes
      → All (IsPlannedNode ss) nodes → All (IsPlannedNode ss') nodes
  kept_planned ss ss' nodes same behind each k d h =
      let node : Node T = get_or nodes k d in
      let at : ℕ = list_before (flat_node node) in
      planned_same ss ss' node (same_by (ss at) (ss' at) (sym (same at (behind k d h)))) (each k d h)

  -- one node more
  pushed : (old : List (Node T)) (node : Node T) → ArePlanned old → list_before (flat_node node) ≤ length old → IsPlannedNode (scope_of (flat_nodes old)) node → ArePlanned (old ++ node ∷ [])
  pushed old node was at one =
      let new : List (Node T) = old ++ node ∷ [] in
      let long : length new ≡ length old + 1 = length-append old (node ∷ []) in
      let flat_long : length (flat_nodes old) ≡ length old = length-map old flat_node in
      let keeps : KeepsScopes (flat_nodes old) (flat_nodes new) = pushed_keeps (flat_nodes old) (flat_nodes new) (flat_node node) (map-append flat_node old (node ∷ [])) in
      let same : (k : ℕ) → k ≤ length old → scope_of (flat_nodes new) k ≡ scope_of (flat_nodes old) k = λ k h. keeps.same k (omega (arith, h, flat_long)) in
      let here : ℕ = list_before (flat_node node) in
      record {
        each = All-push (IsPlannedNode (scope_of (flat_nodes new))) old node (kept_planned (scope_of (flat_nodes old)) (scope_of (flat_nodes new)) old same was.behind was.each)
            (planned_same (scope_of (flat_nodes old)) (scope_of (flat_nodes new)) node (same_by (scope_of (flat_nodes old) here) (scope_of (flat_nodes new) here) (sym (same here at))) one);
        behind = All-push (λ (it : Node T). list_before (flat_node it) ≤ length new) old node
            (All-weaker (λ (it : Node T). list_before (flat_node it) ≤ length old) (λ (it : Node T). list_before (flat_node it) ≤ length new) (λ it h. omega (arith, h, long)) old was.behind) (omega (arith, at, long));
      }

  pub push_planned : (old new : List (Node T)) (node : Node T) → new ≡ old ++ node ∷ [] → ArePlanned old → list_before (flat_node node) ≤ length old
      → IsPlannedNode (scope_of (flat_nodes old)) node → ArePlanned new
  push_planned old new node is was at one = subst ArePlanned (sym is) (pushed old node was at one)

  pub push_keeps : (old new : List (Node T)) (node : Node T) → new ≡ old ++ node ∷ [] → KeepsScopes (flat_nodes old) (flat_nodes new)
  push_keeps old new node is = pushed_keeps (flat_nodes old) (flat_nodes new) (flat_node node) (ap flat_nodes is ∙ map-append flat_node old (node ∷ []))

  -- the scope of the list behind it
  pub push_scope : (old new : List (Node T)) (node : Node T) (n : FlatNode) → new ≡ old ++ node ∷ [] → flat_node node ≡ n
      → scope_of (flat_nodes new) (length new) ≡ node_scope n (scope_of (flat_nodes old))
  push_scope old new node n is us =
      let long : length new ≡ length old + 1 = ap length is ∙ length-append old (node ∷ []) in
      let flat_long : length (flat_nodes old) ≡ length old = length-map old flat_node in
      let at : length new ≡ suc (length (flat_nodes old)) = omega (arith, long, flat_long) in
      ap (λ k. scope_of (flat_nodes new) k) at
      ∙ (ap (λ (it : List FlatNode). scope_of it (suc (length (flat_nodes old)))) (ap flat_nodes is ∙ (map-append flat_node old (node ∷ []) ∙ ap (λ (it : FlatNode). flat_nodes old ++ it ∷ []) us))
      ∙ behind_last (flat_nodes old) n)

  -- behind a node that gives no variable a value the same variables have values as before
  pub push_stands : (old new : List (Node T)) (node : Node T) (n : FlatNode) (end behind : End) (names : Scope) → new ≡ old ++ node ∷ [] → flat_node node ≡ n
      → behind ≡ record { list = length new; width = end.width; is_pattern = false } → ArePlanned old → end.list ≤ length old → list_before n ≡ end.list
      → node_scope n (scope_of (flat_nodes old)) ≡ scope_of (flat_nodes old) end.list
      → AreSame names (scope_of (flat_nodes old) end.list) → IsPlannedNode (scope_of (flat_nodes old)) node → StandsAt new behind names
  push_stands old new node n end behind names is us there was in_old at scope same one =
      let list_is : behind.list ≡ length new = ap (λ (it : End). it.list) there in
      let long : length new ≡ length old + 1 = ap length is ∙ length-append old (node ∷ []) in
      let at_node : list_before (flat_node node) ≡ end.list = ap list_before us ∙ at in
      let scope_is : scope_of (flat_nodes old) end.list ≡ scope_of (flat_nodes new) behind.list =
      sym scope ∙ (sym (push_scope old new node n is us) ∙ ap (λ k. scope_of (flat_nodes new) k) (sym list_is)) in
      record {
        planned = push_planned old new node is was (omega (arith, at_node, in_old)) one;
        list = omega (arith, list_is);
        names = same_both names (scope_of (flat_nodes old) end.list) (scope_of (flat_nodes new) behind.list) same (same_by (scope_of (flat_nodes old) end.list) (scope_of (flat_nodes new) behind.list) scope_is);
      }

  -- behind a pattern its variables have values too
  pub pattern_stands : (old new : List (Node T)) (node : Node T) (end : End) (list width : ℕ) (x : Option (List ℕ)) (p : PatternValue) (bound bound' : Scope) → new ≡ old ++ node ∷ []
      → flat_node node ≡ joining end.list x p [] → list ≡ length new → StandsAt old end bound → ((ss : ℕ → Scope) → AreSame bound (ss end.list) → IsPlannedNode ss node)
      → bound' ≡ with_names (option_to_list x ++ bound_names p) bound → StandsAt new (record { list = list; width = width; is_pattern = true }) bound'
  pattern_stands old new node end list width x p bound bound' is flat there was one more =
      let names : List (List ℕ) = option_to_list x ++ bound_names p in
      let before : Scope = scope_of (flat_nodes old) end.list in
      let at_node : list_before (flat_node node) ≡ end.list = ap list_before flat in
      let in_old = was.list in
      let scope_is : scope_of (flat_nodes new) list ≡ before ++ names = ap (λ k. scope_of (flat_nodes new) k) there ∙ push_scope old new node (joining end.list x p []) is flat in
      record {
        planned = push_planned old new node is was.planned (omega (arith, at_node, in_old)) (one (scope_of (flat_nodes old)) was.names);
        list = omega (arith, there);
        names = same_both bound' (with_names names bound) (scope_of (flat_nodes new) list) (same_by bound' (with_names names bound) more)
            (same_both (with_names names bound) (bound ++ names) (scope_of (flat_nodes new) list) (with_several names bound)
            (same_both (bound ++ names) (before ++ names) (scope_of (flat_nodes new) list) (same_before bound before names was.names) (same_by (before ++ names) (scope_of (flat_nodes new) list) (sym scope_is))));
      }

  -- behind the elements of a group the lists before it are as they were
  pub inner_stands : (old mid : List (Node T)) (end : End) (names names' : Scope) → StandsAt old end names → ArePlanned mid → KeepsScopes (flat_nodes old) (flat_nodes mid) → names' ≡ names → StandsAt mid end names'
  inner_stands old mid end names names' was planned keeps is =
      let in_old = was.list in
      let longer = keeps.longer in
      let long_old : length (flat_nodes old) ≡ length old = length-map old flat_node in
      let long_mid : length (flat_nodes mid) ≡ length mid = length-map mid flat_node in
      let before : Scope = scope_of (flat_nodes old) end.list in
      let now : Scope = scope_of (flat_nodes mid) end.list in
      record {
        planned = planned;
        list = omega (arith, in_old, longer, long_old, long_mid);
        names = same_both names' names now (same_by names' names is) (same_both names before now was.names (same_by before now (sym (keeps.same end.list (omega (arith, in_old, long_old))))));
      }

  pub inner_longer : (old mid : List (Node T)) → KeepsScopes (flat_nodes old) (flat_nodes mid) → length old ≤ length mid
  inner_longer old mid keeps =
      let longer = keeps.longer in
      let long_old : length (flat_nodes old) ≡ length old = length-map old flat_node in
      let long_mid : length (flat_nodes mid) ≡ length mid = length-map mid flat_node in
      omega (arith, longer, long_old, long_mid)

  -- where the elements of a group begin, and where nothing is planned yet
  pub start_stands : (old : List (Node T)) (end : End) (names : Scope) → StandsAt old end names → StandsAt old (record { list = end.list; width = end.width; is_pattern = false }) names
  start_stands old end names was = record { planned = was.planned; list = was.list; names = was.names }

  pub none_stand : StandsAt {T = T} [] (record { list = 0; width = 0; is_pattern = false }) []
  none_stand = record {
    planned = record { each = All-nil (IsPlannedNode (scope_of [])); behind = All-nil (λ (it : Node T). list_before (flat_node it) ≤ 0) };
    list = omega (arith);
    names = same_by [] [] refl;
  }

  -- a test, which belongs to the last node
  tested : (ts : List Term) (old : List (Node T)) (n n' : Node T) (k : ℕ) → k < length old → n ≡ get_or old k n → flat_node n' ≡ node_with ts (flat_node n)
      → flat_nodes (set old k n') ≡ last_tested ts (flat_nodes old) → ((ss : ℕ → Scope) → IsPlannedNode ss n → IsPlannedNode ss n') → ArePlanned old → ArePlanned (set old k n')
  tested ts old n n' k in_old at us flat_is keeps was =
      let new : List (Node T) = set old k n' in
      let ss : ℕ → Scope = scope_of (flat_nodes old) in
      let ss' : ℕ → Scope = scope_of (flat_nodes new) in
      let long : length new ≡ length old = length-set old k n' in
      let same : (j : ℕ) → j ≤ length old → ss' j ≡ ss j = λ j h. tested_scope ts (flat_nodes old) (flat_nodes new) j flat_is in
      let each : All (IsPlannedNode ss') old = kept_planned ss ss' old same was.behind was.each in
      let planned : IsPlannedNode ss' n = subst (IsPlannedNode ss') (sym at) (All-get_or (IsPlannedNode ss') old k n in_old each) in
      let behind : list_before (flat_node n) ≤ length old = subst (λ (it : Node T). list_before (flat_node it) ≤ length old) (sym at) (All-get_or (λ (it : Node T). list_before (flat_node it) ≤ length old) old k n in_old was.behind) in
      let before_is : list_before (flat_node n') ≡ list_before (flat_node n) = ap list_before us ∙ with_before ts (flat_node n) in
      record {
        each = All-set (IsPlannedNode ss') old k n' (keeps ss' planned) each;
        behind = All-set (λ (it : Node T). list_before (flat_node it) ≤ length new) old k n' (omega (arith, before_is, behind, long))
            (All-weaker (λ (it : Node T). list_before (flat_node it) ≤ length old) (λ (it : Node T). list_before (flat_node it) ≤ length new) (λ it h. omega (arith, h, long)) old was.behind);
      }

  pub last_planned : (ts : List Term) (old new : List (Node T)) (n n' : Node T) (k : ℕ) → suc k ≡ length old → n ≡ get_or old k n → flat_node n' ≡ node_with ts (flat_node n)
      → new ≡ set old k n' → flat_nodes new ≡ last_tested ts (flat_nodes old) → ((ss : ℕ → Scope) → IsPlannedNode ss n → IsPlannedNode ss n') → ArePlanned old → ArePlanned new
  last_planned ts old new n n' k l at us is flat_is keeps was =
      subst ArePlanned (sym is) (tested ts old n n' k (omega (arith, l)) at us (ap flat_nodes (sym is) ∙ flat_is) keeps was)

  pub last_stands : (ts : List Term) (old new : List (Node T)) (end : End) (names : Scope) → flat_nodes new ≡ last_tested ts (flat_nodes old) → length new ≡ length old → ArePlanned new
      → StandsAt old end names → StandsAt new end names
  last_stands ts old new end names flat_is long planned was =
      let before : Scope = scope_of (flat_nodes old) end.list in
      let now : Scope = scope_of (flat_nodes new) end.list in
      let in_old = was.list in
      record {
        planned = planned;
        list = omega (arith, in_old, long);
        names = same_both names before now was.names (same_by before now (sym (tested_scope ts (flat_nodes old) (flat_nodes new) end.list flat_is)));
      }

  -- a join node with other tests
  pub with_tests : (ss : ℕ → Scope) (alpha : ℕ) (node : JoinNode T) (tests : Vec Expr Global) → IsPlannedNode ss (kept.Join alpha node)
      → IsPlannedNode ss (kept.Join alpha (record node { asked = record node.asked { tests = tests } }))
  with_tests ss alpha node tests was = record {
    prepared = (
      was.prepared.0,
      λ by is. let w = was.prepared.1 by is in record {
        decided = w.decided;
        unchosen = w.unchosen;
        fields = w.fields;
        taken = w.taken;
        compared = w.compared;
        conditional = w.conditional;
        cuts = w.cuts;
        address = w.address;
      },
    );
    ready = λ at facts. let ready = was.ready at facts in record {
      fields = ready.fields;
      partials_filed = ready.partials_filed;
      tokens = no_tokens_are _ (λ t h. h.1);
    };
  }

  -- the node of a pattern, where just these variables have values before it
  pub join_planned : (ss : ℕ → Scope) (names : Scope) (from : ℕ) (asked : Joining T) (node : JoinNode T) → AreSame names (ss from) → node.asked ≡ asked → node.from ≡ from
      → AreJoinFields asked.fields.items asked.address asked.pattern → IfSome asked.by_values (λ (by : ByValues). IsByValues names asked by)
      → ((at : ℕ → Partial) (facts : ℕ → Option (ℕ × FactValue)) → AreJoinFields asked.fields.items asked.address asked.pattern → IsReady node at (λ number. ⊥) facts no_tokens)
      → IsPlannedNode ss (kept.Join 0 node)
  join_planned ss names from asked node same is_asked is_from fields by_values ready = record {
    prepared = (
      subst (λ (it : Joining T). AreJoinFields it.fields.items it.address it.pattern) (sym is_asked) fields,
      λ by some.
          subst (λ (it : Joining T). IsByValues (ss node.from) it by) (sym is_asked)
          (subst (λ k. IsByValues (ss k) asked by) (sym is_from)
          (by_values_same names (ss from) asked by same (of_some asked.by_values by (ap (λ (it : Joining T). it.by_values) (sym is_asked) ∙ some) by_values))),
    );
    ready = λ at facts. ready at facts fields;
  }
    where
      of_some : (o : Option ByValues) (by : ByValues) → o ≡ Some by → IfSome o (λ (it : ByValues). IsByValues names asked it) → IsByValues names asked by
      of_some (Some it) by e h = let is : it ≡ by = cc in subst (IsByValues names asked) is h
      of_some None by e h = absurd (none e)
        where
          none : None ≡ Some by → ⊥
          none f = cc

  -- that of a group of a pattern that is looked up
  pub lookup_planned : (ss : ℕ → Scope) (names : Scope) (from : ℕ) (node : LookupNode T) (p : PatternValue) (cs : List ComparedField) (known : List JoinField) → AreSame names (ss from) → node.from ≡ from
      → known ≡ known_fields (join_fields p.parts) names → IsDecidedBy p cs
      → ((ns : Scope) → is_decided p ≡ true → choice_fields p.parts ≡ [] → conditions p.parts ≡ [] → known ≡ known_fields (join_fields p.parts) ns → cs ≡ compared_fields p.parts → IsLookup ns node)
      → ((names : Scope) (at : ℕ → Partial) (facts : ℕ → Option (ℕ × FactValue)) → IsLookup names node → IsLookupReady node names at (λ number. ⊥) facts no_tokens)
      → IsPlannedNode ss (kept.Lookup 0 node)
  lookup_planned ss names from node p cs known same is_from is_known decided lookup ready = record {
    prepared = subst (λ k. IsLookup (ss k) node) (sym is_from) (lookup_same names (ss from) node same (lookup names decided.decided decided.unchosen decided.unconditional is_known decided.compared));
    ready = ready;
  }

  -- a test, and a group
  pub test_planned : (ss : ℕ → Scope) (from : ℕ) (test : Expr) → IsPlannedNode {T = T} ss (kept.Test from test)
  test_planned ss from test = record { prepared = tt; ready = tt }

  pub group_planned : (ss : ℕ → Scope) (width from inner : ℕ) (node : GroupNode) → node.from ≡ from → node.inner ≡ inner
      → ((sources : List SourceValue) (lists : List BetaMemoryValue) (at : ℕ → Partial) (begun : List Partial)
      → IsGroupReady node (λ g i. Meets sources lists from g inner i) at (λ number. ⊥) (λ number. ⊥) begun no_tokens)
      → IsPlannedNode {T = T} ss (kept.Group width node)
  group_planned ss width from inner node is_from is_inner ready = record {
    prepared = tt;
    ready = λ sources lists at begun.
        subst (λ f. IsGroupReady node (λ g i. Meets sources lists f g node.inner i) at (λ number. ⊥) (λ number. ⊥) begun no_tokens) (sym is_from)
        (subst (λ j. IsGroupReady node (λ g i. Meets sources lists from g j i) at (λ number. ⊥) (λ number. ⊥) begun no_tokens) (sym is_inner) (ready sources lists at begun));
  }

pub group_flat : (T : Type 0) (width from inner : ℕ) (positive : Bool) (node : GroupNode) → node.from ≡ from → node.inner ≡ inner → node.positive ≡ positive
    → flat_node {T = T} (kept.Group width node) ≡ grouping from inner positive width
group_flat T width from inner positive node is_from is_inner is_positive =
    ap (λ it. grouping it node.inner node.positive width) is_from
    ∙ (ap (λ it. grouping from it node.positive width) is_inner ∙ ap (λ it. grouping from inner it width) is_positive)
