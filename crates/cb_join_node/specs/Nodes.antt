-- A join node, before and after a change.
use Rattle.std.specs.Prelude.{◌≡◌, ◌≢◌, ◌≤◌, ◌⊎◌, ℕ, false, true, List, [], ◌∷◌, Option, Some, length, map}
use Rattle.std.specs.Option.{option_and_then, option_map}
use Rattle.std.specs.Rc.{rc_value}
use Rattle.cb_alpha.specs.AlphaMemories.{AlphaMemoryValue, candidate_in, live}
use Rattle.cb_alpha.specs.Turning.{AlphaTurns, HasJoin, were_in}
use Rattle.cb_beta.specs.BetaMemories.{BetaMemoryValue}
use Rattle.cb_beta.specs.Tokens.{TokenValue, partial_after}
use Rattle.cb_beta.specs.TakenFields.{TakenFieldsValue}
use Rattle.cb_constraints.specs.Binders.{constraints_in}
use Rattle.cb_exprs.specs.Terms.{Term, term_of}
use Rattle.cb_facts.specs.FactLists.{IndexedFacts}
use Rattle.cb_facts.specs.Facts.{FactValue}
use Rattle.cb_fit.specs.Comparisons.{choice_fields, compared_fields, conditions, is_decided}
use Rattle.cb_fit.specs.Decided.{ones}
use Rattle.cb_fit.specs.JoinFields.{giving_fields, join_fields}
use Rattle.cb_fit.specs.Plain.{bound_names, is_named}
use Rattle.cb_fit.specs.declared.comparison.ComparedField.{ComparedField}
use Rattle.cb_fit.specs.declared.join_fields.JoinField.{JoinField}
use Rattle.cb_join_node.specs.Filings.{ArePartialsFiled}
use Rattle.cb_join_node.specs.Joins.{Joins}
use Rattle.cb_join_node.specs.declared.by_values.ByValues.{ByValues}
use Rattle.cb_join_node.specs.declared.joining.Joining.{Joining}
use Rattle.cb_join_node.specs.declared.node.JoinNode.{JoinNode}
use Rattle.cb_matches.specs.Chains.{Chain, In}
use Rattle.cb_matches.specs.Matches.{Partial}
use Rattle.cb_nodes.specs.Flat.{next_where}
use Rattle.cb_nodes.specs.Patterns.{AreJoinFields}
use Rattle.cb_scopes.specs.Decided.{known_fields, unknown_fields}
use Rattle.cb_scopes.specs.Scopes.{HasValuesOf, Scope}
use Rattle.cb_token_lists.specs.Growth.{AreTokens}
use Rattle.cb_token_lists.specs.Turns.{IsThere, Turns, WasThere}

-- the fact that came, if one did
abbrev pub added_fact : AlphaMemoryValue → Option FactValue
added_fact alpha = option_map (λ (f : ℕ × FactValue). f.1) (option_and_then (candidate_in alpha.candidates) alpha.come)

-- there is a fact under this number
abbrev pub IsUnder : (ℕ → Option (ℕ × FactValue)) → ℕ → Type 0
IsUnder facts number = (f : ℕ × FactValue) × (facts number ≡ Some f)

-- no more than k numbers are such
abbrev pub AreAtMost : (ℕ → Type 0) → ℕ → Type 0
AreAtMost Such k = (numbers : List ℕ) → Chain (λ (i : ℕ) (j : ℕ). i ≢ j) numbers → ((n : ℕ) → In n numbers → Such n) → length numbers ≤ k

-- the facts are found by the values of these fields, if there are some
abbrev pub FindsFacts : AlphaMemoryValue → ℕ → List JoinField → Type 0
FindsFacts alpha join [] = Unit {0}
FindsFacts alpha join (j ∷ js) = HasJoin alpha join (j ∷ js)

-- what was there before a change and still is
abbrev pub Stays : BetaMemoryValue → ℕ → Type 0
Stays m i = WasThere m i × (In i m.gone → ⊥)

module _ {T : Type 0} where
  -- the tests behind the pattern
  abbrev pub tests_of : Joining T → List Term
  tests_of asked = map term_of asked.tests.items

  -- the tokens by which these partial matches go on with these facts at a node
  abbrev pub AreJoined : Joining T → (ℕ → Partial) → (ℕ → Type 0) → (ℕ → Option (ℕ × FactValue)) → TokenValue → Type 0
  AreJoined asked = Joins asked.address asked.pattern (tests_of asked)

  -- the node asks the same, of the same list and by the same join
  pub record AsksTheSame (node node' : JoinNode T) : Type 0 where
    pub asked : node'.asked ≡ node.asked
    pub from : node'.from ≡ node.from
    pub join : node'.join ≡ node.join

  -- these partial matches are filed, and the tokens behind the node are those by which they go on with these facts
  pub record IsReady (node : JoinNode T) (at : ℕ → Partial) (There : ℕ → Type 0) (facts : ℕ → Option (ℕ × FactValue)) (own : BetaMemoryValue) : Type 0 where
    pub fields : AreJoinFields node.asked.fields.items node.asked.address node.asked.pattern
    pub partials_filed : ArePartialsFiled node.asked.fields.items node.partials node.strays at There
    pub tokens : AreTokens own (AreJoined node.asked at There facts)

  -- the pattern is decided by values, where variables with these names have values before it, and this is how it is joined by them
  pub record IsByValues (names : Scope) (asked : Joining T) (by : ByValues) : Type 0 where
    pub decided : is_decided asked.pattern ≡ true
    pub unchosen : choice_fields asked.pattern.parts ≡ []
    pub fields : asked.fields.items ≡ known_fields (join_fields asked.pattern.parts) names
    pub taken : (rc_value {X = TakenFieldsValue} by.taken).fields ≡ unknown_fields (giving_fields asked.pattern.parts) names
    pub compared : by.compared.items ≡ compared_fields asked.pattern.parts
    pub conditional : map term_of by.conditions.items ≡ conditions asked.pattern.parts
    pub cuts : (rc_value {X = TakenFieldsValue} by.taken).cuts ≡ ones (constraints_in asked.pattern.parts)
    pub address : (x : List ℕ) → asked.address ≡ Some x → (is_named x (bound_names asked.pattern) ≡ false)
        × ((c : ComparedField) → In c (compared_fields asked.pattern.parts) → x ≢ c.variable)

  -- where the node joins by values, they are those of the variables that have values in all of these partial matches
  abbrev pub FitsValues : JoinNode T → List Partial → List Partial → Type 0
  FitsValues node old new = (by : ByValues) → node.asked.by_values ≡ Some by → (names : Scope) × IsByValues names node.asked by × ((m : Partial) → In m old ⊎ In m new → HasValuesOf names m)

  -- before a change of the node: the list before it, where a number stands for a partial match by `at`, has turned from the partial
  -- matches `old` to `new`, and the facts from `fs` to `fs'`, which are found by the node's fields. The node is ready for what was, and in
  -- its own list nothing went or came yet
  pub record IsBefore (node : JoinNode T) (at : ℕ → Partial) (before : BetaMemoryValue) (alpha : AlphaMemoryValue) (own : BetaMemoryValue)
      (fs fs' : IndexedFacts) (old new : List Partial) : Type 0 where
    pub turns : Turns at before old new
    pub facts : AlphaTurns node.asked.pattern alpha fs fs'
    pub has_join : FindsFacts alpha node.join node.asked.fields.items
    pub ready : IsReady node at (WasThere before) (were_in alpha) own
    pub by_values : FitsValues node old new
    pub none_gone : own.gone ≡ []
    pub none_come : own.come ≡ []

  -- and after it: the node is ready for what is, and its own list has turned from what the pattern made of the partial matches and
  -- the facts before to what it makes of those after
  pub record IsAfter (node : JoinNode T) (at : ℕ → Partial) (before : BetaMemoryValue) (alpha : AlphaMemoryValue) (own : BetaMemoryValue)
      (fs fs' : IndexedFacts) (old new : List Partial) : Type 0 where
    pub ready : IsReady node at (IsThere before) (live alpha) own
    pub turns : Turns (partial_after node.asked.address own.tokens at) own
        (next_where node.asked.address node.asked.pattern (tests_of node.asked) fs old)
        (next_where node.asked.address node.asked.pattern (tests_of node.asked) fs' new)
