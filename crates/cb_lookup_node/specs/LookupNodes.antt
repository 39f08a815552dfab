-- A group of one pattern that is looked up, before and after a change.
use Rattle.std.specs.Prelude.{◌≡◌, ◌⊎◌, ◌++◌, ◌∷◌, ℕ, Bool, true, false, List, [], Option, Some, None, filter, map, option_to_list, if◌then◌else◌}
use Rattle.cb_alpha.specs.AlphaMemories.{AlphaMemoryValue, live, values_in}
use Rattle.cb_alpha.specs.Buckets.{Filing, values_at}
use Rattle.cb_alpha.specs.JoinValues.{variable_values}
use Rattle.cb_alpha.specs.Turning.{AlphaTurns, HasJoin, were_in}
use Rattle.cb_beta.specs.BetaMemories.{BetaMemoryValue}
use Rattle.cb_beta.specs.Tokens.{TokenValue, partial_after}
use Rattle.cb_fit.specs.Comparisons.{choice_fields, compared_fields, compares, conditions, integer_so, is_decided}
use Rattle.cb_facts.specs.FactLists.{IndexedFacts}
use Rattle.cb_facts.specs.Facts.{FactValue}
use Rattle.cb_facts.specs.declared.value.Value.{Value}
use Rattle.cb_fit.specs.JoinFields.{join_fields}
use Rattle.cb_fit.specs.declared.comparison.ComparedField.{ComparedField}
use Rattle.cb_fit.specs.declared.comparison.Comparison.{Comparison}
use Rattle.cb_fit.specs.declared.comparison.Comparison.TheVariants.{Less, LessOrEqual, Greater, GreaterOrEqual, Equal, NotEqual, Same, Differs}
use Rattle.cb_fit.specs.declared.join_fields.JoinField.{JoinField}
use Rattle.cb_groups.specs.Groups.{group_of}
use Rattle.cb_lookup_node.specs.declared.node.LookupNode.{LookupNode}
use Rattle.cb_lookup_node.specs.declared.sight.Sight.{Sight}
use Rattle.cb_lookup_node.specs.declared.sight.Sight.TheVariants as sight
use Rattle.cb_lookup_node.specs.declared.witnesses.Witnesses.{Witnesses}
use Rattle.cb_matches.specs.Chains.{In}
use Rattle.cb_matches.specs.Matches.{Partial}
use Rattle.cb_nodes.specs.Flat.{holds_alone}
use Rattle.cb_scopes.specs.Compared.{all_compare}
use Rattle.cb_scopes.specs.Decided.{known_fields}
use Rattle.cb_scopes.specs.Scopes.{HasValuesOf, Scope}
use Rattle.cb_token_lists.specs.Growth.{AreTokens}
use Rattle.cb_token_lists.specs.Turns.{IsThere, Turns, WasThere}

-- by such a comparison facts are looked up in the order of integers: by the least and the greatest value of the field
abbrev pub is_by_order : Comparison → Bool
is_by_order Less = true
is_by_order LessOrEqual = true
is_by_order Greater = true
is_by_order GreaterOrEqual = true
is_by_order Equal = false
is_by_order NotEqual = false
is_by_order Same = false
is_by_order Differs = false

-- nothing is compared, or one field by such a comparison
abbrev pub are_by_order : List ComparedField → Bool
are_by_order [] = true
are_by_order (c ∷ []) = is_by_order c.comparison
are_by_order (c ∷ d ∷ cs) = false

-- among these facts there is one with these values in these fields
abbrev pub HasOne : List JoinField → (ℕ → Option (ℕ × FactValue)) → List Value → Type 0
HasOne fields facts values = (number : ℕ) × (values_in fields (facts number) ≡ Some values)

-- values of a fact and of variables are the same but for the last, and the last are integers that compare so
abbrev pub AreInOrder : Comparison → List Value → List Value → Type 0
AreInOrder c ws vs = (known : List Value) × (w v : Value) × (ws ≡ known ++ w ∷ []) × (vs ≡ known ++ v ∷ []) × (compares c w v ≡ true)

-- there is one that is seen by these values: it has them, or, where the last of them is compared, those that stand in this order to them
abbrev pub HasSeen : Option Comparison → List JoinField → (ℕ → Option (ℕ × FactValue)) → List Value → Type 0
HasSeen None fields facts values = HasOne fields facts values
HasSeen (Some c) fields facts values = (others : List Value) × AreInOrder c others values × HasOne fields facts others

-- there is one that a partial match sees, by the values that it gives to the fields
abbrev pub SeesOne : Option Comparison → List JoinField → (ℕ → Option (ℕ × FactValue)) → Partial → Type 0
SeesOne comparison fields facts m = (values : List Value) × (variable_values fields m.env ≡ Some values) × HasSeen comparison fields facts values

-- the fields of the fact that are compared compare so with what a partial match gives to their variables
abbrev pub compares_with : List ComparedField → Option (ℕ × FactValue) → Partial → Bool
compares_with cs None m = false
compares_with cs (Some f) m = all_compare cs m.env f.1.content

-- a partial match sees the fact of a number: the fact has the values that the partial match gives to the fields, and compares so
abbrev pub SeesFact : List ComparedField → List JoinField → (ℕ → Option (ℕ × FactValue)) → Partial → ℕ → Type 0
SeesFact cs fields facts m k = (values : List Value) × (variable_values fields m.env ≡ Some values) × (values_in fields (facts k) ≡ Some values) × (compares_with cs (facts k) m ≡ true)

-- it sees one
abbrev pub SeesSome : List ComparedField → List JoinField → (ℕ → Option (ℕ × FactValue)) → Partial → Type 0
SeesSome cs fields facts m = (k : ℕ) × SeesFact cs fields facts m k

-- how it is known whether there is a fact: by the order of the integers of the last field, if that is compared, or by a witness, where
-- any fields are compared
pub data Looking : Type 0 where
  in_order : Option Comparison → Looking
  by_witness : List ComparedField → Looking

abbrev pub looking_of : Sight → Looking
looking_of (sight.InOrder o) = in_order o.comparison
looking_of (sight.ByWitness w) = by_witness w.compared.items

-- there is a fact that a partial match sees
abbrev pub SeesBy : Looking → List JoinField → (ℕ → Option (ℕ × FactValue)) → Partial → Type 0
SeesBy (in_order comparison) fields facts m = SeesOne comparison fields facts m
SeesBy (by_witness cs) fields facts m = SeesSome cs fields facts m

-- a field that is compared, as one that is looked up
abbrev pub compared_join : ComparedField → JoinField
compared_join c = record { variable = c.variable; slot = c.place.slot; field = c.place.field }

-- the group passes a partial match on by whether there is such a fact
abbrev pub Passes : Bool → Type 0 → Type 0
Passes true One = One
Passes false One = One → ⊥

-- the token behind the group, which takes nothing
abbrev pub passed_on : ℕ → TokenValue
passed_on number = record { parent = number; taken = None }

-- the tokens behind it: those of what is there before it and is passed on over these facts
abbrev pub ArePassedOn : Bool → Looking → List JoinField → (ℕ → Option (ℕ × FactValue)) → (ℕ → Partial) → (ℕ → Type 0) → TokenValue → Type 0
ArePassedOn positive looking fields facts at There t = (number : ℕ) × There number × Passes positive (SeesBy looking fields facts (at number)) × (t ≡ passed_on number)

-- the last of these values is an integer
abbrev pub ends_in_integer : List Value → Bool
ends_in_integer [] = false
ends_in_integer (v ∷ []) = integer_so (λ n. true) v
ends_in_integer (v ∷ (w ∷ vs)) = ends_in_integer (w ∷ vs)

-- the values by which a partial match is filed: one that gives no integer to the field that is compared sees no fact, and isn't filed
abbrev pub filed_by : Option Comparison → Option (List Value) → Option (List Value)
filed_by None values = values
filed_by (Some c) None = None
filed_by (Some c) (Some values) = if ends_in_integer values then Some values else None

-- just these partial matches are filed, by the values that they give to the fields
pub record AreFiled (comparison : Option Comparison) (fields : List JoinField) (filing : Filing) (at : ℕ → Partial) (There : ℕ → Type 0) : Type 0 where
  pub there : (number : ℕ) → There number → values_at filing number ≡ filed_by comparison (variable_values fields (at number).env)
  pub only : (number : ℕ) (values : List Value) → values_at filing number ≡ Some values → There number

-- how a partial match is kept: with a fact that it sees as its witness, or, where it sees none, by the values that it gives to the fields
abbrev pub HasPlace : List ComparedField → List JoinField → (ℕ → Option (ℕ × FactValue)) → Partial → Option ℕ → Option (List Value) → Type 0
HasPlace cs fields facts m (Some witness) filed = SeesFact cs fields facts m witness × (filed ≡ None)
HasPlace cs fields facts m None filed = (filed ≡ variable_values fields m.env) × ((k : ℕ) → SeesFact cs fields facts m k → ⊥)

-- just these partial matches are kept so
pub record HaveWitnesses (cs : List ComparedField) (fields : List JoinField) (kept : Witnesses) (at : ℕ → Partial) (There : ℕ → Type 0) (facts : ℕ → Option (ℕ × FactValue)) : Type 0 where
  pub there : (number : ℕ) → There number → HasPlace cs fields facts (at number) (group_of kept.given number) (values_at kept.unseen number)
  pub given_there : (number witness : ℕ) → group_of kept.given number ≡ Some witness → There number
  pub unseen_there : (number : ℕ) (values : List Value) → values_at kept.unseen number ≡ Some values → There number

-- just these partial matches are kept, as is done in either way
abbrev pub AreKept : Sight → List JoinField → (ℕ → Partial) → (ℕ → Type 0) → (ℕ → Option (ℕ × FactValue)) → Type 0
AreKept (sight.InOrder o) fields at There facts = AreFiled o.comparison fields o.partials at There
AreKept (sight.ByWitness w) fields at There facts = HaveWitnesses w.compared.items fields w.kept at There facts

-- the facts are found by the known fields, and behind them the one that is compared by order, if one is; or by the known fields, where
-- any are compared
abbrev pub AsksBy : Looking → List JoinField → List JoinField → List ComparedField → Type 0
AsksBy (in_order comparison) fields known compared =
    (fields ≡ known ++ map compared_join compared) × (option_to_list comparison ≡ map (λ (c : ComparedField). c.comparison) compared) × (are_by_order compared ≡ true)
AsksBy (by_witness cs) fields known compared = (fields ≡ known) × (cs ≡ compared)

module _ {T : Type 0} where
  -- the node asks the same, of the same list and by the same join
  pub record AsksTheSame (node node' : LookupNode T) : Type 0 where
    pub from : node'.from ≡ node.from
    pub positive : node'.positive ≡ node.positive
    pub pattern : node'.pattern ≡ node.pattern
    pub join : node'.join ≡ node.join
    pub fields : node'.fields ≡ node.fields
    pub looking : looking_of node'.sight.value ≡ looking_of node.sight.value

  -- the pattern is looked up by values, where variables with these names have values before it: by the fields with such a variable, and
  -- by what it compares
  pub record IsLookup (names : Scope) (node : LookupNode T) : Type 0 where
    pub decided : is_decided node.pattern ≡ true
    pub unchosen : choice_fields node.pattern.parts ≡ []
    pub unconditional : conditions node.pattern.parts ≡ []
    pub asks : AsksBy (looking_of node.sight.value) node.fields.items (known_fields (join_fields node.pattern.parts) names) (compared_fields node.pattern.parts)

  -- the pattern is looked up so, what is before the node is kept, and the tokens behind it are those that it passes on over these facts
  pub record IsLookupReady (node : LookupNode T) (names : Scope) (at : ℕ → Partial) (There : ℕ → Type 0) (facts : ℕ → Option (ℕ × FactValue)) (own : BetaMemoryValue) : Type 0 where
    pub lookup : IsLookup names node
    pub kept : AreKept node.sight.value node.fields.items at There facts
    pub tokens : AreTokens own (ArePassedOn node.positive (looking_of node.sight.value) node.fields.items facts at There)

  -- before a change: the list before the group, where a number stands for a partial match by `at`, has turned from the partial matches
  -- `old` to `new`, in which just the variables with these names have values, and the facts from `fs` to `fs'`, which are found by the
  -- node's fields. The node is ready for what was, and in its own list nothing went or came yet
  pub record IsBeforeLookup (node : LookupNode T) (names : Scope) (at : ℕ → Partial) (before : BetaMemoryValue) (alpha : AlphaMemoryValue) (own : BetaMemoryValue)
      (fs fs' : IndexedFacts) (old new : List Partial) : Type 0 where
    pub turns : Turns at before old new
    pub scope : (m : Partial) → In m old ⊎ In m new → HasValuesOf names m
    pub facts : AlphaTurns node.pattern alpha fs fs'
    pub has_join : HasJoin alpha node.join node.fields.items
    pub ready : IsLookupReady node names at (WasThere before) (were_in alpha) own
    pub none_gone : own.gone ≡ []
    pub none_come : own.come ≡ []

  -- and after it: the node is ready for what is, and the list behind the group has turned as well
  pub record IsAfterLookup (node : LookupNode T) (names : Scope) (at : ℕ → Partial) (before : BetaMemoryValue) (alpha : AlphaMemoryValue) (own : BetaMemoryValue)
      (fs fs' : IndexedFacts) (old new : List Partial) : Type 0 where
    pub ready : IsLookupReady node names at (IsThere before) (live alpha) own
    pub turns : Turns (partial_after None own.tokens at) own (filter (holds_alone node.positive node.pattern fs) old) (filter (holds_alone node.positive node.pattern fs') new)
