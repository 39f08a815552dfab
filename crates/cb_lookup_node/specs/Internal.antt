-- The partial matches that a change of facts turns, by the values of the facts.
use Rattle.std.specs.Prelude.{◌≡◌, ◌≢◌, ◌⊎◌, ◌↔◌, ℕ, Bool, true, false, List, Option, Some, None, length, if◌then◌else◌}
use Rattle.std.specs.Option.{option_and_then}
use Rattle.cb_alpha.specs.AlphaMemories.{AlphaMemoryValue, AreFactsWith, candidate_in, live, values_in}
use Rattle.cb_alpha.specs.Buckets.{Filing, values_at}
use Rattle.cb_alpha.specs.JoinValues.{variable_values}
use Rattle.cb_alpha.specs.Turning.{HasJoin, IsApart, were_in}
use Rattle.cb_beta.specs.BetaMemories.{BetaMemoryValue, Loses}
use Rattle.cb_beta.specs.Tokens.{TokenValue}
use Rattle.cb_facts.specs.Facts.{FactValue}
use Rattle.cb_facts.specs.declared.value.Value.{Value}
use Rattle.cb_fit.specs.declared.comparison.ComparedField.{ComparedField}
use Rattle.cb_fit.specs.declared.comparison.Comparison.{Comparison}
use Rattle.cb_fit.specs.declared.join_fields.JoinField.{JoinField}
use Rattle.cb_groups.specs.Groups.{group_of}
use Rattle.cb_lookup_node.specs.LookupNodes.{AreKept, ArePassedOn, HasPlace, HasSeen, Looking, SeesBy, SeesSome, compares_with, by_witness, ends_in_integer, in_order, looking_of, passed_on}
use Rattle.cb_lookup_node.specs.declared.sight.Sight.{Sight}
use Rattle.cb_lookup_node.specs.declared.witnesses.Witnesses.{Witnesses}
use Rattle.cb_matches.specs.Chains.{Chain, In}
use Rattle.cb_matches.specs.Matches.{Partial}
use Rattle.cb_lookup_node.specs.LookupNodes.{is_by_order}
use Rattle.cb_token_lists.specs.Growth.{Comes}
use Rattle.cb_token_lists.specs.Turns.{IsThere, WasThere}

-- the values of these fields in the fact of a number, if one is given, there is such a fact, and it has them all
abbrev pub values_under : List JoinField → AlphaMemoryValue → Option ℕ → Option (List Value)
values_under fields alpha number = option_and_then (λ n. values_in fields (candidate_in alpha.candidates n)) number

-- there was a fact that is seen by these values and there is none
abbrev pub IsLost : Option Comparison → List JoinField → AlphaMemoryValue → List Value → Type 0
IsLost comparison fields alpha values = HasSeen comparison fields (were_in alpha) values × (HasSeen comparison fields (live alpha) values → ⊥)

-- there was none and there is one
abbrev pub IsGained : Option Comparison → List JoinField → AlphaMemoryValue → List Value → Type 0
IsGained comparison fields alpha values = (HasSeen comparison fields (were_in alpha) values → ⊥) × HasSeen comparison fields (live alpha) values

-- a member is filed by such values
abbrev pub IsFiledBy : (List Value → Type 0) → Filing → ℕ → Type 0
IsFiledBy Such filing member = (values : List Value) × (values_at filing member ≡ Some values) × Such values

-- a group passed on what had one fact or none, and doesn't as it has now
abbrev pub Leaves : Bool → Type 0 → Type 0 → Type 0
Leaves true Had Has = Had × (Has → ⊥)
Leaves false Had Has = (Had → ⊥) × Has

-- and the other way round
abbrev pub Arrives : Bool → Type 0 → Type 0 → Type 0
Arrives true Had Has = (Had → ⊥) × Has
Arrives false Had Has = Had × (Has → ⊥)

-- what was there before a change and still is
abbrev pub Stays : BetaMemoryValue → ℕ → Type 0
Stays m i = WasThere m i × (In i m.gone → ⊥)

-- the token of one of these
abbrev pub AreOf : (ℕ → Type 0) → TokenValue → Type 0
AreOf There t = (number : ℕ) × There number × (t ≡ passed_on number)

-- one of these facts is seen by these values, if they are given
abbrev pub IsSeenBy : Option Comparison → List JoinField → (ℕ → Option (ℕ × FactValue)) → Option (List Value) → Type 0
IsSeenBy comparison fields facts given = (values : List Value) × (given ≡ Some values) × HasSeen comparison fields facts values

-- nothing is compared, or by the order of integers
abbrev pub is_ordered : Option Comparison → Bool
is_ordered None = true
is_ordered (Some c) = is_by_order c

-- values that may be filed: as many as there are fields, and behind them an integer where it is compared
abbrev pub MayBeFiled : Option Comparison → List JoinField → List Value → Type 0
MayBeFiled None fields values = length values ≡ length fields
MayBeFiled (Some c) fields values = (length values ≡ length fields) × (ends_in_integer values ≡ true)

-- what a node asks of an alpha memory: it finds facts by these fields. These are the values of the fact that went and of the one that
-- came, of which one is none, and what is filed may be
pub record Asks (comparison : Option Comparison) (fields : List JoinField) (alpha : AlphaMemoryValue) (join : ℕ) (filing : Filing) (gone_values come_values : Option (List Value)) : Type 0 where
  pub has_join : HasJoin alpha join fields
  pub apart : IsApart alpha
  pub single : (alpha.gone ≡ None) ⊎ (alpha.come ≡ None)
  pub ordered : is_ordered comparison ≡ true
  pub filed : (member : ℕ) (values : List Value) → values_at filing member ≡ Some values → MayBeFiled comparison fields values
  pub went : gone_values ≡ values_under fields alpha alpha.gone
  pub came : come_values ≡ values_under fields alpha alpha.come

-- these members are filed by nothing now, and the others as they were
pub record AreForgotten (old new : Filing) (members : List ℕ) : Type 0 where
  pub gone : (member : ℕ) → In member members → values_at new member ≡ None
  pub others : (member : ℕ) → (In member members → ⊥) → values_at new member ≡ values_at old member

-- of the tokens behind a group those of what is filed and turned so went, and those of what turned the other way came
pub record HasTurned (positive : Bool) (comparison : Option Comparison) (fields : List JoinField) (alpha : AlphaMemoryValue) (filing : Filing) (old new : BetaMemoryValue) : Type 0 where
  pub lost : List ℕ
  pub gained : List ℕ
  pub between : BetaMemoryValue
  pub losing : (n : ℕ) → In n lost ↔ IsFiledBy (IsLost comparison fields alpha) filing n
  pub gaining : (n : ℕ) → In n gained ↔ IsFiledBy (IsGained comparison fields alpha) filing n
  pub goes : Loses old between (λ t. In t.parent (if positive then lost else gained))
  pub comes : Comes between new (AreOf (λ n. In n (if positive then gained else lost)))

-- where it is done by order, the comparison is one by order
abbrev pub is_well_ordered : Looking → Bool
is_well_ordered (in_order comparison) = is_ordered comparison
is_well_ordered (by_witness cs) = true

-- before a change of what is kept: the list before the group has turned, and the facts, which are found by these fields
pub record IsToChange (sight : Sight) (fields : List JoinField) (at : ℕ → Partial) (before : BetaMemoryValue) (alpha : AlphaMemoryValue) (join : ℕ) : Type 0 where
  pub kept : AreKept sight fields at (WasThere before) (were_in alpha)
  pub ordered : is_well_ordered (looking_of sight) ≡ true
  pub has_join : HasJoin alpha join fields
  pub apart : IsApart alpha
  pub single : (alpha.gone ≡ None) ⊎ (alpha.come ≡ None)
  pub came : (number : ℕ) → In number before.come → IsThere before number
  pub come_once : Chain (λ (i : ℕ) (j : ℕ). i ≢ j) before.come

-- a partial match saw a fact, or sees one
abbrev pub HadOne : Looking → List JoinField → (ℕ → Partial) → AlphaMemoryValue → ℕ → Type 0
HadOne looking fields at alpha number = SeesBy looking fields (were_in alpha) (at number)

abbrev pub HasOneNow : Looking → List JoinField → (ℕ → Partial) → AlphaMemoryValue → ℕ → Type 0
HasOneNow looking fields at alpha number = SeesBy looking fields (live alpha) (at number)

-- and after it: what is there before the group is kept, of the tokens behind it those that a fact turned went or came, and then those came
-- of what came before it
pub record HasChanged (positive : Bool) (old new : Sight) (fields : List JoinField) (at : ℕ → Partial) (before : BetaMemoryValue) (alpha : AlphaMemoryValue) (own own' : BetaMemoryValue) : Type 0 where
  pub kept : AreKept new fields at (IsThere before) (live alpha)
  pub lost : List ℕ
  pub gained : List ℕ
  pub between : BetaMemoryValue
  pub turned : BetaMemoryValue
  pub losing : (n : ℕ) → In n lost ↔ (Stays before n × (HadOne (looking_of old) fields at alpha n × (HasOneNow (looking_of old) fields at alpha n → ⊥)))
  pub gaining : (n : ℕ) → In n gained ↔ (Stays before n × ((HadOne (looking_of old) fields at alpha n → ⊥) × HasOneNow (looking_of old) fields at alpha n))
  pub goes : Loses own between (λ t. In t.parent (if positive then lost else gained))
  pub comes : Comes between turned (AreOf (λ n. In n (if positive then gained else lost)))
  pub passed : Comes turned own' (ArePassedOn positive (looking_of old) fields (live alpha) at (λ n. In n before.come))

-- these are kept anew, as is said, and the others as they were
pub record AreReplaced (old new : Witnesses) (numbers : List ℕ) (Now : ℕ → Option ℕ → Option (List Value) → Type 0) : Type 0 where
  pub here : (n : ℕ) → In n numbers → Now n (group_of new.given n) (values_at new.unseen n)
  pub given : (n : ℕ) → (In n numbers → ⊥) → group_of new.given n ≡ group_of old.given n
  pub unseen : (n : ℕ) → (In n numbers → ⊥) → values_at new.unseen n ≡ values_at old.unseen n

-- each has the place that it is to have over these facts
abbrev pub IsPlaced : List ComparedField → List JoinField → (ℕ → Option (ℕ × FactValue)) → (ℕ → Partial) → ℕ → Option ℕ → Option (List Value) → Type 0
IsPlaced cs fields facts at n witness filed = HasPlace cs fields facts (at n) witness filed

-- each has this witness
abbrev pub HasWitness : ℕ → ℕ → Option ℕ → Option (List Value) → Type 0
HasWitness one n witness filed = (witness ≡ Some one) × (filed ≡ None)

-- each is kept no more
abbrev pub IsOut : ℕ → Option ℕ → Option (List Value) → Type 0
IsOut n witness filed = (witness ≡ None) × (filed ≡ None)

-- a partial match gives these values to the fields, and these are the facts that have them
abbrev pub HasItsFacts : List JoinField → AlphaMemoryValue → List Value → List ℕ → Partial → Type 0
HasItsFacts fields alpha values numbers m = (variable_values fields m.env ≡ Some values) × AreFactsWith alpha fields values numbers

-- a partial match gives the values to the fields that a fact has, which can be read
abbrev pub GivesValuesOf : List JoinField → AlphaMemoryValue → Partial → ℕ → Type 0
GivesValuesOf fields alpha m k = (values : List Value) × (variable_values fields m.env ≡ Some values) × (values_in fields (candidate_in alpha.candidates k) ≡ Some values)

-- the partial matches whose witness went, if a fact went, give its values
abbrev pub GiveValuesOfGone : List JoinField → AlphaMemoryValue → (ℕ → Partial) → Witnesses → Type 0
GiveValuesOfGone fields alpha at kept = (n k : ℕ) → alpha.gone ≡ Some k → group_of kept.given n ≡ Some k → GivesValuesOf fields alpha (at n) k

-- the fact that went was their witness, if one went: they have another, but for those that are lost
pub record HasLost (cs : List ComparedField) (fields : List JoinField) (alpha : AlphaMemoryValue) (at : ℕ → Partial) (old new : Witnesses) (lost : List ℕ) : Type 0 where
  pub members : List ℕ
  pub are : (n : ℕ) → In n members ↔ ((k : ℕ) × (alpha.gone ≡ Some k) × (group_of old.given n ≡ Some k))
  pub placed : AreReplaced old new members (IsPlaced cs fields (live alpha) at)
  pub losing : (n : ℕ) → In n lost ↔ (In n members × (SeesSome cs fields (live alpha) (at n) → ⊥))
  pub once : Chain (λ (i : ℕ) (j : ℕ). i ≢ j) lost

-- a partial match had no witness and sees the fact that came, if one came
abbrev pub IsSeenFirst : List ComparedField → List JoinField → AlphaMemoryValue → (ℕ → Partial) → Witnesses → ℕ → Type 0
IsSeenFirst cs fields alpha at old n = (k : ℕ) × (values : List Value) × (alpha.come ≡ Some k) × (values_in fields (candidate_in alpha.candidates k) ≡ Some values)
    × (values_at old.unseen n ≡ Some values) × (compares_with cs (candidate_in alpha.candidates k) (at n) ≡ true)

-- the fact that came, if one came, is the witness of those that see it and had none
pub record HasGained (cs : List ComparedField) (fields : List JoinField) (alpha : AlphaMemoryValue) (at : ℕ → Partial) (old new : Witnesses) (gained : List ℕ) : Type 0 where
  pub gaining : (n : ℕ) → In n gained ↔ IsSeenFirst cs fields alpha at old n
  pub given : AreReplaced old new gained (λ n witness filed. (witness ≡ alpha.come) × (filed ≡ None))
  pub once : Chain (λ (i : ℕ) (j : ℕ). i ≢ j) gained
