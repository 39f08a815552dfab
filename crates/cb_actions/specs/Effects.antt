-- What a call does with the values of its arguments.
use Rattle.std.specs.Prelude.{ℕ, ℤ, pos, negsuc, is_some, ◌+◌, nat_eq, nat_lt, zero, suc, Bool, true, false, List, [], ◌∷◌, ◌++◌, Option, Some, None, Result, Ok, Err, codes, drop, take, if◌then◌else◌}
use Rattle.std.specs.List.{list_all}
use Rattle.std.specs.Map.{keys_of}
use Rattle.std.specs.Option.{ok_or}
use Rattle.std.specs.Str.{bytes_eq}
use Rattle.cb_actions.specs.Acts.{Act, each, give, stop, give_or_fault, become, write, ◌>>=◌}
use Rattle.cb_actions.specs.Changes.{come_line, gone_line, moved}
use Rattle.cb_actions.specs.Printing.{printed, printed_values}
use Rattle.cb_actions.specs.Worlds.{World}
use Rattle.cb_actions.specs.declared.act.EarlyEnd.TheVariants as ended
use Rattle.cb_actions.specs.declared.act.Limit.TheVariants.{Numbers, Turns}
use Rattle.cb_eval.specs.Applied.{applied}
use Rattle.cb_eval.specs.Constants.{false_symbol}
use Rattle.cb_eval.specs.Logic.{is_true, decides}
use Rattle.cb_exprs.specs.Bindings.{value_at, with_variable, with_global}
use Rattle.cb_exprs.specs.Shapes.{Shape, SlotCounts}
use Rattle.cb_exprs.specs.declared.effect.Effect.{Effect}
use Rattle.cb_exprs.specs.declared.effect.Effect.TheVariants as kind
use Rattle.cb_facts.specs.FactLists.{fact_at}
use Rattle.cb_facts.specs.Facts.{FactValue}
use Rattle.cb_facts.specs.declared.value.Value.{Value}
use Rattle.cb_facts.specs.declared.value.Value.TheVariants as value
use Rattle.cb_forms.specs.declared.fault.Fault.{Fault}
use Rattle.cb_forms.specs.declared.fault.Fault.TheVariants.{NoSuchFact, UnboundVariable, UnknownGlobal, WrongType}
use Rattle.cb_knowledge_base.specs.KnowledgeBase.{greatest_index, grown, index_of, put_back, without}
use Rattle.cb_templates.specs.Building.{Given, PartValues, field_values, slot_values, built, changed}
use Rattle.cb_words.specs.declared.words.Function.{Function}
use Rattle.cb_words.specs.declared.words.Function.TheVariants as function

-- a value that is there, or this fault
abbrev pub found : Fault → Option Value → Act World (Option Value)
found f None = stop (ended.Fault f)
found f (Some v) = give (Some v)

-- the value of a variable, and of a global variable
abbrev pub looked_up : List ℕ → Act World (Option Value)
looked_up x s = found UnboundVariable (value_at x s.env.variables) s

-- The value of a global, or CB12.
abbrev pub global_looked_up : List ℕ → Act World (Option Value)
global_looked_up x s = found UnknownGlobal (value_at x s.env.globals) s

-- a value is wanted
abbrev pub wanted : Option Value → Act World Value
wanted None = stop (ended.Fault WrongType)
wanted (Some v) = give v

-- A value is wanted, and where there is none the item ends with CB17.
abbrev pub valued : Act World (Option Value) → Act World Value
valued act = act >>= wanted

-- whether a value counts as true
abbrev pub truth_of : Act World (Option Value) → Act World Bool
truth_of act = do
  v ← valued act
  give (is_true v)

-- the arguments of a call of this function, if it is one, end with this value
abbrev pub ends : Option Function → Value → Bool
ends None v = false
ends (Some f) v = decides f v

-- a function without an effect, of these values
abbrev pub called : Function → List Value → Act World (Option Value)
called f vs = do
  v ← give_or_fault (applied f vs)
  give (Some v)

-- slots, each with the one value that it is given
abbrev pub each_given : List (List ℕ) → List Value → Given
each_given (name ∷ names) (v ∷ vs) = (name, v ∷ []) ∷ each_given names vs
each_given names vs = []

-- what a fact is given with these values: its fields, or the slots of these names
abbrev pub parts_of : Option (List (List ℕ)) → List Value → PartValues
parts_of None vs = field_values vs
parts_of (Some names) vs = slot_values (each_given names vs)

-- one fact more, with the next index
abbrev pub added_next : FactValue → Act World (Unit {0})
added_next fact s = moved (grown fact s.memory) (come_line s (s.memory.last + 1) fact) s

-- The address of a fact: of an equal one that is there, or of the next, which is added; where no index is left, the script ends.
abbrev pub added_beside : FactValue → Option ℕ → Act World (Option Value)
added_beside fact (Some ix) s = give (Some (value.Fact ix)) s
added_beside fact None s = if nat_lt s.memory.last greatest_index then (added_next fact >>= (λ _. give (Some (value.Fact (s.memory.last + 1))))) s else stop (ended.Limit Numbers) s

-- A fact is built and asserted, and its value is its address; where no index is left, the script ends.
abbrev pub fact_added : FactValue → Act World (Option Value)
fact_added fact s = added_beside fact (index_of s.memory.network.facts fact) s

-- a fact of this shape is built of these values and asserted
abbrev pub asserted : Shape → List Value → Act World (Option Value)
asserted shape vs s = (give_or_fault (built s.templates shape.relation (parts_of shape.slots vs)) >>= fact_added) s

-- the fact with the index goes, if there is one
abbrev pub gone_if : ℕ → Option FactValue → Act World (Unit {0})
gone_if ix None s = give tt s
gone_if ix (Some f) s = moved (without ix s.memory) (gone_line s ix (Some f)) s

abbrev pub fact_gone : ℕ → Act World (Unit {0})
fact_gone ix s = gone_if ix (fact_at s.memory.network.facts ix) s

-- the same, where there is to be one
abbrev pub fact_taken : ℕ → Act World (Unit {0})
fact_taken ix s = if is_some (fact_at s.memory.network.facts ix) then fact_gone ix s else stop (ended.Fault NoSuchFact) s

-- the index that a number is
abbrev pub index_named : ℤ → Option ℕ
index_named (pos ix) = Some ix
index_named (negsuc n) = None

abbrev pub taken_by : Option ℕ → Act World (Unit {0})
taken_by None s = stop (ended.Fault NoSuchFact) s
taken_by (Some ix) s = fact_taken ix s

-- What a value says is retracted: an address, which is passed over where no fact has it, or an index. Any other value, which is `*`
-- wherever values are checked first, is all facts.
abbrev pub retracted_one : Value → Act World (Unit {0})
retracted_one (value.Fact ix) s = fact_gone ix s
retracted_one (value.Int n) s = taken_by (index_named n) s
retracted_one v s = each fact_gone (keys_of s.memory.network.facts) s

-- the value says which facts to retract: an address, an index or `*`
abbrev pub is_retractable : Value → Bool
is_retractable (value.Fact ix) = true
is_retractable (value.Int n) = true
is_retractable (value.Symbol name) = bytes_eq name (codes "*")
is_retractable v = false

-- the facts that values say are retracted, if each value can say one
abbrev pub retracted : List Value → Act World (Option Value)
retracted vs s = if list_all is_retractable vs then (each retracted_one vs >>= (λ _. give None)) s else stop (ended.Fault WrongType) s

-- a fact comes under an index that a fact had before
abbrev pub fact_back : ℕ → FactValue → Act World (Unit {0})
fact_back ix fact s = moved (put_back ix fact s.memory) (come_line s ix fact) s

-- The fact with an index goes, and then this one comes under the same index. The value is its address.
abbrev pub fact_replaced : ℕ → FactValue → Act World (Option Value)
fact_replaced ix fact = fact_gone ix >>= (λ _. fact_back ix fact >>= (λ _. give (Some (value.Fact ix))))

-- the value where a fact equal to the new one has this index: the address if it is the fact itself, else FALSE
abbrev pub unchanged_value : ℕ → ℕ → Value
unchanged_value ix there = if nat_eq ix there then value.Fact ix else false_symbol

-- Where an equal fact is there, nothing changes.
abbrev pub replaced_beside : ℕ → FactValue → Option ℕ → Act World (Option Value)
replaced_beside ix fact (Some there) s = give (Some (unchanged_value ix there)) s
replaced_beside ix fact None s = fact_replaced ix fact s

abbrev pub replaced_if_new : ℕ → FactValue → Act World (Option Value)
replaced_if_new ix fact s = replaced_beside ix fact (index_of s.memory.network.facts fact) s

-- the index that a value says: that of an address, or a number
abbrev pub index_said : Value → Result ℕ Fault
index_said (value.Fact ix) = Ok ix
index_said (value.Int n) = ok_or (index_named n) NoSuchFact
index_said v = Err WrongType

-- the fact with an index, which is to be there
abbrev pub fact_said : ℕ → Act World FactValue
fact_said ix s = give_or_fault (ok_or (fact_at s.memory.network.facts ix) NoSuchFact) s

-- slots, each with as many of these values as it has expressions
abbrev pub shared_out : SlotCounts → List Value → Given
shared_out [] vs = []
shared_out (slot ∷ slots) vs = (slot.0, take slot.1 vs) ∷ shared_out slots (drop slot.1 vs)

-- the fact that it is with these slots is put in its place
abbrev pub changed_to : ℕ → Given → FactValue → Act World (Option Value)
changed_to ix given old s = (give_or_fault (changed s.templates old given) >>= replaced_if_new ix) s

-- the slots of the fact with an index are given these values
abbrev pub modified_at : Given → ℕ → Act World (Option Value)
modified_at given ix = fact_said ix >>= changed_to ix given

-- The first value says which fact, and the others are for its slots.
abbrev pub modified : SlotCounts → List Value → Act World (Option Value)
modified slots [] = stop (ended.Fault WrongType)
modified slots (v ∷ vs) = give_or_fault (index_said v) >>= modified_at (shared_out slots vs)

-- one value of several: a multifield of them, as `create$` makes, unless there is one
abbrev pub joined : List Value → Act World Value
joined (v ∷ []) = give v
joined vs = give_or_fault (applied function.Create vs)

-- a variable has this value now, and so has a global variable
abbrev pub bound : List ℕ → Value → Act World (Option Value)
bound x v s = give (Some v) (record s { env = with_variable x v s.env })

-- A global has this value, which is the answer.
abbrev pub global_bound : List ℕ → Value → Act World (Option Value)
global_bound x v s = give (Some v) (record s { env = with_global x v s.env })

-- the run ends after the rule that fires now
abbrev pub halted : Act World (Option Value)
halted s = become (record s { is_halted = true }) s

-- values on a line
abbrev pub printed_line : List Value → List ℕ
printed_line vs = printed_values vs ++ codes "\n"

-- What a call with an effect does with the values of its arguments.
abbrev pub effected : Effect → List Value → Act World (Option Value)
effected (kind.Assert shape) vs = asserted shape vs
effected kind.Retract vs = retracted vs
effected (kind.Modify slots) vs = modified slots vs
effected (kind.Bind x) vs = joined vs >>= bound x
effected (kind.BindGlobal x) vs = joined vs >>= global_bound x
effected (kind.Printout on) vs = write (printed on vs)
effected kind.Print vs = write (printed_values vs)
effected kind.Println vs = write (printed_line vs)
effected kind.Halt vs = halted

-- one of two acts
abbrev pub chosen : {A : Type 0} → Bool → Act World A → Act World A → Act World A
chosen true first second s = first s
chosen false first second s = second s

-- a turn is taken from these that are left; where none is, the script ends
abbrev pub turn_of : ℕ → Act World (Unit {0})
turn_of zero s = stop (ended.Limit Turns) s
turn_of (suc n) s = give tt (record s { turns = n })

-- A turn is taken from those that are left; where none is, the script ends.
abbrev pub turn : Act World (Unit {0})
turn s = turn_of s.turns s
