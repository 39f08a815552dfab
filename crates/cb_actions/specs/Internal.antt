-- What only the code needs.
use Rattle.std.specs.Prelude.{◌≡◌, ◌<◌, ◌≤◌, ◌+◌, ◌++◌, ◌⊎◌, ℕ, ℤ, List, [], ◌∷◌, Option, None, Some, Result, Ok, Err, Vec, Bool, true, false, codes, flat_map, length, refl}
use Rattle.std.specs.Coded.{Coded, code_by, coded_bool, coded_list, coded_ℕ, coded×}
use Rattle.std.specs.List.{All, filter}
use Rattle.std.specs.declared.alloc.Global.{Global}
use Rattle.cb_actions.specs.Acts.{Act, end_in_rule, give, stop, ◌>>=◌}
use Rattle.cb_actions.specs.Changes.{come_line, gone_line, if_watched, moved, saliences, tell}
use Rattle.cb_actions.specs.Effects.{fact_added, fact_gone}
use Rattle.cb_actions.specs.Worlds.{World}
use Rattle.cb_actions.specs.declared.act.Break.{Break}
use Rattle.cb_actions.specs.declared.act.Break.TheVariants as break
use Rattle.cb_actions.specs.declared.act.EarlyEnd.TheVariants as ended
use Rattle.cb_actions.specs.declared.act.Limit.TheVariants.{Numbers as NoNumbers}
use Rattle.cb_actions.specs.declared.change.Memorized.{Memorized}
use Rattle.cb_actions.specs.declared.change.Memorized.TheVariants as memorized
use Rattle.cb_actions.specs.declared.rescheduled.Rescheduled.{Rescheduled}
use Rattle.cb_actions.specs.declared.watched.Watched.{Watched}
use Rattle.cb_agenda.specs.Agendas.{AgendaValue, IsTold, changed, has_stamps, is_due}
use Rattle.cb_io.specs.declared.stop.Stop.TheVariants as stop
use Rattle.cb_exprs.specs.Bindings.{Bindings}
use Rattle.cb_exprs.specs.Internal.Codes.{Piece}
use Rattle.cb_facts.specs.declared.refused.Refused.{Refused}
use Rattle.cb_facts.specs.declared.refused.Refused.TheVariants as refused
use Rattle.cb_facts.specs.FactLists.{fact_at}
use Rattle.cb_facts.specs.Facts.{FactValue}
use Rattle.cb_facts.specs.declared.value.Value.TheVariants as value
use Rattle.cb_knowledge_base.specs.KnowledgeBase.{Memory, greatest_index}
use Rattle.cb_lines.specs.Lines.{activation_line}
use Rattle.cb_matches.specs.Chains.{In}
use Rattle.cb_matches.specs.Changes.{HaveNumbers, IsNumber, Numbers}
use Rattle.cb_matches.specs.Keys.{KeyValue}
use Rattle.cb_matches.specs.declared.delta.Delta.{Delta}
use Rattle.cb_rules.specs.Internal.Codes.{rule_code}
use Rattle.cb_rules.specs.RuleInfos.{RuleInfo}
use Rattle.cb_templates.specs.Templates.{Templates}

-- what a refusal breaks off with
abbrev pub broken_by : Refused → Break
broken_by (refused.Fault f) = break.Ended (ended.Fault f)
broken_by refused.NoMemory = break.Stop stop.NoMemory

-- what breaks off where a fault is one of the rule with this number
abbrev pub break_in_rule : ℕ → Break → Break
break_in_rule id (break.Ended e) = break.Ended (end_in_rule id e)
break_in_rule id (break.Stop s) = break.Stop s

-- the items of what is answered
abbrev pub items_answered : {A : Type 0} → Result (Vec A Global) Break → Result (List A) Break
items_answered (Ok v) = Ok v.items
items_answered (Err e) = Err e

-- an act leaves no more than there was, counted so
abbrev pub Falls : {S A : Type 0} → (S → ℕ) → Act S A → Type 0
Falls {S} count act = (s : S) → count (act s).state ≤ count s

-- the turns that are left
abbrev pub turns_left : World → ℕ
turns_left s = s.turns

-- no rule has a number after this one
abbrev pub AreRulesGiven : ℕ → List RuleInfo → Type 0
AreRulesGiven last rules = All (λ r. r.id ≤ last) rules

-- each match that is due has the number that the matcher gave it
abbrev pub AreInStep : Numbers → Numbers → Type 0
AreInStep due all = (k : KeyValue) (n : ℕ) → IsNumber due k n → IsNumber all k n

-- What holds between the parts of a world: the rules were given their numbers, and the agenda is in step with the matcher where it counts
-- as such.
pub record AreTied (last : ℕ) (rules : List RuleInfo) (in_step : Bool) (due all : Numbers) : Type 0 where
  pub given : AreRulesGiven last rules
  pub step : in_step ≡ true → AreInStep due all

-- if the match is due, it is so by this number
abbrev pub IsItsNumber : Numbers → KeyValue → ℕ → Type 0
IsItsNumber due k n = (m : ℕ) → IsNumber due k m → m ≡ n

-- The matches that went and came, as far as they were due, were so by the numbers that are told.
pub record AreKnown (due : Numbers) (delta : Delta) : Type 0 where
  pub gone : HaveNumbers (IsItsNumber due) delta.gone.items delta.gone_numbers.items
  pub come : HaveNumbers (λ k n. (m : ℕ) → IsNumber due k m → (In k delta.gone.items → ⊥) → m ≡ n) delta.come.items delta.come_numbers.items

-- Where these numbers end first, they are those of the first keys.
abbrev pub FirstHave : (KeyValue → ℕ → Type 0) → List ℕ → List KeyValue → Type 0
FirstHave Has [] ks = Unit {0}
FirstHave Has (n ∷ ns) [] = Unit {0}
FirstHave Has (n ∷ ns) (k ∷ ks) = Has k n × FirstHave Has ns ks

-- the first of these numbers, if there is one, and those after it
abbrev pub IsSplit : List ℕ → Option ℕ → List ℕ → Type 0
IsSplit ns None more = (ns ≡ []) × (more ≡ [])
IsSplit ns (Some n) more = ns ≡ n ∷ more

-- what is due now was due and didn't go, or came, by the number that is told
abbrev pub AreFiled : Numbers → Delta → Numbers → Type 0
AreFiled due delta due' =
    (k : KeyValue) (n : ℕ) → IsNumber due' k n → (IsNumber due k n × (In k delta.gone.items → ⊥)) ⊎ IsTold delta.come.items delta.come_numbers.items k n

-- the lines of activations by the rules and the agenda, if they are watched
abbrev pub lines_by : Bool → List RuleInfo → AgendaValue → List KeyValue → List KeyValue → List ℕ
lines_by watched rules a gone come =
    if_watched watched (flat_map (activation_line (codes "<== ") rules) (filter (is_due a) gone) ++ flat_map (activation_line (codes "==> ") rules) come)

-- The agenda, which was `old`, is `new` after these matches went and these came, or as it was where there are no stamps left.
abbrev pub Schedules : AgendaValue → AgendaValue → List KeyValue → List KeyValue → List ℤ → Bool → Type 0
Schedules old new gone come ss true = (has_stamps old (length come) ≡ true) × (new ≡ changed old gone come ss)
Schedules old new gone come ss false = (has_stamps old (length come) ≡ false) × (new ≡ old)

-- the same with the lines of it
pub record Reschedules (watched : Bool) (rules : List RuleInfo) (old new : AgendaValue) (gone come : List KeyValue) (done : Rescheduled) : Type 0 where
  pub lines : done.lines.items ≡ lines_by watched rules old gone come
  pub agenda : Schedules old new gone come (saliences rules come) done.fits

-- what is left to do after a change that the agenda has followed: these lines are put, or the script ends, since no stamp was left
abbrev pub left_by : Bool → List ℕ → Act World (Unit {0})
left_by true lines = tell lines
left_by false lines = stop (ended.Limit NoNumbers)

abbrev pub left_to_do : Rescheduled → Act World (Unit {0})
left_to_do done = left_by done.fits done.lines.items

-- the line of the change itself, and then what is left to do
abbrev pub told_so : List ℕ → Rescheduled → Act World (Unit {0})
told_so line done = tell line >>= (λ _. left_to_do done)

-- The rules and the facts were changed to these, and the agenda has followed: what is left to do is this.
abbrev pub IsMoved : Memory → World → World → Rescheduled → Type 0
IsMoved next s t done = (line : List ℕ) → moved next line s ≡ told_so line done t

-- the same of a fact that the knowledge base was given, and of one that was taken from it
abbrev pub IsMemorized : FactValue → World → World → Memorized → Type 0
IsMemorized fact s t (memorized.There ix) = fact_added fact s ≡ give (Some (value.Fact ix)) t
IsMemorized fact s t (memorized.Added ix done) =
    (s.memory.last < greatest_index) × (fact_added fact s ≡ (told_so (come_line s (s.memory.last + 1) fact) done >>= (λ _. give (Some (value.Fact ix)))) t)
IsMemorized fact s t memorized.NoIndex = fact_added fact s ≡ stop (ended.Limit NoNumbers) t

abbrev pub IsForgotten : ℕ → World → World → Option Rescheduled → Type 0
IsForgotten ix s t None = fact_gone ix s ≡ give tt t
IsForgotten ix s t (Some done) = fact_gone ix s ≡ told_so (gone_line s ix (fact_at s.memory.network.facts ix)) done t

-- how the logic stores it
abbrev pub world_code : Coded Memory → Coded (List ℕ) → Coded Piece → Coded AgendaValue → Coded Watched → Coded Templates → Coded Bindings → Coded World
world_code memory name piece agenda watched templates env =
    code_by
    ((Memory × (AgendaValue × List RuleInfo)) × ((Watched × Templates) × (Bindings × (ℕ × (ℕ × Bool)))))
    (coded× (coded× memory (coded× agenda (coded_list (rule_code name piece)))) (coded× (coded× watched templates) (coded× env (coded× coded_ℕ (coded× coded_ℕ coded_bool)))))
    (λ s. ((s.memory, (s.agenda, s.rules)), ((s.watched, s.templates), (s.env, (s.turns, (s.firings, s.is_halted))))))
    (λ p. record { memory = p.0.0; agenda = p.0.1.0; rules = p.0.1.1; watched = p.1.0.0; templates = p.1.0.1; env = p.1.1.0; turns = p.1.1.1.0; firings = p.1.1.1.1.0; is_halted = p.1.1.1.1.1 })
    (λ _. refl)
