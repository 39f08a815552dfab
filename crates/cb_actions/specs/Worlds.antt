-- What actions see and change.
use Rattle.std.specs.Prelude.{ℕ, Bool, false, List, []}
use Rattle.cb_actions.specs.declared.watched.Watched.{Watched}
use Rattle.cb_agenda.specs.Agendas.{AgendaValue, empty_agenda}
use Rattle.cb_exprs.specs.Bindings.{Bindings, no_bindings}
use Rattle.cb_knowledge_base.specs.KnowledgeBase.{Memory, empty_memory}
use Rattle.cb_rules.specs.RuleInfos.{RuleInfo}
use Rattle.cb_templates.specs.Templates.{Templates}

abbrev pub unwatched : Watched
unwatched = record { facts = false; rules = false; activations = false }

-- The rules and the facts, the matches that are due, what is kept of the rules, what is watched, the templates, the values of the
-- variables and the globals, how many turns are left to all loops together, how many firings are left, and whether a `halt` was met
-- in this run.
pub record World : Type 0 where
  pub memory : Memory
  pub agenda : AgendaValue
  pub rules : List RuleInfo
  pub watched : Watched
  pub templates : Templates
  pub env : Bindings
  pub turns : ℕ
  pub firings : ℕ
  pub is_halted : Bool

-- no rules, no facts, no templates and no values, and so many turns and firings
abbrev pub first_world : ℕ → ℕ → World
first_world turns firings = record { memory = empty_memory; agenda = empty_agenda; rules = []; watched = unwatched; templates = []; env = no_bindings; turns = turns; firings = firings; is_halted = false }

-- the same, where these were given last: the index of a fact, the number of a rule, and a stamp
abbrev pub with_numbers : ℕ → ℕ → ℕ → World → World
with_numbers index rule stamp s = record s { memory = record s.memory { last = index; last_rule = rule }; agenda = record s.agenda { last = stamp } }

-- no variable has a value
abbrev pub without_variables : World → World
without_variables s = record s { env = record { variables = []; globals = s.env.globals } }
