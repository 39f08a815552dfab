-- Deeds: what requests can do, by what of a state changes.
use Rattle.std.specs.Prelude.{◌≡◌, ℕ, List, [], Option}
use Rattle.cb_actions.specs.Acts.{Act, Effect, become, write, ◌>>=◌}
use Rattle.cb_actions.specs.Worlds.{World}
use Rattle.cb_actions.specs.declared.watched.Watched.{Watched}
use Rattle.cb_agenda.specs.declared.strategy.Strategy.{Strategy}
use Rattle.cb_exprs.specs.GlobalTerms.{GlobalTerm}
use Rattle.cb_facts.specs.declared.value.Value.{Value}
use Rattle.cb_knowledge_base.specs.Deffacts.{DeffactsTable}
use Rattle.cb_session.specs.States.{State}

-- an effect on the world, as one on the whole state
abbrev pub in_state : {A : Type 0} → State → Effect World A → Effect State A
in_state s effect = record { state = record s { world = effect.state }; written = effect.written; answer = effect.answer }

-- an act on the world, as one on the whole state
abbrev pub on_world : {A : Type 0} → Act World A → Act State A
on_world act s = in_state s (act s.world)

-- what is kept for `reset`: the facts of each `deffacts`, and the initial expression of each global in the order of definition
pub record Definitions : Type 0 where
  pub deffacts : DeffactsTable
  pub globals : List GlobalTerm

-- none are kept
abbrev pub no_definitions : Definitions
no_definitions = record { deffacts = []; globals = [] }

-- those of a state
abbrev pub definitions_of : State → Definitions
definitions_of s = record { deffacts = s.deffacts; globals = s.globals }

-- what is kept for `reset` changes so; there is no value
abbrev pub keep : (Definitions → Definitions) → Act State (Option Value)
keep change s =
    let next = change (definitions_of s) in
    become (record s { deffacts = next.deffacts; globals = next.globals }) s

-- what commands set for all that follows: what is watched, and the strategy
pub record Settings : Type 0 where
  pub watched : Watched
  pub strategy : Strategy

-- those of a world
abbrev pub settings_of : World → Settings
settings_of w = record { watched = w.watched; strategy = w.agenda.strategy }

-- a world with other settings
abbrev pub with_settings : Settings → World → World
with_settings settings w = record w { watched = settings.watched; agenda = record w.agenda { strategy = settings.strategy } }

-- an act changes the settings alone
abbrev pub SetsOnly : Act World (Option Value) → Type 0
SetsOnly act = (w : World) → (act w).state ≡ with_settings (settings_of (act w).state) w

-- what a request does
pub data Deed : Type 0 where
  -- to write lines; nothing changes
  lists : (State → List ℕ) → Deed
  -- to change what is kept for `reset`
  keeps : (Definitions → Definitions) → Deed
  -- to set something, by an act that changes the settings alone
  sets : (act : Act World (Option Value)) → SetsOnly act → Deed
  -- to act on the world, by what is kept for `reset`
  acts : (Definitions → Act World (Option Value)) → Deed
  -- to act on the world and, where the item doesn't end with that, to change what is kept for `reset`
  acts_and_keeps : Act World (Option Value) → (Definitions → Definitions) → Deed

-- the act that a deed is
abbrev pub done : Deed → Act State (Option Value)
done (lists lines) s = write (lines s) s
done (keeps change) s = keep change s
done (sets act only) s = on_world act s
done (acts act) s = on_world (act (definitions_of s)) s
done (acts_and_keeps act change) s = (on_world act >>= (λ _. keep change)) s
