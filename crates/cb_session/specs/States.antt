-- What is kept from item to item.
use Rattle.std.specs.Prelude.{Bool, false, List, []}
use Rattle.cb_actions.specs.Worlds.{World, first_world, with_numbers}
use Rattle.cb_exprs.specs.GlobalTerms.{GlobalTerm}
use Rattle.cb_knowledge_base.specs.Deffacts.{DeffactsTable}
use Rattle.cb_session.specs.Setups.{Setup}

-- What is kept from item to item: what actions see and change, the facts of each `deffacts`, the initial expression of each
-- global in the order of definition, and whether a fault line was written.
pub record State : Type 0 where
  pub world : World
  pub deffacts : DeffactsTable
  pub globals : List GlobalTerm
  pub is_faulted : Bool

-- before the first item, in this world
abbrev pub state_of : World → State
state_of world = record {
  world = world;
  deffacts = [];
  globals = [];
  is_faulted = false;
}

-- The state of a script before its first item.
abbrev pub first_state : Setup → State
first_state setup = state_of (with_numbers setup.index setup.rule setup.stamp (first_world setup.max_turns setup.max_firings))
