-- Where the faults of a script arose, and its limit.
use Rattle.std.specs.Prelude.{ℕ, List, [], ◌∷◌, ◌++◌, Option, Some, None, Result, Ok, Err, option_map, if◌then◌else◌}
use Rattle.cb_actions.specs.declared.act.EarlyEnd.{EarlyEnd}
use Rattle.cb_actions.specs.declared.act.EarlyEnd.TheVariants as ended
use Rattle.cb_forms.specs.Items.{fitting, over}
use Rattle.cb_forms.specs.Trees.{Reading}
use Rattle.cb_rules.specs.RuleTables.{rule_numbered}
use Rattle.cb_session.specs.Actions.{acted}
use Rattle.cb_session.specs.ItemLines.{placed_fitting, placed_whole, too_long_at}
use Rattle.cb_session.specs.Setups.{Setup}
use Rattle.cb_session.specs.States.{State, first_state}
use Rattle.cb_session.specs.Transcripts.{after_all, begun, executed}
use Rattle.cb_session.specs.declared.places.Place.{Place}
use Rattle.cb_session.specs.declared.status.Status.{Status}

-- The places of all faults, in order, and the line of the limit, if there was one.
pub record FaultPlaces : Type 0 where
  pub faults : List Place
  pub limit : Option ℕ

abbrev pub no_places : FaultPlaces
no_places = record { faults = []; limit = None }

-- one more fault
abbrev pub and_fault : ℕ → Option (List ℕ) → FaultPlaces → FaultPlaces
and_fault line rule ps = record ps { faults = ps.faults ++ record { line = line; rule = rule } ∷ [] }

-- An item on this line has left this state and ended so: a fault is noted, with its rule where it arose in one, and a limit.
abbrev pub noted : ℕ → State → Result (Unit {0}) EarlyEnd → FaultPlaces → FaultPlaces
noted line s (Ok _) ps = ps
noted line s (Err (ended.Fault f)) ps = and_fault line None ps
noted line s (Err (ended.FaultIn f id)) ps = and_fault line (option_map (λ r. r.name) (rule_numbered id s.world.rules)) ps
noted line s (Err (ended.Limit limit)) ps = record ps { limit = Some line }
noted line s (Err (ended.Exit code)) ps = ps

-- what an item on this line adds
unfoldable pub noted_item : ℕ → State → Reading → FaultPlaces → FaultPlaces
noted_item line s r ps = noted line (acted r s).state (acted r s).answer ps

-- What these items add, one after another, from this status and state on. After the end nothing counts.
abbrev pub noted_all : Option Status → State → FaultPlaces → List (ℕ × Reading) → FaultPlaces
noted_all status s ps [] = ps
noted_all (Some status) s ps (item ∷ items) = ps
noted_all None s ps ((line, r) ∷ items) = noted_all (executed s r).status (executed s r).state (noted_item line s r ps) items

-- what the items of a script add, from its beginning on
abbrev pub noted_from_start : Setup → List (ℕ × Reading) → FaultPlaces
noted_from_start setup items = noted_all None (first_state setup) no_places items

-- an item is too long, unless the script has ended before it
abbrev pub noted_too_long : Option Status → ℕ → FaultPlaces → FaultPlaces
noted_too_long None line ps = record ps { limit = Some line }
noted_too_long (Some status) line ps = ps

-- a script that is cut off by an item that is too long
abbrev pub places_cut_off : Setup → List ℕ → FaultPlaces
places_cut_off setup p =
    noted_too_long (after_all (begun setup) (fitting setup.max_form p)).status (too_long_at setup.max_form p) (noted_from_start setup (placed_fitting setup.max_form p))

-- The places of the script p, so far: of each item that has ended, up to one that is too long.
unfoldable pub places_so_far : Setup → List ℕ → FaultPlaces
places_so_far setup p = if over setup.max_form p then places_cut_off setup p else noted_from_start setup (placed_whole p)

-- the places of the whole script s
unfoldable pub all_places : Setup → List ℕ → FaultPlaces
all_places setup s = if over setup.max_form s then places_cut_off setup s else noted_from_start setup (placed_fitting setup.max_form s)
