-- The turns that are left never rise from item to item.
use Rattle.std.proofs.Common.{◌≤◌, ℕ, Bool, true, false, List, [], ◌∷◌, Option, Some, None, Result, Ok, Err, arith, if◌then◌else◌}
use Rattle.cb_actions.specs.Internal.{Falls}
use Rattle.cb_actions.specs.Acts.{give_or_fault}
use Rattle.cb_actions.proofs.FallLaws.{falls_then}
use Rattle.cb_actions.specs.declared.act.EarlyEnd.{EarlyEnd}
use Rattle.cb_actions.specs.declared.act.EarlyEnd.TheVariants as ended
use Rattle.cb_forms.specs.Items.{fitting, over}
use Rattle.cb_forms.specs.Trees.{Reading}
use Rattle.cb_forms.specs.declared.fault.Fault.{Fault}
use Rattle.cb_requests.specs.Requests.{Request}
use Rattle.cb_session.proofs.DeedLaws.{left}
use Rattle.cb_session.proofs.RequestLaws.{performed_falls}
use Rattle.cb_session.specs.Actions.{acted, performed, performed_and_shown, requested, shown}
use Rattle.cb_session.specs.Setups.{Setup}
use Rattle.cb_session.specs.States.{State}
use Rattle.cb_session.specs.Transcripts.{Run, after, after_all, after_status, begun, complete, concluded, executed, too_long, too_long_status}
use Rattle.cb_session.specs.declared.status.Status.{Status}

read_falls : (r : Result Request Fault) → Falls left (give_or_fault r)
read_falls (Ok request) s = omega arith
read_falls (Err f) s = omega arith

acted_falls : (r : Reading) → Falls left (acted r)
unfolding acted
acted_falls r s =
    let request = requested s r in
    falls_then left (give_or_fault request) performed_and_shown (read_falls request) (λ it. falls_then left (performed it) shown (performed_falls it) (λ v u. omega arith)) s

concluded_falls : (s : State) (w : List ℕ) (r : Result (Unit {0}) EarlyEnd) → left (concluded s w r).state ≤ left s
concluded_falls s w (Ok v) = omega arith
concluded_falls s w (Err (ended.Fault f)) = omega arith
concluded_falls s w (Err (ended.FaultIn f id)) = omega arith
concluded_falls s w (Err (ended.Limit limit)) = omega arith
concluded_falls s w (Err (ended.Exit code)) = omega arith

pub item_falls : (s : State) (r : Reading) → (executed s r).state.world.turns ≤ s.world.turns
unfolding executed
item_falls s r =
    let now = concluded_falls (acted r s).state (acted r s).written (acted r s).answer in
    let before = acted_falls r s in
    omega arith

-- items, one after another
after_falls : (status : Option Status) (run : Run) (item : Reading) → left (after_status status run item).state ≤ left run.state
after_falls None run item = item_falls run.state item
after_falls (Some status) run item = omega arith

all_fall : (run : Run) (items : List Reading) → left (after_all run items).state ≤ left run.state
all_fall run [] = omega arith
all_fall run (item ∷ items) =
    let now = all_fall (after run item) items in
    let before = after_falls run.status run item in
    omega arith

too_long_falls : (status : Option Status) (run : Run) → left (too_long_status status run).state ≤ left run.state
too_long_falls None run = omega arith
too_long_falls (Some status) run = omega arith

script_by : (b : Bool) (setup : Setup) (items : List Reading) → left (if b then too_long (after_all (begun setup) items) else after_all (begun setup) items).state ≤ setup.max_turns
script_by true setup items =
    let run = after_all (begun setup) items in
    let now = too_long_falls run.status run in
    let before = all_fall (begun setup) items in
    omega arith
script_by false setup items = all_fall (begun setup) items

pub script_falls : (setup : Setup) (s : List ℕ) → (complete setup s).state.world.turns ≤ setup.max_turns
unfolding complete
script_falls setup s = script_by (over setup.max_form s) setup (fitting setup.max_form s)
