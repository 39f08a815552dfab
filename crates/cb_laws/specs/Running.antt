-- An item that is carried out.
use Rattle.std.specs.Prelude.{◌≡◌, ◌++◌}
use Rattle.cb_forms.specs.Trees.{Reading}
use Rattle.cb_session.specs.Transcripts.{Run, executed}

-- After a run this item was carried out: the state and the status are those that it leaves, and what it writes comes after
-- what was written.
pub record IsCarriedOut (before : Run) (r : Reading) (after : Run) : Type 0 where
  pub state : after.state ≡ (executed before.state r).state
  pub written : after.written ≡ before.written ++ (executed before.state r).written
  pub status : after.status ≡ (executed before.state r).status
