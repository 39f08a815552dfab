use Rattle.std.proofs.Common.{◌≡◌, ◌≤◌, ◌-◌, ◌++◌, length, take}
use Rattle.cb_io.specs.Output.{all_put, Puts}
use Rattle.cb_session.specs.Sessions.{session_after}
use Rattle.cb_session.specs.Transcripts.{added, so_far}
use Rattle.cb_session.proofs.session.Session.feed_all.Given as goal

abbrev pub invariant-loop-done : goal.invariant-loop-done
invariant-loop-done g l = record {
  within : l.done ≤ length l.bytes;
  fed : l.self ≡ session_after l.initial.self.setup (l.initial.self.fed ++ take l.done l.bytes) (so_far l.initial.self.setup (l.initial.self.fed ++ take l.done l.bytes)).status;
  puts : Puts g.K.Sink.writes l.initial.out l.out all_put (added l.initial.self.setup l.initial.self.fed (take l.done l.bytes));
}

abbrev pub decreases-loop-done : goal.decreases-loop-done
decreases-loop-done g l = length l.bytes - l.done
