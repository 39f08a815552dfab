use Rattle.std.proofs.Common.{◌≡◌, ◌≤◌, length}
use Rattle.cb_io.specs.Output.{IsReady}
use Rattle.cb_script.proofs.Following.{Following}
use Rattle.cb_script.proofs.script.follow.Given as goal

abbrev pub invariant-loop-turn : goal.invariant-loop-turn
invariant-loop-turn g l = record {
  following : Following l.initial.session.setup l.session (g.S.Source.left l.initial.source) (g.S.Source.left l.source) (g.S.Source.reads l.initial.source) (g.S.Source.reads l.source) (g.K.Sink.writes l.initial.out.sink) (g.K.Sink.writes l.out.sink);
  ready : IsReady l.out;
  turns : l._turn ≤ length l.session.fed;
  block : length l.block ≡ 4096;
}
