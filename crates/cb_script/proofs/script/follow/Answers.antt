use Rattle.cb_script.proofs.script.follow.Goals as goal
use Rattle.std.proofs.Common.{ap, arith, rules, ◌∙◌, refl, ◌≡◌, ◌≢◌, ◌≤◌, ◌+◌, ◌++◌, length, [], take, Err}
use Rattle.std.proofs.lemmas.List.{length-take}
use Rattle.cb_io.specs.Moved.{Gave}
use Rattle.cb_script.proofs.Following.{GaveMore, ended_more, following_none, following_on, turns_on}
use Rattle.cb_script.proofs.Moves.{wrote-all, wrote-begun}
use Rattle.cb_script.proofs.Endings.{ran_ended, ran_stopped, ran_finished, ran_unfinished, ran_unread, ran_endless}

pub loop-turn-init : goal.loop-turn-init
loop-turn-init g c = record {
  following = following_none _ _ _ _ _ c.requires.fresh;
  ready = c.requires.ready;
  turns = omega arith;
  block = search rules;
}

pub loop-turn-preserved : goal.loop-turn-preserved
loop-turn-preserved g c =
    let before = c.loop-turn.invariant.following in
    let some : c.in-Ok.n ≢ 0 = search rules in
    let fed = c.in-Ok-GoOn.ensures.fed before.no_status in
    let more = wrote-all g.K.Sink.writes _ _ _ c.loop-turn.invariant.ready.0 c.in-Ok-GoOn.ensures.ready.0 (c.in-Ok-GoOn.ensures.puts before.no_stop before.no_status) in
    let no_end : (g.S.Source.reads c.read.new.self).ends ≡ (g.S.Source.reads c.loop-turn.source).ends = search rules in
    let read : GaveMore (take c.in-Ok.n c.read.new.buf) (g.S.Source.reads c.loop-turn.source) (g.S.Source.reads c.read.new.self) =
    record { bytes = ap (λ it. it.bytes) c.in-Ok.ensures.noted; ends = no_end; failures = ap (λ it. it.failures) c.in-Ok.ensures.noted } in
    record {
      following = following_on _ _ _ _ _ _ _ _ _ _ _ _ before _ _ c.in-Ok.ensures.gave read more fed c.in-Ok-GoOn.field-0-is (c.in-Ok-GoOn.ensures.flow before.no_status);
      ready = c.in-Ok-GoOn.ensures.ready;
      turns = turns_on _ _ _ _ _ _ _ fed c.loop-turn.invariant.turns some (rw c.read.auto.buf c.in-Ok.ensures.within);
      block = rw c.read.auto.buf c.loop-turn.invariant.block;
    }

pub returns-in-Err : goal.returns-in-Err
returns-in-Err g c =
    let before = c.loop-turn.invariant.following in
    λ ps known. rw (c.failed.ensures, c.in-Err.ensures.err) (ran_unread _ _ _ _ _ _ _ _ _ before (ap (λ it. it.bytes) c.in-Err.ensures.err_noted) (ap (λ it. it.failures) c.in-Err.ensures.err_noted) ps known)

pub returns-in-Ok-finish : goal.returns-in-Ok-finish
returns-in-Ok-finish g c =
    let before = c.loop-turn.invariant.following in
    let none : take c.in-Ok.n c.read.new.buf ≡ [] = rw c.if-n-eq0.true refl in
    let end = c.in-Ok.ensures.end c.if-n-eq0.true (omega (arith, c.loop-turn.invariant.block)) in
    let another : (g.S.Source.reads c.read.new.self).ends ≡ (g.S.Source.reads c.loop-turn.source).ends + 1 =
    ended_more (g.S.Source.reads c.loop-turn.source) (g.S.Source.reads c.read.new.self) _ c.in-Ok.n (take c.in-Ok.n c.read.new.buf) c.in-Ok.ensures.noted c.if-n-eq0.true (omega (arith, c.loop-turn.invariant.block)) in
    let gave : Gave (g.S.Source.left c.loop-turn.source) (g.S.Source.left c.read.new.self) [] = rw none at c.in-Ok.ensures.gave in
    let bytes : (g.S.Source.reads c.read.new.self).bytes ≡ (g.S.Source.reads c.loop-turn.source).bytes ++ [] = ap (λ it. it.bytes) c.in-Ok.ensures.noted ∙ ap (λ it. (g.S.Source.reads c.loop-turn.source).bytes ++ it) none in
    let more = wrote-all g.K.Sink.writes _ _ _ c.loop-turn.invariant.ready.0 c.in-Ok-finish.ensures.ready.0 (c.in-Ok-finish.ensures.puts before.no_stop before.no_status) in
    λ ps known. rw c.ended.ensures (ran_finished _ _ _ _ _ _ _ _ _ _ _ before gave end bytes another (ap (λ it. it.failures) c.in-Ok.ensures.noted) _ more (c.in-Ok-finish.ensures.status before.no_status) _ (c.in-Ok-finish.ensures.ended_now before.no_status) ps known)

pub returns-in-Err-finish : goal.returns-in-Err-finish
returns-in-Err-finish g c =
    let before = c.loop-turn.invariant.following in
    let none : take c.in-Ok.n c.read.new.buf ≡ [] = rw c.if-n-eq0.true refl in
    let end = c.in-Ok.ensures.end c.if-n-eq0.true (omega (arith, c.loop-turn.invariant.block)) in
    let another : (g.S.Source.reads c.read.new.self).ends ≡ (g.S.Source.reads c.loop-turn.source).ends + 1 =
    ended_more (g.S.Source.reads c.loop-turn.source) (g.S.Source.reads c.read.new.self) _ c.in-Ok.n (take c.in-Ok.n c.read.new.buf) c.in-Ok.ensures.noted c.if-n-eq0.true (omega (arith, c.loop-turn.invariant.block)) in
    let gave : Gave (g.S.Source.left c.loop-turn.source) (g.S.Source.left c.read.new.self) [] = rw none at c.in-Ok.ensures.gave in
    let bytes : (g.S.Source.reads c.read.new.self).bytes ≡ (g.S.Source.reads c.loop-turn.source).bytes ++ [] = ap (λ it. it.bytes) c.in-Ok.ensures.noted ∙ ap (λ it. (g.S.Source.reads c.loop-turn.source).bytes ++ it) none in
    let more = wrote-begun g.K.Sink.writes _ _ _ c.loop-turn.invariant.ready.0 c.in-Err-finish.stop (λ e. (c.in-Err-finish.ensures.halted (ap Err e) before.no_stop).0) (c.in-Err-finish.ensures.puts before.no_stop before.no_status) in
    λ ps known. rw c.stopped.ensures (ran_unfinished _ _ _ _ _ _ _ _ _ _ _ before gave end bytes another (ap (λ it. it.failures) c.in-Ok.ensures.noted) c.in-Err-finish.stop more ps)

pub returns-in-Ok-Ended : goal.returns-in-Ok-Ended
returns-in-Ok-Ended g c =
    let before = c.loop-turn.invariant.following in
    let short : length (take c.in-Ok.n c.read.new.buf) ≤ 4096 = omega (arith, length-take c.in-Ok.n c.read.new.buf, c.in-Ok.ensures.within, c.loop-turn.invariant.block) in
    let more = wrote-all g.K.Sink.writes _ _ _ c.loop-turn.invariant.ready.0 c.in-Ok-Ended.ensures.ready.0 (c.in-Ok-Ended.ensures.puts before.no_stop before.no_status) in
    let no_end : (g.S.Source.reads c.read.new.self).ends ≡ (g.S.Source.reads c.loop-turn.source).ends = search rules in
    let read : GaveMore (take c.in-Ok.n c.read.new.buf) (g.S.Source.reads c.loop-turn.source) (g.S.Source.reads c.read.new.self) =
    record { bytes = ap (λ it. it.bytes) c.in-Ok.ensures.noted; ends = no_end; failures = ap (λ it. it.failures) c.in-Ok.ensures.noted } in
    λ ps known. rw c.ended-in-Ok-Ended.ensures (ran_ended _ _ _ _ _ _ _ _ _ _ _ _ before _ _ short c.in-Ok.ensures.gave read more c.in-Ok-Ended.field-0-is (c.in-Ok-Ended.ensures.flow before.no_status) _ (c.in-Ok-Ended.ensures.fed before.no_status) ps known)

pub returns-in-Err-feed : goal.returns-in-Err-feed
returns-in-Err-feed g c =
    let before = c.loop-turn.invariant.following in
    let short : length (take c.in-Ok.n c.read.new.buf) ≤ 4096 = omega (arith, length-take c.in-Ok.n c.read.new.buf, c.in-Ok.ensures.within, c.loop-turn.invariant.block) in
    let more = wrote-begun g.K.Sink.writes _ _ _ c.loop-turn.invariant.ready.0 c.in-Err-feed.stop (λ e. (c.in-Err-feed.ensures.halted (ap Err e) before.no_stop).0) (c.in-Err-feed.ensures.puts before.no_stop before.no_status) in
    let no_end : (g.S.Source.reads c.read.new.self).ends ≡ (g.S.Source.reads c.loop-turn.source).ends = search rules in
    let read : GaveMore (take c.in-Ok.n c.read.new.buf) (g.S.Source.reads c.loop-turn.source) (g.S.Source.reads c.read.new.self) =
    record { bytes = ap (λ it. it.bytes) c.in-Ok.ensures.noted; ends = no_end; failures = ap (λ it. it.failures) c.in-Ok.ensures.noted } in
    λ ps known. rw c.stopped-in-Err-feed.ensures (ran_stopped _ _ _ _ _ _ _ _ _ _ _ _ before c.in-Err-feed.stop short c.in-Ok.ensures.gave read more ps)

pub returns : goal.returns
returns g c =
    let here = c.loop-turn.invariant.following in
    λ ps known. rw c.failed-2.ensures (ran_endless _ _ _ _ _ _ _ _ here (omega (arith, c.loop-turn.invariant.turns)) ps known)
