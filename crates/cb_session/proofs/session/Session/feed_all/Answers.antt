use Rattle.std.proofs.Common.{◌≡◌, ◌≤◌, ◌<◌, ◌-◌, ◌++◌, ◌+◌, ◌∷◌, [], ℕ, List, Err, arith, length, take, drop, get_or, refl, ap, ◌∙◌, subst, rules}
use Rattle.std.proofs.lemmas.List.{length-drop, take_rest}
use Rattle.cb_actions.proofs.ActLaws.{stopped-more}
use Rattle.cb_io.proofs.PutLaws.{puts_as, puts_fine, puts_none, puts_nothing, puts_then}
use Rattle.cb_session.specs.Sessions.{SessionState, session_after}
use Rattle.cb_session.specs.Transcripts.{added, so_far}
use Rattle.cb_io.specs.Output.{stop_extent}
use Rattle.cb_session.proofs.ScriptLaws.{added-nothing}
use Rattle.cb_session.proofs.StepLaws.{session-here, taken-next, adds-next, adds-all, adds-rest, run-next, run-adds}
use Rattle.cb_session.proofs.session.Session.feed_all.Goals as goal

-- a session that has taken a run of what is left of these bytes
ran : (s0 s t : SessionState) (bytes : List ℕ) (i n : ℕ) → s ≡ session_after s0.setup (s0.fed ++ take i bytes) (so_far s0.setup (s0.fed ++ take i bytes)).status
    → t ≡ session_after s.setup (s.fed ++ take n (take (length bytes - i) (drop i bytes))) (so_far s.setup (s.fed ++ take n (take (length bytes - i) (drop i bytes)))).status
    → t ≡ session_after s0.setup (s0.fed ++ take (i + n) bytes) (so_far s0.setup (s0.fed ++ take (i + n) bytes)).status
ran s0 s t bytes i n here is = run-next s0 s bytes i here t n (subst (λ rest. t ≡ session_after s.setup (s.fed ++ take n rest) (so_far s.setup (s.fed ++ take n rest)).status) (take_rest bytes i) is)

ran-adds : (s0 s : SessionState) (bytes : List ℕ) (i n : ℕ) → s ≡ session_after s0.setup (s0.fed ++ take i bytes) (so_far s0.setup (s0.fed ++ take i bytes)).status
    → added s.setup s.fed (take n (take (length bytes - i) (drop i bytes))) ≡ [] → added s0.setup s0.fed (take (i + n) bytes) ≡ added s0.setup s0.fed (take i bytes)
ran-adds s0 s bytes i n here none = run-adds s0 s bytes i here n (subst (λ rest. added s.setup s.fed (take n rest) ≡ []) (take_rest bytes i) none)

ran-within : (bytes : List ℕ) (i n : ℕ) → i ≤ length bytes → n ≤ length (take (length bytes - i) (drop i bytes)) → i + n ≤ length bytes
ran-within bytes i n below within =
    let low : n ≤ length (drop i bytes) = subst (λ rest. n ≤ length rest) (take_rest bytes i) within in
    omega (arith, length-drop i bytes)

pub loop-done-init : goal.loop-done-init
loop-done-init g c = record {
  within = omega arith;
  fed = session-here c.args.self.now c.requires.on c.requires.goes;
  puts = puts_as g.K.Sink.writes _ _ _ _ _ _ refl (added-nothing c.args.self.now.setup c.args.self.now.fed) (puts_none g.K.Sink.writes _ c.requires.fine);
}

pub returns-in_err-done-clause-puts : goal.returns-in_err-done-clause-puts
returns-in_err-done-clause-puts g c =
    let r : c.from_residual.result ≡ Err c.in_err-done.field-0.0 = search rules in
    let o1 = c.loop-done.out in
    puts_as g.K.Sink.writes _ _ _ _ _ _ (ap stop_extent (r ∙ ap Err c.in_err-done.ensures.err)) (adds-rest c.args.self.now c.loop-done.self c.args.bytes.now c.loop-done.done c.loop-done.invariant.fed)
    (puts_then g.K.Sink.writes _ _ _ _ _ _ c.loop-done.invariant.puts (puts_nothing g.K.Sink.writes o1 _ (puts_fine g.K.Sink.writes _ _ _ c.loop-done.invariant.puts)))

pub feed_byte-requires-clause-fine : goal.feed_byte-requires-clause-fine
feed_byte-requires-clause-fine g c = puts_fine g.K.Sink.writes _ _ _ c.loop-done.invariant.puts

pub returns-in_err-feed_byte-clause-puts : goal.returns-in_err-feed_byte-clause-puts
returns-in_err-feed_byte-clause-puts g c =
    let s0 = c.args.self.now in
    let bytes = c.args.bytes.now in
    let i = c.loop-done.done in
    let n = c.in_ok-done.field-0 in
    let s = c.feed_run.new.self in
    let here = ran s0 c.loop-done.self s bytes i n c.loop-done.invariant.fed c.in_ok-done.ensures.fed in
    let first = puts_as g.K.Sink.writes _ _ _ _ _ _ refl (ran-adds s0 c.loop-done.self bytes i n c.loop-done.invariant.fed c.in_ok-done.ensures.adds) c.loop-done.invariant.puts in
    let byte = added s.setup s.fed (get_or bytes (i + n) 0 ∷ []) in
    let more = added s0.setup (s0.fed ++ take (i + n + 1) bytes) (drop (i + n + 1) bytes) in
    let r : c.from_residual-in_err-feed_byte.result ≡ Err c.in_err-feed_byte.field-0.0 = search rules in
    puts_as g.K.Sink.writes _ _ _ _ _ _ (ap stop_extent r) (adds-all s0 s bytes (i + n) here c.if-done-bytes.true)
    (puts_then g.K.Sink.writes _ _ _ _ (added s0.setup s0.fed (take (i + n) bytes)) (byte ++ more) first (stopped-more g.K.Sink.writes _ _ c.in_err-feed_byte.field-0.0 byte more c.in_err-feed_byte.ensures.puts))

pub loop-done-preserved-then-done-bytes : goal.loop-done-preserved-then-done-bytes
loop-done-preserved-then-done-bytes g c =
    let s0 = c.args.self.now in
    let bytes = c.args.bytes.now in
    let i = c.loop-done.done in
    let n = c.in_ok-done.field-0 in
    let s = c.feed_run.new.self in
    let below : i + n < length bytes = c.if-done-bytes.true in
    let here = ran s0 c.loop-done.self s bytes i n c.loop-done.invariant.fed c.in_ok-done.ensures.fed in
    let first = puts_as g.K.Sink.writes _ _ _ _ _ _ refl (ran-adds s0 c.loop-done.self bytes i n c.loop-done.invariant.fed c.in_ok-done.ensures.adds) c.loop-done.invariant.puts in
    record {
      within = omega arith;
      fed = taken-next s0 s bytes (i + n) here c.feed_byte.new.self below c.in_ok-feed_byte.ensures.fed;
      puts = puts_as g.K.Sink.writes _ _ _ _ _ _ refl (adds-next s0 s bytes (i + n) here below) (puts_then g.K.Sink.writes _ _ _ _ _ _ first c.in_ok-feed_byte.ensures.puts);
    }

pub loop-done-preserved : goal.loop-done-preserved
loop-done-preserved g c =
    let s0 = c.args.self.now in
    let bytes = c.args.bytes.now in
    let i = c.loop-done.done in
    let n = c.in_ok-done.field-0 in
    record {
      within = ran-within bytes i n c.loop-done.invariant.within c.in_ok-done.ensures.within;
      fed = ran s0 c.loop-done.self c.feed_run.new.self bytes i n c.loop-done.invariant.fed c.in_ok-done.ensures.fed;
      puts = puts_as g.K.Sink.writes _ _ _ _ _ _ refl (ran-adds s0 c.loop-done.self bytes i n c.loop-done.invariant.fed c.in_ok-done.ensures.adds) c.loop-done.invariant.puts;
    }
