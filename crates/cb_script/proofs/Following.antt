-- A run that goes on.
use Rattle.std.proofs.Common.{◌≡◌, ◌==◌, ◌≤◌, ◌<◌, ◌≢◌, ◌&&◌, true, nat_lt, ap₂, rules, if◌then◌else◌, take, ◌+◌, arith, ℕ, List, ◌++◌, length, Option, Some, None, refl, sym, ap, ◌∙◌, subst, append_assoc}
use Rattle.std.proofs.lemmas.List.{append-nil, length-append, length-take}
use Rattle.cb_io.specs.Histories.{PastReads, PastWrites, after_read}
use Rattle.cb_io.specs.Moved.{Gave}
use Rattle.cb_session.specs.Sessions.{SessionState, fresh_session, session_after, flow_of}
use Rattle.cb_session.specs.Setups.{Setup}
use Rattle.cb_session.specs.Transcripts.{so_far, added}
use Rattle.cb_session.proofs.ScriptLaws.{added-grown}
use Rattle.cb_session.proofs.SoFarLaws.{so_far-none}
use Rattle.cb_session.specs.declared.status.Flow.{Flow}
use Rattle.cb_session.specs.declared.status.Flow.TheVariants.{GoOn, Ended}
use Rattle.cb_session.specs.declared.status.Status.{Status}
use Rattle.cb_script.proofs.Moves.{gave_then, gave_none, WroteAll}

-- The session has been fed all that was read, its script goes on, and all that is written so far was written.
pub record Following (setup : Setup) (s : SessionState) (left left' : Option (List ℕ)) (reads reads' : PastReads) (writes writes' : PastWrites) : Type 0 where
  pub same_setup : s.setup ≡ setup
  pub no_status : s.status ≡ None
  pub no_stop : s.stop ≡ None
  pub goes_on : (so_far setup s.fed).status ≡ None
  pub gave : Gave left left' s.fed
  pub read : reads'.bytes ≡ reads.bytes ++ s.fed
  pub ends : reads'.ends ≡ reads.ends
  pub read_failures : reads'.failures ≡ reads.failures
  pub wrote : writes'.bytes ≡ writes.bytes ++ (so_far setup s.fed).written
  pub write_failures : writes'.failures ≡ writes.failures

-- a read gave these bytes, and no end
pub record GaveMore (piece : List ℕ) (reads reads' : PastReads) : Type 0 where
  pub bytes : reads'.bytes ≡ reads.bytes ++ piece
  pub ends : reads'.ends ≡ reads.ends
  pub failures : reads'.failures ≡ reads.failures

-- a flow tells the status
pub flow_none : (o : Option Status) → GoOn ≡ flow_of o → o ≡ None
flow_none None h = refl
flow_none (Some status) h = cc

pub flow_some : (o : Option Status) (status : Status) → Ended status ≡ flow_of o → o ≡ Some status
flow_some None status h = cc
flow_some (Some other) status h = cc

-- nothing was read
pub following_none : (l : Setup) (s : SessionState) (left : Option (List ℕ)) (reads : PastReads) (writes : PastWrites) → s ≡ fresh_session l → Following l s left left reads reads writes writes
following_none l s left reads writes fresh =
    let none = so_far-none l in
    subst (λ (it : SessionState). Following l it left left reads reads writes writes) (sym fresh) (record {
      same_setup = refl;
      no_status = refl;
      no_stop = refl;
      goes_on = ap (λ it. it.status) none;
      gave = gave_none left;
      read = sym (append-nil reads.bytes);
      ends = refl;
      read_failures = refl;
      wrote = sym (append-nil writes.bytes) ∙ ap (λ it. writes.bytes ++ it) (sym (ap (λ it. it.written) none));
      write_failures = refl;
    })

module _ (l : Setup) (s : SessionState) (left a a' : Option (List ℕ)) (reads r r' : PastReads) (writes w w' : PastWrites) (piece : List ℕ) (before : Following l s left a reads r writes w) where
  -- what was written, with what a piece adds
  pub wrote_more : WroteAll (added s.setup s.fed piece) w w' → w'.bytes ≡ writes.bytes ++ (so_far l (s.fed ++ piece)).written
  wrote_more more =
      let adds : WroteAll (added l s.fed piece) w w' = rw before.same_setup at more in
      adds.bytes_are ∙ (ap (λ it. it ++ added l s.fed piece) before.wrote ∙ (append_assoc writes.bytes (so_far l s.fed).written (added l s.fed piece) ∙ ap (λ it. writes.bytes ++ it) (sym (added-grown l s.fed piece))))

  pub read_more : GaveMore piece r r' → r'.bytes ≡ reads.bytes ++ (s.fed ++ piece)
  read_more more = more.bytes ∙ (ap (λ it. it ++ piece) before.read ∙ append_assoc reads.bytes s.fed piece)

  -- one piece more, and the script goes on
  pub following_on : (t : SessionState) (flow : Flow) → Gave a a' piece → GaveMore piece r r' → WroteAll (added s.setup s.fed piece) w w'
      → t ≡ session_after s.setup (s.fed ++ piece) (so_far s.setup (s.fed ++ piece)).status → flow ≡ GoOn → flow ≡ flow_of (so_far s.setup (s.fed ++ piece)).status
      → Following l t left a' reads r' writes w'
  following_on t flow gave read more is goes tells =
      let is' : t ≡ session_after l (s.fed ++ piece) (so_far l (s.fed ++ piece)).status = rw before.same_setup at is in
      let none : (so_far l (s.fed ++ piece)).status ≡ None = flow_none _ (sym goes ∙ (rw before.same_setup at tells)) in
      subst (λ (it : SessionState). Following l it left a' reads r' writes w') (sym is') (record {
        same_setup = refl;
        no_status = none;
        no_stop = refl;
        goes_on = none;
        gave = gave_then left a a' s.fed piece before.gave gave;
        read = read_more read;
        ends = read.ends ∙ before.ends;
        read_failures = read.failures ∙ before.read_failures;
        wrote = wrote_more more;
        write_failures = more.failures ∙ before.write_failures;
      })

-- each piece has a byte at least, so no more pieces come than bytes
pub turns_on : (turn n : ℕ) (l : Setup) (fed buf : List ℕ) (status : Option Status) (t : SessionState) → t ≡ session_after l (fed ++ take n buf) status
    → turn ≤ length fed → n ≢ 0 → n ≤ length buf → turn + 1 ≤ length t.fed
turns_on turn n l fed buf status t is before some within =
    let all : t.fed ≡ fed ++ take n buf = ap (λ t. t.fed) is in
    rw all (omega (arith, length-append fed (take n buf), length-take n buf))

-- a read that reported the end
pub ended_more : (r r' : PastReads) (room n : ℕ) (bytes : List ℕ) → r' ≡ after_read r room n bytes → n ≡ 0 → 0 < room → r'.ends ≡ r.ends + 1
ended_more r r' room n bytes is zero some =
    let yes : nat_lt 0 room ≡ true = search rules in
    let none : (n == 0) ≡ true = rw zero refl in
    ap (λ it. it.ends) is ∙ ap₂ (λ t u. if t && u then r.ends + 1 else r.ends) none yes
