-- How a run ends.
use Rattle.std.proofs.Common.{◌≡◌, ◌≢◌, ◌<◌, ◌≤◌, ◌+◌, ◌-◌, ◌^◌, arith, ℕ, List, [], ◌++◌, length, Option, Some, None, refl, sym, ap, ◌∙◌, subst, append_assoc}
use Rattle.std.proofs.lemmas.List.{append-nil}
use Rattle.std.specs.Prelude.{IfSome}
use Rattle.cb_forms.specs.Laws.{BeginsWith}
use Rattle.cb_io.specs.Histories.{PastReads, PastWrites}
use Rattle.cb_io.specs.Moved.{Gave, IsAtEnd}
use Rattle.cb_session.specs.Places.{FaultPlaces, all_places, places_so_far}
use Rattle.cb_session.specs.Sessions.{ArePlacesOf, SessionState, flow_of, session_after}
use Rattle.cb_session.specs.Setups.{Setup}
use Rattle.cb_session.specs.Transcripts.{so_far, complete, transcript, status_of, status_at_end, added, added_at_end}
use Rattle.cb_session.proofs.PlaceLaws.{all-settled}
use Rattle.cb_session.proofs.ScriptLaws.{added-grown, end-grown}
use Rattle.cb_session.proofs.SoFarLaws.{so_far-early, so_far-ended, so_far-grows}
use Rattle.cb_session.specs.declared.status.Ending.{Ending}
use Rattle.cb_session.specs.declared.status.Ending.TheVariants as ending
use Rattle.cb_session.specs.declared.status.Flow.{Flow}
use Rattle.cb_session.specs.declared.status.Flow.TheVariants.{Ended}
use Rattle.cb_session.specs.declared.status.Status.{Status}
use Rattle.cb_io.specs.declared.stop.Stop.{Stop}
use Rattle.cb_io.specs.declared.stop.Stop.TheVariants as stop
use Rattle.cb_script.specs.Outcomes.{cause_of, ended_as, stopped_as, failed_as, HasEnded, HasStopped, HasFailed}
use Rattle.cb_script.specs.Ran.{IsTranscript, RanFrom}
use Rattle.cb_script.specs.declared.outcome.Cause.TheVariants.{Done, ReadFault, WriteFault}
use Rattle.cb_script.specs.declared.outcome.Outcome.{Outcome}
use Rattle.cb_script.proofs.Moves.{gave_then, read_all, WroteAll, WroteBegun}
use Rattle.cb_script.proofs.Following.{Following, GaveMore, wrote_more, read_more, flow_some}

-- what has ended has not failed
ended_not_failed : (e : Ending) → HasFailed (cause_of e) → ⊥
ended_not_failed ending.Done h = h
ended_not_failed ending.Exit h = h
ended_not_failed ending.Limit h = h

ended_not_stopped : (e : Ending) → HasStopped (cause_of e) → ⊥
ended_not_stopped ending.Done h = h
ended_not_stopped ending.Exit h = h
ended_not_stopped ending.Limit h = h

ended_not_read_fault : (e : Ending) → cause_of e ≡ ReadFault → ⊥
ended_not_read_fault ending.Done h = cc
ended_not_read_fault ending.Exit h = cc
ended_not_read_fault ending.Limit h = cc

ended_not_write_fault : (e : Ending) → cause_of e ≡ WriteFault → ⊥
ended_not_write_fault ending.Done h = cc
ended_not_write_fault ending.Exit h = cc
ended_not_write_fault ending.Limit h = cc

stopped_write_fault : (s : Stop) → (stopped_as s).cause ≡ WriteFault → s ≡ stop.WriteFault
stopped_write_fault stop.NoMemory h = cc
stopped_write_fault stop.WriteFault h = refl

stopped_no_memory : (s : Stop) → ((stopped_as s).cause ≡ WriteFault → ⊥) → s ≡ stop.NoMemory
stopped_no_memory stop.NoMemory h = refl
stopped_no_memory stop.WriteFault h = absurd (h refl)

stopped_not_ended : (s : Stop) → HasEnded (stopped_as s).cause → ⊥
stopped_not_ended stop.NoMemory h = h
stopped_not_ended stop.WriteFault h = h

stopped_not_read_fault : (s : Stop) → (stopped_as s).cause ≡ ReadFault → ⊥
stopped_not_read_fault stop.NoMemory h = cc
stopped_not_read_fault stop.WriteFault h = cc

stopped_status : (s : Stop) → (stopped_as s).status ≡ 3
stopped_status stop.NoMemory = refl
stopped_status stop.WriteFault = refl

not_done : (e : Ending) → e ≢ ending.Done → cause_of e ≡ Done → ⊥
not_done ending.Done other h = other refl
not_done ending.Exit other h = cc
not_done ending.Limit other h = cc

stopped_not_done : (s : Stop) → (stopped_as s).cause ≡ Done → ⊥
stopped_not_done stop.NoMemory h = cc
stopped_not_done stop.WriteFault h = cc

-- the places of a session whose script has ended
all_known : (t : SessionState) (l : Setup) (p : List ℕ) (o : Option Status) (status : Status) (ps : FaultPlaces) → t ≡ session_after l p o → o ≡ Some status → ArePlacesOf t ps → ps ≡ all_places l p
all_known t l p o status ps is ends known =
    let here : t ≡ session_after l p (Some status) = is ∙ ap (session_after l p) ends in
    let P : SessionState → Type 0 = λ it. ArePlacesOf it ps in
    let at : ArePlacesOf (session_after l p (Some status)) ps = subst P here known in at.all refl refl

-- a script that has ended so far
ended_transcript : (l : Setup) (p r : List ℕ) (status : Status) (ps : FaultPlaces) → (so_far l p).status ≡ Some status → ps ≡ all_places l p → IsTranscript l (ended_as status) ps (p ++ r) (so_far l p).written
ended_transcript l p r status ps ended known =
    let same : complete l (p ++ r) ≡ so_far l p = (so_far-ended l p r status ended).1 in
    let over : (complete l (p ++ r)).status ≡ Some status = ap (λ it. it.status) same ∙ ended in (
      sym (ap (λ it. it.written) same),
      ap ended_as (sym (ap (λ o. status_at_end o (complete l (p ++ r)).state.is_faulted) over)),
      known ∙ sym (all-settled l p r status ended),
    )

ended_alone : (l : Setup) (p : List ℕ) (status : Status) (ps : FaultPlaces) → (so_far l p).status ≡ Some status → ps ≡ all_places l p → IsTranscript l (ended_as status) ps p (so_far l p).written
ended_alone l p status ps ended known = subst (λ it. IsTranscript l (ended_as status) ps it (so_far l p).written) (append-nil p) (ended_transcript l p [] status ps ended known)

-- where the source tells its bytes
of_all : (l : Setup) (result : Outcome) (ps : FaultPlaces) (left left' : Option (List ℕ)) (p wrote : List ℕ) → Gave left left' p → ((r : List ℕ) → IsTranscript l result ps (p ++ r) wrote) → IfSome left (λ s. IsTranscript l result ps s wrote)
of_all l result ps None left' p wrote gave h = tt
of_all l result ps (Some s) left' p wrote gave h = subst (λ it. IsTranscript l result ps it wrote) (sym gave.1) (h gave.0)

of_all_read : (l : Setup) (result : Outcome) (ps : FaultPlaces) (left left' : Option (List ℕ)) (p wrote : List ℕ) → Gave left left' p → IsAtEnd left' → IsTranscript l result ps p wrote → IfSome left (λ s. IsTranscript l result ps s wrote)
of_all_read l result ps None left' p wrote gave end h = tt
of_all_read l result ps (Some s) left' p wrote gave end h = subst (λ it. IsTranscript l result ps it wrote) (sym (read_all s p left' gave end)) h

begins_of_all : (l : Setup) (left left' : Option (List ℕ)) (p wrote : List ℕ) → Gave left left' p → ((r : List ℕ) → BeginsWith wrote (transcript l (p ++ r))) → IfSome left (λ s. BeginsWith wrote (transcript l s))
begins_of_all l None left' p wrote gave h = tt
begins_of_all l (Some s) left' p wrote gave h = subst (λ it. BeginsWith wrote (transcript l it)) (sym gave.1) (h gave.0)

begins_of_all_read : (l : Setup) (left left' : Option (List ℕ)) (p wrote : List ℕ) → Gave left left' p → IsAtEnd left' → BeginsWith wrote (transcript l p) → IfSome left (λ s. BeginsWith wrote (transcript l s))
begins_of_all_read l None left' p wrote gave end h = tt
begins_of_all_read l (Some s) left' p wrote gave end h = subst (λ it. BeginsWith wrote (transcript l it)) (sym (read_all s p left' gave end)) h

-- a beginning of what is written however the script goes on, where some bytes are unread
with_more : (l : Setup) (left' : Option (List ℕ)) (p wrote : List ℕ) → ((r : List ℕ) → BeginsWith wrote (transcript l (p ++ r)))
    → IfSome left' (λ unread. unread ≢ [] → (rest : List ℕ) → BeginsWith wrote (transcript l (p ++ rest)))
with_more l None p wrote h = tt
with_more l (Some unread) p wrote h = λ _. h

with_none : (l : Setup) (left' : Option (List ℕ)) (p wrote : List ℕ) → IsAtEnd left' → IfSome left' (λ unread. unread ≢ [] → (rest : List ℕ) → BeginsWith wrote (transcript l (p ++ rest)))
with_none l None p wrote end = tt
with_none l (Some unread) p wrote end = λ some. absurd (some end)

begins_then : (a b c : List ℕ) → BeginsWith a b → BeginsWith b c → BeginsWith a c
begins_then a b c (m, e) (n, f) = (m ++ n, f ∙ (ap (λ it. it ++ n) e ∙ append_assoc a m n))

module _ (l : Setup) (s : SessionState) (left a a' : Option (List ℕ)) (reads r r' : PastReads) (writes w w' : PastWrites) (piece : List ℕ) (before : Following l s left a reads r writes w) where
  -- the script has ended with this piece
  pub ran_ended : (status : Status) (flow : Flow) → length piece ≤ 4096 → Gave a a' piece → GaveMore piece r r' → WroteAll (added s.setup s.fed piece) w w' → flow ≡ Ended status → flow ≡ flow_of (so_far s.setup (s.fed ++ piece)).status
      → (t : SessionState) → t ≡ session_after s.setup (s.fed ++ piece) (so_far s.setup (s.fed ++ piece)).status → (ps : FaultPlaces) → ArePlacesOf t ps → RanFrom l (ended_as status) ps left a' reads r' writes w'
  ran_ended status flow short gave read more ends tells t is ps known =
      let p = s.fed ++ piece in
      let ended : (so_far l p).status ≡ Some status = flow_some _ status (sym ends ∙ (rw before.same_setup at tells)) in
      let all = gave_then left a a' s.fed piece before.gave gave in
      let places : ps ≡ all_places l p = all_known t s.setup p _ status ps is (flow_some _ status (sym ends ∙ tells)) known ∙ ap (λ it. all_places it p) before.same_setup in
      record {
        read = p;
        wrote = (so_far l p).written;
        read_is = read_more l s left a a' reads r r' writes w w' piece before read;
        wrote_is = wrote_more l s left a a' reads r r' writes w w' piece before more;
        prompt = record { before = s.fed; piece = piece; more = added l s.fed piece; read_is = refl; is_short = short; goes_on = before.goes_on; wrote_is = added-grown l s.fed piece };
        ended = λ _. ended_alone l p status ps ended places;
        ended_however = λ _ _ rest. ended_transcript l p rest status ps ended places;
        end_was_read = λ h. absurd (not_done status.ending (so_far-early l p status ended) h);
        after_read_fault = λ h. absurd (ended_not_read_fault status.ending h);
        places_at_read_fault = λ h. absurd (ended_not_read_fault status.ending h);
        after_stop = λ h. absurd (ended_not_stopped status.ending h);
        after_stop_however = λ h. absurd (ended_not_stopped status.ending h);
        no_read_failed = λ _. read.failures ∙ before.read_failures;
        write_failed = λ h. absurd (ended_not_write_fault status.ending h);
        no_write_failed = λ _. more.failures ∙ before.write_failures;
        status_of_failure = λ h. absurd (ended_not_failed status.ending h);
        gave = all;
        whole_transcript = λ _. of_all l (ended_as status) ps left a' p (so_far l p).written all (λ rest. ended_transcript l p rest status ps ended places);
        after_stop_of_all = λ h. absurd (ended_not_stopped status.ending h);
        after_stop_with_more = λ h. absurd (ended_not_stopped status.ending h);
        read_failed = λ h. absurd (ended_not_read_fault status.ending h);
      }

  -- a piece that could not be carried out whole
  pub ran_stopped : (e : Stop) → length piece ≤ 4096 → Gave a a' piece → GaveMore piece r r' → WroteBegun (added s.setup s.fed piece) w w' e → (ps : FaultPlaces) → RanFrom l (stopped_as e) ps left a' reads r' writes w'
  ran_stopped e short gave read more ps =
      let p = s.fed ++ piece in
      let some : WroteBegun (added l s.fed piece) w w' e = rw before.same_setup at more in
      let here = (so_far l s.fed).written in
      let all = gave_then left a a' s.fed piece before.gave gave in
      let begins : BeginsWith (here ++ some.written) (so_far l p).written =
      (some.unwritten, added-grown l s.fed piece ∙ (ap (λ it. here ++ it) some.is ∙ sym (append_assoc here some.written some.unwritten))) in
      let however : (rest : List ℕ) → BeginsWith (here ++ some.written) (transcript l (p ++ rest)) = λ rest.
      let grows = so_far-grows l p rest in begins_then _ _ _ begins (grows.more, grows.is) in
      record {
        read = p;
        wrote = here ++ some.written;
        read_is = read_more l s left a a' reads r r' writes w w' piece before read;
        wrote_is = some.bytes_are ∙ (ap (λ it. it ++ some.written) before.wrote ∙ append_assoc writes.bytes here some.written);
        prompt = record { before = s.fed; piece = piece; more = some.written; read_is = refl; is_short = short; goes_on = before.goes_on; wrote_is = refl };
        ended = λ h. absurd (stopped_not_ended e h);
        ended_however = λ h. absurd (stopped_not_ended e h);
        end_was_read = λ h. absurd (stopped_not_done e h);
        after_read_fault = λ h. absurd (stopped_not_read_fault e h);
        places_at_read_fault = λ h. absurd (stopped_not_read_fault e h);
        after_stop = λ _. subst (λ it. BeginsWith (here ++ some.written) (transcript l it)) (append-nil p) (however []);
        after_stop_however = λ _ _ rest. however rest;
        no_read_failed = λ _. read.failures ∙ before.read_failures;
        write_failed = λ h. let more : w.failures < w'.failures = some.write_fault (stopped_write_fault e h) in rw (← before.write_failures) more;
        no_write_failed = λ h. some.no_memory (stopped_no_memory e h) ∙ before.write_failures;
        status_of_failure = λ _. stopped_status e;
        gave = all;
        whole_transcript = λ h. absurd (stopped_not_ended e h);
        after_stop_of_all = λ _. begins_of_all l left a' p (here ++ some.written) all however;
        after_stop_with_more = λ _. with_more l a' p (here ++ some.written) however;
        read_failed = λ h. absurd (stopped_not_read_fault e h);
      }

module _ (l : Setup) (s : SessionState) (left a a' : Option (List ℕ)) (reads r r' : PastReads) (writes w w' : PastWrites) (before : Following l s left a reads r writes w) (gave : Gave a a' []) (end : IsAtEnd a')
    (bytes : r'.bytes ≡ r.bytes ++ []) (ends : r'.ends ≡ r.ends + 1) (failures : r'.failures ≡ r.failures) where
  gave_all : Gave left a' s.fed
  gave_all = subst (λ it. Gave left a' it) (append-nil s.fed) (gave_then left a a' s.fed [] before.gave gave)

  read_all_bytes : r'.bytes ≡ reads.bytes ++ s.fed
  read_all_bytes = bytes ∙ (append-nil r.bytes ∙ before.read)

  another_end : r'.ends ≡ reads.ends → ⊥
  another_end h = let one : r'.ends ≡ r.ends + 1 = ends in let same : r.ends ≡ reads.ends = before.ends in omega arith

  -- the end of the script
  pub ran_finished : (status : Status) → WroteAll (added_at_end s.setup s.fed) w w' → status ≡ status_of s.setup s.fed → (t : SessionState) → t ≡ session_after s.setup s.fed (Some status) → (ps : FaultPlaces) → ArePlacesOf t ps → RanFrom l (ended_as status) ps left a' reads r' writes w'
  ran_finished status more is t t_is ps known =
      let adds : WroteAll (added_at_end l s.fed) w w' = rw before.same_setup at more in
      let is' : status ≡ status_of l s.fed = rw before.same_setup at is in
      let places : ps ≡ all_places l s.fed = all_known t s.setup s.fed (Some status) status ps t_is refl known ∙ ap (λ it. all_places it s.fed) before.same_setup in
      let all : IsTranscript l (ended_as status) ps s.fed (transcript l s.fed) = (refl, ap ended_as is', places) in
      record {
        read = s.fed;
        wrote = transcript l s.fed;
        read_is = read_all_bytes;
        wrote_is = adds.bytes_are ∙ (ap (λ it. it ++ added_at_end l s.fed) before.wrote ∙ (append_assoc writes.bytes (so_far l s.fed).written (added_at_end l s.fed) ∙ ap (λ it. writes.bytes ++ it) (sym (end-grown l s.fed))));
        prompt = record { before = s.fed; piece = []; more = added_at_end l s.fed; read_is = sym (append-nil s.fed); is_short = omega arith; goes_on = before.goes_on; wrote_is = end-grown l s.fed };
        ended = λ _. all;
        ended_however = λ _ h. absurd (another_end h);
        end_was_read = λ _. let one : r'.ends ≡ r.ends + 1 = ends in let same : r.ends ≡ reads.ends = before.ends in omega arith;
        after_read_fault = λ h. absurd (ended_not_read_fault status.ending h);
        places_at_read_fault = λ h. absurd (ended_not_read_fault status.ending h);
        after_stop = λ h. absurd (ended_not_stopped status.ending h);
        after_stop_however = λ h. absurd (ended_not_stopped status.ending h);
        no_read_failed = λ _. failures ∙ before.read_failures;
        write_failed = λ h. absurd (ended_not_write_fault status.ending h);
        no_write_failed = λ _. adds.failures ∙ before.write_failures;
        status_of_failure = λ h. absurd (ended_not_failed status.ending h);
        gave = gave_all;
        whole_transcript = λ _. of_all_read l (ended_as status) ps left a' s.fed (transcript l s.fed) gave_all end all;
        after_stop_of_all = λ h. absurd (ended_not_stopped status.ending h);
        after_stop_with_more = λ h. absurd (ended_not_stopped status.ending h);
        read_failed = λ h. absurd (ended_not_read_fault status.ending h);
      }

  -- the end of the script, not carried out whole
  pub ran_unfinished : (e : Stop) → WroteBegun (added_at_end s.setup s.fed) w w' e → (ps : FaultPlaces) → RanFrom l (stopped_as e) ps left a' reads r' writes w'
  ran_unfinished e more ps =
      let some : WroteBegun (added_at_end l s.fed) w w' e = rw before.same_setup at more in
      let here = (so_far l s.fed).written in
      let begins : BeginsWith (here ++ some.written) (transcript l s.fed) =
      (some.unwritten, end-grown l s.fed ∙ (ap (λ it. here ++ it) some.is ∙ sym (append_assoc here some.written some.unwritten))) in
      record {
        read = s.fed;
        wrote = here ++ some.written;
        read_is = read_all_bytes;
        wrote_is = some.bytes_are ∙ (ap (λ it. it ++ some.written) before.wrote ∙ append_assoc writes.bytes here some.written);
        prompt = record { before = s.fed; piece = []; more = some.written; read_is = sym (append-nil s.fed); is_short = omega arith; goes_on = before.goes_on; wrote_is = refl };
        ended = λ h. absurd (stopped_not_ended e h);
        ended_however = λ h. absurd (stopped_not_ended e h);
        end_was_read = λ h. absurd (stopped_not_done e h);
        after_read_fault = λ h. absurd (stopped_not_read_fault e h);
        places_at_read_fault = λ h. absurd (stopped_not_read_fault e h);
        after_stop = λ _. begins;
        after_stop_however = λ _ h. absurd (another_end h);
        no_read_failed = λ _. failures ∙ before.read_failures;
        write_failed = λ h. let more : w.failures < w'.failures = some.write_fault (stopped_write_fault e h) in rw (← before.write_failures) more;
        no_write_failed = λ h. some.no_memory (stopped_no_memory e h) ∙ before.write_failures;
        status_of_failure = λ _. stopped_status e;
        gave = gave_all;
        whole_transcript = λ h. absurd (stopped_not_ended e h);
        after_stop_of_all = λ _. begins_of_all_read l left a' s.fed (here ++ some.written) gave_all end begins;
        after_stop_with_more = λ _. with_none l a' s.fed (here ++ some.written) end;
        read_failed = λ h. absurd (stopped_not_read_fault e h);
      }

module _ (l : Setup) (s : SessionState) (left a : Option (List ℕ)) (reads r r' : PastReads) (writes w : PastWrites) (before : Following l s left a reads r writes w) where
  ran_read_fault : r'.bytes ≡ r.bytes → (length s.fed < 2 ^ 64 - 1 → reads.failures < r'.failures) → (ps : FaultPlaces) → ArePlacesOf s ps → RanFrom l (failed_as ReadFault) ps left a reads r' writes w
  ran_read_fault bytes failed ps known = record {
    read = s.fed;
    wrote = (so_far l s.fed).written;
    read_is = bytes ∙ before.read;
    wrote_is = before.wrote;
    prompt = record { before = s.fed; piece = []; more = []; read_is = sym (append-nil s.fed); is_short = omega arith; goes_on = before.goes_on; wrote_is = sym (append-nil (so_far l s.fed).written) };
    ended = λ h. absurd h;
    ended_however = λ h. absurd h;
    end_was_read = λ h. cc;
    after_read_fault = λ _. refl;
    places_at_read_fault = λ _. known.so_far before.no_stop before.no_status ∙ ap (λ it. places_so_far it s.fed) before.same_setup;
    after_stop = λ h. absurd h;
    after_stop_however = λ h. absurd h;
    read_failed = λ _. failed;
    no_read_failed = λ other. absurd (other refl);
    write_failed = λ h. cc;
    no_write_failed = λ _. before.write_failures;
    status_of_failure = λ _. refl;
    gave = before.gave;
    whole_transcript = λ h. absurd h;
    after_stop_of_all = λ h. absurd h;
    after_stop_with_more = λ h. absurd h;
  }

  -- a read that failed
  pub ran_unread : r'.bytes ≡ r.bytes → r'.failures ≡ r.failures + 1 → (ps : FaultPlaces) → ArePlacesOf s ps → RanFrom l (failed_as ReadFault) ps left a reads r' writes w
  ran_unread bytes more ps known =
      let same : r.failures ≡ reads.failures = before.read_failures in
      ran_read_fault bytes (λ _. omega arith) ps known

-- one read too many
pub ran_endless : (l : Setup) (s : SessionState) (left a : Option (List ℕ)) (reads r : PastReads) (writes w : PastWrites) → Following l s left a reads r writes w → 18446744073709551615 ≤ length s.fed
    → (ps : FaultPlaces) → ArePlacesOf s ps → RanFrom l (failed_as ReadFault) ps left a reads r writes w
ran_endless l s left a reads r writes w here many ps known = ran_read_fault l s left a reads r r writes w here refl (λ few. absurd (omega arith)) ps known
