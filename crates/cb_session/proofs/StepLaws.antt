-- A session that takes a byte more, and ends.
use Rattle.std.proofs.Common.{◌≡◌, ◌+◌, ◌<◌, ℕ, true, false, List, [], ◌∷◌, ◌++◌, Option, Some, None, Result, Ok, Err, IfOk, OnOk, is_some, refl, sym, ap, ap₂, ◌∙◌, subst, length, take, drop, get_or, append_assoc}
use Rattle.std.proofs.lemmas.List.{append-nil, take_more, take-append-drop}
use Rattle.std.proofs.Math.Seq.{take-add}
use Rattle.cb_forms.specs.Cuts.{item_readings, cut_items, is_too_long}
use Rattle.cb_forms.specs.Cutter.{Progress, readings_in}
use Rattle.cb_forms.specs.Items.{items, whole, over}
use Rattle.cb_forms.specs.Trees.{reading_of}
use Rattle.cb_forms.specs.declared.cut.Cut.{Cut}
use Rattle.cb_forms.specs.declared.form.Item.{Item}
use Rattle.cb_io.specs.Histories.{PastWrites}
use Rattle.cb_io.specs.Output.{OutState, Puts, stop_extent}
use Rattle.cb_io.specs.declared.stop.Stop.{Stop}
use Rattle.cb_io.proofs.PutLaws.{puts_as, puts_none}
use Rattle.cb_session.specs.Setups.{Setup}
use Rattle.cb_session.specs.States.{State}
use Rattle.cb_session.specs.Internal.Scripts.{from, cut_run, IsUnderWay, Ends}
use Rattle.cb_session.specs.Sessions.{SessionState, session_after}
use Rattle.cb_session.specs.Transcripts.{after_all, executed, so_far, added}
use Rattle.cb_session.specs.Internal.Executing.{Executes}
use Rattle.cb_session.specs.declared.status.Status.{Status}
use Rattle.cb_session.proofs.ScriptLaws.{so_far-push, way-push, complete-end, added-joined, added-then, end-joined, ended-status, ended-adds, next-byte}

-- A byte more of a script that goes on: what it adds was put, and it goes on after it unless it has ended with it.
pub record Steps {K : Type 0} (writes : K → PastWrites) (old new : OutState K) (setup : Setup) (fed : List ℕ) (byte : ℕ) (cutter : Progress) (state : State)
    (result : Result (Option Status) Stop) : Type 0 where
  pub puts : Puts writes old new (stop_extent result) (added setup fed (byte ∷ []))
  pub status : IfOk result (λ status. status ≡ (so_far setup (fed ++ byte ∷ [])).status)
  pub goes : IfOk result (λ status. status ≡ None → IsUnderWay setup (fed ++ byte ∷ []) cutter state)

if_ok : {T E : Type 0} (P Q : T → Type 0) (r : Result T E) → ((x : T) → P x → Q x) → IfOk r P → IfOk r Q
if_ok P Q (Ok x) f h = f x h
if_ok P Q (Err e) f h = tt

ok_and : {T E : Type 0} (P : Type 0) (Q R : T → Type 0) (r : Result T E) → ((x : T) → P → Q x → R x) → OnOk r P → IfOk r Q → IfOk r R
ok_and P Q R (Ok x) f h k = f x h k
ok_and P Q R (Err e) f h k = tt

pub on_ok : {T E : Type 0} (P Q : Type 0) (r : Result T E) → (P → Q) → OnOk r P → OnOk r Q
on_ok P Q (Ok x) f h = f h
on_ok P Q (Err e) f h = tt

module _ {K : Type 0} (writes : K → PastWrites) (o o1 : OutState K) (l : Setup) (fed : List ℕ) (b : ℕ) (cutter cutter' : Progress) (state state' : State) (way : IsUnderWay l fed cutter state) where
  -- a byte and what the cutter gives with it
  pub steps-cut : (given : Cut) (result : Result (Option Status) Stop) → cutter'.limit ≡ cutter.limit → cutter'.stepped ≡ cutter.stepped ++ b ∷ [] → cutter'.given ≡ cutter.given ++ cut_items given
      → (over cutter'.limit cutter'.stepped ≡ false → readings_in cutter'.given ≡ whole cutter'.stepped) → is_too_long given ≡ over cutter'.limit cutter'.stepped → cutter'.failed ≡ false
      → Executes writes o o1 state' result (cut_run state given) → Steps writes o o1 l fed b cutter' state' result
  steps-cut given result limit stepped given_is whole_is long_is fine h =
      let push = so_far-push l fed cutter state way cutter' b given limit stepped given_is whole_is long_is in
      record {
        puts = puts_as writes o o1 _ _ _ _ refl (added-joined l fed (b ∷ []) (cut_run state given) push) h.puts;
        status = if_ok _ _ result (λ status e. e ∙ sym (ap (λ it. it.status) push)) h.status_is;
        goes = ok_and _ _ _ result (λ status state_is e none. way-push l fed cutter cutter' state state' b given way limit stepped given_is whole_is long_is fine state_is (ap (λ it. it.status) push ∙ (sym e ∙ none))) h.state_is h.status_is;
      }

module _ {K : Type 0} (writes : K → PastWrites) (o o1 : OutState K) (l : Setup) (fed : List ℕ) (cutter : Progress) (state state' : State) (way : IsUnderWay l fed cutter state) where
  -- the end, and the item that is open there
  ends-run : (item : Option Item) (result : Result (Option Status) Stop) → (over cutter.limit cutter.stepped ≡ false → readings_in cutter.given ++ item_readings item ≡ items cutter.stepped)
      → Executes writes o o1 state' result (after_all (from state) (item_readings item)) → Ends writes o o1 l fed state' result
  ends-run item result items_is h =
      let all = complete-end l fed cutter state way item items_is in
      record {
        puts = puts_as writes o o1 _ _ _ _ refl (end-joined l fed (after_all (from state) (item_readings item)) all) h.puts;
        state_is = on_ok _ _ result (λ e. e ∙ sym (ap (λ it. it.state) all)) h.state_is;
        status = if_ok _ _ result (λ status e. e ∙ sym (ap (λ it. it.status) all)) h.status_is;
      }

  pub ends-item : (item : Item) (result : Result (Option Status) Stop) → (over cutter.limit cutter.stepped ≡ false → readings_in cutter.given ++ item_readings (Some item) ≡ items cutter.stepped)
      → Executes writes o o1 state' result (executed state (reading_of item)) → Ends writes o o1 l fed state' result
  ends-item item result items_is h = ends-run (Some item) result items_is (record { puts = h.puts; state_is = h.state_is; status_is = h.status_is })

  pub ends-none : o1 ≡ o → state' ≡ state → o.fault ≡ false → (over cutter.limit cutter.stepped ≡ false → readings_in cutter.given ++ item_readings None ≡ items cutter.stepped) → Ends writes o o1 l fed state' (Ok None)
  ends-none same still fine items_is =
      let P : OutState K → Type 0 = λ it. Executes writes o it state' (Ok None) (after_all (from state) []) in
      ends-run None (Ok None) items_is (subst P (sym same) (record { puts = puts_none writes o fine; state_is = still; status_is = refl }))

-- bytes after the end
pub after-end-status : (l : Setup) (fed q : List ℕ) (o : Option Status) → o ≡ (so_far l fed).status → is_some o ≡ true → o ≡ (so_far l (fed ++ q)).status
after-end-status l fed q None e some = absurd (cc)
after-end-status l fed q (Some status) e some = sym (ended-status l fed q status (sym e))

pub after-end-adds : (l : Setup) (fed q : List ℕ) (o : Option Status) → o ≡ (so_far l fed).status → is_some o ≡ true → added l fed q ≡ []
after-end-adds l fed q None e some = absurd (cc)
after-end-adds l fed q (Some status) e some = ended-adds l fed q status (sym e)

pub none-of : {T : Type 0} (o : Option T) → is_some o ≡ false → o ≡ None
none-of None h = refl
none-of (Some x) h = absurd (cc)

-- a session that has taken bytes after the end
pub taken-after-end : (s t : SessionState) (q : List ℕ) → s.stop ≡ None → is_some s.status ≡ true → s.status ≡ (so_far s.setup s.fed).status → t ≡ record s { fed = s.fed ++ q }
    → t ≡ session_after s.setup (s.fed ++ q) (so_far s.setup (s.fed ++ q)).status
taken-after-end s t q on some goes is =
    is ∙ ap₂ (λ (o : Option Status) (u : Option Stop). record { setup = s.setup; fed = s.fed ++ q; status = o; stop = u }) (after-end-status s.setup s.fed q s.status goes some) on

-- a session before the next byte of a piece
pub session-here : (s : SessionState) → s.stop ≡ None → s.status ≡ (so_far s.setup s.fed).status → s ≡ session_after s.setup (s.fed ++ []) (so_far s.setup (s.fed ++ [])).status
session-here s on goes =
    ap₂ (λ (o : Option Status) (u : Option Stop). record { setup = s.setup; fed = s.fed; status = o; stop = u }) goes on
    ∙ ap (λ p. session_after s.setup p (so_far s.setup p).status) (sym (append-nil s.fed))

module _ (s0 s : SessionState) (bytes : List ℕ) (i : ℕ) (here : s ≡ session_after s0.setup (s0.fed ++ take i bytes) (so_far s0.setup (s0.fed ++ take i bytes)).status) where
  pub taken-on : s.stop ≡ None
  taken-on = ap (λ it. it.stop) here

  pub taken-goes : s.status ≡ (so_far s.setup s.fed).status
  taken-goes = subst (λ (it : SessionState). it.status ≡ (so_far it.setup it.fed).status) (sym here) refl

  pub taken-next : (t : SessionState) → i < length bytes → t ≡ session_after s.setup (s.fed ++ get_or bytes i 0 ∷ []) (so_far s.setup (s.fed ++ get_or bytes i 0 ∷ [])).status
      → t ≡ session_after s0.setup (s0.fed ++ take (i + 1) bytes) (so_far s0.setup (s0.fed ++ take (i + 1) bytes)).status
  taken-next t below is =
      is ∙ (ap (λ (it : SessionState). session_after it.setup (it.fed ++ get_or bytes i 0 ∷ []) (so_far it.setup (it.fed ++ get_or bytes i 0 ∷ [])).status) here
      ∙ ap (λ p. session_after s0.setup p (so_far s0.setup p).status) (sym (next-byte s0.fed bytes i below)))

  pub adds-next : i < length bytes → added s0.setup s0.fed (take (i + 1) bytes) ≡ added s0.setup s0.fed (take i bytes) ++ added s.setup s.fed (get_or bytes i 0 ∷ [])
  adds-next below =
      ap (added s0.setup s0.fed) (take_more bytes i 0 below) ∙ (added-then s0.setup s0.fed (take i bytes) (get_or bytes i 0 ∷ [])
      ∙ ap (λ it. added s0.setup s0.fed (take i bytes) ++ it) (sym (ap (λ (it : SessionState). added it.setup it.fed (get_or bytes i 0 ∷ [])) here)))

  pub adds-all : i < length bytes → added s0.setup s0.fed bytes ≡ added s0.setup s0.fed (take i bytes) ++ (added s.setup s.fed (get_or bytes i 0 ∷ []) ++ added s0.setup (s0.fed ++ take (i + 1) bytes) (drop (i + 1) bytes))
  adds-all below =
      let rest = added s0.setup (s0.fed ++ take (i + 1) bytes) (drop (i + 1) bytes) in
      ap (added s0.setup s0.fed) (sym (take-append-drop (i + 1) bytes)) ∙ (added-then s0.setup s0.fed (take (i + 1) bytes) (drop (i + 1) bytes)
      ∙ (ap (λ it. it ++ rest) (adds-next below) ∙ append_assoc (added s0.setup s0.fed (take i bytes)) (added s.setup s.fed (get_or bytes i 0 ∷ [])) rest))

  -- a run of bytes that adds nothing
  run-split : (n : ℕ) → take (i + n) bytes ≡ take i bytes ++ take n (drop i bytes)
  run-split n = take-add i n bytes

  pub run-next : (t : SessionState) (n : ℕ) → t ≡ session_after s.setup (s.fed ++ take n (drop i bytes)) (so_far s.setup (s.fed ++ take n (drop i bytes))).status
      → t ≡ session_after s0.setup (s0.fed ++ take (i + n) bytes) (so_far s0.setup (s0.fed ++ take (i + n) bytes)).status
  run-next t n is =
      is ∙ (ap (λ (it : SessionState). session_after it.setup (it.fed ++ take n (drop i bytes)) (so_far it.setup (it.fed ++ take n (drop i bytes))).status) here
      ∙ ap (λ p. session_after s0.setup p (so_far s0.setup p).status) (append_assoc s0.fed (take i bytes) (take n (drop i bytes)) ∙ ap (λ it. s0.fed ++ it) (sym (run-split n))))

  pub run-adds : (n : ℕ) → added s.setup s.fed (take n (drop i bytes)) ≡ [] → added s0.setup s0.fed (take (i + n) bytes) ≡ added s0.setup s0.fed (take i bytes)
  run-adds n none =
      ap (added s0.setup s0.fed) (run-split n) ∙ (added-then s0.setup s0.fed (take i bytes) (take n (drop i bytes))
      ∙ (ap (λ it. added s0.setup s0.fed (take i bytes) ++ it) (sym (ap (λ (it : SessionState). added it.setup it.fed (take n (drop i bytes))) here) ∙ none) ∙ append-nil (added s0.setup s0.fed (take i bytes))))

  pub adds-rest : added s0.setup s0.fed bytes ≡ added s0.setup s0.fed (take i bytes) ++ added s0.setup (s0.fed ++ take i bytes) (drop i bytes)
  adds-rest = ap (added s0.setup s0.fed) (sym (take-append-drop i bytes)) ∙ added-then s0.setup s0.fed (take i bytes) (drop i bytes)
