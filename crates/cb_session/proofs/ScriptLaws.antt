-- A script that goes on by what a byte completes, and by what is open at its end.
use Rattle.std.proofs.Common.{◌≡◌, ◌≤◌, ◌<◌, ◌+◌, arith, ℕ, zero, suc, true, false, List, [], ◌∷◌, ◌++◌, Option, Some, None, length, take, drop, get_or, refl, sym, ap, ap₂, ◌∙◌, subst, inl, inr, if◌then◌else◌}
use Rattle.std.proofs.lemmas.Bool.{cases_Bool}
use Rattle.std.proofs.lemmas.List.{append-nil, append_assoc, map-append, take_more}
use Rattle.std.proofs.Math.Seq.{drop-append_seam}
use Rattle.cb_forms.specs.Cuts.{item_readings, cut_items, is_too_long}
use Rattle.cb_forms.specs.Internal.Cuts.{cut_readings}
use Rattle.cb_forms.specs.Cutter.{Progress, fresh_progress, readings_in}
use Rattle.cb_forms.specs.Items.{items, parts, whole, over, fitting}
use Rattle.cb_forms.specs.Trees.{Reading, reading_of}
use Rattle.cb_forms.proofs.FittingLaws.{fitting-whole}
use Rattle.cb_forms.specs.declared.cut.Cut.{Cut}
use Rattle.cb_forms.specs.declared.form.Item.{Item}
use Rattle.cb_session.specs.Setups.{Setup}
use Rattle.cb_session.specs.States.{State, first_state}
use Rattle.cb_session.specs.Lines.{too_long_line}
use Rattle.cb_session.specs.Internal.Scripts.{from, cut_run, IsUnderWay}
use Rattle.cb_session.specs.Transcripts.{Run, begun, runs_joined, executed, after_status, after, after_all, too_long_status, too_long, so_far, complete, transcript, added, added_at_end}
use Rattle.cb_session.specs.declared.status.Status.{Status}
use Rattle.cb_session.proofs.SoFarLaws.{Grows, after_all-append, complete-fits, so_far-fits, so_far-long, so_far-ended, so_far-grows, so_far-grows_far}

joined-status : (o : Option Status) (run next : Run) (x : Reading) → runs_joined run (after_status o next x) ≡ after_status o (runs_joined run next) x
joined-status None run next x = ap (λ w. record { state = (executed next.state x).state; written = w; status = (executed next.state x).status }) (sym (append_assoc run.written next.written (executed next.state x).written))
joined-status (Some status) run next x = refl

joined-all : (run next : Run) (xs : List Reading) → runs_joined run (after_all next xs) ≡ after_all (runs_joined run next) xs
joined-all run next [] = refl
joined-all run next (x ∷ xs) = joined-all run (after next x) xs ∙ ap (λ it. after_all it xs) (joined-status next.status run next x)

joined-long_status : (o : Option Status) (run next : Run) → runs_joined run (too_long_status o next) ≡ too_long_status o (runs_joined run next)
joined-long_status None run next = ap (λ w. record { state = next.state; written = w; status = (too_long_status None next).status }) (sym (append_assoc run.written next.written (too_long_line)))
joined-long_status (Some status) run next = refl

-- a run that has not ended is one that begins in its state, after it
joined-from : (run : Run) → run.status ≡ None → runs_joined run (from run.state) ≡ run
joined-from run h = ap (λ w. record { state = run.state; written = w; status = None }) (append-nil run.written) ∙ ap (λ o. record { state = run.state; written = run.written; status = o }) (sym h)

-- what is added, where the run is known
added-grows : (before more whole : List ℕ) → whole ≡ before ++ more → drop (length before) whole ≡ more
added-grows before more whole is = ap (drop (length before)) is ∙ drop-append_seam before more

pub added-joined : (l : Setup) (p q : List ℕ) (part : Run) → so_far l (p ++ q) ≡ runs_joined (so_far l p) part → added l p q ≡ part.written
unfolding added
added-joined l p q part is = added-grows (so_far l p).written part.written (so_far l (p ++ q)).written (ap (λ it. it.written) is)

pub added-grown : (l : Setup) (p q : List ℕ) → (so_far l (p ++ q)).written ≡ (so_far l p).written ++ added l p q
unfolding added
added-grown l p q =
    let grows = so_far-grows_far l p q in
    grows.is ∙ ap (λ it. (so_far l p).written ++ it) (sym (added-grows (so_far l p).written grows.more (so_far l (p ++ q)).written grows.is))

pub end-grown : (l : Setup) (p : List ℕ) → transcript l p ≡ (so_far l p).written ++ added_at_end l p
unfolding added_at_end
end-grown l p =
    let P : List ℕ → Type 0 = λ s. Grows (so_far l p).written (complete l s).written in
    let grows : Grows (so_far l p).written (complete l p).written = subst P (append-nil p) (so_far-grows l p []) in
    grows.is ∙ ap (λ it. (so_far l p).written ++ it) (sym (added-grows (so_far l p).written grows.more (complete l p).written grows.is))

pub end-joined : (l : Setup) (p : List ℕ) (part : Run) → complete l p ≡ runs_joined (so_far l p) part → added_at_end l p ≡ part.written
unfolding added_at_end
end-joined l p part is = added-grows (so_far l p).written part.written (transcript l p) (ap (λ it. it.written) is)

-- one text after another
pub added-then : (l : Setup) (p q r : List ℕ) → added l p (q ++ r) ≡ added l p q ++ added l (p ++ q) r
unfolding added
added-then l p q r =
    let first = added-grown l p q in
    let second = added-grown l (p ++ q) r in
    let all : (so_far l (p ++ (q ++ r))).written ≡ (so_far l p).written ++ (added l p q ++ added l (p ++ q) r) =
    ap (λ it. (so_far l it).written) (sym (append_assoc p q r)) ∙ (second ∙ (ap (λ it. it ++ added l (p ++ q) r) first ∙ append_assoc (so_far l p).written (added l p q) (added l (p ++ q) r))) in
    added-grows (so_far l p).written (added l p q ++ added l (p ++ q) r) (so_far l (p ++ (q ++ r))).written all

pub added-nothing : (l : Setup) (p : List ℕ) → added l p [] ≡ []
unfolding added
added-nothing l p = added-grows (so_far l p).written [] (so_far l (p ++ [])).written (ap (λ it. (so_far l it).written) (append-nil p) ∙ sym (append-nil (so_far l p).written))

-- after the end nothing is added, and the status stays
pub ended-status : (l : Setup) (p q : List ℕ) (status : Status) → (so_far l p).status ≡ Some status → (so_far l (p ++ q)).status ≡ Some status
ended-status l p q status h = ap (λ it. it.status) (so_far-ended l p q status h).0 ∙ h

pub ended-adds : (l : Setup) (p q : List ℕ) (status : Status) → (so_far l p).status ≡ Some status → added l p q ≡ []
unfolding added
ended-adds l p q status h = added-grows (so_far l p).written [] (so_far l (p ++ q)).written (ap (λ it. it.written) (so_far-ended l p q status h).0 ∙ sym (append-nil (so_far l p).written))

module _ (l : Setup) (fed : List ℕ) (cutter : Progress) (state : State) (way : IsUnderWay l fed cutter state) where
  -- a script that is under way has not ended
  pub way-status : (so_far l fed).status ≡ None
  way-status = ap (λ it. it.status) (so_far-fits l fed way.fits) ∙ way.goes

  way-start : runs_joined (after_all (begun l) (whole fed)) (from state) ≡ after_all (begun l) (whole fed)
  way-start = ap (λ it. runs_joined (after_all (begun l) (whole fed)) (from it)) way.state_is ∙ joined-from (after_all (begun l) (whole fed)) way.goes

  -- one more byte, by what it completes
  pub so_far-push : (cutter' : Progress) (b : ℕ) (given : Cut) → cutter'.limit ≡ cutter.limit → cutter'.stepped ≡ cutter.stepped ++ b ∷ [] → cutter'.given ≡ cutter.given ++ cut_items given
      → (over cutter'.limit cutter'.stepped ≡ false → readings_in cutter'.given ≡ whole cutter'.stepped) → is_too_long given ≡ over cutter'.limit cutter'.stepped
      → so_far l (fed ++ b ∷ []) ≡ runs_joined (so_far l fed) (cut_run state given)
  so_far-push cutter' b given limit stepped items whole_is long_is =
      let n = l.max_form in
      let p = fed in
      let here = after_all (begun l) (whole p) in
      let bytes : cutter'.stepped ≡ p ++ b ∷ [] = stepped ∙ ap (λ it. it ++ b ∷ []) way.stepped in
      let far : runs_joined (so_far l p) (cut_run state given) ≡ runs_joined here (cut_run state given) = ap (λ it. runs_joined it (cut_run state given)) (so_far-fits l p way.fits) in
      let over_is : over cutter'.limit cutter'.stepped ≡ over n (p ++ b ∷ []) = ap (λ it. over it cutter'.stepped) (limit ∙ way.limit) ∙ ap (over n) bytes in
      elim (cases_Bool (is_too_long given)) [
        | inl e ↦
            let long : over n (p ++ b ∷ []) ≡ true = sym over_is ∙ (sym long_is ∙ e) in
            let run_is : cut_run state given ≡ too_long (from state) = ap (λ t. if t then too_long (from state) else after_all (from state) (cut_readings given)) e in
            so_far-long l (p ++ b ∷ []) long ∙ (ap (λ xs. too_long (after_all (begun l) xs)) (fitting-whole n p b way.some way.fits long)
            ∙ (ap too_long (sym way-start) ∙ (sym (joined-long_status (from state).status here (from state)) ∙ (ap (runs_joined here) (sym run_is) ∙ sym far))))
        | inr e ↦
            let fits : over n (p ++ b ∷ []) ≡ false = sym over_is ∙ (sym long_is ∙ e) in
            let run_is : cut_run state given ≡ after_all (from state) (cut_readings given) = ap (λ t. if t then too_long (from state) else after_all (from state) (cut_readings given)) e in
            let wholes : whole (p ++ b ∷ []) ≡ whole p ++ cut_readings given = ap whole (sym bytes) ∙ (sym (whole_is (sym long_is ∙ e)) ∙ (ap readings_in items ∙ (map-append reading_of cutter.given (cut_items given) ∙ ap (λ it. it ++ cut_readings given) way.given))) in
            so_far-fits l (p ++ b ∷ []) fits ∙ (ap (after_all (begun l)) wholes ∙ (after_all-append (begun l) (whole p) (cut_readings given)
            ∙ (ap (λ it. after_all it (cut_readings given)) (sym way-start) ∙ (sym (joined-all here (from state) (cut_readings given)) ∙ (ap (runs_joined here) (sym run_is) ∙ sym far)))))
      ]

  -- a run of bytes that complete nothing
  pub way-run : (q : List ℕ) (cutter' : Progress) → cutter'.limit ≡ cutter.limit → cutter'.stepped ≡ cutter.stepped ++ q → cutter'.given ≡ cutter.given → readings_in cutter'.given ≡ whole cutter'.stepped
      → over cutter'.limit cutter'.stepped ≡ false → cutter'.failed ≡ false → IsUnderWay l (fed ++ q) cutter' state
  way-run q cutter' limit stepped given whole_is fits fine =
      let bytes : cutter'.stepped ≡ fed ++ q = stepped ∙ ap (λ it. it ++ q) way.stepped in
      let all : readings_in cutter'.given ≡ whole (fed ++ q) = whole_is ∙ ap whole bytes in
      let same : whole fed ≡ whole (fed ++ q) = sym way.given ∙ (ap readings_in (sym given) ∙ all) in
      record {
        limit = limit ∙ way.limit;
        stepped = bytes;
        some = way.some;
        fine = fine;
        fits = sym (ap₂ over (limit ∙ way.limit) bytes) ∙ fits;
        given = all;
        state_is = way.state_is ∙ ap (λ xs. (after_all (begun l) xs).state) same;
        goes = ap (λ xs. (after_all (begun l) xs).status) (sym same) ∙ way.goes;
      }

  -- the same of any first bytes of these, none too
  pub way-taken : (bytes : List ℕ) (n : ℕ) (cutter' : Progress) → cutter'.limit ≡ cutter.limit → cutter'.stepped ≡ cutter.stepped ++ take n bytes → cutter'.given ≡ cutter.given
      → (0 < n → readings_in cutter'.given ≡ whole cutter'.stepped) → (0 < n → over cutter'.limit cutter'.stepped ≡ false) → (n ≡ 0 → cutter' ≡ cutter) → cutter'.failed ≡ false
      → IsUnderWay l (fed ++ take n bytes) cutter' state
  way-taken bytes zero cutter' limit stepped given whole_is fits none fine =
      let there : IsUnderWay l (fed ++ []) cutter state = subst (λ p. IsUnderWay l p cutter state) (sym (append-nil fed)) way in
      subst (λ (it : Progress). IsUnderWay l (fed ++ []) it state) (sym (none refl)) there
  way-taken bytes (suc n) cutter' limit stepped given whole_is fits none fine = way-run (take (suc n) bytes) cutter' limit stepped given (whole_is (omega arith)) (fits (omega arith)) fine

  -- a run adds nothing
  pub run-nothing : (q : List ℕ) (cutter' : Progress) → IsUnderWay l (fed ++ q) cutter' state → cutter'.given ≡ cutter.given → added l fed q ≡ []
  run-nothing q cutter' way' given =
      let same : whole fed ≡ whole (fed ++ q) = sym way.given ∙ (ap readings_in (sym given) ∙ way'.given) in
      added-joined l fed q (from state) (so_far-fits l (fed ++ q) way'.fits ∙ (ap (after_all (begun l)) (sym same) ∙ (sym way-start ∙ ap (λ it. runs_joined it (from state)) (sym (so_far-fits l fed way.fits)))))

  -- the run of a whole script, by the item that is open at its end
  pub complete-end : (item : Option Item) → (over cutter.limit cutter.stepped ≡ false → readings_in cutter.given ++ item_readings item ≡ items cutter.stepped)
      → complete l fed ≡ runs_joined (so_far l fed) (after_all (from state) (item_readings item))
  complete-end item ends =
      let here = after_all (begun l) (whole fed) in
      let far : runs_joined (so_far l fed) (after_all (from state) (item_readings item)) ≡ runs_joined here (after_all (from state) (item_readings item)) = ap (λ it. runs_joined it (after_all (from state) (item_readings item))) (so_far-fits l fed way.fits) in
      let over_is : over cutter.limit cutter.stepped ≡ over l.max_form fed = ap (λ it. over it cutter.stepped) way.limit ∙ ap (over l.max_form) way.stepped in
      let all : items fed ≡ whole fed ++ item_readings item = ap items (sym way.stepped) ∙ (sym (ends (over_is ∙ way.fits)) ∙ ap (λ it. it ++ item_readings item) way.given) in
      complete-fits l fed way.fits ∙ (ap (after_all (begun l)) all ∙ (after_all-append (begun l) (whole fed) (item_readings item)
      ∙ (ap (λ it. after_all it (item_readings item)) (sym way-start) ∙ (sym (joined-all here (from state) (item_readings item)) ∙ sym far))))

start_way : (l : Setup) (cutter : Progress) (state : State) → cutter ≡ fresh_progress l.max_form → state ≡ first_state l → 1 ≤ l.max_form → IsUnderWay l [] cutter state
unfolding over whole parts
start_way l cutter state fresh first some = rw (fresh, first) (record { limit = refl; stepped = refl; some = some; fine = refl; fits = refl; given = refl; state_is = refl; goes = refl })

-- before the first byte
pub way-start_of : (l : Setup) (cutter : Progress) (state : State) → cutter ≡ fresh_progress l.max_form → state ≡ first_state l → 1 ≤ l.max_form → IsUnderWay l [] cutter state
way-start_of l cutter state fresh first some = start_way l cutter state fresh first some

long_status : (o : Option Status) (run : Run) → (too_long_status o run).status ≡ None → run.status ≡ o → ⊥
long_status None run h e = cc
long_status (Some status) run h e = cc

-- an item that is too long ends the script
long-ends : (l : Setup) (p : List ℕ) → over l.max_form p ≡ true → (so_far l p).status ≡ None → ⊥
long-ends l p long goes = long_status (after_all (begun l) (fitting l.max_form p)).status (after_all (begun l) (fitting l.max_form p)) (ap (λ it. it.status) (sym (so_far-long l p long)) ∙ goes) refl

-- where a byte ends nothing, the script goes on after it
pub way-push : (l : Setup) (fed : List ℕ) (cutter cutter' : Progress) (state state' : State) (b : ℕ) (given : Cut) → IsUnderWay l fed cutter state → cutter'.limit ≡ cutter.limit → cutter'.stepped ≡ cutter.stepped ++ b ∷ [] → cutter'.given ≡ cutter.given ++ cut_items given
    → (over cutter'.limit cutter'.stepped ≡ false → readings_in cutter'.given ≡ whole cutter'.stepped) → is_too_long given ≡ over cutter'.limit cutter'.stepped → cutter'.failed ≡ false → state' ≡ (cut_run state given).state → (so_far l (fed ++ b ∷ [])).status ≡ None
    → IsUnderWay l (fed ++ b ∷ []) cutter' state'
way-push l fed cutter cutter' state state' b given way limit stepped items whole_is long_is fine state_is goes =
    let n = l.max_form in
    let p' = fed ++ b ∷ [] in
    let push = so_far-push l fed cutter state way cutter' b given limit stepped items whole_is long_is in
    let bytes : cutter'.stepped ≡ p' = stepped ∙ ap (λ it. it ++ b ∷ []) way.stepped in
    let over_is : over cutter'.limit cutter'.stepped ≡ over n p' = ap (λ it. over it cutter'.stepped) (limit ∙ way.limit) ∙ ap (over n) bytes in
    let fits : over n p' ≡ false = elim (cases_Bool (over n p')) [
      | inl long ↦ absurd (long-ends l p' long goes)
      | inr e ↦ e
    ] in
    let far : so_far l p' ≡ after_all (begun l) (whole p') = so_far-fits l p' fits in
    record {
      limit = limit ∙ way.limit;
      stepped = bytes;
      some = way.some;
      fine = fine;
      fits = fits;
      given = whole_is (over_is ∙ fits) ∙ ap whole bytes;
      state_is = state_is ∙ (ap (λ it. it.state) (sym push) ∙ ap (λ it. it.state) far);
      goes = ap (λ it. it.status) (sym far) ∙ goes;
    }

-- the next byte of a piece
pub next-byte : (fed bytes : List ℕ) (i : ℕ) → i < length bytes → fed ++ take (i + 1) bytes ≡ (fed ++ take i bytes) ++ get_or bytes i 0 ∷ []
next-byte fed bytes i below = ap (λ it. fed ++ it) (take_more bytes i 0 below) ∙ sym (append_assoc fed (take i bytes) (get_or bytes i 0 ∷ []))
