-- What a run of bytes that completes nothing leaves of a text and of its last part.
use Rattle.std.proofs.Common.{◌≡◌, ◌||◌, ◌<◌, ◌≤◌, ℕ, ◌+◌, ◌-◌, Bool, true, false, not, List, [], ◌∷◌, ◌++◌, length, get_or, take, drop, nat_lt, refl, sym, ap, ◌∙◌, subst, append_assoc, inl, inr, ◌&&◌, arith, if◌then◌else◌}
use Rattle.std.proofs.lemmas.Bool.{false≢true, true≢false, cases_Bool, cases_eq, ne_eqb, le-ltb, or_parts}
use Rattle.std.proofs.lemmas.List.{append-nil, length_push, length-append, nil_from_length}
use Rattle.cb_forms.specs.Bytes.{is_line_end}
use Rattle.cb_forms.specs.Internal.Cuts.{opened_readings, open_bytes, part_with, readings_before}
use Rattle.cb_forms.specs.Internal.{IsInStep, line_with}
use Rattle.cb_forms.specs.Items.{part_takes, is_gap, readings_of, is_open, ended_readings, whole, is_longer, over}
use Rattle.cb_forms.specs.Internal.OpenParts.{IsKept, Reaches, part_after, CompletesNone, HasPassed, TakesOrLeaves}
use Rattle.cb_forms.specs.Internal.ScanStates.{mode_takes, fresh_mode, continued_mode, next_mode, mode_is_open, next_depth, fresh_depth, StaysIn, IsOpenStep, StaysOpen, IsStateIn}
use Rattle.cb_forms.specs.Lines.{line_feeds}
use Rattle.cb_forms.specs.Trees.{Reading}
use Rattle.cb_forms.specs.declared.cut.Cut.TheVariants as cut
use Rattle.cb_forms.specs.declared.lex_mode.LexMode.{LexMode}
use Rattle.cb_forms.specs.declared.lex_mode.LexMode.TheVariants.{Ended, Comment, Word, Quoted, Escaped}
use Rattle.cb_forms.specs.declared.open_part.OpenPart.{OpenPart}
use Rattle.cb_forms.proofs.CutterLaws.{whole-push}
use Rattle.cb_forms.proofs.LineLaws.{line-kept}
use Rattle.cb_forms.proofs.OpenPartLaws.{depth-next, kept-open, open_bytes-open, open-no_gap, reaches-gap, reaches-item, depth-fresh}
use Rattle.cb_forms.proofs.PartLaws.{tail, tail-push, over-push}
use Rattle.cb_forms.proofs.ScanStateLaws.{state-takes, state-open, state-push, state-fresh}
use Rattle.cb_forms.proofs.Splits.{take-both}
use Rattle.cb_forms.proofs.WithinLaws.{begins, ended-open, stays-comment}

-- an item that stays open, with one more byte
pub stays-push : (m : LexMode) (d : ℕ) (bs : List ℕ) (last : LexMode) (deep b : ℕ) (next : LexMode) (deeper : ℕ) → StaysOpen m d bs last deep → IsOpenStep last deep b next deeper → StaysOpen m d (bs ++ b ∷ []) next deeper
stays-push m d [] last deep b next deeper at goes =
    let here : IsOpenStep m d b next deeper = rw (← at.0, ← at.1) goes in
    (record { takes = here.takes; mode_is = refl; depth_is = refl; opens = rw (← here.mode_is, ← here.depth_is) here.opens }, (here.mode_is, here.depth_is))
stays-push m d (c ∷ cs) last deep b next deeper at goes = (at.0, stays-push (next_mode m c) (next_depth m d c) cs last deep b next deeper at.1 goes)

-- and with a run of bytes more
pub stays-append : (m : LexMode) (d : ℕ) (bs cs : List ℕ) (last : LexMode) (deep : ℕ) (end : LexMode) (lower : ℕ) → StaysOpen m d bs last deep → StaysOpen last deep cs end lower → StaysOpen m d (bs ++ cs) end lower
stays-append m d [] cs last deep end lower at goes = rw (← at.0, ← at.1) goes
stays-append m d (b ∷ bs) cs last deep end lower at goes = (at.0, stays-append (next_mode m b) (next_depth m d b) bs cs last deep end lower at.1 goes)

-- a piece that waits for the same, with one more byte
pub stays_in-push : (m : LexMode) (bs : List ℕ) (b : ℕ) → StaysIn m bs → mode_takes m b ≡ true → continued_mode m b ≡ m → StaysIn m (bs ++ b ∷ [])
stays_in-push m [] b at takes same = (takes, same, tt)
stays_in-push m (c ∷ cs) b at takes same = (at.0, at.1, stays_in-push m cs b at.2 takes same)

-- what completes nothing, in two runs
pub after-append : (w xs ys : List ℕ) → part_after w (xs ++ ys) ≡ part_after (part_after w xs) ys
after-append w [] ys = refl
after-append w (x ∷ xs) ys = after-append (part_with w x) xs ys

pub completes-append : (limit : ℕ) (w xs ys : List ℕ) → CompletesNone limit w xs → CompletesNone limit (part_after w xs) ys → CompletesNone limit w (xs ++ ys)
completes-append limit w [] ys first second = second
completes-append limit w (x ∷ xs) ys first second = (first.0, first.1, completes-append limit (part_with w x) xs ys first.2 second)

-- one run after another
pub passed-both : (limit : ℕ) (w xs ys both : List ℕ) (old new : OpenPart) → HasPassed limit w xs old → HasPassed limit old.spelled.items ys new → both ≡ xs ++ ys → HasPassed limit w both new
passed-both limit w xs ys both old new first second is =
    let P : List ℕ → Type 0 = λ v. CompletesNone limit v ys in
    rw is (record {
      completes = completes-append limit w xs ys first.completes (subst P first.spelled second.completes);
      spelled = second.spelled ∙ (ap (λ v. part_after v ys) first.spelled ∙ sym (after-append w xs ys));
      kept = second.kept;
    })

-- no byte
pub passed-none : (limit : ℕ) (w run : List ℕ) (part : OpenPart) → IsKept part → part.spelled.items ≡ w → run ≡ [] → HasPassed limit w run part
passed-none limit w run part kept spelled none = rw none (record { completes = tt; spelled = spelled; kept = kept })

-- one byte
pub passed-one : (limit : ℕ) (w : List ℕ) (b : ℕ) (part : OpenPart) → Reaches limit (part_with w b) (readings_before w b) cut.More part → HasPassed limit w (b ∷ []) part
passed-one limit w b part goes = record {
  completes = (sym (goes.items refl), sym goes.too_long, tt);
  spelled = goes.spelled refl;
  kept = goes.kept refl;
}

-- a text after which a run completes nothing
pub record IsSameAfter (limit : ℕ) (p run : List ℕ) : Type 0 where
  pub whole_is : whole (p ++ run) ≡ whole p
  pub fits : over limit (p ++ run) ≡ false
  pub tail_is : tail (p ++ run) ≡ part_after (tail p) run

pub after-run : (limit : ℕ) (p run : List ℕ) → over limit p ≡ false → CompletesNone limit (tail p) run → IsSameAfter limit p run
after-run limit p [] fits h = record {
  whole_is = ap whole (append-nil p);
  fits = ap (over limit) (append-nil p) ∙ fits;
  tail_is = ap tail (append-nil p);
}
after-run limit p (b ∷ bs) fits h =
    let here : over limit (p ++ b ∷ []) ≡ false = over-push limit p b fits ∙ h.1 in
    let says : whole (p ++ b ∷ []) ≡ whole p = whole-push p b ∙ (ap (λ more. whole p ++ more) h.0 ∙ append-nil (whole p)) in
    let P : List ℕ → Type 0 = λ w. CompletesNone limit w bs in
    let more = after-run limit (p ++ b ∷ []) bs here (subst P (sym (tail-push p b)) h.2) in
    let same : (p ++ b ∷ []) ++ bs ≡ p ++ b ∷ bs = append_assoc p (b ∷ []) bs in record {
      whole_is = ap whole (sym same) ∙ (more.whole_is ∙ says);
      fits = ap (over limit) (sym same) ∙ more.fits;
      tail_is = ap tail (sym same) ∙ (more.tail_is ∙ ap (λ w. part_after w bs) (tail-push p b));
    }

-- a cutter after a run that completes nothing
pub in_step-run : (limit : ℕ) (p p' run : List ℕ) (given : List Reading) (part part' : OpenPart) (is_over : Bool) (line line' : ℕ) → is_over ≡ false → IsInStep limit p given part is_over line → HasPassed limit part.spelled.items run part' → p' ≡ p ++ run
    → line' ≡ line_with line (line_feeds part.bytes + line_feeds run - line_feeds part'.bytes) → IsInStep limit p' given part' is_over line'
in_step-run limit p p' run given part part' is_over line line' fits was goes next further =
    let P : List ℕ → Type 0 = λ w. CompletesNone limit w run in
    let same = was.spelled fits in
    let after = after-run limit p run (sym was.over_is ∙ fits) (subst P same goes.completes) in
    let spells = goes.spelled ∙ (ap (λ w. part_after w run) same ∙ sym after.tail_is) in
    rw next (record {
      over_is = fits ∙ sym after.fits;
      cleared = λ h. absurd (false≢true (sym fits ∙ h));
      given_is = λ h. was.given_is h ∙ sym after.whole_is;
      spelled = λ _. spells;
      kept = λ _. goes.kept;
      line_is = λ _. further ∙ line-kept p run line part part' (was.line_is fits) (was.kept fits) same goes.kept spells;
    })

-- an open item with a run of bytes more, through all of which it stays open
pub record IsOpenAfter (limit : ℕ) (w run : List ℕ) (mode : LexMode) (depth : ℕ) : Type 0 where
  pub completes : CompletesNone limit w run
  pub part_is : part_after w run ≡ w ++ run
  pub state_is : IsStateIn (w ++ run) mode depth
  pub opens : is_open (w ++ run) ≡ true

pub open-run : (limit : ℕ) (w : List ℕ) (m : LexMode) (d : ℕ) (run : List ℕ) (last : LexMode) (deep : ℕ) → IsStateIn w m d → is_open w ≡ true → StaysOpen m d run last deep → length run ≤ limit - length w → IsOpenAfter limit w run last deep
open-run limit w m d [] last deep at opens stays short =
    let same = append-nil w in record {
      completes = tt;
      part_is = sym same;
      state_is = rw (same, stays.0, stays.1) at;
      opens = ap is_open same ∙ opens;
    }
open-run limit w m d (b ∷ bs) last deep at opens stays short =
    let step = stays.0 in
    let takes : part_takes w b ≡ true = state-takes w m d b at ∙ step.takes in
    let next : IsStateIn (w ++ b ∷ []) (next_mode m b) (next_depth m d b) = state-push w m d b at takes in
    let still : is_open (w ++ b ∷ []) ≡ true = state-open (w ++ b ∷ []) (next_mode m b) (next_depth m d b) next ∙ step.opens in
    let longer = length_push w b in
    let more = open-run limit (w ++ b ∷ []) (next_mode m b) (next_depth m d b) bs last deep next still stays.1 (omega arith) in
    let same : (w ++ b ∷ []) ++ bs ≡ w ++ b ∷ bs = append_assoc w (b ∷ []) bs in
    let with : part_with w b ≡ w ++ b ∷ [] = ap (λ t. if t then w ++ b ∷ [] else b ∷ []) takes in
    let before : readings_before w b ≡ [] = ap (λ t. if t then [] else opened_readings w) takes in
    let ended : ended_readings (part_with w b) ≡ [] = ap ended_readings with ∙ ap (λ t. if t then [] else readings_of (w ++ b ∷ [])) still in
    let fits : length (w ++ b ∷ []) ≤ limit = omega arith in
    let short_enough : is_longer limit (part_with w b) ≡ false = ap (is_longer limit) with ∙ (ap (λ t. not t && nat_lt limit (length (w ++ b ∷ []))) (open-no_gap (w ++ b ∷ []) still) ∙ le-ltb limit (length (w ++ b ∷ [])) fits) in
    let P : List ℕ → Type 0 = λ v. CompletesNone limit v bs in
    let Q : List ℕ → Type 0 = λ v. IsStateIn v last deep in record {
      completes = (ap (λ rs. rs ++ ended_readings (part_with w b)) before ∙ ended, short_enough, subst P (sym with) more.completes);
      part_is = ap (λ v. part_after v bs) with ∙ (more.part_is ∙ same);
      state_is = subst Q same more.state_is;
      opens = ap is_open (sym same) ∙ more.opens;
    }

-- how deep it may be then
pub open-deep : (m : LexMode) (d : ℕ) (run : List ℕ) (last : LexMode) (deep : ℕ) → StaysOpen m d run last deep → deep ≤ d + length run
open-deep m d [] last deep stays = omega (arith, stays.1)
open-deep m d (b ∷ bs) last deep stays =
    let more = open-deep (next_mode m b) (next_depth m d b) bs last deep stays.1 in
    let one = depth-next m d b in omega arith

-- the same of the open part that keeps the item
pub passed-open : (limit : ℕ) (run : List ℕ) (old new : OpenPart) → IsKept old → 0 < length old.bytes → length run ≤ limit - length old.bytes → StaysOpen old.state.mode old.state.depth run new.state.mode new.state.depth → new.bytes ≡ old.bytes ++ run → new.spelled.items ≡ old.spelled.items ++ run → HasPassed limit old.spelled.items run new
passed-open limit run old new kept some short stays bytes spelled =
    let w = old.spelled.items in
    let open_is = kept-open w old.bytes kept.bytes_are some in
    let same = ap length open_is.1 in
    let after = open-run limit w old.state.mode old.state.depth run new.state.mode new.state.depth kept.state_is open_is.0 stays (omega (arith, short, same)) in
    let all : new.bytes ≡ w ++ run = bytes ∙ ap (λ it. it ++ run) open_is.1 in
    let P : List ℕ → Type 0 = λ v. IsStateIn v new.state.mode new.state.depth in
    let deep = open-deep old.state.mode old.state.depth run new.state.mode new.state.depth stays in
    let was = kept.depth_fits in
    let long : length new.bytes ≡ length old.bytes + length run = ap length bytes ∙ length-append old.bytes run in record {
      completes = after.completes;
      spelled = spelled ∙ sym after.part_is;
      kept = record {
        state_is = subst P (sym spelled) after.state_is;
        bytes_are = all ∙ (sym (open_bytes-open (w ++ run) after.opens) ∙ ap open_bytes (sym spelled));
        depth_fits = omega arith;
      };
    }

-- where no bytes are kept, no item is open, and no list
pub none-shut : (part : OpenPart) → IsKept part → part.bytes ≡ [] → is_open part.spelled.items ≡ false
none-shut part kept none = elim (cases_Bool (is_open part.spelled.items)) [
  | inl e ↦
      let w = part.spelled.items in
      let same = ap length (sym none ∙ (kept.bytes_are ∙ open_bytes-open w e)) in
      absurd (false≢true (sym (ap is_open (nil_from_length w (omega arith))) ∙ e))
  | inr e ↦ e
]

pub none-deep : (part : OpenPart) → IsKept part → part.bytes ≡ [] → part.state.depth ≡ 0
none-deep part kept none = let fits = kept.depth_fits in let length_is = ap length none in omega arith

none-mode : (part : OpenPart) → IsKept part → part.bytes ≡ [] → mode_is_open part.state.mode ≡ false
none-mode part kept none =
    (or_parts (nat_lt 0 part.state.depth) (mode_is_open part.state.mode) (sym (state-open part.spelled.items part.state.mode part.state.depth kept.state_is) ∙ none-shut part kept none)).1

-- there the part goes on with a byte only where its mode does
pub none-takes : (part : OpenPart) (b : ℕ) → IsKept part → part.bytes ≡ [] → part_takes part.spelled.items b ≡ mode_takes part.state.mode b
none-takes part b kept none = state-takes part.spelled.items part.state.mode part.state.depth b kept.state_is ∙ ap (λ d. nat_lt 0 d || mode_takes part.state.mode b) (none-deep part kept none)

taken-byte : (limit : ℕ) (old : OpenPart) (b : ℕ) (new : OpenPart) → Reaches limit (part_with old.spelled.items b) (readings_before old.spelled.items b) cut.More new → TakesOrLeaves limit old b true new
taken-byte limit old b new goes = record { taken = λ _. goes; untouched = λ h. absurd (true≢false h) }

-- a comment goes on
pub takes-comment : (limit b : ℕ) (old new : OpenPart) → IsKept old → old.bytes ≡ [] → old.state.mode ≡ Comment → is_line_end b ≡ false → new.bytes ≡ old.bytes → new.state.mode ≡ old.state.mode → new.state.depth ≡ old.state.depth → new.spelled.items ≡ old.spelled.items ++ b ∷ [] → TakesOrLeaves limit old b true new
takes-comment limit b old new kept none is inside bytes mode depth spelled =
    let goes : mode_takes old.state.mode b ≡ true = ap (λ m. mode_takes m b) is ∙ ap not inside in
    let same : continued_mode old.state.mode b ≡ old.state.mode = ap (λ m. continued_mode m b) is ∙ sym is in
    taken-byte limit old b new (stays-comment limit b old new kept goes same none (bytes ∙ none) mode depth spelled)

-- a mode in which no item is open, and no comment takes the byte
mode-fresh : (m : LexMode) (b : ℕ) → mode_is_open m ≡ false → (m ≡ Comment → is_line_end b ≡ true) → mode_takes m b ≡ false
mode-fresh Ended b shut out = refl
mode-fresh Comment b shut out = ap not (out refl)
mode-fresh Word b shut out = absurd (true≢false shut)
mode-fresh Quoted b shut out = absurd (true≢false shut)
mode-fresh Escaped b shut out = absurd (true≢false shut)

gap-depth : (b : ℕ) → is_gap (b ∷ []) ≡ true → 0 ≡ fresh_depth b
gap-depth b gap = elim (cases_eq b 40) as (λ _. 0 ≡ fresh_depth b) [
  | inl e ↦ absurd (false≢true (sym (ap (λ it. is_gap (it ∷ [])) e) ∙ gap))
  | inr e ↦ rw (ne_eqb b 40 e) refl
]

-- a blank, or a comment that begins
pub takes-gap : (limit b : ℕ) (old new : OpenPart) → IsKept old → old.bytes ≡ [] → (old.state.mode ≡ Comment → is_line_end b ≡ true) → is_gap (b ∷ []) ≡ true → new.bytes ≡ old.bytes → new.state.mode ≡ fresh_mode b → new.state.depth ≡ 0 → new.spelled.items ≡ b ∷ [] → TakesOrLeaves limit old b true new
takes-gap limit b old new kept none out gap bytes mode depth spelled =
    let fresh = mode-fresh old.state.mode b (none-mode old kept none) out in
    taken-byte limit old b new (begins limit old.spelled.items b new (none-takes old b kept none ∙ fresh) (none-shut old kept none) (reaches-gap limit b [] cut.More new gap mode (depth ∙ gap-depth b gap) spelled (bytes ∙ none) refl refl))

-- the first byte of an item that stays open
pub takes-first : (limit b : ℕ) (old new : OpenPart) → IsKept old → old.bytes ≡ [] → mode_takes old.state.mode b ≡ false → 1 ≤ limit → new.bytes ≡ old.bytes ++ b ∷ [] → new.state.mode ≡ fresh_mode b → new.state.depth ≡ fresh_depth b → new.spelled.items ≡ b ∷ [] → (nat_lt 0 new.state.depth || mode_is_open new.state.mode) ≡ true → TakesOrLeaves limit old b true new
takes-first limit b old new kept none fresh room bytes mode depth spelled opens =
    let P : LexMode → Type 0 = λ m. IsStateIn (b ∷ []) m new.state.depth in
    let Q : ℕ → Type 0 = λ d. IsStateIn (b ∷ []) (fresh_mode b) d in
    let at : IsStateIn (b ∷ []) new.state.mode new.state.depth = subst P (sym mode) (subst Q (sym depth) (state-fresh b)) in
    let is : is_open (b ∷ []) ≡ true = state-open (b ∷ []) new.state.mode new.state.depth at ∙ opens in
    let kept_now : new.bytes ≡ open_bytes (b ∷ []) = bytes ∙ (ap (λ it. it ++ b ∷ []) none ∙ sym (open_bytes-open (b ∷ []) is)) in
    let D : ℕ → Type 0 = λ d. d ≤ 1 in
    taken-byte limit old b new (begins limit old.spelled.items b new (none-takes old b kept none ∙ fresh) (none-shut old kept none) (reaches-item limit (b ∷ []) [] [] cut.More new (open-no_gap (b ∷ []) is) room at spelled kept_now (subst D (sym depth) (depth-fresh b)) refl refl (sym (ended-open (b ∷ []) is))))

-- the first byte of a text, and those after it
pub take-first : (n : ℕ) (s : List ℕ) → 1 ≤ length s → take (1 + n) s ≡ (get_or s 0 0 ∷ []) ++ take n (drop 1 s)
take-first n [] = λ h. absurd (omega arith)
take-first n (b ∷ bs) = λ h. take-both 1 n (b ∷ bs)

-- the bytes that leave an open item as it is, after those that it has gone on with
pub stays-still : (s rest : List ℕ) (i n : ℕ) (m : LexMode) (d : ℕ) (last : LexMode) (deep : ℕ) → StaysOpen m d (take i s) last deep → rest ≡ drop i s → StaysOpen last deep (take n rest) last deep → StaysOpen m d (take (i + n) s) last deep
stays-still s rest i n m d last deep at is still =
    let P : List ℕ → Type 0 = λ it. StaysOpen last deep (take n it) last deep in
    rw (take-both i n s) (stays-append m d (take i s) (take n (drop i s)) last deep last deep at (subst P is still))
