-- What is kept of the part that a text so far ends with, byte by byte.
use Rattle.std.proofs.Common.{◌≡◌, ◌==◌, ◌||◌, ◌&&◌, ◌<◌, ◌≤◌, ℕ, ◌+◌, ◌-◌, Bool, true, false, not, List, [], ◌∷◌, ◌++◌, Err, length, nat_lt, refl, sym, ap, ◌∙◌, subst, inl, inr, arith, if◌then◌else◌}
use Rattle.std.proofs.lemmas.Bool.{true≢false, false≢true, ltb-false, lt-ltb, le-ltb, eqb-true, cases_eq, cases_Bool, ne_eqb, or_parts}
use Rattle.cb_forms.specs.Bytes.{is_blank, is_single, is_connective, begins_with}
use Rattle.cb_forms.specs.Cuts.{is_too_long}
use Rattle.cb_forms.specs.Internal.Cuts.{cut_readings, opened_readings, open_bytes}
use Rattle.cb_forms.specs.Items.{openings, closings, is_open_list, part_takes, is_gap, readings_of, is_open, ended_readings}
use Rattle.cb_forms.specs.Internal.OpenParts.{IsKept, Reaches}
use Rattle.cb_forms.specs.Pieces.{pieces}
use Rattle.cb_forms.specs.Internal.ScanStates.{mode_takes, fresh_mode, next_mode, mode_is_open, next_depth, fresh_depth, mode_in, depth_in, IsStateIn}
use Rattle.cb_forms.specs.Strings.{is_unclosed}
use Rattle.cb_forms.specs.Trees.{Reading}
use Rattle.cb_forms.specs.declared.cut.Cut.{Cut}
use Rattle.cb_forms.specs.declared.cut.Cut.TheVariants as cut
use Rattle.cb_forms.specs.declared.fault.Fault.TheVariants.{FormNotClosed}
use Rattle.cb_forms.specs.declared.lex_mode.LexMode.{LexMode}
use Rattle.cb_forms.specs.declared.lex_mode.LexMode.TheVariants.{Ended}
use Rattle.cb_forms.specs.declared.open_part.OpenPart.{OpenPart}
use Rattle.cb_forms.proofs.PartLaws.{goes_open}
use Rattle.cb_forms.proofs.ScanStateLaws.{state-takes, state-open, state-push, state-fresh}

-- before the first byte
pub state-start : IsStateIn [] Ended 0
unfolding mode_in depth_in
state-start = record { mode_is = refl; depth_is = refl; closed = λ _ _. refl }

pub kept-start : (part : OpenPart) → part.spelled.items ≡ [] → part.bytes ≡ [] → part.state.mode ≡ Ended → part.state.depth ≡ 0 → IsKept part
kept-start part spelled bytes mode depth = record {
  state_is = rw (spelled, mode, depth) state-start;
  bytes_are = rw (spelled, bytes) refl;
  depth_fits = omega arith;
}

-- a part in which lists are open is an open list
pub deep-list : (w : List ℕ) (m : LexMode) (d : ℕ) → IsStateIn w m d → 0 < d → readings_of w ≡ Err FormNotClosed ∷ []
unfolding depth_in is_open_list
deep-list w m d at lt =
    let P : Bool → Type 0 = λ t. begins_with 40 w ≡ t → d ≡ (if t then openings (pieces w) - closings (pieces w) else 0) → readings_of w ≡ Err FormNotClosed ∷ [] in
    let cases : (t : Bool) → P t = λ t. elim t as P [
      | true ↦ λ e is_depth. rw (e, lt-ltb (closings (pieces w)) (openings (pieces w)) (omega arith)) refl
      | false ↦ λ e is_depth. absurd (omega arith)
    ] in cases (begins_with 40 w) refl at.depth_is

-- a list in which none is open is closed
pub flat-list : (w : List ℕ) (m : LexMode) (d : ℕ) → IsStateIn w m d → d ≡ 0 → begins_with 40 w ≡ true → is_open_list w ≡ false
unfolding depth_in is_open_list
flat-list w m d at none e =
    let depth : d ≡ openings (pieces w) - closings (pieces w) = at.depth_is ∙ ap (λ t. if t then openings (pieces w) - closings (pieces w) else 0) e in
    le-ltb (closings (pieces w)) (openings (pieces w)) (omega arith)

-- a list that is no open item is closed
pub ended-list : (w : List ℕ) → is_open w ≡ false → begins_with 40 w ≡ true → is_open_list w ≡ false
ended-list [] h e = absurd (false≢true e)
ended-list (c ∷ cs) h e = sym (ap (λ t. if t then is_open_list (c ∷ cs) else (if c == 34 then is_unclosed cs else not (is_single c || c == 59))) e) ∙ h

-- an open item is no gap
pub open-no_gap : (w : List ℕ) → is_open w ≡ true → is_gap w ≡ false
open-no_gap [] = λ h. absurd (false≢true h)
open-no_gap (c ∷ cs) = elim (cases_eq c 59) as (λ _. is_open (c ∷ cs) ≡ true → is_gap (c ∷ cs) ≡ false) [
  | inl e ↦ rw e (λ h. absurd (false≢true h))
  | inr e ↦ elim (cases_eq c 40) as (λ _. is_open (c ∷ cs) ≡ true → is_gap (c ∷ cs) ≡ false) [
    | inl f ↦ rw f (λ h. refl)
    | inr f ↦ elim (cases_eq c 34) as (λ _. is_open (c ∷ cs) ≡ true → is_gap (c ∷ cs) ≡ false) [
      | inl g ↦ rw g (λ h. refl)
      | inr g ↦ rw (ne_eqb c 59 e, ne_eqb c 40 f, ne_eqb c 34 g) (elim (is_blank c) as (λ t. not ((t || (false || (c == 41 || is_connective c))) || false) ≡ true → (t || false) ≡ false) [
        | true ↦ λ h. absurd (false≢true h)
        | false ↦ λ h. refl
      ])
    ]
  ]
]

-- a part that goes on and is no open item is a comment
pub goes-comment : (w : List ℕ) (b : ℕ) → part_takes w b ≡ true → is_open w ≡ false → begins_with 59 w ≡ true
goes-comment [] b h o = absurd (false≢true h)
goes-comment (c ∷ cs) b h o = elim (cases_Bool (c == 59)) [ inl e ↦ e | inr e ↦ absurd (false≢true (sym o ∙ goes_open c cs b e h)) ]

comment_is_gap : (c : ℕ) (cs : List ℕ) → c ≡ 59 → (is_open (c ∷ cs) ≡ false) × (is_gap (c ∷ cs) ≡ true) × (readings_of (c ∷ cs) ≡ [])
comment_is_gap c cs e = rw e (refl, refl, refl)

-- the part has no more open lists than one more byte
pub depth-next : (m : LexMode) (d b : ℕ) → next_depth m d b ≤ d + 1
depth-next m d b = elim (mode_takes m b) as (λ t. (if t then d else (if b == 40 then d + 1 else (if b == 41 then d - 1 else d))) ≤ d + 1) [
  | true ↦ omega arith
  | false ↦ elim (b == 40) as (λ t. (if t then d + 1 else (if b == 41 then d - 1 else d)) ≤ d + 1) [
    | true ↦ omega arith
    | false ↦ elim (b == 41) as (λ t. (if t then d - 1 else d) ≤ d + 1) [ true ↦ omega arith | false ↦ omega arith ]
  ]
]

depth-same : (m : LexMode) (d b : ℕ) → mode_takes m b ≡ true → next_depth m d b ≡ d
depth-same m d b h = ap (λ t. if t then d else (if b == 40 then d + 1 else (if b == 41 then d - 1 else d))) h

pub open_bytes-open : (w : List ℕ) → is_open w ≡ true → open_bytes w ≡ w
open_bytes-open w h = ap (λ t. if t then w else []) h

pub open_bytes-ended : (w : List ℕ) → is_open w ≡ false → open_bytes w ≡ []
open_bytes-ended w h = ap (λ t. if t then w else []) h

-- bytes are kept of an open item alone
pub kept-open : (w : List ℕ) (bytes : List ℕ) → bytes ≡ open_bytes w → 0 < length bytes → (is_open w ≡ true) × (bytes ≡ w)
kept-open w bytes are some = elim (cases_Bool (is_open w)) [
  | inl e ↦ (e, are ∙ open_bytes-open w e)
  | inr e ↦ let none = ap length (are ∙ open_bytes-ended w e) in absurd (omega arith)
]

-- a byte more in an item, or the first byte of one: it is kept, or the item has ended
pub reaches-item : (limit : ℕ) (w : List ℕ) (before item : List Reading) (given : Cut) (part : OpenPart) → is_gap w ≡ false → length w ≤ limit → IsStateIn w part.state.mode part.state.depth → part.spelled.items ≡ w → part.bytes ≡ open_bytes w → part.state.depth ≤ length w → is_too_long given ≡ false → cut_readings given ≡ before ++ item → item ≡ ended_readings w → Reaches limit w before given part
reaches-item limit w before item given part no_gap fits at spelled bytes deep short gives is_item =
    let open_is = state-open w part.state.mode part.state.depth at in record {
      too_long = short ∙ sym (ap (λ t. not t && nat_lt limit (length w)) no_gap ∙ le-ltb limit (length w) fits);
      cleared = λ h. absurd (false≢true (sym short ∙ h));
      items = λ _. gives ∙ ap (λ more. before ++ more) is_item;
      spelled = λ _. spelled;
      kept = λ _. record {
        state_is = rw spelled at;
        bytes_are = rw spelled bytes;
        depth_fits = elim (cases_Bool (is_open w)) [
          | inl e ↦ let same = ap length (bytes ∙ open_bytes-open w e) in omega arith
          | inr e ↦ let none = or_parts (nat_lt 0 part.state.depth) (mode_is_open part.state.mode) (sym open_is ∙ e) in let le = ltb-false 0 part.state.depth none.0 in omega arith
        ];
      };
    }

-- a byte more in an item, which gets longer than the limit
pub reaches-longer : (limit : ℕ) (w : List ℕ) (part : OpenPart) → is_gap w ≡ false → limit < length w → part.bytes ≡ [] → Reaches limit w [] cut.TooLong part
reaches-longer limit w part no_gap long none = record {
  too_long = sym (ap (λ t. not t && nat_lt limit (length w)) no_gap ∙ lt-ltb limit (length w) long);
  cleared = λ _. none;
  items = λ h. absurd (true≢false h);
  spelled = λ h. absurd (true≢false h);
  kept = λ h. absurd (true≢false h);
}

-- a byte more in a comment
pub reaches-comment : (limit : ℕ) (w : List ℕ) (b : ℕ) (old new : OpenPart) → old.spelled.items ≡ w → IsKept old → part_takes w b ≡ true → old.bytes ≡ [] → new.bytes ≡ [] → new.state.mode ≡ next_mode old.state.mode b → new.state.depth ≡ next_depth old.state.mode old.state.depth b
    → new.spelled.items ≡ w ++ b ∷ [] → Reaches limit (w ++ b ∷ []) [] cut.More new
reaches-comment limit [] b old new was kept takes none bytes mode depth spelled = absurd (false≢true takes)
reaches-comment limit (c ∷ cs) b old new was kept takes none bytes mode depth spelled =
    let w = c ∷ cs in
    let Q : List ℕ → Type 0 = λ it. IsStateIn it old.state.mode old.state.depth in
    let at : IsStateIn w old.state.mode old.state.depth = subst Q was kept.state_is in
    let shut : is_open w ≡ false = elim (cases_Bool (is_open w)) [
      | inl e ↦ let same = ap length (sym none ∙ (kept.bytes_are ∙ (ap open_bytes was ∙ open_bytes-open w e))) in absurd (omega arith)
      | inr e ↦ e
    ] in
    let gap = comment_is_gap c (cs ++ b ∷ []) (eqb-true c 59 (goes-comment w b takes shut)) in
    let zero : old.state.depth ≡ 0 = let fits = kept.depth_fits in let none_kept = ap length none in omega arith in
    let goes : mode_takes old.state.mode b ≡ true = sym (ap (λ d. nat_lt 0 d || mode_takes old.state.mode b) zero) ∙ (sym (state-takes w old.state.mode old.state.depth b at) ∙ takes) in
    let pushed = state-push w old.state.mode old.state.depth b at takes in record {
      too_long = sym (ap (λ t. not t && nat_lt limit (length (w ++ b ∷ []))) gap.1);
      cleared = λ h. absurd (false≢true h);
      items = λ _. rw (gap.0, gap.2) refl;
      spelled = λ _. spelled;
      kept = λ _. record {
        state_is = rw (spelled, mode, depth) pushed;
        bytes_are = rw (spelled, bytes) (sym (open_bytes-ended (w ++ b ∷ []) gap.0));
        depth_fits = let same = depth-same old.state.mode old.state.depth b goes in omega arith;
      };
    }

pub no_gap-push : (w : List ℕ) (b : ℕ) → is_gap w ≡ false → is_gap (w ++ b ∷ []) ≡ false
no_gap-push [] b h = absurd (true≢false h)
no_gap-push (c ∷ cs) b h = h

-- an item that goes on is none the less an item
pub open-no_gap-push : (w : List ℕ) (b : ℕ) → is_open w ≡ true → is_gap (w ++ b ∷ []) ≡ false
open-no_gap-push w b h = no_gap-push w b (open-no_gap w h)

gap_says : (b : ℕ) → is_gap (b ∷ []) ≡ true → is_open (b ∷ []) ≡ false → ended_readings (b ∷ []) ≡ []
gap_says b gap shut =
    let plain : (b == 40) ≡ false = elim (cases_eq b 40) as (λ _. (b == 40) ≡ false) [ inl e ↦ absurd (false≢true (sym (ap (λ it. is_gap (it ∷ [])) e) ∙ gap)) | inr e ↦ ne_eqb b 40 e ] in
    rw (shut, plain, gap) refl

-- a blank or the beginning of a comment
pub reaches-gap : (limit : ℕ) (b : ℕ) (before : List Reading) (given : Cut) (part : OpenPart) → is_gap (b ∷ []) ≡ true → part.state.mode ≡ fresh_mode b → part.state.depth ≡ fresh_depth b → part.spelled.items ≡ b ∷ [] → part.bytes ≡ [] → is_too_long given ≡ false → cut_readings given ≡ before ++ [] → Reaches limit (b ∷ []) before given part
reaches-gap limit b before given part gap mode depth spelled bytes short gives =
    let shut : is_open (b ∷ []) ≡ false = elim (cases_Bool (is_open (b ∷ []))) [ inl e ↦ absurd (true≢false (sym gap ∙ open-no_gap (b ∷ []) e)) | inr e ↦ e ] in
    let zero : fresh_depth b ≡ 0 = elim (cases_eq b 40) as (λ _. fresh_depth b ≡ 0) [ inl e ↦ absurd (false≢true (sym (ap (λ it. is_gap (it ∷ [])) e) ∙ gap)) | inr e ↦ rw (ne_eqb b 40 e) refl ] in record {
      too_long = short ∙ sym (ap (λ t. not t && nat_lt limit 1) gap);
      cleared = λ h. absurd (false≢true (sym short ∙ h));
      items = λ _. gives ∙ ap (λ more. before ++ more) (sym (gap_says b gap shut));
      spelled = λ _. spelled;
      kept = λ _. record {
        state_is = rw (spelled, mode, depth) (state-fresh b);
        bytes_are = rw (spelled, bytes) (sym (open_bytes-ended (b ∷ []) shut));
        depth_fits = omega arith;
      };
    }

-- where an item is open, its bytes are kept
pub kept-state : (part : OpenPart) → IsKept part → (nat_lt 0 part.state.depth || mode_is_open part.state.mode) ≡ true → IsStateIn part.bytes part.state.mode part.state.depth
kept-state part kept h =
    let P : List ℕ → Type 0 = λ w. IsStateIn w part.state.mode part.state.depth in
    let same : part.spelled.items ≡ part.bytes = sym (kept.bytes_are ∙ open_bytes-open part.spelled.items (state-open part.spelled.items part.state.mode part.state.depth kept.state_is ∙ h)) in
    subst P same kept.state_is

-- what the kept bytes say is what the part says
pub opened-says : (part : OpenPart) (says : List Reading) → IsKept part → says ≡ (if nat_lt 0 part.state.depth || mode_is_open part.state.mode then readings_of part.bytes else []) → says ≡ opened_readings part.spelled.items
opened-says part says kept h =
    let open_is = state-open part.spelled.items part.state.mode part.state.depth kept.state_is in
    h ∙ (ap (λ t. if t then readings_of part.bytes else []) (sym open_is) ∙ elim (cases_Bool (is_open part.spelled.items)) as (λ _. (if is_open part.spelled.items then readings_of part.bytes else []) ≡ opened_readings part.spelled.items) [
      | inl e ↦ ap (λ w. if is_open part.spelled.items then readings_of w else []) (kept.bytes_are ∙ open_bytes-open part.spelled.items e)
      | inr e ↦ rw e refl
    ])

-- a byte more in the kept bytes of an open item
pub state-goes : (part : OpenPart) (b : ℕ) (bytes : List ℕ) → IsKept part → part_takes part.spelled.items b ≡ true → 0 < length part.bytes → bytes ≡ part.bytes ++ b ∷ [] → (bytes ≡ part.spelled.items ++ b ∷ []) × IsStateIn bytes (next_mode part.state.mode b) (next_depth part.state.mode part.state.depth b)
state-goes part b bytes kept takes some is =
    let w = part.spelled.items in
    let same : bytes ≡ w ++ b ∷ [] = is ∙ ap (λ it. it ++ b ∷ []) (kept-open w part.bytes kept.bytes_are some).1 in
    let P : List ℕ → Type 0 = λ it. IsStateIn it (next_mode part.state.mode b) (next_depth part.state.mode part.state.depth b) in
    (same, subst P (sym same) (state-push w part.state.mode part.state.depth b kept.state_is takes))

-- the first byte of an item
pub no_gap-fresh : (b : ℕ) → is_blank b ≡ false → (b ≡ 59 → ⊥) → is_gap (b ∷ []) ≡ false
no_gap-fresh b blank other = rw (blank, ne_eqb b 59 other) refl

pub depth-fresh : (b : ℕ) → fresh_depth b ≤ 1
depth-fresh b = elim (b == 40) as (λ t. (if t then 1 else 0) ≤ 1) [ true ↦ omega arith | false ↦ omega arith ]
