-- The lines on which the items of a text begin, as the text goes on.
use Rattle.std.proofs.Common.{◌≡◌, ◌==◌, ◌||◌, ◌≤◌, ℕ, ◌+◌, ◌-◌, Bool, true, false, not, List, [], ◌∷◌, ◌++◌, length, map, nat_lt, take, refl, sym, ap, ap₂, ◌∙◌, subst, inl, inr, arith, cond, if◌then◌else◌}
use Rattle.std.proofs.lemmas.Bool.{true≢false, false≢true, cases_Bool, eqb-true, or_parts, or_cases, and_parts, ltb-true}
use Rattle.std.proofs.lemmas.List.{append-nil, append_assoc, append_cancel_left, length-append, map-append}
use Rattle.std.proofs.Math.Seq.{take-append_seam}
use Rattle.std.specs.List.{flat_map, list_any}
use Rattle.cb_forms.specs.Bytes.{begins_with, is_delimiter, is_line_end, is_single}
use Rattle.cb_forms.specs.Pieces.{piece_takes}
use Rattle.cb_forms.specs.Strings.{is_unclosed}
use Rattle.cb_forms.specs.Cutting.{AreCut, TakesAll, cut, joined}
use Rattle.cb_forms.specs.Internal.Cuts.{open_bytes, opened_readings, part_with}
use Rattle.cb_forms.specs.Items.{but_last, ended_readings, fitting, fitting_parts, is_gap, is_longer, is_open, is_open_list, items, last_part, over, part_takes, parts, readings_of, rest, whole}
use Rattle.cb_forms.specs.Lines.{before_open, line_after, line_feeds, open_line}
use Rattle.cb_forms.specs.Trees.{Reading}
use Rattle.cb_forms.proofs.CuttingLaws.{are_cut-back, are_cut-cut, joined-cut, onto, pushed}
use Rattle.cb_forms.proofs.FittingLaws.{whole-fitting}
use Rattle.cb_forms.proofs.Lasts.{but_last-pushed, grown, last_part-pushed}
use Rattle.cb_forms.proofs.LineLaws.{feeds-append, rest-tail}
use Rattle.cb_forms.proofs.OpenPartLaws.{goes-comment, open_bytes-ended, open_bytes-open}
use Rattle.cb_forms.proofs.PartLaws.{items-split, longer-push, over-kept, over-push, parts-push, tail, tail-push, taken-says, whole-fresh, whole-taken}
use Rattle.cb_session.specs.ItemLines.{all_on, line_past, placed_fitting, placed_parts, placed_whole, too_long_at}

-- the items without their lines
abbrev pub without_lines : List (ℕ × Reading) → List Reading
without_lines xs = map (λ x. x.1) xs

all_on-readings : (line : ℕ) (rs : List Reading) → without_lines (all_on line rs) ≡ rs
all_on-readings line [] = refl
all_on-readings line (r ∷ rs) = ap (λ it. r ∷ it) (all_on-readings line rs)

pub all_on-append : (line : ℕ) (rs qs : List Reading) → all_on line (rs ++ qs) ≡ all_on line rs ++ all_on line qs
all_on-append line rs qs = map-append (λ r. (line, r)) rs qs

without-append : (xs ys : List (ℕ × Reading)) → without_lines (xs ++ ys) ≡ without_lines xs ++ without_lines ys
without-append xs ys = map-append (λ x. x.1) xs ys

placed-readings : (feeds : ℕ) (ws : List (List ℕ)) → without_lines (placed_parts feeds ws) ≡ flat_map readings_of ws
placed-readings feeds [] = refl
placed-readings feeds (w ∷ ws) =
    without-append (all_on (line_after feeds) (readings_of w)) (placed_parts (feeds + line_feeds w) ws)
    ∙ ap₂ (λ rs qs. rs ++ qs) (all_on-readings (line_after feeds) (readings_of w)) (placed-readings (feeds + line_feeds w) ws)

pub whole-readings : (p : List ℕ) → without_lines (placed_whole p) ≡ whole p
unfolding placed_whole whole
whole-readings p =
    without-append (placed_parts 0 (but_last (parts p))) (all_on (line_past (but_last (parts p))) (ended_readings (tail p)))
    ∙ ap₂ (λ rs qs. rs ++ qs) (placed-readings 0 (but_last (parts p))) (all_on-readings (line_past (but_last (parts p))) (ended_readings (tail p)))

pub fitting-readings : (limit : ℕ) (s : List ℕ) → without_lines (placed_fitting limit s) ≡ fitting limit s
unfolding placed_fitting fitting
fitting-readings limit s = placed-readings 0 (fitting_parts limit (parts s))

-- the last part stands after the others
after-cons : (w : List ℕ) (ws : List (List ℕ)) (feeds : ℕ) → feeds + line_feeds w + line_feeds (joined ws) ≡ feeds + line_feeds (w ++ joined ws)
after-cons w ws feeds =
    let both = feeds-append w (joined ws) in omega (arith, both)

placed-split : (feeds : ℕ) (ws : List (List ℕ)) → placed_parts feeds ws ≡ placed_parts feeds (but_last ws) ++ all_on (line_after (feeds + line_feeds (joined (but_last ws)))) (readings_of (last_part ws))
placed-split feeds [] = refl
placed-split feeds (w ∷ []) =
    let same : line_after feeds ≡ line_after (feeds + line_feeds []) = ap line_after (omega arith) in
    append-nil (all_on (line_after feeds) (readings_of w)) ∙ ap (λ n. all_on n (readings_of w)) same
placed-split feeds (w ∷ v ∷ ws) =
    let here = all_on (line_after feeds) (readings_of w) in
    let front = placed_parts (feeds + line_feeds w) (but_last (v ∷ ws)) in
    let last = readings_of (last_part (v ∷ ws)) in
    ap (λ it. here ++ it) (placed-split (feeds + line_feeds w) (v ∷ ws))
    ∙ (ap (λ n. here ++ (front ++ all_on (line_after n) last)) (after-cons w (but_last (v ∷ ws)) feeds)
    ∙ sym (append_assoc here front (all_on (line_after (feeds + line_feeds (w ++ joined (but_last (v ∷ ws))))) last)))

-- all parts of a text, by the last
pub all-split : (p : List ℕ) → placed_parts 0 (parts p) ≡ placed_parts 0 (but_last (parts p)) ++ all_on (line_past (but_last (parts p))) (readings_of (tail p))
all-split p =
    let front = line_feeds (joined (but_last (parts p))) in
    let same : 0 + front ≡ front = omega arith in
    placed-split 0 (parts p) ∙ ap (λ n. placed_parts 0 (but_last (parts p)) ++ all_on (line_after n) (readings_of (tail p))) same

split-last : (w : List ℕ) (ws : List (List ℕ)) → w ∷ ws ≡ but_last (w ∷ ws) ++ last_part (w ∷ ws) ∷ []
split-last w [] = refl
split-last w (v ∷ ws) = ap (λ more. w ∷ more) (split-last v ws)

joined-split : (ws : List (List ℕ)) → joined (but_last ws) ++ last_part ws ≡ joined ws
joined-split [] = refl
joined-split (w ∷ []) = sym (append-nil w)
joined-split (w ∷ v ∷ ws) = append_assoc w (joined (but_last (v ∷ ws))) (last_part (v ∷ ws)) ∙ ap (λ it. w ++ it) (joined-split (v ∷ ws))

together : (p : List ℕ) → joined (parts p) ≡ p
unfolding parts
together p = joined-cut part_takes p

-- what stands before the last part
front-is : (p : List ℕ) → joined (but_last (parts p)) ++ tail p ≡ p
front-is p = joined-split (parts p) ∙ together p

before-front : (p q : List ℕ) → q ++ rest p ≡ p → before_open p ≡ q
unfolding before_open
before-front p q is =
    let long : length p ≡ length q + length (rest p) = sym (ap length is) ∙ length-append q (rest p) in
    let front : length p - length (rest p) ≡ length q = omega (arith, long) in
    ap (λ n. take n p) front ∙ (ap (take (length q)) (sym is) ∙ take-append_seam q (rest p))

-- where an item is open, it begins on the line that follows the parts before it
pub line-open : (p : List ℕ) → is_open (tail p) ≡ true → open_line p ≡ line_past (but_last (parts p))
line-open p h =
    let kept : rest p ≡ tail p = rest-tail p ∙ open_bytes-open (tail p) h in
    ap (λ it. line_after (line_feeds it)) (before-front p (joined (but_last (parts p))) (ap (λ it. joined (but_last (parts p)) ++ it) kept ∙ front-is p))

-- and where none is, that is the line after the text
pub line-shut : (p : List ℕ) → is_open (tail p) ≡ false → open_line p ≡ line_past (parts p)
line-shut p h =
    let kept : rest p ≡ [] = rest-tail p ∙ open_bytes-ended (tail p) h in
    ap (λ it. line_after (line_feeds it)) (before-front p p (ap (λ it. p ++ it) kept ∙ append-nil p) ∙ sym (together p))

line-parts : (p : List ℕ) → line_past (parts p) ≡ line_after (line_feeds (joined (but_last (parts p))) + line_feeds (tail p))
line-parts p = ap line_after (ap line_feeds (sym (joined-split (parts p))) ∙ feeds-append (joined (but_last (parts p))) (tail p))

-- a word has no line feed
no-feed : (b : ℕ) → is_delimiter b ≡ false → (b == 10) ≡ false
no-feed b h = elim (cases_Bool (b == 10)) [
  | inl e ↦
      let P : ℕ → Type 0 = λ it. is_delimiter it ≡ false in
      let ten : is_delimiter 10 ≡ false = subst P (eqb-true b 10 e) h in absurd (true≢false ten)
  | inr e ↦ e
]

-- all that the part took after its first byte
abbrev TookAll : List ℕ → Type 0
TookAll [] = Unit {0}
TookAll (c ∷ cs) = TakesAll part_takes (c ∷ []) cs

last-took : (ws : List (List ℕ)) → AreCut part_takes ws → TookAll (last_part ws)
last-took [] h = tt
last-took ([] ∷ ws) h = absurd h
last-took ((c ∷ cs) ∷ []) h = h.0
last-took ((c ∷ cs) ∷ v ∷ ws) h = last-took (v ∷ ws) h.2

tail-took : (p : List ℕ) → TookAll (tail p)
unfolding parts
tail-took p = last-took (parts p) (are_cut-cut part_takes p)

not-true : (t : Bool) → not t ≡ true → t ≡ false
not-true true h = absurd (false≢true h)
not-true false h = refl

-- a part that begins like a word takes what is in a word
record IsWordStart (c : ℕ) : Type 0 where
  list : (c == 40) ≡ false
  comment : (c == 59) ≡ false
  string : (c == 34) ≡ false
  single : is_single c ≡ false

takes-word : (c : ℕ) (cs : List ℕ) (b : ℕ) → IsWordStart c → part_takes (c ∷ cs) b ≡ not (is_delimiter b)
takes-word c cs b start =
    let w = c ∷ cs in
    ap (λ t. if t then is_open_list w else piece_takes w b) start.list
    ∙ (ap (λ t. if t then not (is_line_end b) else (if c == 34 then is_unclosed cs else (if is_single c then false else not (is_delimiter b)))) start.comment
    ∙ (ap (λ t. if t then is_unclosed cs else (if is_single c then false else not (is_delimiter b))) start.string
    ∙ ap (λ t. if t then false else not (is_delimiter b)) start.single))

word-takes : (c : ℕ) (cs : List ℕ) (b : ℕ) → IsWordStart c → part_takes (c ∷ cs) b ≡ true → is_delimiter b ≡ false
word-takes c cs b start h = not-true (is_delimiter b) (sym (takes-word c cs b start) ∙ h)

more-feeds : (b : ℕ) (bs : List ℕ) → (b == 10) ≡ false → line_feeds bs ≡ 0 → line_feeds (b ∷ bs) ≡ 0
more-feeds b bs none h =
    let one : line_feeds (b ∷ []) ≡ 0 = rw none refl in
    let both = feeds-append (b ∷ []) bs in omega (arith, one, both, h)

word-feeds_from : (c : ℕ) (cs bs : List ℕ) → IsWordStart c → TakesAll part_takes (c ∷ cs) bs → line_feeds bs ≡ 0
word-feeds_from c cs [] start h = refl
word-feeds_from c cs (b ∷ bs) start h = more-feeds b bs (no-feed b (word-takes c cs b start h.0)) (word-feeds_from c (cs ++ b ∷ []) bs start h.1)

start-feeds : (c : ℕ) → is_single c ≡ false → (c == 10) ≡ false
start-feeds c h = elim (cases_Bool (c == 10)) [
  | inl e ↦
      let P : ℕ → Type 0 = λ it. is_single it ≡ false in
      let ten : is_single 10 ≡ false = subst P (eqb-true c 10 e) h in absurd (true≢false ten)
  | inr e ↦ e
]

open-list : (c : ℕ) (cs : List ℕ) (b : ℕ) → (c == 40) ≡ true → is_open (c ∷ cs) ≡ part_takes (c ∷ cs) b
open-list c cs b e =
    let w = c ∷ cs in
    ap (λ t. if t then is_open_list w else (if c == 34 then is_unclosed cs else not (is_single c || c == 59))) e ∙ sym (ap (λ t. if t then is_open_list w else piece_takes w b) e)

open-string : (c : ℕ) (cs : List ℕ) (b : ℕ) → c ≡ 34 → is_open (c ∷ cs) ≡ part_takes (c ∷ cs) b
open-string c cs b e = rw e refl

open-word : (c : ℕ) (cs : List ℕ) → (c == 40) ≡ false → (c == 34) ≡ false → is_open (c ∷ cs) ≡ not (is_single c || c == 59)
open-word c cs e f =
    ap (λ t. if t then is_open_list (c ∷ cs) else (if c == 34 then is_unclosed cs else not (is_single c || c == 59))) e
    ∙ ap (λ t. if t then is_unclosed cs else not (is_single c || c == 59)) f

word-start : (c : ℕ) (cs : List ℕ) (b : ℕ) → is_open (c ∷ cs) ≡ true → part_takes (c ∷ cs) b ≡ false → IsWordStart c
word-start c cs b o ends = elim (cases_Bool (c == 40)) [
  | inl e ↦ absurd (true≢false (sym o ∙ (open-list c cs b e ∙ ends)))
  | inr e ↦ elim (cases_Bool (c == 34)) [
    | inl f ↦ absurd (true≢false (sym o ∙ (open-string c cs b (eqb-true c 34 f) ∙ ends)))
    | inr f ↦
        let none = or_parts (is_single c) (c == 59) (not-true (is_single c || c == 59) (sym (open-word c cs e f) ∙ o)) in
        record { list = e; comment = none.1; string = f; single = none.0 }
  ]
]

pub word-feeds : (w : List ℕ) (b : ℕ) → TookAll w → is_open w ≡ true → part_takes w b ≡ false → line_feeds w ≡ 0
word-feeds [] b took o ends = refl
word-feeds (c ∷ cs) b took o ends =
    let start = word-start c cs b o ends in
    more-feeds c cs (start-feeds c start.single) (word-feeds_from c [] cs start took)

front-push : (p : List ℕ) (b : ℕ) → but_last (parts (p ++ b ∷ [])) ≡ (if part_takes (tail p) b then but_last (parts p) else parts p)
front-push p b = ap but_last (parts-push p b) ∙ but_last-pushed part_takes (λ _. refl) (parts p) b

pub placed-is : (p : List ℕ) → placed_whole p ≡ placed_parts 0 (but_last (parts p)) ++ all_on (line_past (but_last (parts p))) (ended_readings (tail p))
unfolding placed_whole
placed-is p = refl

-- what the open part says, on the line on which it begins
comment-says : (w : List ℕ) → begins_with 59 w ≡ true → ended_readings w ≡ []
comment-says [] h = absurd (false≢true h)
comment-says (c ∷ cs) h =
    let P : ℕ → Type 0 = λ it. ended_readings (it ∷ cs) ≡ [] in
    subst P (sym (eqb-true c 59 h)) refl

pub comment-grown : (w : List ℕ) (b : ℕ) → begins_with 59 w ≡ true → begins_with 59 (w ++ b ∷ []) ≡ true
comment-grown [] b h = absurd (false≢true h)
comment-grown (c ∷ cs) b h = h

placed-taken : (p : List ℕ) (b : ℕ) → part_takes (tail p) b ≡ true → placed_whole (p ++ b ∷ []) ≡ placed_whole p ++ all_on (open_line p) (ended_readings (tail p ++ b ∷ []))
placed-taken p b h =
    let front = but_last (parts p) in
    let grown_part = tail p ++ b ∷ [] in
    let front_is : but_last (parts (p ++ b ∷ [])) ≡ front = front-push p b ∙ ap (λ t. if t then but_last (parts p) else parts p) h in
    let last_is : tail (p ++ b ∷ []) ≡ grown_part = tail-push p b ∙ ap (λ t. if t then tail p ++ b ∷ [] else b ∷ []) h in
    let now : placed_whole (p ++ b ∷ []) ≡ placed_parts 0 front ++ all_on (line_past front) (ended_readings grown_part) =
    placed-is (p ++ b ∷ []) ∙ ap₂ (λ ws w. placed_parts 0 ws ++ all_on (line_past ws) (ended_readings w)) front_is last_is in
    let was : placed_whole p ≡ placed_parts 0 front = placed-is p ∙ (ap (λ rs. placed_parts 0 front ++ all_on (line_past front) rs) (taken-says (tail p) b h) ∙ append-nil (placed_parts 0 front)) in
    let line : all_on (line_past front) (ended_readings grown_part) ≡ all_on (open_line p) (ended_readings grown_part) = elim (cases_Bool (is_open (tail p))) [
      | inl o ↦ ap (λ n. all_on n (ended_readings grown_part)) (sym (line-open p o))
      | inr o ↦
          let none : ended_readings grown_part ≡ [] = comment-says grown_part (comment-grown (tail p) b (goes-comment (tail p) b h o)) in
          ap (all_on (line_past front)) none ∙ sym (ap (all_on (open_line p)) none)
    ] in
    now ∙ (ap (λ it. placed_parts 0 front ++ it) line ∙ ap (λ it. it ++ all_on (open_line p) (ended_readings grown_part)) (sym was))

says-open : (w : List ℕ) → is_open w ≡ true → (ended_readings w ≡ []) × (opened_readings w ≡ readings_of w)
says-open w o = (ap (λ t. if t then [] else readings_of w) o, ap (λ t. if t then readings_of w else []) o)

says-shut : (w : List ℕ) → is_open w ≡ false → (ended_readings w ≡ readings_of w) × (opened_readings w ≡ [])
says-shut w o = (ap (λ t. if t then [] else readings_of w) o, ap (λ t. if t then readings_of w else []) o)

-- the items of a text are those that have ended and the open one, which begins on its line
pub placed-all : (p : List ℕ) → placed_parts 0 (parts p) ≡ placed_whole p ++ all_on (open_line p) (opened_readings (tail p))
placed-all p =
    let front = but_last (parts p) in
    let w = tail p in
    let here = placed_parts 0 front in
    elim (cases_Bool (is_open w)) [
      | inl o ↦
          let says = says-open w o in
          let was : placed_whole p ≡ here = placed-is p ∙ (ap (λ rs. here ++ all_on (line_past front) rs) says.0 ∙ append-nil here) in
          all-split p ∙ (ap₂ (λ n rs. here ++ all_on n rs) (sym (line-open p o)) (sym says.1) ∙ ap (λ it. it ++ all_on (open_line p) (opened_readings w)) (sym was))
      | inr o ↦
          let says = says-shut w o in
          all-split p ∙ (ap (λ rs. here ++ all_on (line_past front) rs) (sym says.0) ∙ (sym (placed-is p)
          ∙ (sym (append-nil (placed_whole p)) ∙ ap (λ rs. placed_whole p ++ all_on (open_line p) rs) (sym says.1))))
    ]

-- a byte that begins a part is on the line of the open item, which is a word
line-fresh : (p : List ℕ) (b : ℕ) → part_takes (tail p) b ≡ false → line_past (parts p) ≡ open_line p
line-fresh p b h = elim (cases_Bool (is_open (tail p))) [
  | inl o ↦
      let none = word-feeds (tail p) b (tail-took p) o h in
      let front = line_feeds (joined (but_last (parts p))) in
      let same : front + line_feeds (tail p) ≡ front = omega (arith, none) in
      line-parts p ∙ (ap line_after same ∙ sym (line-open p o))
  | inr o ↦ sym (line-shut p o)
]

placed-fresh : (p : List ℕ) (b : ℕ) → part_takes (tail p) b ≡ false → placed_whole (p ++ b ∷ []) ≡ placed_whole p ++ all_on (open_line p) (opened_readings (tail p) ++ ended_readings (b ∷ []))
placed-fresh p b h =
    let front_is : but_last (parts (p ++ b ∷ [])) ≡ parts p = front-push p b ∙ ap (λ t. if t then but_last (parts p) else parts p) h in
    let last_is : tail (p ++ b ∷ []) ≡ b ∷ [] = tail-push p b ∙ ap (λ t. if t then tail p ++ b ∷ [] else b ∷ []) h in
    let one = all_on (open_line p) (opened_readings (tail p)) in
    let two = all_on (open_line p) (ended_readings (b ∷ [])) in
    placed-is (p ++ b ∷ []) ∙ (ap₂ (λ ws w. placed_parts 0 ws ++ all_on (line_past ws) (ended_readings w)) front_is last_is
    ∙ (ap₂ (λ it n. it ++ all_on n (ended_readings (b ∷ []))) (placed-all p) (line-fresh p b h)
    ∙ (append_assoc (placed_whole p) one two ∙ ap (λ it. placed_whole p ++ it) (sym (all_on-append (open_line p) (opened_readings (tail p)) (ended_readings (b ∷ [])))))))

-- What a byte completes begins on the line of the open item.
pub placed-push : (p : List ℕ) (b : ℕ) (rs : List Reading) → whole (p ++ b ∷ []) ≡ whole p ++ rs → placed_whole (p ++ b ∷ []) ≡ placed_whole p ++ all_on (open_line p) rs
placed-push p b rs is = elim (cases_Bool (part_takes (tail p) b)) [
  | inl e ↦
      let same : ended_readings (tail p ++ b ∷ []) ≡ rs = append_cancel_left (whole p) (ended_readings (tail p ++ b ∷ [])) rs (sym (whole-taken p b e) ∙ is) in
      placed-taken p b e ∙ ap (λ it. placed_whole p ++ all_on (open_line p) it) same
  | inr e ↦
      let same : opened_readings (tail p) ++ ended_readings (b ∷ []) ≡ rs = append_cancel_left (whole p) (opened_readings (tail p) ++ ended_readings (b ∷ [])) rs (sym (whole-fresh p b e) ∙ is) in
      placed-fresh p b e ∙ ap (λ it. placed_whole p ++ all_on (open_line p) it) same
]

-- lists that begin alike
pub record Starts (some all : List (ℕ × Reading)) : Type 0 where
  pub more : List (ℕ × Reading)
  pub is : all ≡ some ++ more

pub starts-then : (a b c : List (ℕ × Reading)) → Starts a b → Starts b c → Starts a c
starts-then a b c f g = record { more = f.more ++ g.more; is = g.is ∙ (ap (λ it. it ++ g.more) f.is ∙ append_assoc a f.more g.more) }

pub one-more : (p : List ℕ) (b : ℕ) → Starts (placed_whole p) (placed_whole (p ++ b ∷ []))
one-more p b = elim (cases_Bool (part_takes (tail p) b)) [
  | inl e ↦ record { more = all_on (open_line p) (ended_readings (tail p ++ b ∷ [])); is = placed-taken p b e }
  | inr e ↦ record { more = all_on (open_line p) (opened_readings (tail p) ++ ended_readings (b ∷ [])); is = placed-fresh p b e }
]

-- what has ended stays, on its lines
pub placed-grows : (p r : List ℕ) → Starts (placed_whole p) (placed_whole (p ++ r))
placed-grows p [] = record { more = []; is = ap placed_whole (append-nil p) ∙ sym (append-nil (placed_whole p)) }
placed-grows p (b ∷ r) =
    let P : List ℕ → Type 0 = λ s. Starts (placed_whole p) (placed_whole s) in
    subst P (append_assoc p (b ∷ []) r) (starts-then (placed_whole p) (placed_whole (p ++ b ∷ [])) (placed_whole ((p ++ b ∷ []) ++ r)) (one-more p b) (placed-grows (p ++ b ∷ []) r))

no-items : (xs : List (ℕ × Reading)) → without_lines xs ≡ [] → xs ≡ []
no-items [] h = refl
no-items (x ∷ xs) h = absurd (cc)

-- bytes that complete nothing
pub placed-run : (p q : List ℕ) → whole (p ++ q) ≡ whole p → placed_whole (p ++ q) ≡ placed_whole p
placed-run p q same =
    let grows = placed-grows p q in
    let readings : whole p ++ without_lines grows.more ≡ whole p ++ [] =
    ap (λ it. it ++ without_lines grows.more) (sym (whole-readings p)) ∙ (sym (without-append (placed_whole p) grows.more) ∙ (ap without_lines (sym grows.is) ∙ (whole-readings (p ++ q) ∙ (same ∙ sym (append-nil (whole p)))))) in
    let none : grows.more ≡ [] = no-items grows.more (append_cancel_left (whole p) (without_lines grows.more) [] readings) in
    grows.is ∙ (ap (λ it. placed_whole p ++ it) none ∙ append-nil (placed_whole p))
