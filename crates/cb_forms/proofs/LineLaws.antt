-- The line on which the open item of a text begins, as the text goes on.
use Rattle.std.proofs.Common.{◌≡◌, ◌==◌, ◌≤◌, ℕ, ◌+◌, ◌-◌, ◌^◌, Bool, true, false, cond, List, [], ◌∷◌, ◌++◌, length, take, min, refl, sym, ap, ◌∙◌, append_assoc, inl, inr, arith, if◌then◌else◌}
use Rattle.std.proofs.lemmas.Bool.{true≢false, false≢true, cases_Bool, eqb-true}
use Rattle.std.proofs.Math.Seq.{take-append_seam}
use Rattle.std.proofs.lemmas.List.{append-nil, length-append}
use Rattle.std.proofs.lemmas.List.Sums.{sum_by-append}
use Rattle.cb_forms.specs.Bytes.{begins_with}
use Rattle.cb_forms.specs.Internal.{line_with}
use Rattle.cb_forms.specs.Internal.Cuts.{open_bytes, part_with}
use Rattle.cb_forms.specs.Internal.OpenParts.{IsKept}
use Rattle.cb_forms.specs.Items.{part_takes, is_open, rest}
use Rattle.cb_forms.specs.Lines.{line_feeds, line_after, before_open, open_line}
use Rattle.cb_forms.specs.declared.open_part.OpenPart.{OpenPart}
use Rattle.cb_forms.proofs.OpenPartLaws.{goes-comment, open_bytes-open, open_bytes-ended}
use Rattle.cb_forms.proofs.PartLaws.{tail, tail-push}
use Rattle.cb_forms.proofs.ReadingLaws.{rest-after}

pub feeds-append : (xs ys : List ℕ) → line_feeds (xs ++ ys) ≡ line_feeds xs + line_feeds ys
feeds-append xs ys = sum_by-append (λ b. cond (b == 10) 1 0) xs ys

-- the bytes that are kept of the last part are the open item
pub rest-tail : (p : List ℕ) → rest p ≡ open_bytes (tail p)
unfolding rest
rest-tail p = refl

before-front : (p q : List ℕ) → q ++ rest p ≡ p → before_open p ≡ q
unfolding before_open
before-front p q is =
    let long : length p ≡ length q + length (rest p) = sym (ap length is) ∙ length-append q (rest p) in
    let front : length p - length (rest p) ≡ length q = omega (arith, long) in
    ap (λ n. take n p) front ∙ (ap (take (length q)) (sym is) ∙ take-append_seam q (rest p))

-- a text is what stands before the open item, and then that item
open-split : (p : List ℕ) → before_open p ++ rest p ≡ p
open-split p =
    let front = rest-after p in
    ap (λ it. it ++ rest p) (before-front p front.0 (sym front.1.together)) ∙ sym front.1.together

feeds-split : (p : List ℕ) → line_feeds (before_open p) + line_feeds (rest p) ≡ line_feeds p
feeds-split p = sym (feeds-append (before_open p) (rest p)) ∙ ap line_feeds (open-split p)

comment-shut : (w : List ℕ) (b : ℕ) → begins_with 59 w ≡ true → is_open (w ++ b ∷ []) ≡ false
comment-shut [] b h = absurd (false≢true h)
comment-shut (c ∷ cs) b h = rw (eqb-true c 59 h) refl

-- a byte more, and no more line feeds in the open item than it adds
kept-byte : (w : List ℕ) (b : ℕ) → line_feeds (open_bytes (part_with w b)) ≤ line_feeds (open_bytes w) + line_feeds (b ∷ [])
kept-byte w b =
    let P : Bool → Type 0 = λ t. part_takes w b ≡ t → line_feeds (open_bytes (if t then w ++ b ∷ [] else b ∷ [])) ≤ line_feeds (open_bytes w) + line_feeds (b ∷ []) in
    let cases : (t : Bool) → P t = λ t. elim t as P [
      | true ↦ λ takes. elim (cases_Bool (is_open (w ++ b ∷ []))) [
        | inl e ↦ elim (cases_Bool (is_open w)) [
          | inl o ↦
              let all = ap line_feeds (open_bytes-open (w ++ b ∷ []) e) ∙ feeds-append w (b ∷ []) in
              let was = ap line_feeds (open_bytes-open w o) in omega (arith, all, was)
          | inr o ↦ absurd (true≢false (sym e ∙ comment-shut w b (goes-comment w b takes o)))
        ]
        | inr e ↦ let none = ap line_feeds (open_bytes-ended (w ++ b ∷ []) e) in omega (arith, none)
      ]
      | false ↦ λ _. elim (cases_Bool (is_open (b ∷ []))) [
        | inl e ↦ let one = ap line_feeds (open_bytes-open (b ∷ []) e) in omega (arith, one)
        | inr e ↦ let none = ap line_feeds (open_bytes-ended (b ∷ []) e) in omega (arith, none)
      ]
    ] in cases (part_takes w b) refl

rest-push : (p : List ℕ) (b : ℕ) → line_feeds (rest (p ++ b ∷ [])) ≤ line_feeds (rest p) + line_feeds (b ∷ [])
rest-push p b =
    let here = kept-byte (tail p) b in
    let was = ap line_feeds (rest-tail p) in
    let now = ap line_feeds (rest-tail (p ++ b ∷ []) ∙ ap open_bytes (tail-push p b)) in omega (arith, here, was, now)

rest-run : (p run : List ℕ) → line_feeds (rest (p ++ run)) ≤ line_feeds (rest p) + line_feeds run
rest-run p [] = let same = ap (λ it. line_feeds (rest it)) (append-nil p) in omega (arith, same)
rest-run p (b ∷ bs) =
    let one = rest-push p b in
    let more = rest-run (p ++ b ∷ []) bs in
    let same = ap (λ it. line_feeds (rest it)) (append_assoc p (b ∷ []) bs) in
    let both = feeds-append (b ∷ []) bs in omega (arith, one, more, same, both)

further : (a x M line : ℕ) → line ≡ min (1 + a) M → min (line + x) M ≡ min (1 + (a + x)) M
further a x M line is = omega (arith, is)

-- how many lines further the open item begins after a run of bytes
pub line-run : (p run : List ℕ) (line : ℕ) → line ≡ open_line p → line_with line (line_feeds (rest p) + line_feeds run - line_feeds (rest (p ++ run))) ≡ open_line (p ++ run)
line-run p run line is =
    let more = line_feeds (rest p) + line_feeds run - line_feeds (rest (p ++ run)) in
    let was = feeds-split p in
    let now = feeds-split (p ++ run) in
    let all = feeds-append p run in
    let low = rest-run p run in
    let same : line_feeds (before_open (p ++ run)) ≡ line_feeds (before_open p) + more = omega (arith, was, now, all, low) in
    further (line_feeds (before_open p)) more (2 ^ 64 - 1) line is ∙ ap line_after (sym same)

-- the same of what is kept of the item
pub line-kept : (p run : List ℕ) (line : ℕ) (old new : OpenPart) → line ≡ open_line p → IsKept old → old.spelled.items ≡ tail p → IsKept new → new.spelled.items ≡ tail (p ++ run) → line_with line (line_feeds old.bytes + line_feeds run - line_feeds new.bytes) ≡ open_line (p ++ run)
line-kept p run line old new is kept spelled kept' spelled' =
    let was : old.bytes ≡ rest p = kept.bytes_are ∙ (ap open_bytes spelled ∙ sym (rest-tail p)) in
    let now : new.bytes ≡ rest (p ++ run) = kept'.bytes_are ∙ (ap open_bytes spelled' ∙ sym (rest-tail (p ++ run))) in
    ap (λ it. line_with line (line_feeds it + line_feeds run - line_feeds new.bytes)) was ∙ (ap (λ it. line_with line (line_feeds (rest p) + line_feeds run - line_feeds it)) now ∙ line-run p run line is)
