-- Texts that values are shown as, read again.
use Rattle.std.proofs.Common.{arith, ◌≡◌, ◌∙◌, ◌+◌, ◌-◌, ◌*◌, ◌<◌, ◌==◌, ◌&&◌, ◌||◌, ◌^◌, Bool, true, false, not, ℕ, ℤ, pos, negsuc, zero, suc, List, [], ◌∷◌, ◌++◌, Ok, Err, ap, refl, sym, subst}
use Rattle.std.proofs.lemmas.Bool.{le-leb, ltb-true}
use Rattle.std.proofs.lemmas.Fmt.{decimal_is_IsNumeral, digits_decimal, digits_value-decimal}
use Rattle.std.proofs.lemmas.List.{append-nil, append_assoc}
use Rattle.std.proofs.lemmas.Str.Parse.{FoldsDigits, IsDigitsTest, IsNumeralModel, numerals_by_fold}
use Rattle.std.specs.Bool.{⊤}
use Rattle.std.specs.Fmt.{decimal}
use Rattle.std.specs.Int.{IsInRange}
use Rattle.std.specs.List.{flat_map, fold, list_all}
use Rattle.std.specs.Prelude.{if◌then◌else◌, length, nat_le, nat_lt, neg_ℤ}
use Rattle.cb_eval.specs.Arithmetic.{fits_64_bits}
use Rattle.cb_facts.specs.Texts.{between_quotes, escaped_byte, quoted_bytes}
use Rattle.cb_facts.specs.declared.value.Value.TheVariants as value
use Rattle.cb_forms.specs.Bytes.{is_blank, is_connective, is_delimiter, is_digit, is_single, ampersand, bar, closing, dollar, minus, opening, plus, question_mark, quote, semicolon, tilde}
use Rattle.cb_forms.specs.Cutting.{AreCut, TakesAll}
use Rattle.cb_forms.specs.Items.{atom_reading, items, part_takes, piece_readings, readings_of}
use Rattle.cb_forms.specs.Pieces.{lexeme_of, piece_takes}
use Rattle.cb_forms.specs.Strings.{escaped_content_of, is_unclosed, is_unclosed_escaped, string_content}
use Rattle.cb_forms.specs.Trees.{Reading, atom}
use Rattle.cb_forms.specs.Words.{after_digits, digits_value, integer_token, is_digits, is_empty, spells_integer, plain_token, token_of, without_sign}
use Rattle.cb_forms.proofs.ReadingLaws.{reads-one}
use Rattle.cb_forms.specs.declared.fault.Fault.TheVariants.{FormNotClosed, IntegerOutOfRange}
use Rattle.cb_forms.specs.declared.token.Token.TheVariants as token
use Rattle.cb_laws.specs.Words.{is_word}

abbrev in_case : {X : Type 0} → Bool → X → X → X
in_case t x y = if t then x else y

no : {X : Type 0} (t : Bool) (x y : X) → t ≡ false → in_case t x y ≡ y
no true x y e = let never : true ≡ false = e in cc
no false x y e = refl

-- a text that is one part
one-part : (w : List ℕ) (r : Reading) → AreCut part_takes (w ∷ []) → readings_of w ≡ r ∷ [] → items w ≡ r ∷ []
one-part w r cut e =
    sym (reads-one w (r ∷ []) (w ∷ [], record { together = append-nil w; each = cut }, sym (append-nil (readings_of w) ∙ e)))

-- the bytes close no string, whatever follows
abbrev Through : List ℕ → Type 0
Through done = (ys : List ℕ) → is_unclosed (done ++ ys) ≡ is_unclosed ys

unclosed-so-far : (done : List ℕ) → Through done → is_unclosed done ≡ true
unclosed-so-far done h = ap is_unclosed (sym (append-nil done)) ∙ h []

escaped-two : (b : ℕ) → (b == 34 || b == 92) ≡ true → escaped_byte b ≡ 92 ∷ b ∷ []
escaped-two b e = ap (λ t. in_case t (92 ∷ b ∷ []) (b ∷ [])) e

escaped-one : (b : ℕ) → (b == 34 || b == 92) ≡ false → escaped_byte b ≡ b ∷ []
escaped-one b e = ap (λ t. in_case t (92 ∷ b ∷ []) (b ∷ [])) e

neither : (s t : Bool) → s || t ≡ false → (s ≡ false) × (t ≡ false)
neither true t e = let never : true ≡ false = e in cc
neither false t e = (refl, e)

plain-byte : (b : ℕ) (ys : List ℕ) → (b == 34 || b == 92) ≡ false → is_unclosed (b ∷ ys) ≡ is_unclosed ys
plain-byte b ys e =
    let w = neither (b == 34) (b == 92) e in
    no (b == 34) false (in_case (b == 92) (is_unclosed_escaped ys) (is_unclosed ys)) w.0 ∙ no (b == 92) (is_unclosed_escaped ys) (is_unclosed ys) w.1

abbrev Rest : List ℕ → List ℕ
Rest bs = flat_map escaped_byte bs ++ 34 ∷ []

taken-more : (b : ℕ) (bs done : List ℕ) (t : Bool) → (b == 34 || b == 92) ≡ t → Through done
    → ((d : List ℕ) → Through d → TakesAll part_takes (34 ∷ d) (Rest bs)) → TakesAll part_takes (34 ∷ done) (Rest (b ∷ bs))
taken-more b bs done true e h ih =
    subst (λ x. TakesAll part_takes (34 ∷ done) ((x ++ flat_map escaped_byte bs) ++ 34 ∷ [])) (sym (escaped-two b e))
    (unclosed-so-far done h, (h (92 ∷ []), ih ((done ++ 92 ∷ []) ++ b ∷ []) (λ ys. ap is_unclosed (append_assoc (done ++ 92 ∷ []) (b ∷ []) ys ∙ append_assoc done (92 ∷ []) (b ∷ ys)) ∙ h (92 ∷ b ∷ ys))))
taken-more b bs done false e h ih =
    subst (λ x. TakesAll part_takes (34 ∷ done) ((x ++ flat_map escaped_byte bs) ++ 34 ∷ [])) (sym (escaped-one b e))
    (unclosed-so-far done h, ih (done ++ b ∷ []) (λ ys. ap is_unclosed (append_assoc done (b ∷ []) ys) ∙ (h (b ∷ ys) ∙ plain-byte b ys e)))

taken : (bs done : List ℕ) → Through done → TakesAll part_takes (34 ∷ done) (Rest bs)
taken [] done h = (unclosed-so-far done h, tt)
taken (b ∷ bs) done h = taken-more b bs done (b == 34 || b == 92) refl h (taken bs)

closed-more : (b : ℕ) (bs : List ℕ) (t : Bool) → (b == 34 || b == 92) ≡ t → is_unclosed (Rest (b ∷ bs)) ≡ is_unclosed (Rest bs)
closed-more b bs true e = ap (λ x. is_unclosed ((x ++ flat_map escaped_byte bs) ++ 34 ∷ [])) (escaped-two b e)
closed-more b bs false e = ap (λ x. is_unclosed ((x ++ flat_map escaped_byte bs) ++ 34 ∷ [])) (escaped-one b e) ∙ plain-byte b (Rest bs) e

closed : (bs : List ℕ) → is_unclosed (Rest bs) ≡ false
closed [] = refl
closed (b ∷ bs) = closed-more b bs (b == 34 || b == 92) refl ∙ closed bs

content-more : (b : ℕ) (bs : List ℕ) (t : Bool) → (b == 34 || b == 92) ≡ t → string_content (Rest (b ∷ bs)) ≡ b ∷ string_content (Rest bs)
content-more b bs true e = ap (λ x. string_content ((x ++ flat_map escaped_byte bs) ++ 34 ∷ [])) (escaped-two b e)
content-more b bs false e =
    let w = neither (b == 34) (b == 92) e in
    ap (λ x. string_content ((x ++ flat_map escaped_byte bs) ++ 34 ∷ [])) (escaped-one b e) ∙ (no (b == 34) [] (in_case (b == 92) (escaped_content_of (Rest bs)) (b ∷ string_content (Rest bs))) w.0
    ∙ no (b == 92) (escaped_content_of (Rest bs)) (b ∷ string_content (Rest bs)) w.1)

content : (bs : List ℕ) → string_content (Rest bs) ≡ bs
content [] = refl
content (b ∷ bs) = content-more b bs (b == 34 || b == 92) refl ∙ ap (λ xs. b ∷ xs) (content bs)

pub string-read : (bs : List ℕ) → items (quoted_bytes (value.Str bs)) ≡ Ok (atom (token.Str bs)) ∷ []
string-read bs =
    one-part (between_quotes bs) (Ok (atom (token.Str bs))) (taken bs [] (λ ys. refl), tt, tt)
    (ap (λ t. atom_reading (in_case t (Err FormNotClosed) (Ok (token.Str (string_content (Rest bs))))) ∷ []) (closed bs) ∙ ap (λ xs. Ok (atom (token.Str xs)) ∷ []) (content bs))

-- words

record BeginsWord (c : ℕ) : Type 0 where
  single : is_single c ≡ false
  blank : is_blank c ≡ false
  opens : (c == opening) ≡ false
  closes : (c == closing) ≡ false
  and : (c == ampersand) ≡ false
  or : (c == bar) ≡ false
  opposite : (c == tilde) ≡ false
  string : (c == quote) ≡ false
  comment : (c == semicolon) ≡ false

begins-word : (c : ℕ) → (is_single c || (c == quote || c == semicolon)) ≡ false → BeginsWord c
begins-word c e =
    let a = neither (is_single c) (c == quote || c == semicolon) e in
    let q = neither (c == quote) (c == semicolon) a.1 in
    let s = neither (is_blank c) (c == opening || (c == closing || is_connective c)) a.0 in
    let o = neither (c == opening) (c == closing || is_connective c) s.1 in
    let l = neither (c == closing) (is_connective c) o.1 in
    let n = neither (c == ampersand) (c == bar || c == tilde) l.1 in
    let m = neither (c == bar) (c == tilde) n.1 in
    record { single = a.0; blank = s.0; opens = o.0; closes = l.0; and = n.0; or = m.0; opposite = m.1; string = q.0; comment = q.1 }

takes-word : (c : ℕ) (done : List ℕ) (b : ℕ) → BeginsWord c → part_takes (c ∷ done) b ≡ not (is_delimiter b)
takes-word c done b w =
    no (c == opening) _ (piece_takes (c ∷ done) b) w.opens
    ∙ (no (c == semicolon) _ _ w.comment ∙ (no (c == quote) _ _ w.string ∙ no (is_single c) false (not (is_delimiter b)) w.single))

both-true : (a b : Bool) → a && b ≡ true → (a ≡ true) × (b ≡ true)
both-true true b e = (refl, e)
both-true false b e = let never : false ≡ true = e in cc

word-taken : (c : ℕ) (cs done : List ℕ) → BeginsWord c → list_all (λ b. not (is_delimiter b)) cs ≡ true → TakesAll part_takes (c ∷ done) cs
word-taken c [] done w e = tt
word-taken c (b ∷ bs) done w e =
    let k = both-true (not (is_delimiter b)) (list_all (λ x. not (is_delimiter x)) bs) e in
    (takes-word c done b w ∙ k.0, word-taken c bs (done ++ b ∷ []) w k.1)

or-false : (s t : Bool) → s ≡ false → t ≡ false → s || t ≡ false
or-false s t e d = ap (λ x. x || t) e ∙ d

reading-word : (c : ℕ) (cs : List ℕ) → BeginsWord c → piece_readings (lexeme_of (c ∷ cs)) ≡ atom_reading (token_of (c ∷ cs)) ∷ []
reading-word c cs w =
    ap piece_readings
    (no (is_blank c || c == semicolon) _ _ (or-false (is_blank c) (c == semicolon) w.blank w.comment)
    ∙ (no (c == opening) _ _ w.opens ∙ (no (c == closing) _ _ w.closes ∙ (no (c == ampersand) _ _ w.and ∙ (no (c == bar) _ _ w.or ∙ (no (c == tilde) _ _ w.opposite ∙ no (c == quote) _ _ w.string))))))

word-parts : (c : ℕ) (cs : List ℕ) → BeginsWord c → list_all (λ b. not (is_delimiter b)) cs ≡ true → items (c ∷ cs) ≡ atom_reading (token_of (c ∷ cs)) ∷ []
word-parts c cs w e =
    one-part (c ∷ cs) (atom_reading (token_of (c ∷ cs))) (word-taken c cs [] w e, tt, tt)
    (no (c == opening) _ (piece_readings (lexeme_of (c ∷ cs))) w.opens ∙ reading-word c cs w)

not-true : (t : Bool) → not t ≡ true → t ≡ false
not-true true e = let never : false ≡ true = e in cc
not-true false e = refl

pub word-read : (w : List ℕ) → is_word w ≡ true → items w ≡ atom_reading (token_of w) ∷ []
word-read [] e = let never : false ≡ true = e in cc
word-read (c ∷ cs) e =
    let k = both-true (not (is_single c || (c == quote || c == semicolon))) (list_all (λ b. not (is_delimiter b)) cs) e in
    word-parts c cs (begins-word c (not-true (is_single c || (c == quote || c == semicolon)) k.0)) k.1

pub symbol-read : (bytes : List ℕ) → is_word bytes ≡ true → token_of bytes ≡ Ok (token.Symbol bytes) → items (quoted_bytes (value.Symbol bytes)) ≡ Ok (atom (token.Symbol bytes)) ∷ []
symbol-read bytes w e = word-read bytes w ∙ ap (λ r. atom_reading r ∷ []) e

-- integers

abbrev Digits : List ℕ → Type 0
Digits [] = ⊤
Digits (c ∷ cs) = IsInRange 48 57 c × Digits cs

are-digits : IsDigitsTest Digits
are-digits = record { empty = tt; parts = λ c cs h. h; more = λ c cs r h. (r, h) }

digits-fold : FoldsDigits (λ n ds. fold (λ m d. 10 * m + (d - 48)) n ds)
digits-fold = record { empty = λ n. refl; more = λ n c cs r. ap (λ k. fold (λ m d. 10 * m + (d - 48)) (k + (c - 48)) cs) (omega arith) }

own : IsNumeralModel Digits digits_value
own = numerals_by_fold Digits are-digits (λ n ds. fold (λ m d. 10 * m + (d - 48)) n ds) digits-fold

-- what the kinds of bytes say of a digit
record DigitByte (c : ℕ) : Type 0 where
  begins : not (is_single c || (c == quote || c == semicolon)) ≡ true
  inside : not (is_delimiter c) ≡ true
  digit : is_digit c ≡ true
  no_sign : (c == plus || c == minus) ≡ false
  no_minus : (c == minus) ≡ false
  no_question : (c == question_mark) ≡ false
  no_dollar : (c == dollar) ≡ false

each-digit : (d : ℕ) → d < 10 → DigitByte (48 + d)
each-digit zero h = record { begins = refl; inside = refl; digit = refl; no_sign = refl; no_minus = refl; no_question = refl; no_dollar = refl }
each-digit (suc zero) h = record { begins = refl; inside = refl; digit = refl; no_sign = refl; no_minus = refl; no_question = refl; no_dollar = refl }
each-digit (suc (suc zero)) h = record { begins = refl; inside = refl; digit = refl; no_sign = refl; no_minus = refl; no_question = refl; no_dollar = refl }
each-digit (suc (suc (suc zero))) h = record { begins = refl; inside = refl; digit = refl; no_sign = refl; no_minus = refl; no_question = refl; no_dollar = refl }
each-digit (suc (suc (suc (suc zero)))) h = record { begins = refl; inside = refl; digit = refl; no_sign = refl; no_minus = refl; no_question = refl; no_dollar = refl }
each-digit (suc (suc (suc (suc (suc zero))))) h = record { begins = refl; inside = refl; digit = refl; no_sign = refl; no_minus = refl; no_question = refl; no_dollar = refl }
each-digit (suc (suc (suc (suc (suc (suc zero)))))) h = record { begins = refl; inside = refl; digit = refl; no_sign = refl; no_minus = refl; no_question = refl; no_dollar = refl }
each-digit (suc (suc (suc (suc (suc (suc (suc zero))))))) h = record { begins = refl; inside = refl; digit = refl; no_sign = refl; no_minus = refl; no_question = refl; no_dollar = refl }
each-digit (suc (suc (suc (suc (suc (suc (suc (suc zero)))))))) h = record { begins = refl; inside = refl; digit = refl; no_sign = refl; no_minus = refl; no_question = refl; no_dollar = refl }
each-digit (suc (suc (suc (suc (suc (suc (suc (suc (suc zero))))))))) h = record { begins = refl; inside = refl; digit = refl; no_sign = refl; no_minus = refl; no_question = refl; no_dollar = refl }
each-digit (suc (suc (suc (suc (suc (suc (suc (suc (suc (suc d)))))))))) h = absurd (omega arith)

digit-byte : (c : ℕ) → IsInRange 48 57 c → DigitByte c
digit-byte c r =
    let low = r.0 in
    let high = r.1 in
    let is : 48 + (c - 48) ≡ c = omega arith in
    subst DigitByte is (each-digit (c - 48) (omega arith))

both-are : (a b : Bool) → a ≡ true → b ≡ true → a && b ≡ true
both-are a b e d = ap (λ x. x && b) e ∙ d

inside-word : (ds : List ℕ) → Digits ds → list_all (λ b. not (is_delimiter b)) ds ≡ true
inside-word [] h = refl
inside-word (c ∷ cs) h = both-are (not (is_delimiter c)) (list_all (λ b. not (is_delimiter b)) cs) (DigitByte.inside (digit-byte c h.0)) (inside-word cs h.1)

all-of-them : (ds : List ℕ) → Digits ds → after_digits ds ≡ []
all-of-them [] h = refl
all-of-them (c ∷ cs) h = ap (λ t. in_case t (after_digits cs) (c ∷ cs)) (DigitByte.digit (digit-byte c h.0)) ∙ all-of-them cs h.1

digits-are : (c : ℕ) (cs : List ℕ) → Digits (c ∷ cs) → is_digits (c ∷ cs) ≡ true
digits-are c cs h = both-are (is_digit c) (is_empty (after_digits (c ∷ cs))) (DigitByte.digit (digit-byte c h.0)) (ap is_empty (all-of-them (c ∷ cs) h))

yes : {X : Type 0} (t : Bool) (x y : X) → t ≡ true → in_case t x y ≡ x
yes true x y e = refl
yes false x y e = let never : false ≡ true = e in cc

no-sign : (c : ℕ) (cs : List ℕ) → Digits (c ∷ cs) → without_sign (c ∷ cs) ≡ c ∷ cs
no-sign c cs h = no (c == plus || c == minus) cs (c ∷ cs) (DigitByte.no_sign (digit-byte c h.0))

plain-word : (c : ℕ) (cs : List ℕ) → (c == question_mark) ≡ false → (c == dollar) ≡ false → token_of (c ∷ cs) ≡ plain_token (c ∷ cs)
unfolding token_of
plain-word c cs q d = no (c == question_mark) _ _ q ∙ no (c == dollar) _ (plain_token (c ∷ cs)) d

number-read : (n : ℕ) (ds : List ℕ) → Digits ds → 0 < length ds → digits_value ds ≡ n → nat_lt n (2 ^ 63) ≡ true → items ds ≡ Ok (atom (token.Int (pos n))) ∷ []
number-read n [] h long e small = absurd (omega arith)
number-read n (c ∷ cs) h long e small =
    let b = digit-byte c h.0 in
    word-read (c ∷ cs) (both-are (not (is_single c || (c == quote || c == semicolon))) (list_all (λ x. not (is_delimiter x)) cs) (DigitByte.begins b) (inside-word cs h.1))
    ∙ ap (λ r. atom_reading r ∷ [])
    (plain-word c cs (DigitByte.no_question b) (DigitByte.no_dollar b)
    ∙ (yes (spells_integer (c ∷ cs)) (integer_token (c ∷ cs)) _ (ap is_digits (no-sign c cs h) ∙ digits-are c cs h)
    ∙ (no (c == minus) _ (in_case (nat_lt (digits_value (without_sign (c ∷ cs))) (2 ^ 63)) (Ok (token.Int (pos (digits_value (without_sign (c ∷ cs)))))) (Err IntegerOutOfRange)) (DigitByte.no_minus b)
    ∙ (ap (λ k. in_case (nat_lt k (2 ^ 63)) (Ok (token.Int (pos k))) (Err IntegerOutOfRange)) (ap digits_value (no-sign c cs h) ∙ e)
    ∙ yes (nat_lt n (2 ^ 63)) (Ok (token.Int (pos n))) (Err IntegerOutOfRange) small))))

negative-read : (n : ℕ) (ds : List ℕ) → Digits ds → 0 < length ds → digits_value ds ≡ suc n → nat_le (suc n) (2 ^ 63) ≡ true → items (45 ∷ ds) ≡ Ok (atom (token.Int (negsuc n))) ∷ []
negative-read n [] h long e small = absurd (omega arith)
negative-read n (c ∷ cs) h long e small =
    word-read (45 ∷ c ∷ cs) (inside-word (c ∷ cs) h)
    ∙ ap (λ r. atom_reading r ∷ [])
    (plain-word 45 (c ∷ cs) refl refl
    ∙ (yes (spells_integer (45 ∷ c ∷ cs)) (integer_token (45 ∷ c ∷ cs)) _ (digits-are c cs h)
    ∙ (ap (λ k. in_case (nat_le k (2 ^ 63)) (Ok (token.Int (neg_ℤ (pos k)))) (Err IntegerOutOfRange)) e
    ∙ yes (nat_le (suc n) (2 ^ 63)) (Ok (token.Int (negsuc n))) (Err IntegerOutOfRange) small)))

pub integer-read : (n : ℤ) → fits_64_bits n ≡ true → items (quoted_bytes (value.Int n)) ≡ Ok (atom (token.Int n)) ∷ []
integer-read (pos n) e =
    let lt = ltb-true n (2 ^ 63) e in
    let d = decimal_is_IsNumeral n (omega arith) in
    number-read n (decimal n) (digits_decimal own n (omega arith)) d.0.0 (digits_value-decimal own n (omega arith)) e
integer-read (negsuc n) e =
    let lt = ltb-true n (2 ^ 63) e in
    let d = decimal_is_IsNumeral (suc n) (omega arith) in
    negative-read n (decimal (suc n)) (digits_decimal own (suc n) (omega arith)) d.0.0 (digits_value-decimal own (suc n) (omega arith)) (le-leb (suc n) (2 ^ 63) (omega arith))
