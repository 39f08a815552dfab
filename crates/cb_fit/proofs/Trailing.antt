-- What a look at the constants after the last segment rules out.
use Rattle.std.proofs.Common.{arith, ◌≡◌, ◌∙◌, ◌++◌, ◌+◌, ◌-◌, ◌<◌, ◌≤◌, ◌==◌, Bool, true, false, List, ℕ, zero, suc, [], ◌∷◌, ap, drop, length, map, leb, nat_le, nat_lt, refl, subst, sym, take}
use Rattle.std.proofs.lemmas.Bool.{eqb-true, leb-false, leb-true, lt-ltb}
use Rattle.std.proofs.lemmas.List.{append-nil, drop-drop, length-drop, length-map, take-append-drop}
use Rattle.std.specs.List.{drop-map}
use Rattle.std.specs.Prelude.{if◌then◌else◌}
use Rattle.cb_constraints.specs.Constraints.{Constraint, constraint_of}
use Rattle.cb_constraints.specs.Rows.{after_segments, fields_wanted, segments_wanted}
use Rattle.cb_constraints.specs.declared.constraint.Constraint as program
use Rattle.cb_exprs.specs.Bindings.{Bindings}
use Rattle.cb_facts.specs.declared.single.Single.{Single}
use Rattle.cb_fit.proofs.Groups.{leading-none}
use Rattle.cb_fit.proofs.Numbers.{nothing-of-all}
use Rattle.cb_fit.proofs.Rows.{all-of-ones, nothing-follows, others-are-ones, shorter, step, too-short}
use Rattle.cb_fit.proofs.Splits.{ones-want}
use Rattle.cb_fit.proofs.Takes.{nothing-taken}
use Rattle.cb_fit.specs.Internal.{after_last, are_ones, may_take, may_take_back, takes_length}
use Rattle.cb_fit.specs.Ways.{ways_of_row, with_length}

some-segment : (n : ℕ) → 0 < n → nat_lt 0 n ≡ true
some-segment n h = lt-ltb 0 n h

-- how many they are
within-fields : (cs : List Constraint) → after_segments cs ≤ fields_wanted cs
within-fields [] = omega arith
within-fields (c ∷ cs) = by c.segment (segments_wanted cs) (after_segments cs) (fields_wanted cs) (within-fields cs)
  where
    no-more : (a f : ℕ) → a ≤ f → 0 + a ≤ 0 + f
    no-more a f h = omega arith

    one-more : (a f : ℕ) → a ≤ f → 1 + a ≤ 1 + f
    one-more a f h = omega arith

    one-less : (a f : ℕ) → a ≤ f → 0 + a ≤ 1 + f
    one-less a f h = omega arith

    by : (segment : Bool) (n a f : ℕ) → a ≤ f → (if nat_lt 0 ((if segment then 1 else 0) + n) then 0 else 1) + a ≤ (if segment then 0 else 1) + f
    by true n a f h = subst (λ b. (if b then 0 else 1) + a ≤ 0 + f) (sym (some-segment (1 + n) (omega arith))) (no-more a f h)
    by false zero a f h = one-more a f h
    by false (suc n) a f h = subst (λ b. (if b then 0 else 1) + a ≤ 1 + f) (sym (some-segment (0 + suc n) (omega arith))) (one-less a f h)

fields-within : (cs : List Constraint) → fields_wanted cs ≤ length cs
fields-within [] = omega arith
fields-within (c ∷ cs) = by c.segment (fields_wanted cs) (length cs) (fields-within cs)
  where
    by : (segment : Bool) (f n : ℕ) → f ≤ n → (if segment then 0 else 1) + f ≤ suc n
    by true f n h = omega arith
    by false f n h = omega arith

within-row : (cs : List Constraint) → after_segments cs ≤ length cs
within-row cs = omega (arith, within-fields cs, fields-within cs)

length-last : (cs : List Constraint) → length (after_last cs) ≡ after_segments cs
length-last cs = length-drop (length cs - after_segments cs) cs ∙ by (length cs) (after_segments cs) (within-row cs)
  where
    by : (n a : ℕ) → a ≤ n → n - (n - a) ≡ a
    by n a h = omega arith

-- none of them takes a segment
ones-dropped : (k : ℕ) (cs : List Constraint) → segments_wanted cs ≡ 0 → segments_wanted (drop k cs) ≡ 0
ones-dropped zero cs e = e
ones-dropped (suc k) [] e = e
ones-dropped (suc k) (c ∷ cs) e = ones-dropped k cs (others-are-ones c.segment (segments_wanted cs) e)

last-ones : (cs : List Constraint) → segments_wanted (after_last cs) ≡ 0
last-ones [] = refl
last-ones (c ∷ cs) = by (segments_wanted (c ∷ cs)) refl (last-ones cs)
  where
    one-more : (n a : ℕ) → a ≤ n → suc n - (0 + a) ≡ suc (n - a)
    one-more n a h = omega arith

    by : (n : ℕ) → segments_wanted (c ∷ cs) ≡ n → segments_wanted (after_last cs) ≡ 0 → segments_wanted (drop (suc (length cs) - ((if nat_lt 0 n then 0 else 1) + after_segments cs)) (c ∷ cs)) ≡ 0
    by zero e h = ones-dropped (suc (length cs) - (1 + after_segments cs)) (c ∷ cs) e
    by (suc n) e h =
        ap (λ b. segments_wanted (drop (suc (length cs) - ((if b then 0 else 1) + after_segments cs)) (c ∷ cs))) (some-segment (suc n) (omega arith))
        ∙ (ap (λ k. segments_wanted (drop k (c ∷ cs))) (one-more (length cs) (after_segments cs) (within-row cs)) ∙ h)

-- no way has other fields at the end
wanted-after : (rs ts : List Constraint) → segments_wanted ts ≡ 0 → length ts ≤ fields_wanted (rs ++ ts)
wanted-after [] ts o = by (ap fields_wanted (sym (append-nil ts)) ∙ ones-want ts [] o)
  where
    by : fields_wanted ts ≡ length ts + 0 → length ts ≤ fields_wanted ts
    by e = omega (arith, e)
wanted-after (r ∷ rs) ts o = by r.segment (wanted-after rs ts o)
  where
    by : (segment : Bool) → length ts ≤ fields_wanted (rs ++ ts) → length ts ≤ (if segment then 0 else 1) + fields_wanted (rs ++ ts)
    by true h = omega arith
    by false h = omega arith

never-alone : (ts : List Constraint) (fs : List Single) (env : Bindings) → segments_wanted ts ≡ 0 → length ts ≤ length fs → may_take ts (drop (length fs - length ts) fs) ≡ false → ways_of_row ts fs env ≡ []
never-alone ts fs env o h e = by (leb (length fs) (length ts)) refl
  where
    as-many : length fs ≤ length ts → may_take ts fs ≡ false
    as-many l = sym (ap (λ k. may_take ts (drop k fs)) (none l)) ∙ e
      where
        none : length fs ≤ length ts → length fs - length ts ≡ 0
        none l = omega arith

    wants : fields_wanted ts ≡ length ts + 0
    wants = ap fields_wanted (sym (append-nil ts)) ∙ ones-want ts [] o

    by : (b : Bool) → leb (length fs) (length ts) ≡ b → ways_of_row ts fs env ≡ []
    by true l = ap (λ cs. ways_of_row cs fs env) (sym (append-nil ts)) ∙ leading-none ts [] fs env o (nothing-taken ts fs env (as-many (leb-true (length fs) (length ts) l)))
    by false l = all-of-ones ts fs env o (fewer wants (leb-false (length fs) (length ts) l))
      where
        fewer : fields_wanted ts ≡ length ts + 0 → length ts < length fs → fields_wanted ts < length fs
        fewer w d = omega (arith, w)

never-later : (rs ts : List Constraint) (fs : List Single) (i : ℕ) (env : Bindings) → i ≤ length fs → segments_wanted ts ≡ 0 → length ts ≤ length fs → may_take ts (drop (length fs - length ts) fs) ≡ false
    → ((gs : List Single) → length ts ≤ length gs → may_take ts (drop (length gs - length ts) gs) ≡ false → ways_of_row (rs ++ ts) gs env ≡ [])
    → ways_of_row (rs ++ ts) (drop i fs) env ≡ []
never-later rs ts fs i env n o h e others = by (leb (i + length ts) (length fs)) refl
  where
    same-end : i + length ts ≤ length fs → drop (length (drop i fs) - length ts) (drop i fs) ≡ drop (length fs - length ts) fs
    same-end l = drop-drop (length (drop i fs) - length ts) i fs ∙ ap (λ k. drop k fs) (place (length (drop i fs)) (length-drop i fs) l)
      where
        place : (n : ℕ) → n ≡ length fs - i → i + length ts ≤ length fs → i + (n - length ts) ≡ length fs - length ts
        place n d l = omega (arith, d)

    long : i + length ts ≤ length fs → length ts ≤ length (drop i fs)
    long l = rw (length-drop i fs) (enough l)
      where
        enough : i + length ts ≤ length fs → length ts ≤ length fs - i
        enough l = omega arith

    by : (b : Bool) → leb (i + length ts) (length fs) ≡ b → ways_of_row (rs ++ ts) (drop i fs) env ≡ []
    by true l =
        let within = leb-true (i + length ts) (length fs) l in
        others (drop i fs) (long within) (ap (may_take ts) (same-end within) ∙ e)
    by false l = too-short (rs ++ ts) (drop i fs) env (shorter fs i (fields_wanted (rs ++ ts)) (few (wanted-after rs ts o) (leb-false (i + length ts) (length fs) l)))
      where
        few : length ts ≤ fields_wanted (rs ++ ts) → length fs < i + length ts → length fs - i < fields_wanted (rs ++ ts)
        few w d = omega (arith, n)

never-before : (rs ts : List Constraint) (fs : List Single) (env : Bindings) → segments_wanted ts ≡ 0 → length ts ≤ length fs → may_take ts (drop (length fs - length ts) fs) ≡ false → ways_of_row (rs ++ ts) fs env ≡ []
never-before [] ts fs env o h e = never-alone ts fs env o h e
never-before (r ∷ rs) ts fs env o h e =
    nothing-of-all (step r (rs ++ ts) fs env) 0 (length fs + 1)
    (λ i a b. nothing-follows (ways_of_row (rs ++ ts) (drop i fs)) (with_length r fs env i) (λ g. never-later rs ts fs i g (up-to i b) o h e (λ gs. never-before rs ts gs g o)))
  where
    up-to : (i : ℕ) → i < 0 + (length fs + 1) → i ≤ length fs
    up-to i b = omega arith

pub back-never : (cs : List Constraint) (fs : List Single) (env : Bindings) → fields_wanted cs ≤ length fs → may_take_back cs fs ≡ false → ways_of_row cs fs env ≡ []
back-never cs fs env h e =
    ap (λ xs. ways_of_row xs fs env) (sym (take-append-drop (length cs - after_segments cs) cs))
    ∙ never-before (take (length cs - after_segments cs) cs) (after_last cs) fs env (last-ones cs) (rw (length-last cs) (enough (within-fields cs)))
    (ap (λ k. may_take (after_last cs) (drop (length fs - k) fs)) (length-last cs) ∙ e)
  where
    enough : after_segments cs ≤ fields_wanted cs → after_segments cs ≤ length fs
    enough a = omega arith

-- the same of constraints of the program
pub few_trailing : (cs : List program.Constraint) (row : List Constraint) (k : ℕ) → map constraint_of cs ≡ row → k ≡ after_segments row → k ≤ length cs
few_trailing cs row k e d = rw d (rw (sym (length-map cs constraint_of)) (rw e (within-row row)))

pub dropped_back : (cs : List program.Constraint) (row : List Constraint) (k : ℕ) → map constraint_of cs ≡ row → k ≡ after_segments row → map constraint_of (drop (length cs - k) cs) ≡ after_last row
dropped_back cs row k e d =
    sym (drop-map constraint_of (length cs - k) cs)
    ∙ (ap (λ n. drop (n - k) (map constraint_of cs)) (sym (length-map cs constraint_of))
    ∙ (ap (λ xs. drop (length xs - k) xs) e ∙ ap (λ n. drop (length row - n) row) d))

-- as many fields as a row can take are enough for them
pub few_fields : (cs : List Constraint) (n k : ℕ) → takes_length cs n ≡ true → k ≡ after_segments cs → k ≤ n
few_fields cs n k e d = by (are_ones cs) e (within-fields cs)
  where
    by : (ones : Bool) → (if ones then n == fields_wanted cs else nat_le (fields_wanted cs) n) ≡ true → after_segments cs ≤ fields_wanted cs → k ≤ n
    by true h a = omega (arith, d, eqb-true n (fields_wanted cs) h)
    by false h a = omega (arith, d, leb-true (fields_wanted cs) n h)
