-- The constraints before the first that takes a segment.
use Rattle.std.proofs.Common.{arith, ◌≡◌, ◌∙◌, ◌++◌, ◌+◌, ◌≤◌, ◌==◌, Bool, true, false, List, ℕ, suc, [], ◌∷◌, ap, drop, length, map, refl, rules, sym, take}
use Rattle.std.proofs.lemmas.List.{length-map, map-append}
use Rattle.std.proofs.lemmas.Bool.{eqb-true}
use Rattle.std.specs.List.{drop-map, take-map}
use Rattle.std.specs.Prelude.{if◌then◌else◌}
use Rattle.cb_constraints.specs.Constraints.{Constraint, constraint_of}
use Rattle.cb_constraints.specs.Rows.{before_segments, fields_wanted, segments_wanted}
use Rattle.cb_constraints.specs.declared.constraint.Constraint as program

pub none-counted : (segment : Bool) (n : ℕ) → segment ≡ false → n ≡ 0 → (if segment then 1 else 0) + n ≡ 0
none-counted true n e h = search rules
none-counted false n e h = omega arith

pub leading-step : (c : Constraint) (cs : List Constraint) (segment : Bool) → c.segment ≡ segment → segments_wanted (take (before_segments cs) cs) ≡ 0
    → segments_wanted (take (if segment then 0 else 1 + before_segments cs) (c ∷ cs)) ≡ 0
leading-step c cs true e h = refl
leading-step c cs false e h =
    ap (λ k. segments_wanted (take k (c ∷ cs))) (one-more (before_segments cs))
    ∙ none-counted c.segment (segments_wanted (take (before_segments cs) cs)) e h
  where
    one-more : (n : ℕ) → 1 + n ≡ suc n
    one-more n = omega arith

pub leading-ones : (cs : List Constraint) → segments_wanted (take (before_segments cs) cs) ≡ 0
leading-ones [] = refl
leading-ones (c ∷ cs) = leading-step c cs c.segment refl (leading-ones cs)

pub segment-first : (segment : Bool) (n : ℕ) → segment ≡ true → (if segment then 0 else 1 + n) ≡ 0
segment-first true n e = refl
segment-first false n e = search rules

pub next-step : (c : Constraint) (cs : List Constraint) (segment : Bool) → c.segment ≡ segment → before_segments (drop (before_segments cs) cs) ≡ 0
    → before_segments (drop (if segment then 0 else 1 + before_segments cs) (c ∷ cs)) ≡ 0
next-step c cs true e h = segment-first c.segment (before_segments cs) e
next-step c cs false e h = ap (λ k. before_segments (drop k (c ∷ cs))) (one-more (before_segments cs)) ∙ h
  where
    one-more : (n : ℕ) → 1 + n ≡ suc n
    one-more n = omega arith

pub segment-next : (cs : List Constraint) → before_segments (drop (before_segments cs) cs) ≡ 0
segment-next [] = refl
segment-next (c ∷ cs) = next-step c cs c.segment refl (segment-next cs)

-- the same of constraints of the program
pub taken_ones : (cs : List program.Constraint) (n : ℕ) → n ≡ before_segments (map constraint_of cs) → segments_wanted (map constraint_of (take n cs)) ≡ 0
taken_ones cs n e = ap segments_wanted (sym (take-map constraint_of n cs)) ∙ (ap (λ k. segments_wanted (take k (map constraint_of cs))) e ∙ leading-ones (map constraint_of cs))

-- they are those before the first that takes a segment
pub taken_front : (cs : List program.Constraint) (n : ℕ) → n ≡ before_segments (map constraint_of cs) → map constraint_of (take n cs) ≡ take (before_segments (map constraint_of cs)) (map constraint_of cs)
taken_front cs n e = sym (take-map constraint_of n cs) ∙ ap (λ k. take k (map constraint_of cs)) e

pub dropped_segment : (cs : List program.Constraint) (n : ℕ) → n ≡ before_segments (map constraint_of cs) → before_segments (map constraint_of (drop n cs)) ≡ 0
dropped_segment cs n e = ap before_segments (sym (drop-map constraint_of n cs)) ∙ (ap (λ k. before_segments (drop k (map constraint_of cs))) e ∙ segment-next (map constraint_of cs))

-- a constraint that stands first, where none for one field does
pub is-segment : (segment : Bool) (n : ℕ) → (if segment then 0 else 1 + n) ≡ 0 → segment ≡ true
is-segment true n e = refl
is-segment false n e = absurd (omega arith)

-- those for one field are as many as the fields that they want
pub ones-want : (os cs : List Constraint) → segments_wanted os ≡ 0 → fields_wanted (os ++ cs) ≡ length os + fields_wanted cs
ones-want [] cs e = omega arith
ones-want (o ∷ os) cs e = wanted o.segment (segments_wanted os) (fields_wanted (os ++ cs)) (length os) (fields_wanted cs) e (λ h. ones-want os cs h)
  where
    wanted : (segment : Bool) (n all k m : ℕ) → (if segment then 1 else 0) + n ≡ 0 → (n ≡ 0 → all ≡ k + m) → (if segment then 0 else 1) + all ≡ suc k + m
    wanted true n all k m e h = absurd (omega arith)
    wanted false n all k m e h = ap (λ x. 1 + x) (h (omega arith)) ∙ omega arith

pub within-all : (cs : List Constraint) → before_segments cs ≤ length cs
within-all [] = omega arith
within-all (c ∷ cs) = at-most c.segment (before_segments cs) (length cs) (within-all cs)
  where
    at-most : (segment : Bool) (n m : ℕ) → n ≤ m → (if segment then 0 else 1 + n) ≤ suc m
    at-most true n m h = omega arith
    at-most false n m h = omega arith

pub few_leading : (cs : List program.Constraint) (n : ℕ) → n ≡ before_segments (map constraint_of cs) → n ≤ length cs
few_leading cs n e = rw e (rw (sym (length-map cs constraint_of)) (within-all (map constraint_of cs)))

pub none-left : (xs : List program.Constraint) (b : Bool) → b ≡ (length xs == 0) → b ≡ true → xs ≡ []
none-left [] b e t = refl
none-left (x ∷ xs) b e t = absurd (not-zero (length xs) (eqb-true (suc (length xs)) 0 (sym e ∙ t)))
  where
    not-zero : (n : ℕ) → suc n ≡ 0 → ⊥
    not-zero n h = absurd (omega arith)

-- what a constraint for a segment and all that follow it want
pub group-wants : (c : program.Constraint) (rest os after : List program.Constraint) (wanted : ℕ) → rest ≡ os ++ after
    → before_segments (map constraint_of (c ∷ rest)) ≡ 0 → wanted ≡ fields_wanted (map constraint_of (c ∷ rest)) → segments_wanted (map constraint_of os) ≡ 0
    → wanted ≡ length os + fields_wanted (map constraint_of after)
group-wants c rest os after wanted e b w o =
    w ∙ (wants c.takes_segment (fields_wanted (map constraint_of rest)) (is-segment c.takes_segment (before_segments (map constraint_of rest)) b)
    ∙ (ap (λ cs. fields_wanted (map constraint_of cs)) e
    ∙ (ap fields_wanted (map-append constraint_of os after)
    ∙ (ones-want (map constraint_of os) (map constraint_of after) o
    ∙ ap (λ k. k + fields_wanted (map constraint_of after)) (length-map os constraint_of)))))
  where
    wants : (segment : Bool) (n : ℕ) → segment ≡ true → (if segment then 0 else 1) + n ≡ n
    wants true n h = omega arith
    wants false n h = search rules

-- how many segments there are in all
pub segments-in-both : (os cs : List Constraint) → segments_wanted os ≡ 0 → segments_wanted (os ++ cs) ≡ segments_wanted cs
segments-in-both [] cs e = refl
segments-in-both (o ∷ os) cs e = none o.segment (segments_wanted os) (segments_wanted (os ++ cs)) (segments_wanted cs) e (λ h. segments-in-both os cs h)
  where
    none : (segment : Bool) (n all m : ℕ) → (if segment then 1 else 0) + n ≡ 0 → (n ≡ 0 → all ≡ m) → (if segment then 1 else 0) + all ≡ m
    none true n all m e h = absurd (omega arith)
    none false n all m e h = ap (λ x. 0 + x) (h (omega arith)) ∙ omega arith

-- one more, where a constraint for a segment comes before constraints for one field and others
pub group-segments : (c : program.Constraint) (rest os after : List program.Constraint) → rest ≡ os ++ after
    → before_segments (map constraint_of (c ∷ rest)) ≡ 0 → segments_wanted (map constraint_of os) ≡ 0
    → segments_wanted (map constraint_of (c ∷ rest)) ≡ suc (segments_wanted (map constraint_of after))
group-segments c rest os after e b o =
    one-more c.takes_segment (segments_wanted (map constraint_of rest)) (is-segment c.takes_segment (before_segments (map constraint_of rest)) b)
    ∙ ap suc (ap (λ cs. segments_wanted (map constraint_of cs)) e ∙ (ap segments_wanted (map-append constraint_of os after) ∙ segments-in-both (map constraint_of os) (map constraint_of after) o))
  where
    one-more : (segment : Bool) (n : ℕ) → segment ≡ true → (if segment then 1 else 0) + n ≡ suc n
    one-more true n h = omega arith
    one-more false n h = search rules
