-- Choices: what becomes of them one after another.
use Rattle.std.proofs.Common.{arith, ◌≡◌, ◌∙◌, ◌++◌, ◌+◌, ◌<◌, ◌≤◌, ◌∷◌, [], List, ℕ, MatchOption, IfSome, IsSomeAnd, Option, None, Some, ap, drop, length, map, false, is_some, refl, replicate, subst, suc, sym, take, true}
use Rattle.std.proofs.Math.Seq.{take-length}
use Rattle.std.proofs.lemmas.List.{append-nil, append_assoc, drop_all, length-append, length-map, length-replicate, map-append, take-take}
use Rattle.cb_constraints.specs.Constraints.{constraint_of}
use Rattle.std.specs.Option.{option_map_or}
use Rattle.cb_constraints.specs.PartValues.{asked_slot}
use Rattle.cb_constraints.specs.PatternValues.{SlotValue}
use Rattle.cb_constraints.specs.declared.pattern_parts.SlotRow as program_row
use Rattle.cb_exprs.specs.Bindings.{Bindings}
use Rattle.cb_facts.specs.Values.{fields_in}
use Rattle.cb_facts.specs.declared.single.Single.{Single}
use Rattle.cb_facts.specs.declared.value.Value.{Value}
use Rattle.cb_fit.proofs.InTurn.{then-then}
use Rattle.cb_fit.specs.Internal.{endings, env_after, may_take_slots, taken_by}
use Rattle.cb_fit.specs.Internal.Choices.{AreFrom, AreOpen, AreUpTo, IsChoice, IsIn, IsOpen, KeepsFirst, choice_endings, choice_ways, constraints_from, followed_by_rows, constraint_number, tries, tries_if, tries_left, ways_if, ways_left, most_tries}
use Rattle.cb_fit.specs.Ways.{Taken, after_cuts, each_followed_by, slot_at, ways_of_row, ways_of_slot, ways_of_slots}
use Rattle.cb_fit.specs.declared.choice.Choice as program
use Rattle.cb_fit.specs.Internal.Searches.{SearchValue}

-- the last of some choices is taken up first
pub last-first : (s : SearchValue) (cuts : List ℕ) (cs : List (Option program.Choice)) (c : Option program.Choice) → ways_left s cuts (cs ++ c ∷ []) ≡ ways_if s cuts c ++ ways_left s cuts cs
last-first s cuts [] c = sym (append-nil (ways_if s cuts c))
last-first s cuts (d ∷ ds) c =
    ap (λ ts. ts ++ ways_if s cuts d) (last-first s cuts ds c)
    ∙ append_assoc (ways_if s cuts c) (ways_left s cuts ds) (ways_if s cuts d)

pub tries-last : (cs : List (Option program.Choice)) (c : Option program.Choice) → tries_left (cs ++ c ∷ []) ≡ tries_if c + tries_left cs
tries-last [] c = refl
tries-last (d ∷ ds) c = ap (λ n. tries_if d + n) (tries-last ds c) ∙ by-order (tries_if d) (tries_if c) (tries_left ds)
  where
    by-order : (n m k : ℕ) → n + (m + k) ≡ m + (n + k)
    by-order n m k = omega arith

-- the lengths before a choice that is opened now are all that there are
pub all-before : (cuts : List ℕ) (n : ℕ) → n ≡ length cuts → take n cuts ≡ cuts
all-before cuts n e = ap (λ k. take k cuts) e ∙ take-length cuts

-- the choice of the first constraint that is left
pub of_choice : (s : SearchValue) (cuts : List ℕ) (o : Option program.Choice) (rows : List program_row.SlotRow) (ts : List Taken)
    → MatchOption o (ts ≡ []) (λ c. choice_endings s cuts c ≡ ts) → IfSome o (λ c. c.rows.now ≡ rows) → IfSome o (λ c. c.number ≡ length cuts)
    → ways_if s cuts o ≡ followed_by_rows (map asked_slot rows) s.slots ts
of_choice s cuts None rows ts m r n = sym (ap (followed_by_rows (map asked_slot rows) s.slots) m)
of_choice s cuts (Some c) rows ts m r n =
    ap (λ before. choice_ways s before c) (all-before cuts c.number n)
    ∙ (ap (λ rs. followed_by_rows (map asked_slot rs) s.slots (choice_endings s cuts c)) r
    ∙ ap (followed_by_rows (map asked_slot rows) s.slots) m)

pub opened : (s : SearchValue) (cuts : List ℕ) (o : Option program.Choice) (rows : List program_row.SlotRow) → IfSome o IsChoice → IfSome o (IsIn s cuts) → IfSome o (λ c. c.rows.now ≡ rows) → IfSome o (λ c. c.number ≡ length cuts)
    → may_take_slots (map asked_slot rows) s.slots ≡ true → IfSome o (IsOpen s cuts)
opened s cuts None rows choice inside r n may = tt
opened s cuts (Some c) rows choice inside r n may = record {
  choice = choice;
  inside = subst (λ before. IsIn s before c) (sym (all-before cuts c.number n)) inside;
  rows = ap (λ rs. may_take_slots (map asked_slot rs) s.slots) r ∙ may;
}

pub not-before : (o : Option program.Choice) (n m : ℕ) → n ≤ m → IfSome o (λ c. c.number ≡ m) → IfSome o (λ c. n ≤ c.number)
not-before None n m h e = tt
not-before (Some c) n m h e = omega (arith, h, e)

pub number-is : (o : Option program.Choice) (n m : ℕ) → n ≡ m → IfSome o (λ c. c.number ≡ n) → IfSome o (λ c. c.number ≡ m)
number-is o n m e h = subst (λ k. IfSome o (λ c. c.number ≡ k)) e h

pub as_many_tries : (o : Option program.Choice) (n m : ℕ) → n ≡ m → IfSome o (λ c. tries c ≤ most_tries n) → IfSome o (λ c. tries c ≤ most_tries m)
as_many_tries o n m e h = subst (λ k. IfSome o (λ c. tries c ≤ most_tries k)) e h

-- the first of the rows of slots, and those after it
pub first-row : (s : SlotValue) (ss : List SlotValue) (slots : List (List ℕ × Value)) (v : Value) (t : Taken) (ts : List Taken) → slot_at s.place slots ≡ Some v
    → map (after_cuts t.cuts) (ways_of_row s.row (fields_in v) t.env) ≡ ts → followed_by_rows (s ∷ ss) slots (t ∷ []) ≡ followed_by_rows ss slots ts
first-row s ss slots v t ts e h =
    sym (then-then (ways_of_slots ss slots) (ways_of_slot s slots) (t ∷ []))
    ∙ ap (each_followed_by (ways_of_slots ss slots))
    (append-nil (map (after_cuts t.cuts) (ways_of_slot s slots t.env))
    ∙ (ap (λ o. map (after_cuts t.cuts) (option_map_or (λ w. ways_of_row s.row (fields_in w) t.env) o [])) e ∙ h))

-- the same of those that are left
pub begun_row : (left others : List program_row.SlotRow) (row : program_row.SlotRow) (s : SearchValue) (v : Value) (fields : List Single) (cuts : List ℕ) (ts : List Taken)
    → left ≡ row ∷ others → slot_at row.place s.slots ≡ Some v → fields ≡ fields_in v → map (after_cuts cuts) (ways_of_row row.row fields (env_after s cuts)) ≡ ts
    → followed_by_rows (map asked_slot left) s.slots (taken_by s cuts ∷ []) ≡ followed_by_rows (map asked_slot others) s.slots ts
begun_row left others row s v fields cuts ts split value is ways =
    ap (λ rows. followed_by_rows (map asked_slot rows) s.slots (taken_by s cuts ∷ [])) split
    ∙ first-row (asked_slot row) (map asked_slot others) s.slots v (taken_by s cuts) ts value (ap (λ fs. map (after_cuts cuts) (ways_of_row row.row fs (env_after s cuts))) (sym is) ∙ ways)

-- a row that takes all fields
pub all-ended : (fields : List Single) (at : ℕ) (cuts : List ℕ) (env : Bindings) → at ≡ length fields → endings [] (record { cuts = cuts; left = drop at fields; env = env }) ≡ record { cuts = cuts; env = env } ∷ []
all-ended fields at cuts env e =
    ap (λ fs. endings [] (record { cuts = cuts; left = fs; env = env })) (drop_all at fields (omega (arith, e)))
    ∙ ap (λ xs. record { cuts = xs; env = env } ∷ []) (append-nil cuts)

-- after one end of a segment: what becomes of it, then what becomes of the others, and then the other choices
next-both : {X : Type 0} (k0 k1 one others both wn old mid new : List X) → k1 ++ wn ≡ k0 ++ one → mid ≡ others ++ old → new ≡ wn ++ mid → both ≡ one ++ others → k1 ++ new ≡ k0 ++ (both ++ old)
next-both k0 k1 one others both wn old mid new g m n b =
    ap (λ xs. k1 ++ xs) (n ∙ ap (λ xs. wn ++ xs) m)
    ∙ (sym (append_assoc k1 wn (others ++ old))
    ∙ (ap (λ xs. xs ++ (others ++ old)) g
    ∙ (append_assoc k0 one (others ++ old)
    ∙ ap (λ xs. k0 ++ xs) (sym (append_assoc one others old) ∙ ap (λ xs. xs ++ old) (sym b)))))

pub next-taken : {X : Type 0} (f : Taken → X) (k0 k1 : List X) (one others both wn old mid new : List Taken) → k1 ++ map f wn ≡ k0 ++ map f one → mid ≡ others ++ old → new ≡ wn ++ mid → both ≡ one ++ others
    → k1 ++ map f new ≡ k0 ++ map f (both ++ old)
next-taken f k0 k1 one others both wn old mid new g m n b =
    next-both k0 k1 (map f one) (map f others) (map f both) (map f wn) (map f old) (map f mid) (map f new) g
    (ap (map f) m ∙ map-append f others old) (ap (map f) n ∙ map-append f wn mid) (ap (map f) b ∙ map-append f one others)
    ∙ ap (λ xs. k0 ++ xs) (sym (map-append f both old))

-- the last of some choices, taken up
pub last-ways : (s : SearchValue) (cuts : List ℕ) (all rest : List (Option program.Choice)) (c : Option program.Choice) → all ≡ rest ++ c ∷ [] → ways_if s cuts c ++ ways_left s cuts rest ≡ ways_left s cuts all
last-ways s cuts all rest c e = sym (ap (ways_left s cuts) e ∙ last-first s cuts rest c)

pub last-tries : (all rest new : List (Option program.Choice)) (c : Option program.Choice) → all ≡ rest ++ c ∷ [] → tries_left new < tries_if c + tries_left rest → tries_left new < tries_left all
last-tries all rest new c e h = rw (ap tries_left e ∙ tries-last rest c) h

-- of choices that are open, the last and those before it
pub last-from : (n : ℕ) (cs : List (Option program.Choice)) (c : Option program.Choice) → AreFrom n (cs ++ c ∷ []) → (n ≤ constraint_number c) × AreFrom n cs
last-from n [] c h = (h.0, tt)
last-from n (d ∷ ds) c h = let w = last-from n ds c h.1 in (w.0, (h.0, w.1))

pub from-last : (n : ℕ) (cs : List (Option program.Choice)) (c : Option program.Choice) → n ≤ constraint_number c → AreFrom n cs → AreFrom n (cs ++ c ∷ [])
from-last n [] c h f = (h, tt)
from-last n (d ∷ ds) c h f = (f.0, from-last n ds c h f.1)

pub up-to-last : (n : ℕ) (cs : List (Option program.Choice)) (c : Option program.Choice) → constraint_number c ≤ n → AreUpTo n cs → AreUpTo n (cs ++ c ∷ [])
up-to-last n [] c h u = (h, tt)
up-to-last n (d ∷ ds) c h u = (u.0, up-to-last n ds c h u.1)

pub up-to-more : (n m : ℕ) (cs : List (Option program.Choice)) → n ≤ m → AreUpTo n cs → AreUpTo m cs
up-to-more n m [] h u = tt
up-to-more n m (d ∷ ds) h u = (omega (arith, h, u.0), up-to-more n m ds h u.1)

pub record Last (s : SearchValue) (cuts : List ℕ) (cs : List (Option program.Choice)) (c : Option program.Choice) : Type 0 where
  pub choice : IsSomeAnd c (IsOpen s cuts)
  pub others : AreOpen s cuts cs
  pub order : AreUpTo (constraint_number c) cs

last-open : (s : SearchValue) (cuts : List ℕ) (cs : List (Option program.Choice)) (c : Option program.Choice) → AreOpen s cuts (cs ++ c ∷ []) → Last s cuts cs c
last-open s cuts [] c h = record { choice = h.0; others = tt; order = tt }
last-open s cuts (d ∷ ds) c h =
    let w = last-open s cuts ds c h.2 in
    let f = last-from (constraint_number d) ds c h.1 in
    record { choice = w.choice; others = (h.0, f.1, w.others); order = (f.0, w.order) }

pub taken-up : (s : SearchValue) (cuts : List ℕ) (all rest : List (Option program.Choice)) (c : Option program.Choice) → all ≡ rest ++ c ∷ [] → AreOpen s cuts all → Last s cuts rest c
taken-up s cuts all rest c e h = last-open s cuts rest c (subst (AreOpen s cuts) e h)

pub open-last : (s : SearchValue) (cuts : List ℕ) (cs : List (Option program.Choice)) (c : Option program.Choice) → IsSomeAnd c (IsOpen s cuts) → AreUpTo (constraint_number c) cs → AreOpen s cuts cs → AreOpen s cuts (cs ++ c ∷ [])
open-last s cuts [] c is u h = (is, tt, tt)
open-last s cuts (d ∷ ds) c is u h = (h.0, from-last (constraint_number d) ds c u.0 h.1, open-last s cuts ds c is u.1 h.2)

pub next-opened : (s : SearchValue) (cuts : List ℕ) (cs : List (Option program.Choice)) (c : Option program.Choice) → is_some c ≡ true → IfSome c (IsOpen s cuts) → IfSome c (λ d. AreUpTo d.number cs) → AreOpen s cuts cs → AreOpen s cuts (cs ++ c ∷ [])
next-opened s cuts cs None is opens order h = let never : false ≡ true = is in cc
next-opened s cuts cs (Some c) is opens order h = open-last s cuts cs (Some c) opens order h

-- the choice of the other ends of a segment
pub others-choice : (c : program.Choice) (to : ℕ) → c.to ≤ to → to ≤ c.last → (to ≡ c.to → ⊥) → IsChoice c → IsChoice (record { fields = c.fields; number = c.number; at = c.at; constraint = c.constraint; ones = c.ones; rest = c.rest; wanted = c.wanted; rows = c.rows; to = to; last = c.last })
others-choice c to h l d is = record {
  segment = is.segment;
  ones = is.ones;
  rest = is.rest;
  wanted = is.wanted;
  begun = omega (arith, h, is.begun);
  order = l;
  within = is.within;
  room = is.room;
  alone = λ e. absurd (later (is.alone e));
  ended = is.ended;
}
  where
    later : c.to ≡ c.last → ⊥
    later e = d (omega (arith, e, h, l))

-- what a choice becomes depends on no more than the lengths before it
pub fewer-kept : (m n : ℕ) (old new : List ℕ) → m ≤ n → KeepsFirst n old new → take m new ≡ take m old
fewer-kept m n old new h k = first new ∙ (ap (take m) k.0 ∙ sym (first old))
  where
    first : (xs : List ℕ) → take m xs ≡ take m (take n xs)
    first xs = sym (take-take m n xs h)

pub open-kept : (s : SearchValue) (n : ℕ) (old new : List ℕ) (c : Option program.Choice) → constraint_number c ≤ n → KeepsFirst n old new → IsSomeAnd c (IsOpen s old) → IsSomeAnd c (IsOpen s new)
open-kept s n old new None h k is = is
open-kept s n old new (Some c) h k is = record {
  choice = is.choice;
  inside = subst (λ before. IsIn s before c) (sym (fewer-kept c.number n old new h k)) is.inside;
  rows = is.rows;
}

pub ways-kept : (s : SearchValue) (n : ℕ) (old new : List ℕ) (c : Option program.Choice) → constraint_number c ≤ n → KeepsFirst n old new → ways_if s new c ≡ ways_if s old c
ways-kept s n old new None h k = refl
ways-kept s n old new (Some c) h k = ap (λ before. choice_ways s before c) (fewer-kept c.number n old new h k)

pub all-open-kept : (s : SearchValue) (n : ℕ) (old new : List ℕ) (cs : List (Option program.Choice)) → AreUpTo n cs → KeepsFirst n old new → AreOpen s old cs → AreOpen s new cs
all-open-kept s n old new [] u k h = tt
all-open-kept s n old new (c ∷ cs) u k h = (open-kept s n old new c u.0 k h.0, h.1, all-open-kept s n old new cs u.1 k h.2)

pub all-ways-kept : (s : SearchValue) (n : ℕ) (old new : List ℕ) (cs : List (Option program.Choice)) → AreUpTo n cs → KeepsFirst n old new → ways_left s new cs ≡ ways_left s old cs
all-ways-kept s n old new [] u k = refl
all-ways-kept s n old new (c ∷ cs) u k =
    ap (λ ts. ts ++ ways_if s new c) (all-ways-kept s n old new cs u.1 k) ∙ ap (λ ts. ways_left s old cs ++ ts) (ways-kept s n old new c u.0 k)

pub with-number : (o : Option program.Choice) (c : program.Choice) (cs : List (Option program.Choice)) → o ≡ Some c → AreUpTo (constraint_number o) cs → AreUpTo c.number cs
with-number o c cs e h = subst (λ p. AreUpTo (constraint_number p) cs) e h

-- the next choice stands no earlier than those that are open
pub next-order : (n m : ℕ) (o : Option program.Choice) (cs : List (Option program.Choice)) → n ≤ m → AreUpTo n cs → IfSome o (λ c. m ≤ c.number) → IfSome o (λ c. AreUpTo c.number cs)
next-order n m None cs h u l = tt
next-order n m (Some c) cs h u l = up-to-more n c.number cs (omega (arith, h, l)) u

-- how many constraints were before what follows a segment and the constraints for one field after it
pub group-count : (c : program.Choice) (before new : List ℕ) (n : ℕ) → new ≡ before ++ (n ∷ replicate (length c.ones.now) 1) → length before + length (constraints_from c) ≡ length new + length c.rest.now
group-count c before new n e =
    by (length before) (length new) (length (map constraint_of c.ones.now ++ map constraint_of c.rest.now)) (length (map constraint_of c.ones.now)) (length (map constraint_of c.rest.now)) (length-append (map constraint_of c.ones.now) (map constraint_of c.rest.now))
    (length-map c.ones.now constraint_of) (length-map c.rest.now constraint_of) (ap length e ∙ (length-append before (n ∷ replicate (length c.ones.now) 1) ∙ ap (λ k. length before + suc k) (length-replicate (length c.ones.now) 1)))
  where
    by : (b m both os rs : ℕ) → both ≡ os + rs → os ≡ length c.ones.now → rs ≡ length c.rest.now → m ≡ b + suc (length c.ones.now) → b + suc both ≡ m + length c.rest.now
    by b m both os rs h i j k = omega (arith, h, i, j, k)
