-- What a change of one slot does to what windows of slots have.
use Rattle.std.proofs.Common.{◌≡◌, ◌≢◌, ◌∙◌, ◌⊎◌, ◌+◌, ◌-◌, ◌<◌, ◌≤◌, ℕ, zero, suc, Bool, true, false, List, [], ◌∷◌, Option, Some, None, ap, ap₂, arith, drop, get_or, if◌then◌else◌, inl, inr, length, min, nat_eq, refl, replicate, set, subst, sym, take}
use Rattle.std.proofs.lemmas.Bool.{cases_eq, cases_lt}
use Rattle.std.proofs.lemmas.List.{at_drop_more, get_or-drop, get_or-replicate, get_or-set_other, get_or-set_same, get_or-take, length-drop, length-replicate, length-set, length-take, take_min}
use Rattle.std.specs.Cmp.{unsigned_Decides}
use Rattle.std.specs.Option.{is_some, option_or}
use Rattle.cb_number_map.specs.Slots.{IsFirstFree, IsFreed, TableUpdates, WindowsEndAtUnused, first_number, first_slot, number_for, number_in, number_of, unused}
use Rattle.cb_number_map.specs.declared.slots.Slot.{Slot}

-- ---- one slot

by_test : {P : Type 0} (b : Bool) → (b ≡ true → P) → (b ≡ false → P) → P
by_test true on_true on_false = on_true refl
by_test false on_true on_false = on_false refl

either_none : (b : Bool) (o : Option ℕ) → o ≡ None → (if b then o else None) ≡ None
either_none true o e = e
either_none false o e = refl

pub slot_here : (key : ℕ) (s : Slot) → s.key ≡ key → number_for key s ≡ number_of s
slot_here key s e = ap (λ b. if b then number_of s else None) ((unsigned_Decides s.key key).1 e)

pub slot_other : (key : ℕ) (s : Slot) → s.key ≢ key → number_for key s ≡ None
slot_other key s d = by_test (nat_eq s.key key)
    (λ t. absurd (d ((unsigned_Decides s.key key).0 t)))
    (λ f. ap (λ b. if b then number_of s else None) f)

pub slot_free : (key : ℕ) (s : Slot) → number_of s ≡ None → number_for key s ≡ None
slot_free key s e = either_none (nat_eq s.key key) (number_of s) e

pub none_of : {A : Type 0} (o : Option A) → is_some o ≡ false → o ≡ None
none_of None e = refl
none_of (Some a) e = absurd (let no : true ≡ false = e in cc)

pub key_there : (key : ℕ) (s : Slot) → is_some (number_for key s) ≡ true → s.key ≡ key
key_there key s some = by_test (nat_eq s.key key)
    (λ t. (unsigned_Decides s.key key).0 t)
    (λ f. absurd (let no : false ≡ true = sym (ap (λ b. is_some (if b then number_of s else None)) f) ∙ some in cc))

or_none : (o p : Option ℕ) → option_or o p ≡ None → (o ≡ None) × (p ≡ None)
or_none None p e = (refl, e)
or_none (Some n) p e = absurd (cc)

or_some : (o p : Option ℕ) (n : ℕ) → option_or o p ≡ Some n → (o ≡ Some n) ⊎ (p ≡ Some n)
or_some None p n e = inr e
or_some (Some m) p n e = inl e

-- ---- a slot changes that hasn't the key, before and after

module _ (key : ℕ) (v : Slot) (none : number_for key v ≡ None) where
  same_front : (xs : List Slot) (m i : ℕ) → number_for key (get_or xs i unused) ≡ None → first_number key (take m (set xs i v)) ≡ first_number key (take m xs)
  same_front [] m i h = refl
  same_front (x ∷ xs) zero i h = refl
  same_front (x ∷ xs) (suc m) zero h = ap (λ o. option_or o (first_number key (take m xs))) (none ∙ sym h)
  same_front (x ∷ xs) (suc m) (suc i) h = ap (option_or (number_for key x)) (same_front xs m i h)

  same_window : (xs : List Slot) (from m i : ℕ) → number_for key (get_or xs i unused) ≡ None → first_number key (take m (drop from (set xs i v))) ≡ first_number key (take m (drop from xs))
  same_window xs zero m i h = same_front xs m i h
  same_window [] (suc from) m i h = refl
  same_window (x ∷ xs) (suc from) m zero h = refl
  same_window (x ∷ xs) (suc from) m (suc i) h = same_window xs from m i h

  pub same_table : (xs : List Slot) (i : ℕ) → number_for key (get_or xs i unused) ≡ None → number_in (set xs i v) key ≡ number_in xs key
  unfolding number_in
  same_table xs i h =
      ap (λ n. first_number key (take 8 (drop (first_slot key n) (set xs i v)))) (length-set xs i v)
      ∙ same_window xs (first_slot key (length xs)) 8 i h

-- ---- a key comes into its window

module _ (key n : ℕ) (v : Slot) (some : number_for key v ≡ Some n) where
  there_front : (xs : List Slot) (m i : ℕ) → i < m → i < length xs → first_number key (take m xs) ≡ None → first_number key (take m (set xs i v)) ≡ Some n
  there_front [] m i l w h = absurd (omega arith)
  there_front (x ∷ xs) zero i l w h = absurd (omega arith)
  there_front (x ∷ xs) (suc m) zero l w h = ap (λ o. option_or o (first_number key (take m xs))) some
  there_front (x ∷ xs) (suc m) (suc i) l w h =
      let both = or_none (number_for key x) (first_number key (take m xs)) h in
      ap (λ o. option_or o (first_number key (take m (set xs i v)))) both.0 ∙ there_front xs m i (omega arith) (omega arith) both.1

  there_window : (xs : List Slot) (from m i : ℕ) → from ≤ i → i < from + m → i < length xs → first_number key (take m (drop from xs)) ≡ None → first_number key (take m (drop from (set xs i v))) ≡ Some n
  there_window xs zero m i f l w h = there_front xs m i (omega arith) w h
  there_window [] (suc from) m i f l w h = absurd (omega arith)
  there_window (x ∷ xs) (suc from) m zero f l w h = absurd (omega arith)
  there_window (x ∷ xs) (suc from) m (suc i) f l w h = there_window xs from m i (omega arith) (omega arith) (omega arith) h

  there_table : (xs : List Slot) (i : ℕ) → IsFirstFree xs key i → number_in xs key ≡ None → number_in (set xs i v) key ≡ Some n
  unfolding number_in
  there_table xs i room h =
      ap (λ c. first_number key (take 8 (drop (first_slot key c) (set xs i v)))) (length-set xs i v)
      ∙ there_window xs (first_slot key (length xs)) 8 i room.behind room.before room.within h

-- the slot whose number is before this one
number_next : (key n next : ℕ) → next ≡ n + 1 → number_of (record { key = key; next = next }) ≡ Some n
number_next key n next e = by_test (nat_eq next 0)
    (λ t. absurd (let zero : next ≡ 0 = (unsigned_Decides next 0).0 t in omega (arith, e, zero)))
    (λ f. ap (λ b. if b then None else Some (next - 1)) f ∙ ap Some (let same : next - 1 ≡ n = omega (arith, e) in same))

pub put_updates : (xs : List Slot) (key n next i : ℕ) → next ≡ n + 1 → IsFirstFree xs key i → number_in xs key ≡ None → TableUpdates xs (set xs i (record { key = key; next = next })) key (Some n)
put_updates xs key n next i e room absent =
    let v : Slot = record { key = key; next = next } in
    record {
      changed = there_table key n v (slot_here key v refl ∙ number_next key n next e) xs i room absent;
      others = λ other d. same_table other v (slot_other other v (λ e. d (sym e))) xs i (slot_free other (get_or xs i unused) room.free);
    }

-- ---- no slot of a window has a key

none_front : (key : ℕ) (xs : List Slot) (m : ℕ) → ((j : ℕ) → j < m → j < length xs → number_for key (get_or xs j unused) ≡ None) → first_number key (take m xs) ≡ None
none_front key xs zero h = refl
none_front key [] (suc m) h = refl
none_front key (x ∷ xs) (suc m) h = ap₂ option_or (h 0 (omega arith) (omega arith)) (none_front key xs m (λ j l w. h (suc j) (omega arith) (omega arith)))

none_window : (key : ℕ) (xs : List Slot) (from m : ℕ) → ((j : ℕ) → from ≤ j → j < from + m → j < length xs → number_for key (get_or xs j unused) ≡ None) → first_number key (take m (drop from xs)) ≡ None
none_window key xs zero m h = none_front key xs m (λ j l w. h j (omega arith) (omega arith) w)
none_window key [] (suc from) zero h = refl
none_window key [] (suc from) (suc m) h = refl
none_window key (x ∷ xs) (suc from) m h = none_window key xs from m (λ j f l w. h (suc j) (omega arith) (omega arith) (omega arith))

pub none_table : (key n : ℕ) (xs : List Slot) → length xs ≡ n → ((j : ℕ) → first_slot key n ≤ j → j < min (first_slot key n + 8) n → number_for key (get_or xs j unused) ≡ None) → number_in xs key ≡ None
unfolding number_in
none_table key n xs e h =
    ap (λ c. first_number key (take 8 (drop (first_slot key c) xs))) e
    ∙ none_window key xs (first_slot key n) 8 (λ j f l w. h j f (omega arith))

pub free_table : (key n : ℕ) → number_in (replicate n unused) key ≡ None
free_table key n = none_table key n (replicate n unused) (length-replicate n unused) (λ j f l.
    ap (number_for key) (get_or-replicate n j unused unused (omega arith)) ∙ slot_free key unused refl)

-- none in front of a slot that was never used has the key
pub none_ended : (key i n : ℕ) (xs : List Slot) → length xs ≡ n → WindowsEndAtUnused xs → first_slot key n ≤ i → get_or xs i unused ≡ unused → ((j : ℕ) → first_slot key n ≤ j → j < i → number_for key (get_or xs j unused) ≡ None) → number_in xs key ≡ None
none_ended key i n xs long ends f e so_far = none_table key n xs long (λ j g l. elim (cases_lt j i) as (λ _. number_for key (get_or xs j unused) ≡ None) [
  | inl before ↦ so_far j g before
  | inr not ↦ elim (cases_eq j i) as (λ _. number_for key (get_or xs j unused) ≡ None) [
    | inl same ↦ ap (λ k. number_for key (get_or xs k unused)) same ∙ (ap (number_for key) e ∙ slot_free key unused refl)
    | inr apart ↦ ends i e key j (subst (λ c. first_slot key c ≤ i) (sym long) f) (omega (arith, not, apart)) (subst (λ c. j < first_slot key c + 8) (sym long) (omega arith)) (omega (arith, l, long))
  ]
])

-- one slot more of a window hasn't the key
module _ (key from i : ℕ) (xs : List Slot) (so_far : (j : ℕ) → from ≤ j → j < i → number_for key (get_or xs j unused) ≡ None) where
  pub none_more : number_for key (get_or xs i unused) ≡ None → (j : ℕ) → from ≤ j → j < i + 1 → number_for key (get_or xs j unused) ≡ None
  none_more here j f l = elim (cases_eq j i) as (λ _. number_for key (get_or xs j unused) ≡ None) [
    | inl e ↦ ap (λ k. number_for key (get_or xs k unused)) e ∙ here
    | inr d ↦ so_far j f (omega (arith, l, d))
  ]

  pub cleared_more : (v : Slot) → number_of v ≡ None → i < length xs → (j : ℕ) → from ≤ j → j < i + 1 → number_for key (get_or (set xs i v) j unused) ≡ None
  cleared_more v empty w j f l = elim (cases_eq j i) as (λ _. number_for key (get_or (set xs i v) j unused) ≡ None) [
    | inl e ↦ ap (λ k. number_for key (get_or (set xs i v) k unused)) e ∙ (ap (number_for key) (get_or-set_same xs i v unused w) ∙ slot_free key v empty)
    | inr d ↦ ap (number_for key) (get_or-set_other xs i j v unused d) ∙ so_far j f (omega (arith, l, d))
  ]

-- ---- a walk along a window

pub seen_here : (key n : ℕ) (xs : List Slot) (i : ℕ) → i < length xs → number_for key (get_or xs i unused) ≡ Some n → first_number key (drop i xs) ≡ Some n
seen_here key n xs i l some =
    at_drop_more (first_number key) xs i unused l
    ∙ ap (λ o. option_or o (first_number key (drop (i + 1) xs))) some

pub window_seen : (key from to : ℕ) (xs : List Slot) → from ≡ first_slot key (length xs) → to ≡ min (first_slot key (length xs) + 8) (length xs) → first_number key (take (to - from) (drop from xs)) ≡ number_in xs key
unfolding number_in
window_seen key from to xs f t =
    let first = first_slot key (length xs) in
    let long : to - from ≡ min 8 (length (drop from xs)) = omega (arith, length-drop from xs, f, t) in
    ap (λ n. first_number key (take n (drop from xs))) long
    ∙ (ap (first_number key) (take_min 8 (drop from xs)) ∙ ap (λ n. first_number key (take 8 (drop n xs))) f)

none_list : (key : ℕ) (ys : List Slot) → ((j : ℕ) → j < length ys → number_for key (get_or ys j unused) ≡ None) → first_number key ys ≡ None
none_list key [] h = refl
none_list key (y ∷ ys) h = ap₂ option_or (h 0 (omega arith)) (none_list key ys (λ j l. h (suc j) (omega arith)))

at_window : (from m i : ℕ) (xs : List Slot) → i < m → get_or (take m (drop from xs)) i unused ≡ get_or xs (from + i) unused
at_window from m i xs l = get_or-take m (drop from xs) i unused l ∙ get_or-drop from xs i unused

-- from a slot that was never used on
pub ended_here : (key from to : ℕ) (xs : List Slot) (i : ℕ) → from ≡ first_slot key (length xs) → to ≡ min (first_slot key (length xs) + 8) (length xs) → WindowsEndAtUnused xs → i < to - from → get_or (take (to - from) (drop from xs)) i unused ≡ unused → first_number key (drop i (take (to - from) (drop from xs))) ≡ None
ended_here key from to xs i f t ends l e =
    let w = take (to - from) (drop from xs) in
    let here : get_or xs (from + i) unused ≡ unused = sym (at_window from (to - from) i xs l) ∙ e in
    none_list key (drop i w) (λ j m.
    let within : i + j < to - from = omega (arith, m, length-drop i w, length-take (to - from) (drop from xs)) in
    let is : get_or (drop i w) j unused ≡ get_or xs (from + (i + j)) unused = get_or-drop i w j unused ∙ at_window from (to - from) (i + j) xs within in
    elim (cases_eq j 0) as (λ _. number_for key (get_or (drop i w) j unused) ≡ None) [
      | inl first ↦ ap (number_for key) (is ∙ (ap (λ n. get_or xs n unused) (let same : from + (i + j) ≡ from + i = omega (arith, first) in same) ∙ here)) ∙ slot_free key unused refl
      | inr later ↦ ap (number_for key) is ∙ ends (from + i) here key (from + (i + j)) (omega (arith, f)) (omega (arith, later)) (omega (arith, f, t, within)) (omega (arith, f, t, within))
    ])

-- ---- a key goes, and windows still end at slots that were never used

pub freed_end : (xs : List Slot) (i : ℕ) (v : Slot) → i < length xs → WindowsEndAtUnused xs → IsFreed xs i v → WindowsEndAtUnused (set xs i v)
freed_end xs i v w ends is a e k b f o m l =
    let ys = set xs i v in
    let long = length-set xs i v in
    let front : first_slot k (length xs) ≤ a = subst (λ c. first_slot k c ≤ a) long f in
    let before : b < first_slot k (length xs) + 8 = subst (λ c. b < first_slot k c + 8) long m in
    let within : b < length xs = omega (arith, l, long) in
    elim (cases_eq b i) as (λ _. number_for k (get_or ys b unused) ≡ None) [
      | inl there ↦ ap (λ j. number_for k (get_or ys j unused)) there ∙ (ap (number_for k) (get_or-set_same xs i v unused w) ∙ slot_free k v is.free)
      | inr other ↦ ap (number_for k) (get_or-set_other xs i b v unused other) ∙ elim (cases_eq a i) as (λ _. number_for k (get_or xs b unused) ≡ None) [
        | inl here ↦
            let last = is.last (sym (get_or-set_same xs i v unused w) ∙ (sym (ap (λ j. get_or ys j unused) here) ∙ e)) in
            last k b (omega (arith, front, here)) (omega (arith, o, here)) before within
        | inr apart ↦ ends a (sym (get_or-set_other xs i a v unused apart) ∙ e) k b front o before within
      ]
    ]

-- ---- some slot has a key that the table has

found_front : (key n : ℕ) (xs : List Slot) (m : ℕ) → first_number key (take m xs) ≡ Some n → (j : ℕ) × (j < length xs) × (number_for key (get_or xs j unused) ≡ Some n)
found_front key n xs zero h = absurd (let no : None ≡ Some n = h in cc)
found_front key n [] (suc m) h = absurd (let no : None ≡ Some n = h in cc)
found_front key n (x ∷ xs) (suc m) h = elim (or_some (number_for key x) (first_number key (take m xs)) n h) as (λ _. (j : ℕ) × (j < length (x ∷ xs)) × (number_for key (get_or (x ∷ xs) j unused) ≡ Some n)) [
  | inl here ↦ (0, omega arith, here)
  | inr later ↦ let it = found_front key n xs m later in (suc it.0, omega (arith, it.1), it.2)
]

found_window : (key n : ℕ) (xs : List Slot) (from m : ℕ) → first_number key (take m (drop from xs)) ≡ Some n → (j : ℕ) × (j < length xs) × (number_for key (get_or xs j unused) ≡ Some n)
found_window key n xs zero m h = found_front key n xs m h
found_window key n [] (suc from) m h = found_front key n [] m h
found_window key n (x ∷ xs) (suc from) m h = let it = found_window key n xs from m h in (suc it.0, omega (arith, it.1), it.2)

pub found_table : (key n : ℕ) (xs : List Slot) → number_in xs key ≡ Some n → (j : ℕ) × (j < length xs) × (number_for key (get_or xs j unused) ≡ Some n)
unfolding number_in
found_table key n xs h = found_window key n xs (first_slot key (length xs)) 8 h
