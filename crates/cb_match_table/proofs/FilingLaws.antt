-- What is kept where entries come, go and are looked up.
use Rattle.std.proofs.Common.{◌≡◌, ◌≢◌, ◌⊎◌, ◌∙◌, inl, inr, ℕ, Bool, true, false, Option, Some, None, List, [], ◌∷◌, ap, ap₂, if◌then◌else◌, length, refl, subst, sym}
use Rattle.std.specs.BTreeMap as tree
use Rattle.std.specs.BTreeMap.{BTreeMap}
use Rattle.std.specs.Map.{lookup}
use Rattle.std.specs.Option.{option_or}
use Rattle.cb_match_index.specs.MatchIndices.{Place}
use Rattle.cb_match_table.proofs.Equality.{key-Decides, key-cases, key_apart, key_itself}
use Rattle.cb_match_table.specs.Internal.{IsFiled, place_of}
use Rattle.cb_match_table.specs.MatchTables.{Held, Name, entry_at, key_at, key_of, name_at, name_in}
use Rattle.cb_match_table.specs.declared.match_table.Entry.{Entry}
use Rattle.cb_matches.specs.Keys.{KeyValue, key_cmp, key_eq}
use Rattle.cb_number_map.proofs.Filed.{number_cases, same_some, some_none}
use Rattle.cb_number_map.specs.Filed.{ChangesAt, is_key, with_own_key}

pub place_same : (p q : Place) → p.0 ≡ q.0 → p.1.0 ≡ q.1.0 → p.1.1 ≡ q.1.1 → p ≡ q
place_same p q e f g = ap₂ (λ (r : ℕ) (b : ℕ × ℕ). (r, b)) e (ap₂ (λ (b n : ℕ). (b, n)) f g)

place_cases : (p q : Place) → (p ≡ q) ⊎ (p ≢ q)
place_cases p q = elim (number_cases p.0 q.0) as (λ _. (p ≡ q) ⊎ (p ≢ q)) [
  | inl e ↦ elim (number_cases p.1.0 q.1.0) as (λ _. (p ≡ q) ⊎ (p ≢ q)) [
    | inl f ↦ elim (number_cases p.1.1 q.1.1) as (λ _. (p ≡ q) ⊎ (p ≢ q)) [
      | inl g ↦ inl (place_same p q e f g)
      | inr apart ↦ inr (λ same. apart (ap (λ (r : Place). r.1.1) same))
    ]
    | inr apart ↦ inr (λ same. apart (ap (λ (r : Place). r.1.0) same))
  ]
  | inr apart ↦ inr (λ same. apart (ap (λ (r : Place). r.0) same))
]

-- the same change, where its place and what is there are called otherwise
pub changes_as : (old new : Place → Option ℕ) (p q : Place) (i j : ℕ) → p ≡ q → i ≡ j → ChangesAt old new p (Some i) → ChangesAt old new q (Some j)
changes_as old new p q i j same is change = subst (λ (n : ℕ). ChangesAt old new q (Some n)) is (subst (λ (r : Place). ChangesAt old new r (Some i)) same change)

-- the key of a name that is there
pub named : (o : Option Name) (k : KeyValue) → key_of o ≡ Some k → (n : ℕ) × (o ≡ Some (k, n))
named None k h = absurd (let no : None ≡ Some k = h in cc)
named (Some m) k h = let same : m.0 ≡ k = cc in (m.1, ap (λ (l : KeyValue). Some (l, m.1)) same)

name_key : {k l : KeyValue} {n o : ℕ} (m : Option Name) → m ≡ Some (k, n) → m ≡ Some (l, o) → k ≡ l
name_key m e f = ap (λ (p : Name). p.0) (same_some m e f)

-- what is filed under a place, where its entry has the key
own_by : (keys : ℕ → Option KeyValue) (o : Option KeyValue) (b : Bool) (i j : ℕ) (k : KeyValue) → is_key key_eq o k ≡ b → (if b then Some j else None) ≡ Some i → keys j ≡ o → keys i ≡ Some k
own_by keys o false i j k is h at = absurd (let no : None ≡ Some i = h in cc)
own_by keys None true i j k is h at = absurd (let no : false ≡ true = is in cc)
own_by keys (Some q) true i j k is h at =
    let same : j ≡ i = cc in
    ap keys (sym same) ∙ at ∙ ap (λ (l : KeyValue). Some l) ((key-Decides q k).0 is)

own_is : (keys : ℕ → Option KeyValue) (o : Option ℕ) (i : ℕ) (k : KeyValue) → with_own_key key_eq keys o k ≡ Some i → keys i ≡ Some k
own_is keys None i k h = absurd (let no : None ≡ Some i = h in cc)
own_is keys (Some j) i k h = own_by keys (keys j) (is_key key_eq (keys j) k) i j k refl h refl

own_here : (keys : ℕ → Option KeyValue) (i : ℕ) (k : KeyValue) → keys i ≡ Some k → with_own_key key_eq keys (Some i) k ≡ Some i
own_here keys i k h = let is : is_key key_eq (keys i) k ≡ true = ap (λ o. is_key key_eq o k) h ∙ key_itself k in rw (is) refl

either : (o p : Option ℕ) (i : ℕ) → option_or o p ≡ Some i → (o ≡ Some i) ⊎ (p ≡ Some i)
either None p i h = inr h
either (Some j) p i h = inl h

-- ---- a look-up

module _ (filed : Place → Option ℕ) (aside : KeyValue → Option ℕ) (names : ℕ → Option Name) (was : IsFiled filed aside names) where
  one_key : (k : KeyValue) (i j : ℕ) → key_of (names i) ≡ Some k → key_of (names j) ≡ Some k → i ≡ j
  one_key k i j e f =
      let a = named (names i) k e in
      let b = named (names j) k f in
      was.once k i j a.0 b.0 a.1 b.1

  aside_key : (k : KeyValue) (i : ℕ) → aside k ≡ Some i → key_of (names i) ≡ Some k
  aside_key k i h = ap key_of (was.aside_is k i h).1

  found_if : (k : KeyValue) (n i : ℕ) → option_or (with_own_key key_eq (λ j. key_of (names j)) (filed (place_of (k, n))) k) (aside k) ≡ Some i → key_of (names i) ≡ Some k
  found_if k n i h = elim (either (with_own_key key_eq (λ j. key_of (names j)) (filed (place_of (k, n))) k) (aside k) i h) as (λ _. key_of (names i) ≡ Some k) [
    | inl own ↦ own_is (λ j. key_of (names j)) (filed (place_of (k, n))) i k own
    | inr apart ↦ aside_key k i apart
  ]

  or_aside : (o : Option ℕ) (k : KeyValue) (i : ℕ) → ((j : ℕ) → o ≡ Some j → key_of (names j) ≡ Some k) → key_of (names i) ≡ Some k → option_or o (Some i) ≡ Some i
  or_aside None k i own there = refl
  or_aside (Some j) k i own there = ap (λ (h : ℕ). Some h) (one_key k j i (own j refl) there)

  found_only : (k : KeyValue) (n i : ℕ) → ((j m : ℕ) → names j ≡ Some (k, m) → m ≡ n) → key_of (names i) ≡ Some k → option_or (with_own_key key_eq (λ j. key_of (names j)) (filed (place_of (k, n))) k) (aside k) ≡ Some i
  found_only k n i known there =
      let keys : ℕ → Option KeyValue = λ j. key_of (names j) in
      let own = with_own_key key_eq keys (filed (place_of (k, n))) k in
      let it = named (names i) k there in
      let name : names i ≡ Some (k, n) = it.1 ∙ ap (λ (m : ℕ). Some (k, m)) (known i it.0 it.1) in
      elim (was.found i (k, n) name) as (λ _. option_or own (aside k) ≡ Some i) [
        | inl here ↦ ap (λ o. option_or (with_own_key key_eq keys o k) (aside k)) here ∙ ap (λ o. option_or o (aside k)) (own_here keys i k there)
        | inr apart ↦ ap (option_or own) apart ∙ or_aside own k i (λ j h. own_is keys (filed (place_of (k, n))) j k h) there
      ]

  -- what a look-up by key and number answers
  pub found_as : (k : KeyValue) (n : ℕ) (r : Option ℕ) → ((j m : ℕ) → names j ≡ Some (k, m) → m ≡ n) → option_or (with_own_key key_eq (λ j. key_of (names j)) (filed (place_of (k, n))) k) (aside k) ≡ r
      → (i : ℕ) → (r ≡ Some i → key_of (names i) ≡ Some k) × (key_of (names i) ≡ Some k → r ≡ Some i)
  found_as k n r known is i = (λ h. found_if k n i (is ∙ h), λ h. sym is ∙ found_only k n i known h)

  -- what a look-up by the key alone answers
  pub found_at : (k : KeyValue) (i : ℕ) → key_of (names i) ≡ Some k → (j : ℕ) → (Some i ≡ Some j → key_of (names j) ≡ Some k) × (key_of (names j) ≡ Some k → Some i ≡ Some j)
  found_at k i there j = (
    λ h. let same : i ≡ j = cc in ap (λ h. key_of (names h)) (sym same) ∙ there,
    λ h. ap (λ (h : ℕ). Some h) (one_key k i j there h),
  )

  pub same_filed : (filed' : Place → Option ℕ) → ((p : Place) → filed' p ≡ filed p) → IsFiled filed' aside names
  same_filed filed' same = record {
    filed_is = λ p i h. was.filed_is p i (sym (same p) ∙ h);
    aside_is = λ k i h. let it = was.aside_is k i h in (it.0, it.1, λ e. it.2 (sym (same (place_of (k, it.0))) ∙ e));
    found = λ i m h. elim (was.found i m h) as (λ _. (filed' (place_of m) ≡ Some i) ⊎ (aside m.0 ≡ Some i)) [
      | inl here ↦ inl (same (place_of m) ∙ here)
      | inr apart ↦ inr apart
    ];
    once = was.once;
  }

-- ---- an entry comes, with a key that no other has

module _ (filed : Place → Option ℕ) (aside : KeyValue → Option ℕ) (names more : ℕ → Option Name) (was : IsFiled filed aside names) (k : KeyValue) (n place : ℕ)
    (absent : (i : ℕ) → key_of (names i) ≢ Some k) (free : names place ≡ None) (change : ChangesAt names more place (Some (k, n))) where
  -- others have the places that they had
  stays : (i : ℕ) (m : Name) → names i ≡ Some m → more i ≡ Some m
  stays i m h = change.others i (λ e. some_none (names i) h (ap names (sym e) ∙ free)) ∙ h

  come_or_was : (i : ℕ) (m : Name) → more i ≡ Some m → ((place ≡ i) × ((k, n) ≡ m)) ⊎ (names i ≡ Some m)
  come_or_was i m h = elim (number_cases place i) as (λ _. ((place ≡ i) × ((k, n) ≡ m)) ⊎ (names i ≡ Some m)) [
    | inl same ↦ inl (same, same_some (more i) (ap more (sym same) ∙ change.here) h)
    | inr other ↦ inr (sym (change.others i other) ∙ h)
  ]

  once_more : (q : KeyValue) (i j l o : ℕ) → more i ≡ Some (q, l) → more j ≡ Some (q, o) → i ≡ j
  once_more q i j l o e f = elim (come_or_was i (q, l) e) as (λ _. i ≡ j) [
    | inl new ↦ elim (come_or_was j (q, o) f) as (λ _. i ≡ j) [
      | inl too ↦ sym new.0 ∙ too.0
      | inr old ↦ absurd (absent j (ap key_of old ∙ ap (λ (p : Name). Some p.0) (sym new.1)))
    ]
    | inr was_there ↦ elim (come_or_was j (q, o) f) as (λ _. i ≡ j) [
      | inl new ↦ absurd (absent i (ap key_of was_there ∙ ap (λ (p : Name). Some p.0) (sym new.1)))
      | inr old ↦ was.once q i j l o was_there old
    ]
  ]

  -- it is filed where nothing was
  pub noted_filed : (filed' : Place → Option ℕ) → filed (place_of (k, n)) ≡ None → ChangesAt filed filed' (place_of (k, n)) (Some place) → IsFiled filed' aside more
  noted_filed filed' none u = record {
    filed_is = λ p i h. elim (place_cases (place_of (k, n)) p) as (λ _. (m : Name) × (more i ≡ Some m) × (place_of m ≡ p)) [
      | inl same ↦
          let at : place ≡ i = same_some (filed' p) (ap filed' (sym same) ∙ u.here) h in
          ((k, n), ap more (sym at) ∙ change.here, same)
      | inr other ↦ let it = was.filed_is p i (sym (u.others p other) ∙ h) in (it.0, stays i it.0 it.1, it.2)
    ];
    aside_is = λ q i h.
        let it = was.aside_is q i h in (
          it.0,
          stays i (q, it.0) it.1,
          λ e. elim (place_cases (place_of (k, n)) (place_of (q, it.0))) as (λ _. ⊥) [
            | inl same ↦ some_none (names i) it.1 (ap names (sym (same_some (filed' (place_of (q, it.0))) (ap filed' (sym same) ∙ u.here) e)) ∙ free)
            | inr other ↦ it.2 (sym (u.others (place_of (q, it.0)) other) ∙ e)
          ],
        );
    found = λ i m h. elim (come_or_was i m h) as (λ _. (filed' (place_of m) ≡ Some i) ⊎ (aside m.0 ≡ Some i)) [
      | inl new ↦ inl (ap (λ (p : Name). filed' (place_of p)) (sym new.1) ∙ u.here ∙ ap (λ (j : ℕ). Some j) new.0)
      | inr old ↦ elim (was.found i m old) as (λ _. (filed' (place_of m) ≡ Some i) ⊎ (aside m.0 ≡ Some i)) [
        | inl here ↦ inl (u.others (place_of m) (λ same. some_none (filed (place_of m)) here (ap filed (sym same) ∙ none)) ∙ here)
        | inr apart ↦ inr apart
      ]
    ];
    once = once_more;
  }

  -- it stands aside
  pub noted_aside : (aside' : KeyValue → Option ℕ) → ChangesAt aside aside' k (Some place) → IsFiled filed aside' more
  noted_aside aside' u = record {
    filed_is = λ p i h. let it = was.filed_is p i h in (it.0, stays i it.0 it.1, it.2);
    aside_is = λ q i h. elim (key-cases k q) as (λ _. (o : ℕ) × (more i ≡ Some (q, o)) × (filed (place_of (q, o)) ≢ Some i)) [
      | inl same ↦
          let at : place ≡ i = same_some (aside' q) (ap aside' (sym same) ∙ u.here) h in (
            n,
            ap more (sym at) ∙ change.here ∙ ap (λ (l : KeyValue). Some (l, n)) same,
            λ e.
                let it = was.filed_is (place_of (q, n)) i e in
                some_none (names i) it.1 (ap names (sym at) ∙ free),
          )
      | inr other ↦ let it = was.aside_is q i (sym (u.others q other) ∙ h) in (it.0, stays i (q, it.0) it.1, it.2)
    ];
    found = λ i m h. elim (come_or_was i m h) as (λ _. (filed (place_of m) ≡ Some i) ⊎ (aside' m.0 ≡ Some i)) [
      | inl new ↦ inr (ap (λ (p : Name). aside' p.0) (sym new.1) ∙ u.here ∙ ap (λ (j : ℕ). Some j) new.0)
      | inr old ↦ elim (was.found i m old) as (λ _. (filed (place_of m) ≡ Some i) ⊎ (aside' m.0 ≡ Some i)) [
        | inl here ↦ inl here
        | inr apart ↦ inr (u.others m.0 (λ same. absent i (ap key_of old ∙ ap (λ (l : KeyValue). Some l) (sym same))) ∙ apart)
      ]
    ];
    once = once_more;
  }

-- ---- an entry goes

module _ (filed : Place → Option ℕ) (aside : KeyValue → Option ℕ) (names less : ℕ → Option Name) (was : IsFiled filed aside names) (k : KeyValue) (n place : ℕ)
    (there : names place ≡ Some (k, n)) (change : ChangesAt names less place None) where
  was_there : (i : ℕ) (m : Name) → less i ≡ Some m → (place ≢ i) × (names i ≡ Some m)
  was_there i m h = elim (number_cases place i) as (λ _. (place ≢ i) × (names i ≡ Some m)) [
    | inl same ↦ absurd (some_none (less i) h (ap less (sym same) ∙ change.here))
    | inr other ↦ (other, sym (change.others i other) ∙ h)
  ]

  left : (i : ℕ) (m : Name) → names i ≡ Some m → ((k, n) ≢ m) → less i ≡ Some m
  left i m h apart = change.others i (λ same. apart (same_some (names i) (ap names (sym same) ∙ there) h)) ∙ h

  once_less : (q : KeyValue) (i j l o : ℕ) → less i ≡ Some (q, l) → less j ≡ Some (q, o) → i ≡ j
  once_less q i j l o e f = was.once q i j l o (was_there i (q, l) e).1 (was_there j (q, o) f).1

  -- it was filed
  pub forgot_filed : (filed' : Place → Option ℕ) → filed (place_of (k, n)) ≡ Some place → ChangesAt filed filed' (place_of (k, n)) None → IsFiled filed' aside less
  forgot_filed filed' here u = record {
    filed_is = λ p i h. elim (place_cases (place_of (k, n)) p) as (λ _. (m : Name) × (less i ≡ Some m) × (place_of m ≡ p)) [
      | inl same ↦ absurd (some_none (filed' p) h (ap filed' (sym same) ∙ u.here))
      | inr other ↦
          let it = was.filed_is p i (sym (u.others p other) ∙ h) in
          (it.0, left i it.0 it.1 (λ same. other (ap place_of same ∙ it.2)), it.2)
    ];
    aside_is = λ q i h.
        let it = was.aside_is q i h in
        let apart : (k, n) ≢ (q, it.0) = λ same. it.2 (ap (λ (m : Name). filed (place_of m)) (sym same) ∙ here ∙ ap (λ (j : ℕ). Some j) (was.once q place i n it.0 (there ∙ ap (λ (m : Name). Some (m.0, n)) same) it.1)) in (
          it.0,
          left i (q, it.0) it.1 apart,
          λ e. elim (place_cases (place_of (k, n)) (place_of (q, it.0))) as (λ _. ⊥) [
            | inl same ↦ some_none (filed' (place_of (q, it.0))) e (ap filed' (sym same) ∙ u.here)
            | inr other ↦ it.2 (sym (u.others (place_of (q, it.0)) other) ∙ e)
          ],
        );
    found = λ i m h.
        let it = was_there i m h in
        elim (was.found i m it.1) as (λ _. (filed' (place_of m) ≡ Some i) ⊎ (aside m.0 ≡ Some i)) [
          | inl at ↦ inl (u.others (place_of m) (λ same. it.0 (same_some (filed (place_of m)) (ap filed (sym same) ∙ here) at)) ∙ at)
          | inr apart ↦ inr apart
        ];
    once = once_less;
  }

  -- it stood aside
  pub forgot_aside : (aside' : KeyValue → Option ℕ) → filed (place_of (k, n)) ≢ Some place → ChangesAt aside aside' k None → IsFiled filed aside' less
  forgot_aside aside' not_here u = record {
    filed_is = λ p i h.
        let it = was.filed_is p i h in (
          it.0,
          left i it.0 it.1 (λ same. not_here (ap filed (ap place_of same ∙ it.2) ∙ h ∙ ap (λ (j : ℕ). Some j)
              (sym (was.once k place i n n there (it.1 ∙ ap (λ (m : Name). Some m) (sym same)))))),
          it.2,
        );
    aside_is = λ q i h. elim (key-cases k q) as (λ _. (o : ℕ) × (less i ≡ Some (q, o)) × (filed (place_of (q, o)) ≢ Some i)) [
      | inl same ↦ absurd (some_none (aside' q) h (ap aside' (sym same) ∙ u.here))
      | inr other ↦
          let it = was.aside_is q i (sym (u.others q other) ∙ h) in
          (it.0, left i (q, it.0) it.1 (λ same. other (ap (λ (m : Name). m.0) same)), it.2)
    ];
    found = λ i m h.
        let it = was_there i m h in
        elim (was.found i m it.1) as (λ _. (filed (place_of m) ≡ Some i) ⊎ (aside' m.0 ≡ Some i)) [
          | inl at ↦ inl at
          | inr apart ↦ inr (u.others m.0 (λ same. it.0 (was.once m.0 place i n m.1 (there ∙ ap (λ (l : KeyValue). Some (l, n)) same) it.1)) ∙ apart)
        ];
    once = once_less;
  }

-- ---- what stands aside, by the map

-- nothing is found where there is nothing
pub no_entry : (es : List (KeyValue × ℕ)) (k : KeyValue) → length es ≡ 0 → lookup (tree.is_at (key_cmp k)) es ≡ None
no_entry [] k e = refl
no_entry (e ∷ es) k h = absurd (cc)

pub aside_more : (a b : BTreeMap KeyValue ℕ) (k : KeyValue) (r : Option ℕ) → tree.Updates key_cmp a b k r → ChangesAt (tree.get key_cmp a) (tree.get key_cmp b) k r
aside_more a b k r u = record { here = u.1; others = λ q apart. u.2 q (key_apart k q apart) }

-- ---- the table: what each place has

-- the name at each place, where entries change at one
pub names_change : {V : Type 0} (old new : Held V) (place : ℕ) (o : Option (Entry V)) → ChangesAt (entry_at old) (entry_at new) place o → ChangesAt (name_at old) (name_at new) place (name_in o)
names_change old new place o change = record { here = ap name_in change.here; others = λ i apart. ap name_in (change.others i apart) }

pub changes_at : {V : Type 0} (old new : Held V) (place : ℕ) (o : Option (Entry V)) → entry_at new place ≡ o → ((i : ℕ) → i ≢ place → entry_at new i ≡ entry_at old i) → ChangesAt (entry_at old) (entry_at new) place o
changes_at old new place o here others = record { here = here; others = λ i apart. others i (λ e. apart (sym e)) }

-- an entry was put at a place that was made for it
pub added_at : {V : Type 0} (old mid new : Held V) (place put : ℕ) (e : Entry V) → mid ≡ old → put ≡ place → entry_at new put ≡ Some e → ((i : ℕ) → i ≢ put → entry_at new i ≡ entry_at mid i) → ChangesAt (entry_at old) (entry_at new) place (Some e)
added_at {V} old mid new place put e same at here others =
    changes_at old new place (Some e) (ap (entry_at new) (sym at) ∙ here) (λ i apart. others i (λ is. apart (is ∙ at)) ∙ ap (λ (held : Held V). entry_at held i) same)

pub moved : {V : Type 0} (filed : Place → Option ℕ) (aside : KeyValue → Option ℕ) (held seen : Held V) → held ≡ seen → IsFiled filed aside (name_at held) → IsFiled filed aside (name_at seen)
moved {V} filed aside held seen same was = subst (λ (hs : Held V). IsFiled filed aside (name_at hs)) same was

-- what a look-up answers, by what each place has
pub found_here : {V : Type 0} (filed : Place → Option ℕ) (aside : KeyValue → Option ℕ) (held seen : Held V) → held ≡ seen → IsFiled filed aside (name_at held) → (k : KeyValue) (n : ℕ) (r : Option ℕ)
    → ((i m : ℕ) → name_at seen i ≡ Some (k, m) → m ≡ n) → option_or (with_own_key key_eq (key_at held) (filed (place_of (k, n))) k) (aside k) ≡ r
    → (i : ℕ) → (r ≡ Some i → key_at seen i ≡ Some k) × (key_at seen i ≡ Some k → r ≡ Some i)
found_here {V} filed aside held seen same was k n r known is =
    subst (λ (hs : Held V). ((i m : ℕ) → name_at hs i ≡ Some (k, m) → m ≡ n) → (i : ℕ) → (r ≡ Some i → key_at hs i ≡ Some k) × (key_at hs i ≡ Some k → r ≡ Some i)) same
    (λ known_here. found_as filed aside (name_at held) was k n r known_here is) known

pub found_key : {V : Type 0} (filed : Place → Option ℕ) (aside : KeyValue → Option ℕ) (held seen : Held V) → held ≡ seen → IsFiled filed aside (name_at held) → (k : KeyValue) (i : ℕ) → key_at seen i ≡ Some k
    → (j : ℕ) → (Some i ≡ Some j → key_at seen j ≡ Some k) × (key_at seen j ≡ Some k → Some i ≡ Some j)
found_key filed aside held seen same was k i there =
    found_at filed aside (name_at seen) (moved filed aside held seen same was) k i there

pub found_none : {V : Type 0} (held : Held V) (k : KeyValue) → ((i : ℕ) → key_at held i ≢ Some k) → (j : ℕ) → (None ≡ Some j → key_at held j ≡ Some k) × (key_at held j ≡ Some k → None ≡ Some j)
found_none held k absent j = (λ h. absurd (let no : None ≡ Some j = h in cc), λ h. absurd (absent j h))
