-- The activations whose entries are current.
use Rattle.std.proofs.Common.{◌≡◌, ◌≢◌, inl, inr, ◌<◌, ℕ, Bool, true, false, List, [], ◌∷◌, ◌++◌, Option, None, Some, Less, Equal, Greater, Ordering, ap, ap₂, arith, cond, filter, if◌then◌else◌, is_eq, refl, subst, sym, ◌∙◌}
use Rattle.std.proofs.lemmas.Bool.{false_from_ne_true, false≢true}
use Rattle.std.specs.BTreeMap.{insert_entry, is_at}
use Rattle.std.specs.List.{AllByRecursion}
use Rattle.cb_agenda.proofs.EntryLaws.{above_all, all_weaker, at_same, front}
use Rattle.cb_agenda.proofs.Equality.{rank-Decides}
use Rattle.cb_match_table.proofs.Equality.{key-Decides, key_differs}
use Rattle.cb_number_map.proofs.Filed.{number_cases}
use Rattle.cb_agenda.specs.Agendas.{Activation, Entries, without_key}
use Rattle.cb_agenda.specs.Internal.{Active, In, Placed, Rises, current, current_key, key_in, with_current}
use Rattle.cb_agenda.specs.Internal.RankLaws.{rank_tied}
use Rattle.cb_agenda.specs.Ranks.{rank_cmp, rank_eq}
use Rattle.cb_agenda.specs.declared.rank.Rank.{Rank}
use Rattle.cb_number_map.specs.Filed.{ChangesAt}
use Rattle.cb_matches.specs.Keys.{KeyValue, key_eq}

abbrev pub Find : Type 0
Find = ℕ → Option Active

abbrev pub key_of : Find → Placed → Option KeyValue
key_of find x = current_key (find x.1) x.0

-- one after the other
with_append : (o : Option KeyValue) (t : Rank) (es fs : Entries) → with_current o t (es ++ fs) ≡ with_current o t es ++ fs
with_append None t es fs = refl
with_append (Some k) t es fs = refl

pub current_append : (find : Find) (xs ys : List Placed) → current find (xs ++ ys) ≡ current find xs ++ current find ys
current_append find [] ys = refl
current_append find (x ∷ xs) ys = ap (with_current (key_of find x) x.0) (current_append find xs ys) ∙ with_append (key_of find x) x.0 (current find xs) (current find ys)

-- what holds of the ranks of all
with_all : (P : Rank → Type 0) (o : Option KeyValue) (t : Rank) (es : Entries) → P t → AllByRecursion (λ (e : Activation). P e.0) es → AllByRecursion (λ (e : Activation). P e.0) (with_current o t es)
with_all P None t es p h = h
with_all P (Some k) t es p h = (p, h)

pub all_current : (P : Rank → Type 0) (find : Find) (xs : List Placed) → AllByRecursion (λ (x : Placed). P x.0) xs → AllByRecursion (λ (e : Activation). P e.0) (current find xs)
all_current P find [] h = tt
all_current P find (x ∷ xs) h = with_all P (key_of find x) x.0 (current find xs) h.0 (all_current P find xs h.1)

with_rises : (o : Option KeyValue) (t : Rank) (es : Entries) → AllByRecursion (λ (e : Activation). rank_cmp t e.0 ≡ Less) es → Rises es → Rises (with_current o t es)
with_rises None t es h up = up
with_rises (Some k) t es h up = (h, up)

pub rises_current : (find : Find) (xs : List Placed) → Rises xs → Rises (current find xs)
rises_current find [] up = tt
rises_current find (x ∷ xs) up = with_rises (key_of find x) x.0 (current find xs) (all_current (λ u. rank_cmp x.0 u ≡ Less) find xs up.0) (rises_current find xs up.1)

-- the same entries are current
pub current_same : (find found : Find) (xs : List Placed) → AllByRecursion (λ (x : Placed). key_of found x ≡ key_of find x) xs → current found xs ≡ current find xs
current_same find found [] h = refl
current_same find found (x ∷ xs) h = ap (λ o. with_current o x.0 (current found xs)) h.0 ∙ ap (with_current (key_of find x) x.0) (current_same find found xs h.1)

-- stale entries are let go
let_go_by : (b : Bool) (q : Placed → Bool) (find : Find) (x : Placed) (xs : List Placed) → (b ≡ false → key_of find x ≡ None) → current find (filter q xs) ≡ current find xs → current find (cond b (x ∷ filter q xs) (filter q xs)) ≡ current find (x ∷ xs)
let_go_by true q find x xs h next = ap (with_current (key_of find x) x.0) next
let_go_by false q find x xs h next = next ∙ sym (ap (λ o. with_current o x.0 (current find xs)) (h refl))

pub current_filter : (q : Placed → Bool) (find : Find) (xs : List Placed) → ((x : Placed) → q x ≡ false → key_of find x ≡ None) → current find (filter q xs) ≡ current find xs
current_filter q find [] h = refl
current_filter q find (x ∷ xs) h = let_go_by (q x) q find x xs (h x) (current_filter q find xs h)

-- the activation of an entry that is current
pub own_rank : (t : Rank) → rank_eq t t ≡ true
own_rank t = (rank-Decides t t).1 refl

pub key_here : (k : KeyValue) (t : Rank) → current_key (Some (record { key = k; rank = t })) t ≡ Some k
key_here k t = let is : rank_eq t t ≡ true = own_rank t in rw (is) refl

pub key_other : (k : KeyValue) (t u : Rank) → rank_eq t u ≡ false → current_key (Some (record { key = k; rank = t })) u ≡ None
key_other k t u h = rw (h) refl

entry_by : (b : Bool) (e : Active) (t : Rank) (k : KeyValue) → rank_eq e.rank t ≡ b → (if b then Some e.key else None) ≡ Some k → Some e ≡ Some (record { key = k; rank = t })
entry_by true e t k is h =
    let key : e.key ≡ k = cc in
    ap₂ (λ (l : KeyValue) (u : Rank). Some (record { key = l; rank = u })) key ((rank-Decides e.rank t).0 is)
entry_by false e t k is h = cc

pub entry_of : (o : Option Active) (t : Rank) (k : KeyValue) → current_key o t ≡ Some k → o ≡ Some (record { key = k; rank = t })
entry_of None t k h = cc
entry_of (Some e) t k h = entry_by (rank_eq e.rank t) e t k refl h

pub key_is : (o : Option Active) (t : Rank) (k : KeyValue) → current_key o t ≡ Some k → key_in o ≡ Some k
key_is o t k h = ap key_in (entry_of o t k h)

-- the activation of a key goes
out_by : (o : Option KeyValue) (t : Rank) (k : KeyValue) (es : Entries) → ((q : KeyValue) → o ≡ Some q → k ≡ q) → without_key es k ≡ without_key (with_current o t es) k
out_by None t k es h = refl
out_by (Some q) t k es h = let is : key_eq k q ≡ true = (key-Decides k q).1 (h q refl) in rw (is) refl

kept_by : (o : Option KeyValue) (t : Rank) (k : KeyValue) (es : Entries) → ((q : KeyValue) → o ≡ Some q → k ≢ q) → with_current o t (without_key es k) ≡ without_key (with_current o t es) k
kept_by None t k es h = refl
kept_by (Some q) t k es h = let is : key_eq k q ≡ false = key_differs k q (h q refl) in rw (is) refl

pub without_absent : (find : Find) (k : KeyValue) → ((n : ℕ) → key_in (find n) ≢ Some k) → (xs : List Placed) → current find xs ≡ without_key (current find xs) k
without_absent find k absent [] = refl
without_absent find k absent (x ∷ xs) =
    ap (with_current (key_of find x) x.0) (without_absent find k absent xs)
    ∙ kept_by (key_of find x) x.0 k (current find xs) (λ q h same. absent x.1 (key_is (find x.1) x.0 q h ∙ ap (λ (l : KeyValue). Some l) (sym same)))

module _ (find found : Find) (n : ℕ) (k : KeyValue) (there : key_in (find n) ≡ Some k) (only : (m : ℕ) → key_in (find m) ≡ Some k → n ≡ m) (change : ChangesAt find found n None) where
  same_key : (q : KeyValue) → Some k ≡ Some q → k ≡ q
  same_key q h = cc

  removed_at : (x : Placed) (es : Entries) → with_current (key_of found x) x.0 (without_key es k) ≡ without_key (with_current (key_of find x) x.0 es) k
  removed_at x es = elim (number_cases n x.1) as (λ _. with_current (key_of found x) x.0 (without_key es k) ≡ without_key (with_current (key_of find x) x.0 es) k) [
    | inl same ↦ ap (λ o. with_current (current_key o x.0) x.0 (without_key es k)) (ap found (sym same) ∙ change.here)
        ∙ out_by (key_of find x) x.0 k es (λ q h. same_key q (sym there ∙ (ap (λ m. key_in (find m)) same ∙ key_is (find x.1) x.0 q h)))
    | inr other ↦ ap (λ o. with_current (current_key o x.0) x.0 (without_key es k)) (change.others x.1 other)
        ∙ kept_by (key_of find x) x.0 k es (λ q h same. other (only x.1 (key_is (find x.1) x.0 q h ∙ ap (λ (l : KeyValue). Some l) (sym same))))
  ]

  pub removed : (xs : List Placed) → current found xs ≡ without_key (current find xs) k
  removed [] = refl
  removed (x ∷ xs) = ap (with_current (key_of found x) x.0) (removed xs) ∙ removed_at x (current find xs)

-- an activation comes with a stamp above all others
abbrev pub Older : Rank → Placed → Type 0
Older t x = x.0.stamp < t.stamp

pub apart_older : (t : Rank) (x : Placed) → Older t x → is_at (rank_cmp t) x.0 ≡ false
apart_older t x below = false_from_ne_true (is_at (rank_cmp t) x.0) (λ h.
    let same : t ≡ x.0 = at_same t x.0 h in
    let stamps : t.stamp ≡ x.0.stamp = ap (λ (u : Rank). u.stamp) same in
    omega (arith, below))

module _ (find found : Find) (n : ℕ) (k : KeyValue) (t : Rank) (free : find n ≡ None) (change : ChangesAt find found n (Some (record { key = k; rank = t }))) where
  same_before : (x : Placed) → Older t x → key_of found x ≡ key_of find x
  same_before x older = elim (number_cases n x.1) as (λ _. key_of found x ≡ key_of find x) [
    | inl same ↦
        let now : key_of found x ≡ None = ap (λ o. current_key o x.0) (ap found (sym same) ∙ change.here) ∙ key_other k t x.0 (rank_tied t x.0 ∙ apart_older t x older) in
        let was : key_of find x ≡ None = ap (λ o. current_key o x.0) (ap find (sym same) ∙ free) in
        now ∙ sym was
    | inr other ↦ ap (λ o. current_key o x.0) (change.others x.1 other)
  ]

  further : (o : Option KeyValue) (u : Rank) (es : Entries) → rank_cmp t u ≡ Greater → with_current o u (insert_entry rank_cmp es t k) ≡ insert_entry rank_cmp (with_current o u es) t k
  further None u es h = refl
  further (Some q) u es h = rw (h) refl

  own_key : current_key (found n) t ≡ Some k
  own_key = ap (λ o. current_key o t) change.here ∙ key_here k t

  more_by : (o : Ordering) (x : Placed) (xs : List Placed) → rank_cmp t x.0 ≡ o → Older t x → Rises (x ∷ xs) → current found (insert_entry rank_cmp xs t n) ≡ insert_entry rank_cmp (current found xs) t k
      → current found (insert_entry rank_cmp (x ∷ xs) t n) ≡ insert_entry rank_cmp (current found (x ∷ xs)) t k
  more_by Less x xs e older up next =
      let is : insert_entry rank_cmp (x ∷ xs) t n ≡ (t, n) ∷ x ∷ xs = rw (e) refl in
      ap (current found) is ∙ ap (λ o. with_current o t (current found (x ∷ xs))) own_key
      ∙ sym (front t k (current found (x ∷ xs)) (all_current (λ u. rank_cmp t u ≡ Less) found (x ∷ xs) (e, above_all t x.0 xs e up.0)))
  more_by Equal x xs e older up next = absurd (false≢true (sym (apart_older t x older) ∙ ap is_eq e))
  more_by Greater x xs e older up next =
      let is : insert_entry rank_cmp (x ∷ xs) t n ≡ x ∷ insert_entry rank_cmp xs t n = rw (e) refl in
      ap (current found) is ∙ ap (with_current (key_of found x) x.0) next ∙ further (key_of found x) x.0 (current found xs) e

  more : (xs : List Placed) → AllByRecursion (Older t) xs → Rises xs → current found (insert_entry rank_cmp xs t n) ≡ insert_entry rank_cmp (current found xs) t k
  more [] older up = ap (λ o. with_current o t []) own_key
  more (x ∷ xs) older up = more_by (rank_cmp t x.0) x xs refl older.0 up (more xs older.1 up.1)

  pub put : (xs : List Placed) → AllByRecursion (Older t) xs → Rises xs → current found (insert_entry rank_cmp xs t n) ≡ insert_entry rank_cmp (current find xs) t k
  put xs older up =
      more xs older up ∙ ap (λ (es : Entries). insert_entry rank_cmp es t k) (current_same find found xs (all_weaker (Older t) (λ (x : Placed). key_of found x ≡ key_of find x) same_before xs older))

-- what is shown of an entry that is current
with_here : (o : Option KeyValue) (t : Rank) (k : KeyValue) (es : Entries) → o ≡ Some k → In (t, k) (with_current o t es)
with_here None t k es h = cc
with_here (Some q) t k es h = let is : k ≡ q = cc in inl (ap (λ (l : KeyValue). (t, l)) is)

with_there : (o : Option KeyValue) (t : Rank) (e : Activation) (es : Entries) → In e es → In e (with_current o t es)
with_there None t e es h = h
with_there (Some q) t e es h = inr h

pub shown_in : (find : Find) (xs : List Placed) (x : Placed) (k : KeyValue) → In x xs → key_of find x ≡ Some k → In (x.0, k) (current find xs)
shown_in find [] x k there h = elim there [ ]
shown_in find (y ∷ ys) x k (inl is) h =
    subst (λ (u : Rank). In (u, k) (current find (y ∷ ys))) (sym (ap (λ (z : Placed). z.0) is)) (with_here (key_of find y) y.0 k (current find ys) (ap (key_of find) (sym is) ∙ h))
shown_in find (y ∷ ys) x k (inr there) h = with_there (key_of find y) y.0 (x.0, k) (current find ys) (shown_in find ys x k there h)

in_shown_by : (o : Option KeyValue) (find : Find) (y : Placed) (ys : List Placed) (e : Activation) → key_of find y ≡ o → In e (with_current o y.0 (current find ys)) → (In e (current find ys) → (x : Placed) × In x ys × (key_of find x ≡ Some e.1))
    → (x : Placed) × In x (y ∷ ys) × (key_of find x ≡ Some e.1)
in_shown_by None find y ys e is h next = let found = next h in (found.0, inr found.1, found.2)
in_shown_by (Some q) find y ys e is (inl same) next = (y, inl refl, is ∙ ap (λ (f : Activation). Some f.1) (sym same))
in_shown_by (Some q) find y ys e is (inr h) next = let found = next h in (found.0, inr found.1, found.2)

pub in_shown : (find : Find) (xs : List Placed) (e : Activation) → In e (current find xs) → (x : Placed) × In x xs × (key_of find x ≡ Some e.1)
in_shown find [] e h = elim h [ ]
in_shown find (y ∷ ys) e h = in_shown_by (key_of find y) find y ys e refl h (in_shown find ys e)
