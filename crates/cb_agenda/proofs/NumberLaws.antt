-- The numbers of the matches that are due, and which of them stay where activations come and go.
use Rattle.std.proofs.Common.{◌≡◌, ◌≢◌, ◌⊎◌, ◌∙◌, inl, inr, ℕ, zero, suc, Option, Some, None, List, [], ◌∷◌, Less, Equal, Greater, Ordering, false, true, ap, refl, subst, sym}
use Rattle.std.specs.BTreeMap.{is_at}
use Rattle.std.specs.Ordering.{is_eq, is_lt}
use Rattle.cb_agenda.specs.Agendas.{IsTold}
use Rattle.cb_agenda.specs.Internal.{GetsName, IsPut, IsSplit, KeepsNames, LosesKey, RisesFrom, TellsOnce, active_at, active_in, key_in, numbers_of}
use Rattle.cb_agenda.specs.declared.rank.Rank.{Rank}
use Rattle.cb_match_table.proofs.Equality.{key-Decides}
use Rattle.cb_match_table.specs.MatchTables.{Held, Name, entry_at, key_at, key_of, name_at, name_in}
use Rattle.cb_match_table.specs.declared.match_table.Entry.{Entry}
use Rattle.cb_matches.specs.Chains.{In}
use Rattle.cb_matches.specs.Changes.{HaveNumbers, IsNumber, Numbers}
use Rattle.cb_matches.specs.Internal.KeyLaws.{key_tied, key_total}
use Rattle.cb_matches.specs.Keys.{KeyValue, key_cmp}
use Rattle.cb_number_map.proofs.Filed.{number_cases, same_some, some_none}
use Rattle.cb_number_map.specs.Filed.{ChangesAt}

-- ---- activations without their numbers

pub key_named : (o : Option (Entry Rank)) → key_in (active_in o) ≡ key_of (name_in o)
key_named None = refl
key_named (Some e) = refl

pub changes_active : (old new : Held Rank) (place : ℕ) (o : Option (Entry Rank)) → ChangesAt (entry_at old) (entry_at new) place o → ChangesAt (active_at old) (active_at new) place (active_in o)
changes_active old new place o change = record { here = ap active_in change.here; others = λ i apart. ap active_in (change.others i apart) }

key_gone : (o : Option Name) (k : KeyValue) → ((m : Name) → o ≡ Some m → m.0 ≢ k) → key_of o ≢ Some k
key_gone None k apart h = let no : None ≡ Some k = h in cc
key_gone (Some m) k apart h = apart m refl (let is : m.0 ≡ k = cc in is)

-- ---- the names of activations, where one comes or goes

pub key_lost : (old new : Held Rank) (k : KeyValue) → LosesKey old new k → (i : ℕ) → key_at new i ≢ Some k
key_lost old new k loses i = key_gone (name_at new i) k (λ m h. (loses i m h).1)

module _ (old new : Held Rank) (place : ℕ) where
  pub names_less : ChangesAt (entry_at old) (entry_at new) place None → KeepsNames old new
  names_less change i m h = elim (number_cases place i) as (λ _. name_at old i ≡ Some m) [
    | inl same ↦ absurd (some_none (name_at new i) h (ap (name_at new) (sym same) ∙ ap name_in change.here))
    | inr other ↦ ap name_in (sym (change.others i other)) ∙ h
  ]

  pub names_gone : (k : KeyValue) → ((i : ℕ) → key_at old i ≡ Some k → place ≡ i) → ChangesAt (entry_at old) (entry_at new) place None → LosesKey old new k
  names_gone k only change i m h = elim (number_cases place i) as (λ _. (name_at old i ≡ Some m) × (m.0 ≢ k)) [
    | inl same ↦ absurd (some_none (name_at new i) h (ap (name_at new) (sym same) ∙ ap name_in change.here))
    | inr other ↦
        let was : name_at old i ≡ Some m = ap name_in (sym (change.others i other)) ∙ h in
        (was, λ is. other (only i (ap key_of was ∙ ap (λ (l : KeyValue). Some l) is)))
  ]

  pub names_more : (k : KeyValue) (n : ℕ) (t : Rank) → ChangesAt (entry_at old) (entry_at new) place (Some (record { key = k; number = n; value = t })) → GetsName old new k n
  names_more k n t change i m h = elim (number_cases place i) as (λ _. (name_at old i ≡ Some m) ⊎ (m ≡ (k, n))) [
    | inl same ↦ inr (same_some (name_at new i) h (ap (name_at new) (sym same) ∙ ap name_in change.here))
    | inr other ↦ inl (ap name_in (sym (change.others i other)) ∙ h)
  ]

-- one goes, and comes again by this number
pub gets_after : (old mid new : Held Rank) (k : KeyValue) (n : ℕ) → LosesKey old mid k → GetsName mid new k n → GetsName old new k n
gets_after old mid new k n loses gets i m h = elim (gets i m h) as (λ _. (name_at old i ≡ Some m) ⊎ (m ≡ (k, n))) [
  | inl was ↦ inl (loses i m was).0
  | inr is ↦ inr is
]

pub names_absent : (held : Held Rank) (k : KeyValue) → ((i : ℕ) → key_at held i ≢ Some k) → LosesKey held held k
names_absent held k absent i m h = (h, λ is. absent i (ap key_of h ∙ ap (λ (l : KeyValue). Some l) is))

-- ---- the same of numbers

in_numbers : (held : Held Rank) (i : ℕ) (m : Name) → name_at held i ≡ Some m → In m (numbers_of held)
in_numbers [] i m h = absurd (let no : None ≡ Some m = h in cc)
in_numbers (None ∷ held) zero m h = absurd (let no : None ≡ Some m = h in cc)
in_numbers (None ∷ held) (suc i) m h = in_numbers held i m h
in_numbers (Some e ∷ held) zero m h = inl (let is : m ≡ (e.key, e.number) = cc in is)
in_numbers (Some e ∷ held) (suc i) m h = inr (in_numbers held i m h)

named_in : (held : Held Rank) (m : Name) → In m (numbers_of held) → (i : ℕ) × (name_at held i ≡ Some m)
named_in [] m h = elim h [ ]
named_in (None ∷ held) m h = let it = named_in held m h in (suc it.0, it.1)
named_in (Some e ∷ held) m (inl is) = (zero, ap (λ (p : Name). Some p) (sym is))
named_in (Some e ∷ held) m (inr h) = let it = named_in held m h in (suc it.0, it.1)

-- the numbers, as they are seen
module _ (held : Held Rank) (ns : Numbers) (seen : numbers_of held ≡ ns) where
  seen_in : (i : ℕ) (m : Name) → name_at held i ≡ Some m → In m ns
  seen_in i m h = subst (λ (all : Numbers). In m all) seen (in_numbers held i m h)

  pub known_names : (k : KeyValue) (n : ℕ) → ((m : ℕ) → IsNumber ns k m → m ≡ n) → (i m : ℕ) → name_at held i ≡ Some (k, m) → m ≡ n
  known_names k n known i m h = known m (seen_in i (k, m) h)

  pub keeps_numbers : (new : Held Rank) → KeepsNames held new → (k : KeyValue) (n : ℕ) → IsNumber (numbers_of new) k n → IsNumber ns k n
  keeps_numbers new keeps k n h = let it = named_in new (k, n) h in seen_in it.0 (k, n) (keeps it.0 (k, n) it.1)

  pub loses_numbers : (new : Held Rank) (k : KeyValue) → LosesKey held new k → (q : KeyValue) (n : ℕ) → IsNumber (numbers_of new) q n → IsNumber ns q n × (q ≢ k)
  loses_numbers new k loses q n h =
      let it = named_in new (q, n) h in
      let was = loses it.0 (q, n) it.1 in
      (seen_in it.0 (q, n) was.0, was.1)

  pub gets_numbers : (new : Held Rank) (k : KeyValue) (n : ℕ) → GetsName held new k n → (q : KeyValue) (m : ℕ) → IsNumber (numbers_of new) q m → IsNumber ns q m ⊎ ((q ≡ k) × (m ≡ n))
  gets_numbers new k n gets q m h =
      let it = named_in new (q, m) h in
      elim (gets it.0 (q, m) it.1) as (λ _. IsNumber ns q m ⊎ ((q ≡ k) × (m ≡ n))) [
        | inl was ↦ inl (seen_in it.0 (q, m) was)
        | inr is ↦ inr (ap (λ (p : Name). p.0) is, ap (λ (p : Name). p.1) is)
      ]

-- numbers that are called otherwise
module _ (ns seen : Numbers) (same : ns ≡ seen) where
  pub was_in : (k : KeyValue) (n : ℕ) → IsNumber ns k n → IsNumber seen k n
  was_in k n h = subst (λ (all : Numbers). IsNumber all k n) same h

  pub known_by : (k : KeyValue) (n : ℕ) → ((m : ℕ) → IsNumber seen k m → m ≡ n) → (m : ℕ) → IsNumber ns k m → m ≡ n
  known_by k n known m h = known m (was_in k m h)

  pub got_by : (Got : KeyValue → ℕ → Type 0) (new : Numbers) → ((k : KeyValue) (n : ℕ) → IsNumber new k n → IsNumber ns k n ⊎ Got k n) → (k : KeyValue) (n : ℕ) → IsNumber new k n → IsNumber seen k n ⊎ Got k n
  got_by Got new got k n h = elim (got k n h) as (λ _. IsNumber seen k n ⊎ Got k n) [
    | inl was ↦ inl (was_in k n was)
    | inr is ↦ inr is
  ]

-- ---- what a change tells

pub have_more : (P Q : KeyValue → ℕ → Type 0) (ks : List KeyValue) (ns : List ℕ) → ((k : KeyValue) (n : ℕ) → IsTold ks ns k n → P k n → Q k n) → HaveNumbers P ks ns → HaveNumbers Q ks ns
have_more P Q [] [] from h = tt
have_more P Q [] (n ∷ ns) from h = h
have_more P Q (k ∷ ks) [] from h = h
have_more P Q (k ∷ ks) (n ∷ ns) from h = (from k n (inl (refl, refl)) h.0, have_more P Q ks ns (λ q m told. from q m (inr told)) h.1)

-- where there is a number for each, no match gets another
pub told_of : (P : KeyValue → ℕ → Type 0) (ks : List KeyValue) (ns : List ℕ) → HaveNumbers P ks ns → (k : KeyValue) (n : ℕ) → IsPut ks ns k n → IsTold ks ns k n
told_of P [] ns h k n it = elim it [ ]
told_of P (x ∷ xs) [] h k n it = elim h [ ]
told_of P (x ∷ xs) (m ∷ ms) h k n (inl is) = inl is
told_of P (x ∷ xs) (m ∷ ms) h k n (inr it) = inr (told_of P xs ms h.1 k n it)

-- one after the other
pub split_have : (P : KeyValue → ℕ → Type 0) (k : KeyValue) (ks : List KeyValue) (ns more : List ℕ) (n : ℕ) → IsSplit ns n more → HaveNumbers P (k ∷ ks) ns → P k n × HaveNumbers P ks more
split_have P k ks [] more n is h = elim h [ ]
split_have P k ks (m ∷ ms) more n is h = (subst (P k) (sym is.0) h.0, subst (HaveNumbers P ks) (sym is.1) h.1)

pub split_put : (k : KeyValue) (ks : List KeyValue) (ns more : List ℕ) (n : ℕ) → IsSplit ns n more → IsPut (k ∷ ks) ns k n
split_put k ks [] more n is = inl (refl, is.0)
split_put k ks (m ∷ ms) more n is = inl (refl, is.0)

pub split_more : (k : KeyValue) (ks : List KeyValue) (ns more : List ℕ) (n : ℕ) → IsSplit ns n more → (q : KeyValue) (m : ℕ) → IsPut ks more q m → IsPut (k ∷ ks) ns q m
split_more k ks [] more n is q m it = inr (subst (λ (ms : List ℕ). IsPut ks ms q m) is.1 it)
split_more k ks (l ∷ ls) more n is q m it = inr (subst (λ (ms : List ℕ). IsPut ks ms q m) is.1 it)

-- those that come have no other numbers where they stayed, nor among those that come
pub come_known : (old mid : Numbers) (gone come : List KeyValue) (ns : List ℕ) → HaveNumbers (λ k n. (m : ℕ) → IsNumber old k m → (In k gone → ⊥) → m ≡ n) come ns → TellsOnce come
    → ((k : KeyValue) (n : ℕ) → IsNumber mid k n → IsNumber old k n × (In k gone → ⊥)) → HaveNumbers (λ k n. (m : ℕ) → IsNumber mid k m ⊎ IsPut come ns k m → m ≡ n) come ns
come_known old mid gone come ns have once left =
    let P : KeyValue → ℕ → Type 0 = λ k n. (m : ℕ) → IsNumber old k m → (In k gone → ⊥) → m ≡ n in
    let Q : KeyValue → ℕ → Type 0 = λ k n. (m : ℕ) → IsNumber mid k m ⊎ IsPut come ns k m → m ≡ n in
    have_more P Q come ns (λ k n told own m h. elim h as (λ _. m ≡ n) [
      | inl due ↦ let it = left k m due in own m it.0 it.1
      | inr put ↦ once ns k m n (told_of P come ns have k m put) told
    ]) have

pub not_here : (x k : KeyValue) (xs : List KeyValue) → k ≢ x → In k (x ∷ xs) → In k xs
not_here x k xs apart (inl is) = absurd (apart is)
not_here x k xs apart (inr there) = there

pub less_of : (o : Ordering) → is_lt o ≡ true → o ≡ Less
less_of Less e = refl
less_of Equal e = absurd (let no : false ≡ true = e in cc)
less_of Greater e = absurd (let no : false ≡ true = e in cc)

-- keys that rise are each told once
told_in : (ks : List KeyValue) (ns : List ℕ) (k : KeyValue) (n : ℕ) → IsTold ks ns k n → In k ks
told_in [] ns k n it = elim it [ ]
told_in (x ∷ xs) [] k n it = elim it [ ]
told_in (x ∷ xs) (m ∷ ms) k n (inl is) = inl is.0
told_in (x ∷ xs) (m ∷ ms) k n (inr it) = inr (told_in xs ms k n it)

above : (x : KeyValue) (xs : List KeyValue) → RisesFrom x xs → (k : KeyValue) → In k xs → key_cmp x k ≡ Less
above x [] up k it = elim it [ ]
above x (y ∷ ys) up k (inl is) = ap (key_cmp x) is ∙ up.0
above x (y ∷ ys) up k (inr it) = key_total.trans x y k up.0 (above y ys up.1 k it)

not_again : (x : KeyValue) (xs : List KeyValue) → RisesFrom x xs → (k : KeyValue) → k ≡ x → In k xs → ⊥
not_again x xs up k is it =
    let below : key_cmp x x ≡ Less = ap (key_cmp x) (sym is) ∙ above x xs up k it in
    let same : is_eq (key_cmp x x) ≡ true = sym (key_tied x x) ∙ (key-Decides x x).1 refl in
    cc (below, same)

pub rises_once : (x : KeyValue) (xs : List KeyValue) → RisesFrom x xs → TellsOnce (x ∷ xs)
rises_once x xs up [] k m n it other = elim it [ ]
rises_once x xs up (a ∷ ns) k m n (inl is) (inl also) = is.1 ∙ sym also.1
rises_once x xs up (a ∷ ns) k m n (inl is) (inr other) = absurd (not_again x xs up k is.0 (told_in xs ns k n other))
rises_once x xs up (a ∷ ns) k m n (inr it) (inl also) = absurd (not_again x xs up k also.0 (told_in xs ns k m it))
rises_once x [] up (a ∷ ns) k m n (inr it) (inr other) = elim it [ ]
rises_once x (y ∷ ys) up (a ∷ ns) k m n (inr it) (inr other) = rises_once y ys up.1 ns k m n it other
