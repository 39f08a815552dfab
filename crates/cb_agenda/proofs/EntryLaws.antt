-- Entries by rising rank: what stands among them, and what is kept where some are let go.
use Rattle.std.proofs.Common.{◌≡◌, ◌⊎◌, inl, inr, Bool, true, false, List, [], ◌∷◌, ◌++◌, Less, Equal, Greater, Ordering, ap, cond, filter, refl, subst, sym, ◌∙◌}
use Rattle.std.proofs.lemmas.Bool.{false_from_ne_true, false≢true}
use Rattle.std.specs.BTreeMap.{insert_entry, is_at}
use Rattle.std.specs.List.{AllByRecursion}
use Rattle.std.specs.Ordering.{is_eq, match_ordering, ordering_reverse}
use Rattle.cb_agenda.proofs.Equality.{rank-Decides}
use Rattle.cb_agenda.specs.Internal.{In, Rises}
use Rattle.cb_agenda.specs.Internal.RankLaws.{rank_tied, rank_total}
use Rattle.cb_agenda.specs.Ranks.{rank_cmp}
use Rattle.cb_agenda.specs.declared.rank.Rank.{Rank}

-- what holds of all
pub all_append : {X : Type 0} (P : X → Type 0) (es fs : List X) → AllByRecursion P es → AllByRecursion P fs → AllByRecursion P (es ++ fs)
all_append P [] fs h i = i
all_append P (x ∷ xs) fs h i = (h.0, all_append P xs fs h.1 i)

pub all_first : {X : Type 0} (P : X → Type 0) (es fs : List X) → AllByRecursion P (es ++ fs) → AllByRecursion P es
all_first P [] fs h = tt
all_first P (x ∷ xs) fs h = (h.0, all_first P xs fs h.1)

pub all_second : {X : Type 0} (P : X → Type 0) (es fs : List X) → AllByRecursion P (es ++ fs) → AllByRecursion P fs
all_second P [] fs h = h
all_second P (x ∷ xs) fs h = all_second P xs fs h.1

pub all_weaker : {X : Type 0} (P Q : X → Type 0) → ((e : X) → P e → Q e) → (es : List X) → AllByRecursion P es → AllByRecursion Q es
all_weaker P Q from [] h = tt
all_weaker P Q from (x ∷ xs) h = (from x h.0, all_weaker P Q from xs h.1)

filter_by : {X : Type 0} (P : X → Type 0) (b : Bool) (x : X) (rest : List X) → P x → AllByRecursion P rest → AllByRecursion P (cond b (x ∷ rest) rest)
filter_by P true x rest p h = (p, h)
filter_by P false x rest p h = h

pub all_filter : {X : Type 0} (P : X → Type 0) (q : X → Bool) (es : List X) → AllByRecursion P es → AllByRecursion P (filter q es)
all_filter P q [] h = tt
all_filter P q (x ∷ xs) h = filter_by P (q x) x (filter q xs) h.0 (all_filter P q xs h.1)

-- ranks
pub at_itself : (t : Rank) → is_at (rank_cmp t) t ≡ true
at_itself t = sym (rank_tied t t) ∙ (rank-Decides t t).1 refl

pub at_same : (t u : Rank) → is_at (rank_cmp t) u ≡ true → t ≡ u
at_same t u h = (rank-Decides t u).0 (rank_tied t u ∙ h)

pub not_at : (t u : Rank) → rank_cmp u t ≡ Less → is_at (rank_cmp t) u ≡ false
not_at t u below = false_from_ne_true (is_at (rank_cmp t) u) (λ e.
    let same : t ≡ u = at_same t u e in
    let level : is_eq (rank_cmp u t) ≡ true = subst (λ v. is_eq (rank_cmp u v) ≡ true) (sym same) (at_itself u) in
    let other : is_eq (rank_cmp u t) ≡ false = ap is_eq below in
    cc)

module _ {V : Type 0} where
  abbrev Above : Rank → Rank × V → Type 0
  Above t e = rank_cmp t e.0 ≡ Less

  pub all_in : (P : Rank × V → Type 0) (es : List (Rank × V)) → AllByRecursion P es → (e : Rank × V) → In e es → P e
  all_in P [] h e there = elim there [ ]
  all_in P (x ∷ xs) h e (inl is) = subst P (sym is) h.0
  all_in P (x ∷ xs) h e (inr there) = all_in P xs h.1 e there

  -- ranks rise
  pub rises_second : (es fs : List (Rank × V)) → Rises (es ++ fs) → Rises fs
  rises_second [] fs h = h
  rises_second (x ∷ xs) fs h = rises_second xs fs h.1

  pub rises_without : (es fs : List (Rank × V)) (e : Rank × V) → Rises (es ++ e ∷ fs) → Rises (es ++ fs)
  rises_without [] fs e h = h.1
  rises_without (x ∷ xs) fs e h =
      (all_append (Above x.0) xs fs (all_first (Above x.0) xs (e ∷ fs) h.0) (all_second (Above x.0) xs (e ∷ fs) h.0).1, rises_without xs fs e h.1)

  rises_by : (b : Bool) (x : Rank × V) (rest : List (Rank × V)) → AllByRecursion (Above x.0) rest → Rises rest → Rises (cond b (x ∷ rest) rest)
  rises_by true x rest h r = (h, r)
  rises_by false x rest h r = r

  pub rises_filter : (q : Rank × V → Bool) (es : List (Rank × V)) → Rises es → Rises (filter q es)
  rises_filter q [] h = tt
  rises_filter q (x ∷ xs) h = rises_by (q x) x (filter q xs) (all_filter (Above x.0) q xs h.0) (rises_filter q xs h.1)

  -- one more
  more_by : (P : Rank × V → Type 0) (o : Ordering) (t : Rank) (k : V) (x : Rank × V) (xs rest : List (Rank × V)) → P (t, k) → P (x.0, k) → P x → AllByRecursion P xs → AllByRecursion P rest
      → AllByRecursion P (match_ordering o ((t, k) ∷ x ∷ xs) ((x.0, k) ∷ xs) (x ∷ rest))
  more_by P Less t k x xs rest p q r h i = (p, (r, h))
  more_by P Equal t k x xs rest p q r h i = (q, h)
  more_by P Greater t k x xs rest p q r h i = (r, i)

  -- what is said of ranks alone holds of all with one more
  pub all_more : (P : Rank → Type 0) (t : Rank) (k : V) (es : List (Rank × V)) → P t → AllByRecursion (λ (e : Rank × V). P e.0) es → AllByRecursion (λ (e : Rank × V). P e.0) (insert_entry rank_cmp es t k)
  all_more P t k [] p h = (p, tt)
  all_more P t k (x ∷ xs) p h = more_by (λ (e : Rank × V). P e.0) (rank_cmp t x.0) t k x xs (insert_entry rank_cmp xs t k) p h.0 h.0 h.1 (all_more P t k xs p h.1)

  pub above_all : (t u : Rank) (es : List (Rank × V)) → rank_cmp t u ≡ Less → AllByRecursion (Above u) es → AllByRecursion (Above t) es
  above_all t u es h all = all_weaker (Above u) (Above t) (λ e a. rank_total.trans t u e.0 h a) es all

  more_above_by : (o : Ordering) (t : Rank) (k : V) (x : Rank × V) (xs : List (Rank × V)) → rank_cmp t x.0 ≡ o → Rises (x ∷ xs) → Rises (insert_entry rank_cmp xs t k) → Rises (insert_entry rank_cmp (x ∷ xs) t k)
  more_above_by Less t k x xs e h r = let is : insert_entry rank_cmp (x ∷ xs) t k ≡ (t, k) ∷ x ∷ xs = rw (e) refl in subst Rises (sym is) ((e, above_all t x.0 xs e h.0), h)
  more_above_by Equal t k x xs e h r = let is : insert_entry rank_cmp (x ∷ xs) t k ≡ (x.0, k) ∷ xs = rw (e) refl in subst Rises (sym is) h
  more_above_by Greater t k x xs e h r =
      let is : insert_entry rank_cmp (x ∷ xs) t k ≡ x ∷ insert_entry rank_cmp xs t k = rw (e) refl in
      let below : rank_cmp x.0 t ≡ Less = rank_total.antisymm x.0 t ∙ ap ordering_reverse e in
      subst Rises (sym is) (all_more (λ u. rank_cmp x.0 u ≡ Less) t k xs below h.0, r)

  pub rises_more : (t : Rank) (k : V) (es : List (Rank × V)) → Rises es → Rises (insert_entry rank_cmp es t k)
  rises_more t k [] h = (tt, tt)
  rises_more t k (x ∷ xs) h = more_above_by (rank_cmp t x.0) t k x xs refl h (rises_more t k xs h.1)

  -- where one comes among those below it and those above it
  pub skip : (t : Rank) (k : V) (es fs : List (Rank × V)) → AllByRecursion (λ (e : Rank × V). rank_cmp t e.0 ≡ Greater) es → insert_entry rank_cmp (es ++ fs) t k ≡ es ++ insert_entry rank_cmp fs t k
  skip t k [] fs h = refl
  skip t k (x ∷ xs) fs h = let over : rank_cmp t x.0 ≡ Greater = h.0 in rw (over, skip t k xs fs h.1) refl

  pub front : (t : Rank) (k : V) (fs : List (Rank × V)) → AllByRecursion (Above t) fs → insert_entry rank_cmp fs t k ≡ (t, k) ∷ fs
  front t k [] h = refl
  front t k (x ∷ xs) h = let under : rank_cmp t x.0 ≡ Less = h.0 in rw (under) refl

  -- what is among those that pass
  in_filter_by : (b : Bool) (q : Rank × V → Bool) (x e : Rank × V) (rest : List (Rank × V)) → q x ≡ b → q e ≡ true → (e ≡ x) ⊎ In e rest → In e (cond b (x ∷ rest) rest)
  in_filter_by true q x e rest is p there = there
  in_filter_by false q x e rest is p (inl same) = absurd (false≢true (sym is ∙ (ap q (sym same) ∙ p)))
  in_filter_by false q x e rest is p (inr there) = there

  or_in : (e x : Rank × V) (xs rest : List (Rank × V)) → (e ≡ x) ⊎ In e xs → (In e xs → In e rest) → (e ≡ x) ⊎ In e rest
  or_in e x xs rest (inl same) next = inl same
  or_in e x xs rest (inr there) next = inr (next there)

  pub in_filter : (q : Rank × V → Bool) (es : List (Rank × V)) (e : Rank × V) → In e es → q e ≡ true → In e (filter q es)
  in_filter q [] e there p = there
  in_filter q (x ∷ xs) e there p = in_filter_by (q x) q x e (filter q xs) refl p (or_in e x xs (filter q xs) there (λ h. in_filter q xs e h p))

  pub filter_append : (q : Rank × V → Bool) (es fs : List (Rank × V)) → filter q (es ++ fs) ≡ filter q es ++ filter q fs
  filter_append q [] fs = refl
  filter_append q (x ∷ xs) fs = ap (λ gs. cond (q x) (x ∷ gs) gs) (filter_append q xs fs) ∙ out (q x) x (filter q xs) (filter q fs)
    where
      out : (b : Bool) (y : Rank × V) (ys zs : List (Rank × V)) → cond b (y ∷ ys ++ zs) (ys ++ zs) ≡ cond b (y ∷ ys) ys ++ zs
      out true y ys zs = refl
      out false y ys zs = refl

  pub filter_all : (q : Rank × V → Bool) (es : List (Rank × V)) → AllByRecursion (λ (e : Rank × V). q e ≡ true) es → filter q es ≡ es
  filter_all q [] h = refl
  filter_all q (x ∷ xs) h = let kept : q x ≡ true = h.0 in rw (kept, filter_all q xs h.1) refl

  -- what is among all with one more, where no other has its rank
  more_in_by : (o : Ordering) (t : Rank) (k : V) (x e : Rank × V) (xs rest : List (Rank × V)) → rank_cmp t x.0 ≡ o → is_at (rank_cmp t) x.0 ≡ false → (e ≡ x) ⊎ In e xs → (In e xs → In e rest)
      → In e (match_ordering o ((t, k) ∷ x ∷ xs) ((x.0, k) ∷ xs) (x ∷ rest))
  more_in_by Less t k x e xs rest is apart there next = inr there
  more_in_by Equal t k x e xs rest is apart there next = absurd (false≢true (sym apart ∙ ap is_eq is))
  more_in_by Greater t k x e xs rest is apart (inl same) next = inl same
  more_in_by Greater t k x e xs rest is apart (inr there) next = inr (next there)

  pub in_more : (t : Rank) (k : V) (es : List (Rank × V)) → AllByRecursion (λ (e : Rank × V). is_at (rank_cmp t) e.0 ≡ false) es → (e : Rank × V) → In e es → In e (insert_entry rank_cmp es t k)
  in_more t k [] h e there = elim there [ ]
  in_more t k (x ∷ xs) h e there = more_in_by (rank_cmp t x.0) t k x e xs (insert_entry rank_cmp xs t k) refl h.0 there (in_more t k xs h.1 e)

  here_by : (o : Ordering) (t : Rank) (k : V) (x : Rank × V) (xs rest : List (Rank × V)) → rank_cmp t x.0 ≡ o → is_at (rank_cmp t) x.0 ≡ false → In (t, k) rest → In (t, k) (match_ordering o ((t, k) ∷ x ∷ xs) ((x.0, k) ∷ xs) (x ∷ rest))
  here_by Less t k x xs rest is apart next = inl refl
  here_by Equal t k x xs rest is apart next = absurd (false≢true (sym apart ∙ ap is_eq is))
  here_by Greater t k x xs rest is apart next = inr next

  pub here_more : (t : Rank) (k : V) (es : List (Rank × V)) → AllByRecursion (λ (e : Rank × V). is_at (rank_cmp t) e.0 ≡ false) es → In (t, k) (insert_entry rank_cmp es t k)
  here_more t k [] h = inl refl
  here_more t k (x ∷ xs) h = here_by (rank_cmp t x.0) t k x xs (insert_entry rank_cmp xs t k) refl h.0 (here_more t k xs h.1)
