-- What is due: the activations whose entries are current.
use Rattle.std.proofs.Common.{◌≡◌, ◌≢◌, ◌⊎◌, inl, inr, ◌<◌, ◌≤◌, ℕ, ℤ, Bool, true, false, [], ◌∷◌, ◌||◌, ◌++◌, List, Option, None, Some, Less, ap, append-nil, arith, filter, int_cmp, is_eq, is_lt, is_some, not, refl, subst, sym, ◌∙◌}
use Rattle.std.proofs.lemmas.Bool.{false_from_ne_true, false≢true}
use Rattle.std.specs.BTreeMap.{insert_entry, is_at}
use Rattle.std.specs.List.{AllByRecursion, list_any}
use Rattle.std.specs.Map.{remove_entry}
use Rattle.cb_agenda.proofs.CurrentLaws.{Find, Older, all_current, apart_older, current_append, current_filter, current_same, entry_of, in_shown, key_here, key_is, key_of, key_other, rises_current, shown_in}
use Rattle.cb_agenda.proofs.EntryLaws.{all_append, all_filter, all_first, all_more, all_second, all_weaker, at_itself, here_more, in_filter, in_more, not_at, rises_filter, rises_more, rises_second, rises_without}
use Rattle.cb_match_table.proofs.Equality.{key-Decides}
use Rattle.cb_agenda.proofs.Firing.{breadth_fires, level}
use Rattle.cb_number_map.proofs.Filed.{number_cases, same_some, some_none}
use Rattle.cb_agenda.proofs.PopLaws.{last_is_top, last_removed}
use Rattle.cb_agenda.specs.Agendas.{Activation, Entries, first_to_fire, top_of}
use Rattle.cb_agenda.specs.Internal.{Active, In, IsFiled, IsFirst, IsNext, IsStampedUpTo, Placed, Rises, Thinned, current, current_key, is_current, key_in, left_and_key, stays, with_current}
use Rattle.cb_agenda.specs.Internal.RankLaws.{rank_tied}
use Rattle.cb_agenda.specs.Ranks.{fires_before, rank_cmp, rank_eq}
use Rattle.cb_agenda.specs.declared.rank.Rank.{Rank}
use Rattle.cb_agenda.specs.declared.strategy.Strategy.{Strategy}
use Rattle.cb_agenda.specs.declared.strategy.Strategy.TheVariants.{Breadth, Depth}
use Rattle.cb_number_map.specs.Filed.{ChangesAt}
use Rattle.cb_matches.specs.Keys.{KeyValue, key_eq}

-- an activation goes
pub filed_less : (xs : List Placed) (find found : Find) (n : ℕ) → ChangesAt find found n None → IsFiled xs find → IsFiled xs found
filed_less xs find found n change was = record {
  rising = was.rising;
  has = λ m e h. elim (number_cases n m) as (λ _. In (e.rank, m) xs) [
    | inl same ↦ absurd (some_none (found m) h (ap found (sym same) ∙ change.here))
    | inr other ↦ was.has m e (sym (change.others m other) ∙ h)
  ];
}

-- stale entries are let go
stale_by : (b c : Bool) (o : Option KeyValue) → (b || c) ≡ false → is_some o ≡ c → o ≡ None
stale_by true c o h is = absurd (false≢true (sym h))
stale_by false c None h is = refl
stale_by false c (Some k) h is = absurd (false≢true (sym h ∙ sym is))

passes : (b c : Bool) → c ≡ true → (b || c) ≡ true
passes true c h = refl
passes false c h = h

pub thinned_is : (find : Find) (s : ℤ) (xs ys : List Placed) → (ys ≡ xs) ⊎ (ys ≡ filter (stays find s) xs) → Thinned find xs ys
thinned_is find s xs ys (inl is) = record {
  same = ap (current find) is;
  has = λ x there h. subst (λ (zs : List Placed). In x zs) (sym is) there;
  stamped = λ n h. subst (IsStampedUpTo n) (sym is) h;
}
thinned_is find s xs ys (inr is) = record {
  same = ap (current find) is ∙ current_filter (stays find s) find xs (λ x h. stale_by (not (is_at (int_cmp s) x.0.salience)) (is_current find x) (key_of find x) h refl);
  has = λ x there h. subst (λ (zs : List Placed). In x zs) (sym is) (in_filter (stays find s) xs x there (passes (not (is_at (int_cmp s) x.0.salience)) (is_current find x) h));
  stamped = λ n h. subst (IsStampedUpTo n) (sym is) (all_filter (λ (x : Placed). x.0.stamp ≤ n) (stays find s) xs h);
}

pub thin_rises : (find : Find) (s : ℤ) (xs ys : List Placed) → (ys ≡ xs) ⊎ (ys ≡ filter (stays find s) xs) → Rises xs → Rises ys
thin_rises find s xs ys (inl is) h = subst (λ (zs : List Placed). Rises zs) (sym is) h
thin_rises find s xs ys (inr is) h = subst (λ (zs : List Placed). Rises zs) (sym is) (rises_filter (stays find s) xs h)

own_current : (find : Find) (n : ℕ) (e : Active) → find n ≡ Some e → key_of find (e.rank, n) ≡ Some e.key
own_current find n e h = ap (λ o. current_key o e.rank) h ∙ key_here e.key e.rank

pub filed_thinned : (xs ys : List Placed) (find : Find) → IsFiled xs find → Thinned find xs ys → Rises ys → IsFiled ys find
filed_thinned xs ys find was thin up = record { rising = up; has = λ n e h. thin.has (e.rank, n) (was.has n e h) (ap is_some (own_current find n e h)) }

-- an activation comes with a stamp above all others
all_apart : (t : Rank) (xs : List Placed) → AllByRecursion (Older t) xs → AllByRecursion (λ (x : Placed). is_at (rank_cmp t) x.0 ≡ false) xs
all_apart t xs h = all_weaker (Older t) (λ (x : Placed). is_at (rank_cmp t) x.0 ≡ false) (apart_older t) xs h

pub filed_more : (xs : List Placed) (find found : Find) (n : ℕ) (e : Active) → ChangesAt find found n (Some e) → AllByRecursion (Older e.rank) xs → IsFiled xs find → IsFiled (insert_entry rank_cmp xs e.rank n) found
filed_more xs find found n e change older was = record {
  rising = rises_more e.rank n xs was.rising;
  has = λ m f h. elim (number_cases n m) as (λ _. In (f.rank, m) (insert_entry rank_cmp xs e.rank n)) [
    | inl same ↦
        let is : e ≡ f = same_some (found m) (ap found (sym same) ∙ change.here) h in
        subst (λ (i : ℕ). In (f.rank, i) (insert_entry rank_cmp xs e.rank n)) same (subst (λ (g : Active). In (g.rank, n) (insert_entry rank_cmp xs e.rank n)) is (here_more e.rank n xs (all_apart e.rank xs older)))
    | inr other ↦ in_more e.rank n xs (all_apart e.rank xs older) (f.rank, m) (was.has m f (sym (change.others m other) ∙ h))
  ];
}

pub stamped_more : (n : ℕ) (t : Rank) (i : ℕ) (xs : List Placed) → n < t.stamp → IsStampedUpTo n xs → IsStampedUpTo t.stamp (insert_entry rank_cmp xs t i)
stamped_more n t i xs below h =
    all_more (λ (u : Rank). u.stamp ≤ t.stamp) t i xs (omega arith) (all_weaker (λ (x : Placed). x.0.stamp ≤ n) (λ (x : Placed). x.0.stamp ≤ t.stamp) (λ x le. omega (arith, below, le)) xs h)

pub older_all : (n : ℕ) (t : Rank) (xs : List Placed) → n < t.stamp → IsStampedUpTo n xs → AllByRecursion (Older t) xs
older_all n t xs below h = all_weaker (λ (x : Placed). x.0.stamp ≤ n) (Older t) (λ x le. omega (arith, below, le)) xs h

-- the keys that are found are those that are due
or_true : (b : Bool) → (b || true) ≡ true
or_true true = refl
or_true false = refl

any_in : (k : KeyValue) (es : Entries) (e : Activation) → In e es → k ≡ e.1 → list_any (λ (x : Activation). key_eq k x.1) es ≡ true
any_in k [] e there is = elim there [ ]
any_in k (x ∷ xs) e (inl same) is =
    let here : key_eq k x.1 ≡ true = (key-Decides k x.1).1 (is ∙ ap (λ (y : Activation). y.1) same) in
    rw (here) refl
any_in k (x ∷ xs) e (inr there) is = let rest : list_any (λ (x : Activation). key_eq k x.1) xs ≡ true = any_in k xs e there is in rw (rest) (or_true (key_eq k x.1))

in_any_by : (b : Bool) (k : KeyValue) (x : Activation) (xs : Entries) → key_eq k x.1 ≡ b → (b || list_any (λ (y : Activation). key_eq k y.1) xs) ≡ true
    → (list_any (λ (y : Activation). key_eq k y.1) xs ≡ true → (e : Activation) × In e xs × (k ≡ e.1)) → (e : Activation) × In e (x ∷ xs) × (k ≡ e.1)
in_any_by true k x xs e h next = (x, inl refl, (key-Decides k x.1).0 e)
in_any_by false k x xs e h next = let found = next h in (found.0, inr found.1, found.2)

in_any : (k : KeyValue) (es : Entries) → list_any (λ (x : Activation). key_eq k x.1) es ≡ true → (e : Activation) × In e es × (k ≡ e.1)
in_any k [] h = absurd (false≢true h)
in_any k (x ∷ xs) h = in_any_by (key_eq k x.1) k x xs refl h (in_any k xs)

has_some : (o : Option Active) (xs : List Placed) (find : Find) (n : ℕ) (k : KeyValue) → IsFiled xs find → find n ≡ o → key_in o ≡ Some k → list_any (λ (e : Activation). key_eq k e.1) (current find xs) ≡ true
has_some None xs find n k was is h = cc
has_some (Some e) xs find n k was is h =
    let key : k ≡ e.key = cc in
    any_in k (current find xs) (e.rank, e.key) (shown_in find xs (e.rank, n) e.key (was.has n e is) (own_current find n e is)) key

pub has_is : (r : Option ℕ) (xs : List Placed) (find : Find) (k : KeyValue) → IsFiled xs find → ((n : ℕ) → (r ≡ Some n → key_in (find n) ≡ Some k) × (key_in (find n) ≡ Some k → r ≡ Some n))
    → is_some r ≡ list_any (λ (e : Activation). key_eq k e.1) (current find xs)
has_is (Some n) xs find k was is = sym (has_some (find n) xs find n k was refl ((is n).0 refl))
has_is None xs find k was is = sym (false_from_ne_true (list_any (λ (e : Activation). key_eq k e.1) (current find xs)) (λ any.
    let e = in_any k (current find xs) any in
    let x = in_shown find xs e.0 e.1 in
    let own : key_in (find x.0.1) ≡ Some k = key_is (find x.0.1) x.0.0 e.0.1 x.2 ∙ ap (λ (l : KeyValue). Some l) (sym e.2) in
    some_none None ((is x.0.1).1 own) refl))

-- one entry, that fires first, is taken out
below_it : (xs ys : List Placed) (x : Placed) → Rises (xs ++ x ∷ ys) → AllByRecursion (λ (y : Placed). rank_cmp y.0 x.0 ≡ Less) xs
below_it [] ys x up = tt
below_it (z ∷ zs) ys x up = ((all_second (λ (y : Placed). rank_cmp z.0 y.0 ≡ Less) zs (x ∷ ys) up.0).0, below_it zs ys x up.1)

in_without : (xs ys : List Placed) (x y : Placed) → y ≢ x → In y (xs ++ x ∷ ys) → In y (xs ++ ys)
in_without [] ys x y apart (inl is) = absurd (apart is)
in_without [] ys x y apart (inr there) = there
in_without (z ∷ zs) ys x y apart (inl is) = inl is
in_without (z ∷ zs) ys x y apart (inr there) = inr (in_without zs ys x y apart there)

module _ (st : Strategy) (xs fs : List Placed) (x : Placed) (next : IsNext st xs x fs) where
  pub stamped_left : (n : ℕ) → IsStampedUpTo n xs → IsStampedUpTo n fs
  stamped_left n h =
      let all = subst (IsStampedUpTo n) next.whole h in
      subst (IsStampedUpTo n) (sym next.left) (all_append (λ (y : Placed). y.0.stamp ≤ n) next.before next.behind (all_first (λ (y : Placed). y.0.stamp ≤ n) next.before (x ∷ next.behind) all)
      (all_second (λ (y : Placed). y.0.stamp ≤ n) next.before (x ∷ next.behind) all).1)

  left_rises : Rises xs → Rises fs
  left_rises up = subst (λ (zs : List Placed). Rises zs) (sym next.left) (rises_without next.before next.behind x (subst (λ (zs : List Placed). Rises zs) next.whole up))

  left_in : (y : Placed) → y ≢ x → In y xs → In y fs
  left_in y apart there = subst (λ (zs : List Placed). In y zs) (sym next.left) (in_without next.before next.behind x y apart (subst (λ (zs : List Placed). In y zs) next.whole there))

  -- it was stale
  pub stale_left : (find : Find) → IsFiled xs find → key_of find x ≡ None → (current find fs ≡ current find xs) × IsFiled fs find
  stale_left find was stale = (
    ap (current find) next.left ∙ current_append find next.before next.behind
        ∙ sym (ap (current find) next.whole ∙ current_append find next.before (x ∷ next.behind) ∙ ap (λ o. current find next.before ++ with_current o x.0 (current find next.behind)) stale),
    record {
      rising = left_rises was.rising;
      has = λ n e h. left_in (e.rank, n) (λ is. some_none (key_of find x) (ap (key_of find) (sym is) ∙ own_current find n e h) stale) (was.has n e h);
    },
  )

-- what fires first of activations whose ranks rise
lane_top : (s : ℤ) (e : Activation) (es : Entries) → e.0.salience ≡ s → AllByRecursion (λ (f : Activation). f.0.salience ≡ s) es → Rises (e ∷ es) → top_of Breadth (e ∷ es) ≡ Some e
lane_top s e [] is h up = refl
lane_top s e (f ∷ fs) is h up =
    let before : fires_before Breadth f.0 e.0 ≡ false = breadth_fires e.0 f.0 up.0.0 ∙ ap is_lt (level e.0.salience f.0.salience (is ∙ sym h.0)) in
    let first : first_to_fire Breadth e (Some f) ≡ e = rw (before) refl in
    ap (λ o. Some (first_to_fire Breadth e o)) (lane_top s f fs h.0 h.1 up.1) ∙ ap (λ (g : Activation). Some g) first

higher_top : (es fs : Entries) (e : Activation) → AllByRecursion (λ (x : Activation). int_cmp x.0.salience e.0.salience ≡ Less) es → top_of Breadth fs ≡ Some e → top_of Breadth (es ++ fs) ≡ Some e
higher_top [] fs e h top = top
higher_top (x ∷ xs) fs e h top =
    let lower : int_cmp x.0.salience e.0.salience ≡ Less = h.0 in
    let rank : rank_cmp x.0 e.0 ≡ Less = rw (lower) refl in
    let before : fires_before Breadth e.0 x.0 ≡ true = breadth_fires x.0 e.0 rank ∙ ap is_lt lower in
    let is : first_to_fire Breadth x (Some e) ≡ e = rw (before) refl in
    ap (λ o. Some (first_to_fire Breadth x o)) (higher_top xs fs e h.1 top) ∙ ap Some is

removed_behind : (es : Entries) (e : Activation) (rest : Entries) → AllByRecursion (λ (x : Activation). int_cmp x.0.salience e.0.salience ≡ Less) es → remove_entry (is_at (rank_cmp e.0)) (es ++ e ∷ rest) ≡ es ++ rest
removed_behind [] e rest h = let own : is_at (rank_cmp e.0) e.0 ≡ true = at_itself e.0 in rw (own) refl
removed_behind (x ∷ xs) e rest h =
    let lower : int_cmp x.0.salience e.0.salience ≡ Less = h.0 in
    let rank : rank_cmp x.0 e.0 ≡ Less = rw (lower) refl in
    let apart : is_at (rank_cmp e.0) x.0 ≡ false = not_at e.0 x.0 rank in
    rw (apart, removed_behind xs e rest h.1) refl

abbrev Fires : Strategy → Entries → Activation → Entries → Type 0
Fires st es e fs = left_and_key (es ++ e ∷ fs) (top_of st (es ++ e ∷ fs)) ≡ (es ++ fs, Some e.1)

last_fires : (es : Entries) (e : Activation) → Rises (es ++ e ∷ []) → Fires Depth es e []
last_fires es e up = ap (left_and_key (es ++ e ∷ [])) (last_is_top es e up) ∙ ap (λ (gs : Entries). (gs, Some e.1)) (last_removed es e up ∙ sym (append-nil es))

first_fires : (es fs : Entries) (e : Activation) → Rises (es ++ e ∷ fs) → AllByRecursion (λ (f : Activation). int_cmp f.0.salience e.0.salience ≡ Less) es → AllByRecursion (λ (f : Activation). f.0.salience ≡ e.0.salience) fs → Fires Breadth es e fs
first_fires es fs e up lower same =
    ap (left_and_key (es ++ e ∷ fs)) (higher_top es (e ∷ fs) e lower (lane_top e.0.salience e fs refl same (rises_second es (e ∷ fs) up))) ∙ ap (λ (gs : Entries). (gs, Some e.1)) (removed_behind es e fs lower)

fires : (st : Strategy) (find : Find) (xs ys : List Placed) (x : Placed) (k : KeyValue) → IsFirst st xs x ys → Rises (current find xs ++ (x.0, k) ∷ current find ys) → Fires st (current find xs) (x.0, k) (current find ys)
fires Depth find xs ys x k first up =
    let none : current find ys ≡ [] = ap (current find) first in
    subst (λ (es : Entries). Fires Depth (current find xs) (x.0, k) es) (sym none) (last_fires (current find xs) (x.0, k) (subst (λ (es : Entries). Rises (current find xs ++ (x.0, k) ∷ es)) none up))
fires Breadth find xs ys x k first up =
    first_fires (current find xs) (current find ys) (x.0, k) up (all_current (λ (t : Rank). int_cmp t.salience x.0.salience ≡ Less) find xs first.0) (all_current (λ (t : Rank). t.salience ≡ x.0.salience) find ys first.1)

-- it was current
module _ (st : Strategy) (xs fs : List Placed) (x : Placed) (k : KeyValue) (next : IsNext st xs x fs) (find found : Find) (was : IsFiled xs find) (there : key_of find x ≡ Some k) (change : ChangesAt find found x.1 None) where
  gone_same : (y : Placed) → rank_eq x.0 y.0 ≡ false → key_of found y ≡ key_of find y
  gone_same y apart = elim (number_cases x.1 y.1) as (λ _. key_of found y ≡ key_of find y) [
    | inl same ↦
        let now : key_of found y ≡ None = ap (λ o. current_key o y.0) (ap found (sym same) ∙ change.here) in
        let old : key_of find y ≡ None = ap (λ o. current_key o y.0) (ap find (sym same) ∙ entry_of (find x.1) x.0 k there) ∙ key_other k x.0 y.0 apart in
        now ∙ sym old
    | inr other ↦ ap (λ o. current_key o y.0) (change.others y.1 other)
  ]

  up_whole : Rises (next.before ++ x ∷ next.behind)
  up_whole = subst (λ (zs : List Placed). Rises zs) next.whole was.rising

  same_before : current found next.before ≡ current find next.before
  same_before =
      current_same find found next.before
      (all_weaker (λ (y : Placed). rank_cmp y.0 x.0 ≡ Less) (λ (y : Placed). key_of found y ≡ key_of find y) (λ y h. gone_same y (rank_tied x.0 y.0 ∙ not_at x.0 y.0 h)) next.before (below_it next.before next.behind x up_whole))

  same_behind : current found next.behind ≡ current find next.behind
  same_behind =
      current_same find found next.behind
      (all_weaker (λ (y : Placed). rank_cmp x.0 y.0 ≡ Less) (λ (y : Placed). key_of found y ≡ key_of find y) (λ y h. gone_same y (rank_tied x.0 y.0 ∙ ap is_eq h)) next.behind (rises_second next.before (x ∷ next.behind) up_whole).0)

  whole_is : current find xs ≡ current find next.before ++ (x.0, k) ∷ current find next.behind
  whole_is = ap (current find) next.whole ∙ current_append find next.before (x ∷ next.behind) ∙ ap (λ o. current find next.before ++ with_current o x.0 (current find next.behind)) there

  left_is : current found fs ≡ current find next.before ++ current find next.behind
  left_is =
      ap (current found) next.left ∙ current_append found next.before next.behind ∙ ap (λ (es : Entries). es ++ current found next.behind) same_before ∙ ap (λ (es : Entries). current find next.before ++ es) same_behind

  pub current_left : left_and_key (current find xs) (top_of st (current find xs)) ≡ (current found fs, Some k)
  current_left =
      subst (λ (es : Entries). left_and_key es (top_of st es) ≡ (current found fs, Some k)) (sym whole_is)
      (fires st find next.before next.behind x k next.first (subst (λ (es : Entries). Rises es) whole_is (rises_current find xs was.rising)) ∙ ap (λ (es : Entries). (es, Some k)) (sym left_is))

  pub filed_left : IsFiled fs found
  filed_left = record {
    rising = left_rises st xs fs x next was.rising;
    has = λ n e h. elim (number_cases x.1 n) as (λ _. In (e.rank, n) fs) [
      | inl same ↦ absurd (some_none (found n) h (ap found (sym same) ∙ change.here))
      | inr other ↦ left_in st xs fs x next (e.rank, n) (λ is. other (ap (λ (z : Placed). z.1) (sym is))) (was.has n e (sym (change.others n other) ∙ h))
    ];
  }
