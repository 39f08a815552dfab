-- Lanes: the entries of each salience, one lane after the other.
use Rattle.std.proofs.Common.{◌≡◌, ◌≢◌, ◌+◌, ◌-◌, ◌<◌, ℕ, ℤ, zero, suc, Bool, true, false, List, [], ◌∷◌, ◌++◌, Option, None, Some, Less, Equal, Greater, Ordering, ap, append-nil, append_assoc, arith, cond, filter, int_cmp, is_eq, length, nat_cmp, refl, slice_get, subst, sym, ◌∙◌}
use Rattle.std.specs.BTreeMap.{insert_entry, is_at}
use Rattle.std.specs.Cmp.{int_cmp_total, nat_cmp_is, signed_Decides}
use Rattle.std.specs.List.{AllByRecursion}
use Rattle.std.specs.List.Sorted.{IsStrictlySortedBy}
use Rattle.std.specs.Map.{keys_of, lookup, remove_entry, set_value}
use Rattle.std.specs.Ordering.{match_ordering, ordering_reverse}
use Rattle.cb_agenda.proofs.EntryLaws.{all_append, all_first, all_second, filter_all, filter_append, front, skip}
use Rattle.cb_agenda.proofs.Firing.{level}
use Rattle.cb_agenda.specs.Internal.{Active, AreFilled, IsNext, Line, Placed, is_current, laned, put_back, ranked, ranked_all, stays}
use Rattle.cb_agenda.specs.Ranks.{rank_cmp}
use Rattle.cb_agenda.specs.declared.rank.Rank.{Rank}
use Rattle.cb_agenda.specs.declared.strategy.Strategy.{Strategy}
use Rattle.cb_agenda.specs.declared.strategy.Strategy.TheVariants.{Breadth, Depth}

abbrev pub Lanes : Type 0
Lanes = List (ℤ × Line)

-- saliences rise
abbrev pub SaliencesRise : Lanes → Type 0
SaliencesRise [] = Unit {0}
SaliencesRise (l ∷ ls) = AllByRecursion (λ (m : ℤ × Line). int_cmp l.0 m.0 ≡ Less) ls × SaliencesRise ls

all_keys : (s : ℤ) (ls : Lanes) → AllByRecursion (λ u. int_cmp s u ≡ Less) (keys_of ls) → AllByRecursion (λ (m : ℤ × Line). int_cmp s m.0 ≡ Less) ls
all_keys s [] h = tt
all_keys s (l ∷ ls) h = (h.0, all_keys s ls h.1)

pub saliences_rise : (ls : Lanes) → IsStrictlySortedBy int_cmp (keys_of ls) → SaliencesRise ls
unfolding IsStrictlySortedBy
saliences_rise [] h = tt
saliences_rise (l ∷ ls) h = (all_keys l.0 ls h.0, saliences_rise ls h.1)

same : (s u : ℤ) → int_cmp s u ≡ Equal → s ≡ u
same s u h = (signed_Decides s u).0 (ap is_eq h)

at_own : (s : ℤ) → is_at (int_cmp s) s ≡ true
at_own s = ap is_eq (level s s refl)

apart_above : (s u : ℤ) → int_cmp s u ≡ Less → is_at (int_cmp s) u ≡ false
apart_above s u h = ap is_eq h

apart_below : (s u : ℤ) → int_cmp u s ≡ Less → is_at (int_cmp s) u ≡ false
apart_below s u h = ap is_eq (int_cmp_total.antisymm s u ∙ ap ordering_reverse h)

-- above what is above another
under_all : (s u : ℤ) (ls : Lanes) → int_cmp s u ≡ Less → AllByRecursion (λ (m : ℤ × Line). int_cmp u m.0 ≡ Less) ls → AllByRecursion (λ (m : ℤ × Line). int_cmp s m.0 ≡ Less) ls
under_all s u [] h all = tt
under_all s u (l ∷ ls) h all = (int_cmp_total.trans s u l.0 h all.0, under_all s u ls h all.1)

not_among : (s : ℤ) (ls : Lanes) → AllByRecursion (λ (m : ℤ × Line). int_cmp s m.0 ≡ Less) ls → lookup (is_at (int_cmp s)) ls ≡ None
not_among s [] h = refl
not_among s (l ∷ ls) h = let under : int_cmp s l.0 ≡ Less = h.0 in rw (under) (not_among s ls h.1)

-- the entries of one lane after another
pub ranked_append : (s : ℤ) (xs ys : Line) → ranked_all s (xs ++ ys) ≡ ranked_all s xs ++ ranked_all s ys
ranked_append s [] ys = refl
ranked_append s (x ∷ xs) ys = ap (λ es. ranked s x ∷ es) (ranked_append s xs ys)

laned_append : (ls ms : Lanes) → laned (ls ++ ms) ≡ laned ls ++ laned ms
laned_append [] ms = refl
laned_append (l ∷ ls) ms = ap (λ es. ranked_all l.0 l.1 ++ es) (laned_append ls ms) ∙ sym (append_assoc (ranked_all l.0 l.1) (laned ls) (laned ms))

ranked_over : (t : Rank) (s : ℤ) (xs : Line) → int_cmp t.salience s ≡ Greater → AllByRecursion (λ (e : Placed). rank_cmp t e.0 ≡ Greater) (ranked_all s xs)
ranked_over t s [] h = tt
ranked_over t s (x ∷ xs) h = let over : rank_cmp t (ranked s x).0 ≡ Greater = rw (h) refl in (over, ranked_over t s xs h)

ranked_under : (t : Rank) (s : ℤ) (xs : Line) → int_cmp t.salience s ≡ Less → AllByRecursion (λ (e : Placed). rank_cmp t e.0 ≡ Less) (ranked_all s xs)
ranked_under t s [] h = tt
ranked_under t s (x ∷ xs) h = let under : rank_cmp t (ranked s x).0 ≡ Less = rw (h) refl in (under, ranked_under t s xs h)

ranked_older : (t : Rank) (s : ℤ) (xs : Line) → int_cmp t.salience s ≡ Equal → AllByRecursion (λ (e : Placed). e.0.stamp < t.stamp) (ranked_all s xs) → AllByRecursion (λ (e : Placed). rank_cmp t e.0 ≡ Greater) (ranked_all s xs)
ranked_older t s [] e h = tt
ranked_older t s (x ∷ xs) e h =
    let stamps : nat_cmp t.stamp x.0 ≡ Greater = sym (nat_cmp_is t.stamp x.0 Greater h.0) in
    let over : rank_cmp t (ranked s x).0 ≡ Greater = rw (e, stamps) refl in
    (over, ranked_older t s xs e h.1)

laned_under : (t : Rank) (ls : Lanes) → AllByRecursion (λ (m : ℤ × Line). int_cmp t.salience m.0 ≡ Less) ls → AllByRecursion (λ (e : Placed). rank_cmp t e.0 ≡ Less) (laned ls)
laned_under t [] h = tt
laned_under t (l ∷ ls) h = all_append (λ (e : Placed). rank_cmp t e.0 ≡ Less) (ranked_all l.0 l.1) (laned ls) (ranked_under t l.0 l.1 h.0) (laned_under t ls h.1)

abbrev rank_of : ℤ → ℕ → Rank
rank_of s n = record { salience = s; stamp = n }

abbrev IsOlder : ℕ → Placed → Type 0
IsOlder n e = e.0.stamp < n

-- one more entry at the end of a lane that is there
push_by : (o : Ordering) (s : ℤ) (n : ℕ) (k : ℕ) (xs : Line) (l : ℤ × Line) (ls : Lanes) → int_cmp s l.0 ≡ o → AllByRecursion (λ (m : ℤ × Line). int_cmp l.0 m.0 ≡ Less) ls → AllByRecursion (IsOlder n) (laned (l ∷ ls))
    → lookup (is_at (int_cmp s)) (l ∷ ls) ≡ Some xs
    → (lookup (is_at (int_cmp s)) ls ≡ Some xs → laned (set_value (is_at (int_cmp s)) ls (xs ++ (n, k) ∷ [])) ≡ insert_entry rank_cmp (laned ls) (rank_of s n) k)
    → laned (set_value (is_at (int_cmp s)) (l ∷ ls) (xs ++ (n, k) ∷ [])) ≡ insert_entry rank_cmp (laned (l ∷ ls)) (rank_of s n) k
push_by Less s n k xs l ls e above older h next =
    let none : lookup (is_at (int_cmp s)) ls ≡ None = not_among s ls (under_all s l.0 ls e above) in
    let rest : lookup (is_at (int_cmp s)) (l ∷ ls) ≡ lookup (is_at (int_cmp s)) ls = rw (e) refl in
    let no : None ≡ Some xs = sym none ∙ (sym rest ∙ h) in
    cc
push_by Equal s n k xs l ls e above older h next =
    let is : s ≡ l.0 = same s l.0 e in
    let found : lookup (is_at (int_cmp s)) (l ∷ ls) ≡ Some l.1 = rw (e) refl in
    let both : Some l.1 ≡ Some xs = sym found ∙ h in
    let line : l.1 ≡ xs = cc in
    let put : set_value (is_at (int_cmp s)) (l ∷ ls) (xs ++ (n, k) ∷ []) ≡ (l.0, xs ++ (n, k) ∷ []) ∷ ls = rw (e) refl in
    let above_own : AllByRecursion (λ (m : ℤ × Line). int_cmp s m.0 ≡ Less) ls = subst (λ u. AllByRecursion (λ (m : ℤ × Line). int_cmp u m.0 ≡ Less) ls) (sym is) above in
    let left : laned ((l.0, xs ++ (n, k) ∷ []) ∷ ls) ≡ ranked_all l.0 xs ++ (rank_of l.0 n, k) ∷ laned ls =
    ap (λ es. es ++ laned ls) (ranked_append l.0 xs ((n, k) ∷ [])) ∙ append_assoc (ranked_all l.0 xs) ((rank_of l.0 n, k) ∷ []) (laned ls) in
    let right : insert_entry rank_cmp (ranked_all l.0 l.1 ++ laned ls) (rank_of s n) k ≡ ranked_all l.0 l.1 ++ (rank_of s n, k) ∷ laned ls =
    skip (rank_of s n) k (ranked_all l.0 l.1) (laned ls) (ranked_older (rank_of s n) l.0 l.1 e (all_first (IsOlder n) (ranked_all l.0 l.1) (laned ls) older))
    ∙ ap (λ es. ranked_all l.0 l.1 ++ es) (front (rank_of s n) k (laned ls) (laned_under (rank_of s n) ls above_own)) in
    ap laned put ∙ left ∙ ap (λ ys. ranked_all l.0 ys ++ (rank_of l.0 n, k) ∷ laned ls) (sym line) ∙ ap (λ u. ranked_all l.0 l.1 ++ (rank_of u n, k) ∷ laned ls) (sym is) ∙ sym right
push_by Greater s n k xs l ls e above older h next =
    let put : set_value (is_at (int_cmp s)) (l ∷ ls) (xs ++ (n, k) ∷ []) ≡ l ∷ set_value (is_at (int_cmp s)) ls (xs ++ (n, k) ∷ []) = rw (e) refl in
    let rest : lookup (is_at (int_cmp s)) (l ∷ ls) ≡ lookup (is_at (int_cmp s)) ls = rw (e) refl in
    ap laned put ∙ ap (λ es. ranked_all l.0 l.1 ++ es) (next (sym rest ∙ h)) ∙ sym (skip (rank_of s n) k (ranked_all l.0 l.1) (laned ls) (ranked_over (rank_of s n) l.0 l.1 e))

pub pushed : (s : ℤ) (n : ℕ) (k : ℕ) (xs : Line) (ls : Lanes) → SaliencesRise ls → AllByRecursion (IsOlder n) (laned ls) → lookup (is_at (int_cmp s)) ls ≡ Some xs
    → laned (set_value (is_at (int_cmp s)) ls (xs ++ (n, k) ∷ [])) ≡ insert_entry rank_cmp (laned ls) (rank_of s n) k
pushed s n k xs [] rise older h = cc
pushed s n k xs (l ∷ ls) rise older h =
    push_by (int_cmp s l.0) s n k xs l ls refl rise.0 older h (pushed s n k xs ls rise.1 (all_second (IsOlder n) (ranked_all l.0 l.1) (laned ls) older))

-- a lane of its own for an entry
begun_by : (o : Ordering) (s : ℤ) (n : ℕ) (k : ℕ) (l : ℤ × Line) (ls : Lanes) → int_cmp s l.0 ≡ o → AllByRecursion (λ (m : ℤ × Line). int_cmp l.0 m.0 ≡ Less) ls → lookup (is_at (int_cmp s)) (l ∷ ls) ≡ None
    → (lookup (is_at (int_cmp s)) ls ≡ None → laned (insert_entry int_cmp ls s ((n, k) ∷ [])) ≡ insert_entry rank_cmp (laned ls) (rank_of s n) k)
    → laned (insert_entry int_cmp (l ∷ ls) s ((n, k) ∷ [])) ≡ insert_entry rank_cmp (laned (l ∷ ls)) (rank_of s n) k
begun_by Less s n k l ls e above h next =
    let put : insert_entry int_cmp (l ∷ ls) s ((n, k) ∷ []) ≡ (s, (n, k) ∷ []) ∷ l ∷ ls = rw (e) refl in
    ap laned put ∙ sym (front (rank_of s n) k (laned (l ∷ ls)) (laned_under (rank_of s n) (l ∷ ls) (e, under_all s l.0 ls e above)))
begun_by Equal s n k l ls e above h next =
    let found : lookup (is_at (int_cmp s)) (l ∷ ls) ≡ Some l.1 = rw (e) refl in
    cc
begun_by Greater s n k l ls e above h next =
    let put : insert_entry int_cmp (l ∷ ls) s ((n, k) ∷ []) ≡ l ∷ insert_entry int_cmp ls s ((n, k) ∷ []) = rw (e) refl in
    let rest : lookup (is_at (int_cmp s)) (l ∷ ls) ≡ lookup (is_at (int_cmp s)) ls = rw (e) refl in
    ap laned put ∙ ap (λ es. ranked_all l.0 l.1 ++ es) (next (sym rest ∙ h)) ∙ sym (skip (rank_of s n) k (ranked_all l.0 l.1) (laned ls) (ranked_over (rank_of s n) l.0 l.1 e))

pub begun : (s : ℤ) (n : ℕ) (k : ℕ) (ls : Lanes) → SaliencesRise ls → lookup (is_at (int_cmp s)) ls ≡ None → laned (insert_entry int_cmp ls s ((n, k) ∷ [])) ≡ insert_entry rank_cmp (laned ls) (rank_of s n) k
begun s n k [] rise h = refl
begun s n k (l ∷ ls) rise h = begun_by (int_cmp s l.0) s n k l ls refl rise.0 h (begun s n k ls rise.1)

-- no lane is empty
set_by : (b : Bool) (l : ℤ × Line) (ls rest : Lanes) (v : Line) → v ≢ [] → AreFilled (l ∷ ls) → AreFilled rest → AreFilled (cond b ((l.0, v) ∷ ls) (l ∷ rest))
set_by true l ls rest v some h r = (some, h.1)
set_by false l ls rest v some h r = (h.0, r)

pub filled_set : (p : ℤ → Bool) (ls : Lanes) (v : Line) → v ≢ [] → AreFilled ls → AreFilled (set_value p ls v)
filled_set p [] v some h = tt
filled_set p (l ∷ ls) v some h = set_by (p l.0) l ls (set_value p ls v) v some h (filled_set p ls v some h.1)

more_by : (o : Ordering) (s : ℤ) (l : ℤ × Line) (ls rest : Lanes) (v : Line) → v ≢ [] → AreFilled (l ∷ ls) → AreFilled rest → AreFilled (match_ordering o ((s, v) ∷ l ∷ ls) ((l.0, v) ∷ ls) (l ∷ rest))
more_by Less s l ls rest v some h r = (some, h)
more_by Equal s l ls rest v some h r = (some, h.1)
more_by Greater s l ls rest v some h r = (h.0, r)

pub filled_more : (s : ℤ) (ls : Lanes) (v : Line) → v ≢ [] → AreFilled ls → AreFilled (insert_entry int_cmp ls s v)
filled_more s [] v some h = (some, tt)
filled_more s (l ∷ ls) v some h = more_by (int_cmp s l.0) s l ls (insert_entry int_cmp ls s v) v some h (filled_more s ls v some h.1)

gone_by : (b : Bool) (p : ℤ → Bool) (l : ℤ × Line) (ls : Lanes) (v : Line) → p l.0 ≡ b → AreFilled (l ∷ ls) → AreFilled (remove_entry p (set_value p ls v)) → AreFilled (remove_entry p (set_value p (l ∷ ls) v))
gone_by true p l ls v e h next =
    let put : set_value p (l ∷ ls) v ≡ (l.0, v) ∷ ls = rw (e) refl in
    let less : remove_entry p ((l.0, v) ∷ ls) ≡ ls = rw (e) refl in
    subst AreFilled (sym (ap (remove_entry p) put ∙ less)) h.1
gone_by false p l ls v e h next =
    let put : set_value p (l ∷ ls) v ≡ l ∷ set_value p ls v = rw (e) refl in
    let less : remove_entry p (l ∷ set_value p ls v) ≡ l ∷ remove_entry p (set_value p ls v) = rw (e) refl in
    subst AreFilled (sym (ap (remove_entry p) put ∙ less)) (h.0, next)

filled_gone : (p : ℤ → Bool) (ls : Lanes) (v : Line) → AreFilled ls → AreFilled (remove_entry p (set_value p ls v))
filled_gone p [] v h = tt
filled_gone p (l ∷ ls) v h = gone_by (p l.0) p l ls v refl h (filled_gone p ls v h.1)

settled_by : (o : Option Line) (p : ℤ → Bool) (ls ms : Lanes) (v : Line) → AreFilled ls → lookup p (set_value p ls v) ≡ o
    → (lookup p (set_value p ls v) ≡ Some [] → ms ≡ remove_entry p (set_value p ls v)) → (lookup p (set_value p ls v) ≢ Some [] → ms ≡ set_value p ls v) → (lookup p (set_value p ls v) ≢ Some [] → AreFilled (set_value p ls v)) → AreFilled ms
settled_by None p ls ms v h at gone stays full = let some : lookup p (set_value p ls v) ≢ Some [] = λ e. cc in subst AreFilled (sym (stays some)) (full some)
settled_by (Some []) p ls ms v h at gone stays full = subst AreFilled (sym (gone at)) (filled_gone p ls v h)
settled_by (Some (x ∷ xs)) p ls ms v h at gone stays full = let some : lookup p (set_value p ls v) ≢ Some [] = λ e. cc in subst AreFilled (sym (stays some)) (full some)

full_by : (b : Bool) (p : ℤ → Bool) (l : ℤ × Line) (ls : Lanes) (v : Line) → p l.0 ≡ b → AreFilled (l ∷ ls) → (lookup p (set_value p ls v) ≢ Some [] → AreFilled (set_value p ls v)) → lookup p (set_value p (l ∷ ls) v) ≢ Some [] → AreFilled (set_value p (l ∷ ls) v)
full_by true p l ls v e h next some =
    let put : set_value p (l ∷ ls) v ≡ (l.0, v) ∷ ls = rw (e) refl in
    let found : lookup p ((l.0, v) ∷ ls) ≡ Some v = rw (e) refl in
    subst AreFilled (sym put) ((λ is. some (ap (lookup p) put ∙ (found ∙ ap (λ w. Some w) is))), h.1)
full_by false p l ls v e h next some =
    let put : set_value p (l ∷ ls) v ≡ l ∷ set_value p ls v = rw (e) refl in
    let rest : lookup p (l ∷ set_value p ls v) ≡ lookup p (set_value p ls v) = rw (e) refl in
    subst AreFilled (sym put) (h.0, next (λ is. some (ap (lookup p) put ∙ (rest ∙ is))))

full : (p : ℤ → Bool) (ls : Lanes) (v : Line) → AreFilled ls → lookup p (set_value p ls v) ≢ Some [] → AreFilled (set_value p ls v)
full p [] v h some = tt
full p (l ∷ ls) v h some = full_by (p l.0) p l ls v refl h (full p ls v h.1) some

-- a lane that is empty after a change goes
pub settled_filled : (p : ℤ → Bool) (ls ms : Lanes) (v : Line) → AreFilled ls → (lookup p (set_value p ls v) ≡ Some [] → ms ≡ remove_entry p (set_value p ls v)) → (lookup p (set_value p ls v) ≢ Some [] → ms ≡ set_value p ls v) → AreFilled ms
settled_filled p ls ms v h gone stays = settled_by (lookup p (set_value p ls v)) p ls ms v h refl gone stays (full p ls v h)

empty_by : (b : Bool) (p : ℤ → Bool) (l : ℤ × Line) (ls : Lanes) → p l.0 ≡ b → lookup p (l ∷ ls) ≡ Some [] → (lookup p ls ≡ Some [] → laned (remove_entry p ls) ≡ laned ls) → laned (remove_entry p (l ∷ ls)) ≡ laned (l ∷ ls)
empty_by true p l ls e h next =
    let found : lookup p (l ∷ ls) ≡ Some l.1 = rw (e) refl in
    let both : Some l.1 ≡ Some [] = sym found ∙ h in
    let line : l.1 ≡ [] = cc in
    let less : remove_entry p (l ∷ ls) ≡ ls = rw (e) refl in
    ap laned less ∙ ap (λ xs. ranked_all l.0 xs ++ laned ls) (sym line)
empty_by false p l ls e h next =
    let rest : lookup p (l ∷ ls) ≡ lookup p ls = rw (e) refl in
    let less : remove_entry p (l ∷ ls) ≡ l ∷ remove_entry p ls = rw (e) refl in
    ap laned less ∙ ap (λ es. ranked_all l.0 l.1 ++ es) (next (sym rest ∙ h))

empty_gone : (p : ℤ → Bool) (ls : Lanes) → lookup p ls ≡ Some [] → laned (remove_entry p ls) ≡ laned ls
empty_gone p [] h = cc
empty_gone p (l ∷ ls) h = empty_by (p l.0) p l ls refl h (empty_gone p ls)

same_by : (o : Option Line) (p : ℤ → Bool) (ls ms : Lanes) → lookup p ls ≡ o → (lookup p ls ≡ Some [] → ms ≡ remove_entry p ls) → (lookup p ls ≢ Some [] → ms ≡ ls) → laned ms ≡ laned ls
same_by None p ls ms at gone stays = ap laned (stays (λ e. cc))
same_by (Some []) p ls ms at gone stays = ap laned (gone at) ∙ empty_gone p ls at
same_by (Some (x ∷ xs)) p ls ms at gone stays = ap laned (stays (λ e. cc))

pub settled_same : (p : ℤ → Bool) (ls ms : Lanes) → (lookup p ls ≡ Some [] → ms ≡ remove_entry p ls) → (lookup p ls ≢ Some [] → ms ≡ ls) → laned ms ≡ laned ls
settled_same p ls ms gone stays = same_by (lookup p ls) p ls ms refl gone stays

-- the last lane
last_split : (ls : Lanes) (i : ℕ) (l : ℤ × Line) → i + 1 ≡ length ls → slice_get ls i ≡ Some l → (init : Lanes) × (ls ≡ init ++ l ∷ [])
last_split [] i l n h = absurd (omega arith)
last_split (m ∷ []) zero l n h = ([], let is : m ≡ l = cc in ap (λ (x : ℤ × Line). x ∷ []) is)
last_split (m ∷ []) (suc i) l n h = absurd (omega arith)
last_split (m ∷ k ∷ ms) zero l n h = absurd (omega arith)
last_split (m ∷ k ∷ ms) (suc i) l n h = let rest = last_split (k ∷ ms) i l (omega arith) h in (m ∷ rest.0, ap (λ (xs : Lanes). m ∷ xs) rest.1)

below_last : (init : Lanes) (l : ℤ × Line) → SaliencesRise (init ++ l ∷ []) → AllByRecursion (λ (m : ℤ × Line). int_cmp m.0 l.0 ≡ Less) init
below_last [] l h = tt
below_last (m ∷ ms) l h = ((all_second (λ (x : ℤ × Line). int_cmp m.0 x.0 ≡ Less) ms (l ∷ []) h.0).0, below_last ms l h.1)

pub lookup_last : (s : ℤ) (xs : Line) (init : Lanes) → AllByRecursion (λ (m : ℤ × Line). int_cmp m.0 s ≡ Less) init → lookup (is_at (int_cmp s)) (init ++ (s, xs) ∷ []) ≡ Some xs
lookup_last s xs [] h = let own : is_at (int_cmp s) s ≡ true = at_own s in rw (own) refl
lookup_last s xs (m ∷ ms) h = let apart : is_at (int_cmp s) m.0 ≡ false = apart_below s m.0 h.0 in rw (apart) (lookup_last s xs ms h.1)

set_last : (s : ℤ) (xs ys : Line) (init : Lanes) → AllByRecursion (λ (m : ℤ × Line). int_cmp m.0 s ≡ Less) init → set_value (is_at (int_cmp s)) (init ++ (s, xs) ∷ []) ys ≡ init ++ (s, ys) ∷ []
set_last s xs ys [] h = let own : is_at (int_cmp s) s ≡ true = at_own s in rw (own) refl
set_last s xs ys (m ∷ ms) h = let apart : is_at (int_cmp s) m.0 ≡ false = apart_below s m.0 h.0 in rw (apart, set_last s xs ys ms h.1) refl

laned_last : (s : ℤ) (xs : Line) (init : Lanes) → laned (init ++ (s, xs) ∷ []) ≡ laned init ++ ranked_all s xs
laned_last s xs init = laned_append init ((s, xs) ∷ []) ∙ ap (λ es. laned init ++ es) (append-nil (ranked_all s xs))

-- other lanes have lower saliences, and a lane has its own
lower_ranked : (s u : ℤ) (xs : Line) → int_cmp u s ≡ Less → AllByRecursion (λ (x : Placed). int_cmp x.0.salience s ≡ Less) (ranked_all u xs)
lower_ranked s u [] h = tt
lower_ranked s u (x ∷ xs) h = (h, lower_ranked s u xs h)

lower_laned : (s : ℤ) (ls : Lanes) → AllByRecursion (λ (m : ℤ × Line). int_cmp m.0 s ≡ Less) ls → AllByRecursion (λ (x : Placed). int_cmp x.0.salience s ≡ Less) (laned ls)
lower_laned s [] h = tt
lower_laned s (l ∷ ls) h = all_append (λ (x : Placed). int_cmp x.0.salience s ≡ Less) (ranked_all l.0 l.1) (laned ls) (lower_ranked s l.0 l.1 h.0) (lower_laned s ls h.1)

level_ranked : (s : ℤ) (xs : Line) → AllByRecursion (λ (x : Placed). x.0.salience ≡ s) (ranked_all s xs)
level_ranked s [] = tt
level_ranked s (x ∷ xs) = (refl, level_ranked s xs)

popped_by : (st : Strategy) (s : ℤ) (x : ℕ × ℕ) (ys : Line) (init : Lanes) → AllByRecursion (λ (m : ℤ × Line). int_cmp m.0 s ≡ Less) init → IsNext st (laned init ++ ranked_all s (put_back st x ys)) (ranked s x) (laned init ++ ranked_all s ys)
popped_by Depth s x ys init below = record {
  before = laned init ++ ranked_all s ys;
  behind = [];
  whole = ap (λ es. laned init ++ es) (ranked_append s ys (x ∷ [])) ∙ sym (append_assoc (laned init) (ranked_all s ys) (ranked s x ∷ []));
  left = sym (append-nil (laned init ++ ranked_all s ys));
  first = refl;
}
popped_by Breadth s x ys init below = record {
  before = laned init;
  behind = ranked_all s ys;
  whole = refl;
  left = refl;
  first = (lower_laned s init below, level_ranked s ys);
}

-- what the strategy takes out of the last lane
pub popped_last : (st : Strategy) (s : ℤ) (x : ℕ × ℕ) (xs ys : Line) (ls : Lanes) → SaliencesRise ls → slice_get ls (length ls - 1) ≡ Some (s, xs) → xs ≡ put_back st x ys → IsNext st (laned ls) (ranked s x) (laned (set_value (is_at (int_cmp s)) ls ys))
popped_last st s x xs ys [] up h is = cc
popped_last st s x xs ys (l ∷ ls) up h is =
    let split = last_split (l ∷ ls) (length (l ∷ ls) - 1) (s, xs) (omega arith) h in
    let below = below_last split.0 (s, xs) (subst SaliencesRise split.1 up) in
    let all : laned (l ∷ ls) ≡ laned split.0 ++ ranked_all s (put_back st x ys) = ap laned split.1 ∙ laned_last s xs split.0 ∙ ap (λ zs. laned split.0 ++ ranked_all s zs) is in
    let left : laned (set_value (is_at (int_cmp s)) (l ∷ ls) ys) ≡ laned split.0 ++ ranked_all s ys =
    ap (λ (ms : Lanes). laned (set_value (is_at (int_cmp s)) ms ys)) split.1 ∙ ap laned (set_last s xs ys split.0 below) ∙ laned_last s ys split.0 in
    subst (λ (es : List Placed). IsNext st es (ranked s x) (laned (set_value (is_at (int_cmp s)) (l ∷ ls) ys))) (sym all)
    (subst (λ (fs : List Placed). IsNext st (laned split.0 ++ ranked_all s (put_back st x ys)) (ranked s x) fs) (sym left) (popped_by st s x ys split.0 below))

pub last_found : (s : ℤ) (xs : Line) (ls : Lanes) → SaliencesRise ls → slice_get ls (length ls - 1) ≡ Some (s, xs) → lookup (is_at (int_cmp s)) ls ≡ Some xs
last_found s xs [] up h = cc
last_found s xs (l ∷ ls) up h =
    let split = last_split (l ∷ ls) (length (l ∷ ls) - 1) (s, xs) (omega arith) h in
    subst (λ (ms : Lanes). lookup (is_at (int_cmp s)) ms ≡ Some xs) (sym split.1) (lookup_last s xs split.0 (below_last split.0 (s, xs) (subst SaliencesRise split.1 up)))

-- where the stale entries of a lane are let go, all others stay
own_by : (b : Bool) (s : ℤ) (x : ℕ × ℕ) (zs : Line) → ranked_all s (cond b (x ∷ zs) zs) ≡ cond b (ranked s x ∷ ranked_all s zs) (ranked_all s zs)
own_by true s x zs = refl
own_by false s x zs = refl

stays_own : (find : ℕ → Option Active) (s u : ℤ) (x : ℕ × ℕ) → is_at (int_cmp s) u ≡ true → stays find s (ranked u x) ≡ is_current find (ranked u x)
stays_own find s u x h = rw (h) refl

stays_other : (find : ℕ → Option Active) (s u : ℤ) (x : ℕ × ℕ) → is_at (int_cmp s) u ≡ false → stays find s (ranked u x) ≡ true
stays_other find s u x h = rw (h) refl

own_lane : (find : ℕ → Option Active) (s u : ℤ) (xs : Line) → is_at (int_cmp s) u ≡ true → ranked_all u (filter (λ (x : ℕ × ℕ). is_current find (ranked u x)) xs) ≡ filter (stays find s) (ranked_all u xs)
own_lane find s u [] h = refl
own_lane find s u (x ∷ xs) h =
    own_by (is_current find (ranked u x)) u x (filter (λ (x : ℕ × ℕ). is_current find (ranked u x)) xs)
    ∙ ap (λ (es : List Placed). cond (is_current find (ranked u x)) (ranked u x ∷ es) es) (own_lane find s u xs h)
    ∙ ap (λ b. cond b (ranked u x ∷ filter (stays find s) (ranked_all u xs)) (filter (stays find s) (ranked_all u xs))) (sym (stays_own find s u x h))

all_stay : (find : ℕ → Option Active) (s u : ℤ) (xs : Line) → is_at (int_cmp s) u ≡ false → AllByRecursion (λ (e : Placed). stays find s e ≡ true) (ranked_all u xs)
all_stay find s u [] h = tt
all_stay find s u (x ∷ xs) h = (stays_other find s u x h, all_stay find s u xs h)

laned_stay : (find : ℕ → Option Active) (s : ℤ) (ls : Lanes) → AllByRecursion (λ (m : ℤ × Line). int_cmp s m.0 ≡ Less) ls → AllByRecursion (λ (e : Placed). stays find s e ≡ true) (laned ls)
laned_stay find s [] h = tt
laned_stay find s (l ∷ ls) h =
    all_append (λ (e : Placed). stays find s e ≡ true) (ranked_all l.0 l.1) (laned ls) (all_stay find s l.0 l.1 (apart_above s l.0 h.0)) (laned_stay find s ls h.1)

thin_by : (b : Bool) (find : ℕ → Option Active) (s : ℤ) (xs : Line) (l : ℤ × Line) (ls : Lanes) → is_at (int_cmp s) l.0 ≡ b → AllByRecursion (λ (m : ℤ × Line). int_cmp l.0 m.0 ≡ Less) ls → lookup (is_at (int_cmp s)) (l ∷ ls) ≡ Some xs
    → (lookup (is_at (int_cmp s)) ls ≡ Some xs → laned (set_value (is_at (int_cmp s)) ls (filter (λ (x : ℕ × ℕ). is_current find (ranked s x)) xs)) ≡ filter (stays find s) (laned ls))
    → laned (set_value (is_at (int_cmp s)) (l ∷ ls) (filter (λ (x : ℕ × ℕ). is_current find (ranked s x)) xs)) ≡ filter (stays find s) (laned (l ∷ ls))
thin_by true find s xs l ls e above h next =
    let is : s ≡ l.0 = (signed_Decides s l.0).0 e in
    let found : lookup (is_at (int_cmp s)) (l ∷ ls) ≡ Some l.1 = rw (e) refl in
    let both : Some l.1 ≡ Some xs = sym found ∙ h in
    let line : xs ≡ l.1 = cc in
    let kept : Line = filter (λ (x : ℕ × ℕ). is_current find (ranked s x)) xs in
    let put : set_value (is_at (int_cmp s)) (l ∷ ls) kept ≡ (l.0, kept) ∷ ls = rw (e) refl in
    let own : ranked_all l.0 kept ≡ filter (stays find s) (ranked_all l.0 l.1) =
    ap (λ u. ranked_all l.0 (filter (λ (x : ℕ × ℕ). is_current find (ranked u x)) xs)) is
    ∙ ap (λ (ys : Line). ranked_all l.0 (filter (λ (x : ℕ × ℕ). is_current find (ranked l.0 x)) ys)) line ∙ own_lane find s l.0 l.1 e in
    let others : filter (stays find s) (laned ls) ≡ laned ls =
    filter_all (stays find s) (laned ls) (laned_stay find s ls (subst (λ u. AllByRecursion (λ (m : ℤ × Line). int_cmp u m.0 ≡ Less) ls) (sym is) above)) in
    ap laned put ∙ ap (λ es. es ++ laned ls) own ∙ ap (λ es. filter (stays find s) (ranked_all l.0 l.1) ++ es) (sym others) ∙ sym (filter_append (stays find s) (ranked_all l.0 l.1) (laned ls))
thin_by false find s xs l ls e above h next =
    let kept : Line = filter (λ (x : ℕ × ℕ). is_current find (ranked s x)) xs in
    let put : set_value (is_at (int_cmp s)) (l ∷ ls) kept ≡ l ∷ set_value (is_at (int_cmp s)) ls kept = rw (e) refl in
    let rest : lookup (is_at (int_cmp s)) (l ∷ ls) ≡ lookup (is_at (int_cmp s)) ls = rw (e) refl in
    ap laned put ∙ ap (λ es. ranked_all l.0 l.1 ++ es) (next (sym rest ∙ h)) ∙ ap (λ es. es ++ filter (stays find s) (laned ls)) (sym (filter_all (stays find s) (ranked_all l.0 l.1) (all_stay find s l.0 l.1 e)))
    ∙ sym (filter_append (stays find s) (ranked_all l.0 l.1) (laned ls))

pub thinned_lane : (find : ℕ → Option Active) (s : ℤ) (xs : Line) (ls : Lanes) → SaliencesRise ls → lookup (is_at (int_cmp s)) ls ≡ Some xs
    → laned (set_value (is_at (int_cmp s)) ls (filter (λ (x : ℕ × ℕ). is_current find (ranked s x)) xs)) ≡ filter (stays find s) (laned ls)
thinned_lane find s xs [] up h = cc
thinned_lane find s xs (l ∷ ls) up h = thin_by (is_at (int_cmp s) l.0) find s xs l ls refl up.0 h (thinned_lane find s xs ls up.1)

set_same_by : (b : Bool) (p : ℤ → Bool) (xs : Line) (l : ℤ × Line) (ls : Lanes) → p l.0 ≡ b → lookup p (l ∷ ls) ≡ Some xs → (lookup p ls ≡ Some xs → set_value p ls xs ≡ ls) → set_value p (l ∷ ls) xs ≡ l ∷ ls
set_same_by true p xs l ls e h next =
    let found : lookup p (l ∷ ls) ≡ Some l.1 = rw (e) refl in
    let both : Some l.1 ≡ Some xs = sym found ∙ h in
    let line : xs ≡ l.1 = cc in
    let put : set_value p (l ∷ ls) xs ≡ (l.0, xs) ∷ ls = rw (e) refl in
    put ∙ ap (λ (ys : Line). (l.0, ys) ∷ ls) line
set_same_by false p xs l ls e h next =
    let rest : lookup p (l ∷ ls) ≡ lookup p ls = rw (e) refl in
    let put : set_value p (l ∷ ls) xs ≡ l ∷ set_value p ls xs = rw (e) refl in
    put ∙ ap (λ (ms : Lanes). l ∷ ms) (next (sym rest ∙ h))

pub set_same : (p : ℤ → Bool) (xs : Line) (ls : Lanes) → lookup p ls ≡ Some xs → set_value p ls xs ≡ ls
set_same p xs [] h = refl
set_same p xs (l ∷ ls) h = set_same_by (p l.0) p xs l ls refl h (set_same p xs ls)
