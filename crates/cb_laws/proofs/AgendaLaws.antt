-- What is due after a change, and after a match was taken out.
use Rattle.std.proofs.Common.{◌≡◌, ◌≢◌, ◌⊎◌, inl, inr, ◌∙◌, ◌||◌, ◌+◌, ℕ, ℤ, pos, Bool, true, false, cond, not, List, [], ◌∷◌, Option, Some, None, Result, Ordering, Less, Equal, Greater, Decides, refl, sym, ap, ap₂, subst, if◌then◌else◌}
use Rattle.std.proofs.lemmas.Bool.{false_from_ne_true}
use Rattle.std.proofs.lemmas.Map.Views.{Contains-from_any, list_any-from_Contains}
use Rattle.std.specs.BTreeMap.{insert_entry, is_at}
use Rattle.std.specs.Cmp.{first_so, second_so, unsigned_Decides}
use Rattle.std.specs.Cmp.Lexicographic.{bytes_decides, pointwise_decides}
use Rattle.std.specs.List.{AllByRecursion, Contains, list_any}
use Rattle.std.specs.List.Sorted.{IsStrictlySortedBy}
use Rattle.std.specs.Map.{keys_of, remove_entry}
use Rattle.std.specs.Ordering.{is_eq, match_ordering, ordering_reverse}
use Rattle.cb_actions.specs.Changes.{moved}
use Rattle.cb_actions.specs.Worlds.{World}
use Rattle.cb_actions.specs.declared.act.EarlyEnd.{EarlyEnd}
use Rattle.cb_agenda.specs.Agendas.{Activation, AgendaValue, Entries, changed, first_to_fire, is_due, popped, taken_out, top_of, with_key, with_keys, without_key, without_keys}
use Rattle.cb_agenda.specs.Internal.RankLaws.{rank_equiv, rank_tied, rank_total}
use Rattle.cb_agenda.specs.Ranks.{fires_before, rank_cmp}
use Rattle.cb_agenda.specs.declared.rank.Rank.{Rank}
use Rattle.cb_agenda.specs.declared.strategy.Strategy.{Strategy}
use Rattle.cb_knowledge_base.specs.KnowledgeBase.{Memory}
use Rattle.cb_laws.proofs.EntryLaws.{before_others, others_rise, rising_filtered, rising_put, rising_taken}
use Rattle.cb_laws.proofs.MoveLaws.{Moved, moved_so}
use Rattle.cb_laws.specs.Firing.{AreOnce, HasCome, IsProper}
use Rattle.cb_matches.specs.Changes.{come_of, keys_come, keys_gone}
use Rattle.cb_matches.specs.Internal.KeyLaws.{key_equiv, part_equiv}
use Rattle.cb_matches.specs.Keys.{KeyValue, PartValue, key_eq, part_eq}
use Rattle.cb_matches.specs.Networks.{Network, all_keys}

-- keys that count as equal are the same
part_same : (p q : PartValue) → part_eq p q ≡ true → p ≡ q
part_same p q e = ap₂ (λ (i : ℕ) (cs : List ℕ). record { index = i; cuts = cs }) ((unsigned_Decides p.index q.index).0 (first_so _ _ e)) ((bytes_decides p.cuts q.cuts).0 (second_so _ _ e))

part_decides : (p q : PartValue) → Decides (part_eq p q) (p ≡ q)
part_decides p q = (part_same p q, λ e. subst (λ (r : PartValue). part_eq p r ≡ true) e (part_itself p))
  where
    part_itself : (r : PartValue) → part_eq r r ≡ true
    part_itself r = part_equiv.refl r

pub key_same : (k l : KeyValue) → key_eq k l ≡ true → k ≡ l
key_same k l e =
    let rules : k.rule ≡ l.rule = (unsigned_Decides k.rule l.rule).0 (first_so _ _ e) in
    let branches : k.branch ≡ l.branch = (unsigned_Decides k.branch l.branch).0 (first_so _ _ (second_so _ _ e)) in
    let parts : k.parts ≡ l.parts = (pointwise_decides part_decides k.parts l.parts).0 (second_so _ _ (second_so _ _ e)) in
    ap₂ (λ (r : ℕ) (p : ℕ × List PartValue). record { rule = r; branch = p.0; parts = p.1 }) rules (ap₂ (λ (b : ℕ) (ps : List PartValue). (b, ps)) branches parts)

key_apart : (k l : KeyValue) → l ≢ k → key_eq l k ≡ false
key_apart k l n = false_from_ne_true (key_eq l k) (λ e. n (key_same l k e))

pub among : (k : KeyValue) (ks : List KeyValue) → list_any (key_eq k) ks ≡ true → Contains ks k
among k ks h = Contains-from_any key_same k ks h

not_among : (k : KeyValue) (ks : List KeyValue) → list_any (key_eq k) ks ≡ false → Contains ks k → ⊥
not_among k ks h c =
    let yes : list_any (key_eq k) ks ≡ true = list_any-from_Contains key_equiv k ks c in
    cc

-- whether some activation is of a match
abbrev pub has : KeyValue → Entries → Bool
has k es = list_any (λ e. key_eq k e.1) es

pub either : (a b : Bool) → (a || b) ≡ true → (a ≡ true) ⊎ (b ≡ true)
either true b h = inl refl
either false b h = inr h

pub or_second : (a b : Bool) → b ≡ true → (a || b) ≡ true
or_second true b h = refl
or_second false b h = h

or_false : (a b : Bool) → (a || b) ≡ false → (a ≡ false) × (b ≡ false)
or_false true b h = absurd (cc)
or_false false b h = (refl, h)

none_has : (a : Bool) → (a ≡ true → ⊥) → a ≡ false
none_has a h = false_from_ne_true a h

-- after one was put in
put_by : (k c : KeyValue) (t : Rank) (x : Activation) (xs rest : Entries) (o : Ordering) → (has k rest ≡ true → (key_eq k c ≡ true) ⊎ (has k xs ≡ true))
    → has k (match_ordering o ((t, c) ∷ x ∷ xs) ((x.0, c) ∷ xs) (x ∷ rest)) ≡ true → (key_eq k c ≡ true) ⊎ (has k (x ∷ xs) ≡ true)
put_by k c t x xs rest Less more h = either (key_eq k c) (has k (x ∷ xs)) h
put_by k c t x xs rest Equal more h = later (either (key_eq k c) (has k xs) h)
  where
    later : (key_eq k c ≡ true) ⊎ (has k xs ≡ true) → (key_eq k c ≡ true) ⊎ (has k (x ∷ xs) ≡ true)
    later (inl e) = inl e
    later (inr e) = inr (or_second (key_eq k x.1) (has k xs) e)
put_by k c t x xs rest Greater more h = first (either (key_eq k x.1) (has k rest) h)
  where
    later : (key_eq k c ≡ true) ⊎ (has k xs ≡ true) → (key_eq k c ≡ true) ⊎ (has k (x ∷ xs) ≡ true)
    later (inl e) = inl e
    later (inr e) = inr (or_second (key_eq k x.1) (has k xs) e)

    first : (key_eq k x.1 ≡ true) ⊎ (has k rest ≡ true) → (key_eq k c ≡ true) ⊎ (has k (x ∷ xs) ≡ true)
    first (inl e) = inr (ap (λ b. b || has k xs) e)
    first (inr e) = later (more e)

has_put : (k c : KeyValue) (t : Rank) (es : Entries) → has k (insert_entry rank_cmp es t c) ≡ true → (key_eq k c ≡ true) ⊎ (has k es ≡ true)
has_put k c t [] h = either (key_eq k c) false h
has_put k c t (x ∷ xs) h = put_by k c t x xs (insert_entry rank_cmp xs t c) (rank_cmp t x.0) (has_put k c t xs) h

-- after those of one match were taken out
has_without : (k c : KeyValue) (es : Entries) → has k (without_key es c) ≡ true → (has k es ≡ true) × (key_eq c k ≡ false)
has_without k c [] h = absurd (cc)
has_without k c (x ∷ xs) h = by (key_eq c x.1) refl h (has_without k c xs)
  where
    first : (key_eq k x.1 ≡ true) ⊎ (has k (without_key xs c) ≡ true) → key_eq c x.1 ≡ false → (has k (without_key xs c) ≡ true → (has k xs ≡ true) × (key_eq c k ≡ false)) → (has k (x ∷ xs) ≡ true) × (key_eq c k ≡ false)
    first (inl e) d more = (ap (λ b. b || has k xs) e, ap (key_eq c) (key_same k x.1 e) ∙ d)
    first (inr e) d more = (or_second (key_eq k x.1) (has k xs) (more e).0, (more e).1)

    by : (b : Bool) → key_eq c x.1 ≡ b → has k (cond (not b) (x ∷ without_key xs c) (without_key xs c)) ≡ true → (has k (without_key xs c) ≡ true → (has k xs ≡ true) × (key_eq c k ≡ false)) → (has k (x ∷ xs) ≡ true) × (key_eq c k ≡ false)
    by true e is more = (or_second (key_eq k x.1) (has k xs) (more is).0, (more is).1)
    by false e is more = first (either (key_eq k x.1) (has k (without_key xs c)) is) e more

without_not : (k c : KeyValue) (es : Entries) → has k es ≡ false → has k (without_key es c) ≡ false
without_not k c es h = none_has (has k (without_key es c)) (λ is. let both = (has_without k c es is).0 in cc)

itself_out : (c : KeyValue) (es : Entries) → has c (without_key es c) ≡ false
itself_out c es = none_has (has c (without_key es c)) (λ is. let apart = (has_without c c es is).1 in let same = key_equiv.refl c in cc)

has_all_without : (k : KeyValue) (gone : List KeyValue) (es : Entries) → has k (without_keys es gone) ≡ true → (has k es ≡ true) × (list_any (key_eq k) gone ≡ false)
has_all_without k [] es h = (h, refl)
has_all_without k (c ∷ gone) es h =
    let more = has_all_without k gone (without_key es c) h in
    let one = has_without k c es more.0 in
    (one.0, none_two (key_eq k c) (list_any (key_eq k) gone) (key_equiv.symm k c ∙ one.1) more.1)
  where
    none_two : (a b : Bool) → a ≡ false → b ≡ false → (a || b) ≡ false
    none_two a b e f = ap₂ (λ s t. s || t) e f

-- after several came
key_comes : (a : AgendaValue) (c k : KeyValue) (s : ℤ) → is_due (with_key a c s) k ≡ true → (key_eq k c ≡ true) ⊎ (is_due a k ≡ true)
key_comes a c k s h = by (has_put k c (record { salience = s; stamp = a.last + 1 }) (without_key a.entries c) h)
  where
    by : (key_eq k c ≡ true) ⊎ (has k (without_key a.entries c) ≡ true) → (key_eq k c ≡ true) ⊎ (is_due a k ≡ true)
    by (inl e) = inl e
    by (inr e) = inr (has_without k c a.entries e).0

come_or_due : (k c : KeyValue) (come : List KeyValue) (a : AgendaValue) (s : ℤ) → (list_any (key_eq k) come ≡ true) ⊎ (is_due (with_key a c s) k ≡ true) → (list_any (key_eq k) (c ∷ come) ≡ true) ⊎ (is_due a k ≡ true)
come_or_due k c come a s (inl e) = inl (or_second (key_eq k c) (list_any (key_eq k) come) e)
come_or_due k c come a s (inr e) = by (key_comes a c k s e)
  where
    by : (key_eq k c ≡ true) ⊎ (is_due a k ≡ true) → (list_any (key_eq k) (c ∷ come) ≡ true) ⊎ (is_due a k ≡ true)
    by (inl f) = inl (ap (λ b. b || list_any (key_eq k) come) f)
    by (inr f) = inr f

all_come : (k : KeyValue) (come : List KeyValue) (ss : List ℤ) (a : AgendaValue) → is_due (with_keys a come ss) k ≡ true → (list_any (key_eq k) come ≡ true) ⊎ (is_due a k ≡ true)
all_come k [] ss a h = inr h
all_come k (c ∷ come) [] a h = come_or_due k c come a (pos 0) (all_come k come [] (with_key a c (pos 0)) h)
all_come k (c ∷ come) (s ∷ ss) a h = come_or_due k c come a s (all_come k come ss (with_key a c s) h)

pub due_changed : (a : AgendaValue) (gone come : List KeyValue) (ss : List ℤ) (k : KeyValue) → is_due (changed a gone come ss) k ≡ true → ((is_due a k ≡ true) × (Contains gone k → ⊥)) ⊎ Contains come k
due_changed a gone come ss k h = by (all_come k come ss (record a { entries = without_keys a.entries gone }) h)
  where
    by : (list_any (key_eq k) come ≡ true) ⊎ (has k (without_keys a.entries gone) ≡ true) → ((is_due a k ≡ true) × (Contains gone k → ⊥)) ⊎ Contains come k
    by (inl e) = inr (among k come e)
    by (inr e) = let both = has_all_without k gone a.entries e in inl (both.0, not_among k gone both.1)

-- those that come were not there
come_so : (k : KeyValue) (old new : List KeyValue) → list_any (key_eq k) (come_of old new) ≡ true → (list_any (key_eq k) old ≡ false) × (list_any (key_eq k) new ≡ true)
come_so k old [] h = absurd (cc)
come_so k old (c ∷ new) h = by (list_any (key_eq c) old) refl h (come_so k old new)
  where
    later : (list_any (key_eq k) old ≡ false) × (list_any (key_eq k) new ≡ true) → (list_any (key_eq k) old ≡ false) × (list_any (key_eq k) (c ∷ new) ≡ true)
    later both = (both.0, or_second (key_eq k c) (list_any (key_eq k) new) both.1)

    first : (key_eq k c ≡ true) ⊎ (list_any (key_eq k) (come_of old new) ≡ true) → list_any (key_eq c) old ≡ false
        → (list_any (key_eq k) (come_of old new) ≡ true → (list_any (key_eq k) old ≡ false) × (list_any (key_eq k) new ≡ true)) → (list_any (key_eq k) old ≡ false) × (list_any (key_eq k) (c ∷ new) ≡ true)
    first (inl e) d more = (ap (λ (l : KeyValue). list_any (key_eq l) old) (key_same k c e) ∙ d, ap (λ b. b || list_any (key_eq k) new) e)
    first (inr e) d more = later (more e)

    by : (b : Bool) → list_any (key_eq c) old ≡ b → list_any (key_eq k) (cond (not b) (c ∷ come_of old new) (come_of old new)) ≡ true
        → (list_any (key_eq k) (come_of old new) ≡ true → (list_any (key_eq k) old ≡ false) × (list_any (key_eq k) new ≡ true)) → (list_any (key_eq k) old ≡ false) × (list_any (key_eq k) (c ∷ new) ≡ true)
    by true d is more = later (more is)
    by false d is more = first (either (key_eq k c) (list_any (key_eq k) (come_of old new)) is) d more

pub has_come : (old new : Network) (k : KeyValue) → Contains (keys_come old new) k → HasCome old new k
unfolding keys_come
has_come old new k c =
    let both = come_so k (all_keys old) (all_keys new) (list_any-from_Contains key_equiv k (come_of (all_keys old) (all_keys new)) c) in
    (not_among k (all_keys old) both.0, among k (all_keys new) both.1)

pub due_moved : (next : Memory) (line : List ℕ) (s : World) (k : KeyValue) → is_due (moved next line s).state.agenda k ≡ true → (is_due s.agenda k ≡ true) ⊎ HasCome s.memory.network next.network k
due_moved next line s k h = by (moved_so s next line).agenda
  where
    came : ((is_due s.agenda k ≡ true) × (Contains (keys_gone s.memory.network next.network) k → ⊥)) ⊎ Contains (keys_come s.memory.network next.network) k → (is_due s.agenda k ≡ true) ⊎ HasCome s.memory.network next.network k
    came (inl e) = inl e.0
    came (inr c) = inr (has_come s.memory.network next.network k c)

    by : ((moved next line s).state.agenda ≡ s.agenda) ⊎ ((ss : List ℤ) × ((moved next line s).state.agenda ≡ changed s.agenda (keys_gone s.memory.network next.network) (keys_come s.memory.network next.network) ss))
        → (is_due s.agenda k ≡ true) ⊎ HasCome s.memory.network next.network k
    by (inl e) = inl (sym (ap (λ a. is_due a k) e) ∙ h)
    by (inr e) = came (due_changed s.agenda (keys_gone s.memory.network next.network) (keys_come s.memory.network next.network) e.0 k (sym (ap (λ a. is_due a k) e.1) ∙ h))

-- agendas stay proper
once_without : (c : KeyValue) (es : Entries) → AreOnce es → AreOnce (without_key es c)
once_without c [] h = h
once_without c (x ∷ xs) h = by (key_eq c x.1) (once_without c xs h.1)
  where
    by : (b : Bool) → AreOnce (without_key xs c) → AreOnce (cond (not b) (x ∷ without_key xs c) (without_key xs c))
    by true more = more
    by false more = (without_not x.1 c xs h.0, more)

once_put : (c : KeyValue) (t : Rank) (es : Entries) → AreOnce es → has c es ≡ false → AreOnce (insert_entry rank_cmp es t c)
once_put c t [] h none = (refl, tt)
once_put c t (x ∷ xs) h none = by (rank_cmp t x.0) (once_put c t xs h.1 (or_false (key_eq c x.1) (has c xs) none).1)
  where
    two : (key_eq x.1 c ≡ true) ⊎ (has x.1 xs ≡ true) → ⊥
    two (inl e) =
        let apart = key_equiv.symm x.1 c ∙ (or_false (key_eq c x.1) (has c xs) none).0 in
        cc
    two (inr e) = let apart = h.0 in cc

    by : (o : Ordering) → AreOnce (insert_entry rank_cmp xs t c) → AreOnce (match_ordering o ((t, c) ∷ x ∷ xs) ((x.0, c) ∷ xs) (x ∷ insert_entry rank_cmp xs t c))
    by Less more = (none, h)
    by Equal more = ((or_false (key_eq c x.1) (has c xs) none).1, h.1)
    by Greater more = (none_has (has x.1 (insert_entry rank_cmp xs t c)) (λ is. two (has_put x.1 c t xs is)), more)

-- one less by its rank
pub has_less : (k : KeyValue) (q : Rank → Bool) (es : Entries) → has k es ≡ false → has k (remove_entry q es) ≡ false
has_less k q [] h = h
has_less k q (x ∷ xs) h = by (q x.0) (has_less k q xs (or_false (key_eq k x.1) (has k xs) h).1)
  where
    by : (b : Bool) → has k (remove_entry q xs) ≡ false → has k (cond b xs (x ∷ remove_entry q xs)) ≡ false
    by true more = (or_false (key_eq k x.1) (has k xs) h).1
    by false more = ap₂ (λ s t. s || t) (or_false (key_eq k x.1) (has k xs) h).0 more

once_less : (q : Rank → Bool) (es : Entries) → AreOnce es → AreOnce (remove_entry q es)
once_less q [] h = h
once_less q (x ∷ xs) h = by (q x.0) (once_less q xs h.1)
  where
    by : (b : Bool) → AreOnce (remove_entry q xs) → AreOnce (cond b xs (x ∷ remove_entry q xs))
    by true more = h.1
    by false more = (has_less x.1 q xs h.0, more)

key_proper : (a : AgendaValue) (c : KeyValue) (s : ℤ) → IsProper a → IsProper (with_key a c s)
key_proper a c s p = record {
  rising = rising_put rank_cmp rank_total (without_key a.entries c) (record { salience = s; stamp = a.last + 1 }) c (rising_filtered rank_cmp (λ e. not (key_eq c e.1)) a.entries p.rising);
  once = once_put c (record { salience = s; stamp = a.last + 1 }) (without_key a.entries c) (once_without c a.entries p.once) (itself_out c a.entries);
}

keys_proper : (come : List KeyValue) (ss : List ℤ) (a : AgendaValue) → IsProper a → IsProper (with_keys a come ss)
keys_proper [] ss a p = p
keys_proper (c ∷ come) [] a p = keys_proper come [] (with_key a c (pos 0)) (key_proper a c (pos 0) p)
keys_proper (c ∷ come) (s ∷ ss) a p = keys_proper come ss (with_key a c s) (key_proper a c s p)

gone_proper : (gone : List KeyValue) (a : AgendaValue) → IsProper a → IsProper (record a { entries = without_keys a.entries gone })
gone_proper [] a p = record { rising = p.rising; once = p.once }
gone_proper (c ∷ gone) a p =
    gone_proper gone (record a { entries = without_key a.entries c })
    (record { rising = rising_filtered rank_cmp (λ e. not (key_eq c e.1)) a.entries p.rising; once = once_without c a.entries p.once })

pub changed_proper : (a : AgendaValue) (gone come : List KeyValue) (ss : List ℤ) → IsProper a → IsProper (changed a gone come ss)
changed_proper a gone come ss p = keys_proper come ss (record a { entries = without_keys a.entries gone }) (gone_proper gone a p)

-- a change of the rules or the facts
pub moved_proper : (s : World) (next : Memory) (line : List ℕ) (t : World) (w : List ℕ) (r : Result (Unit {0}) EarlyEnd) → Moved s next line t w r → IsProper s.agenda → IsProper t.agenda
moved_proper s next line t w r m p = by m.agenda
  where
    by : (t.agenda ≡ s.agenda) ⊎ ((ss : List ℤ) × (t.agenda ≡ changed s.agenda (keys_gone s.memory.network next.network) (keys_come s.memory.network next.network) ss)) → IsProper t.agenda
    by (inl e) = subst IsProper (sym e) p
    by (inr e) = subst IsProper (sym e.1) (changed_proper s.agenda (keys_gone s.memory.network next.network) (keys_come s.memory.network next.network) e.0 p)

taken_proper : (a : AgendaValue) (o : Option Activation) → IsProper a → IsProper (taken_out a o).0
taken_proper a None p = p
taken_proper a (Some e) p = record { rising = rising_taken rank_cmp (is_at (rank_cmp e.0)) a.entries p.rising; once = once_less (is_at (rank_cmp e.0)) a.entries p.once }

pub popped_proper : (a : AgendaValue) → IsProper a → IsProper (popped a).0
unfolding popped
popped_proper a p = taken_proper a (top_of a.strategy a.entries) p

-- the top stands among the activations
abbrev pub Among : Activation → Entries → Type 0
Among e [] = ⊥
Among e (x ∷ xs) = (e ≡ x) ⊎ Among e xs

pub top_among : (s : Strategy) (es : Entries) (e : Activation) → top_of s es ≡ Some e → Among e es
top_among s [] e h = absurd (cc)
top_among s (x ∷ xs) e h = by (top_of s xs) refl h (top_among s xs)
  where
    which : (b : Bool) (f : Activation) → Among f xs → Some (if b then f else x) ≡ Some e → Among e (x ∷ xs)
    which true f at is =
        let same : f ≡ e = cc in
        inr (subst (λ g. Among g xs) same at)
    which false f at is =
        let same : x ≡ e = cc in
        inl (sym same)

    by : (o : Option Activation) → top_of s xs ≡ o → Some (first_to_fire s x o) ≡ Some e → ((f : Activation) → top_of s xs ≡ Some f → Among f xs) → Among e (x ∷ xs)
    by None d is more =
        let same : x ≡ e = cc in
        inl (sym same)
    by (Some f) d is more = which (fires_before s f.0 x.0) f (more f d) is

at_itself : (t : Rank) → is_at (rank_cmp t) t ≡ true
at_itself t = sym (rank_tied t t) ∙ rank_equiv.refl t

before : (t : Rank) (xs : Entries) → AllByRecursion (λ u. rank_cmp t u ≡ Less) (keys_of xs) → (e : Activation) → Among e xs → rank_cmp t e.0 ≡ Less
before t [] h e there = absurd there
before t (x ∷ xs) h e (inl is) = ap (λ (y : Activation). rank_cmp t y.0) is ∙ h.0
before t (x ∷ xs) h e (inr there) = before t xs h.1 e there

not_at : (t u : Rank) → rank_cmp u t ≡ Less → is_at (rank_cmp t) u ≡ false
not_at t u below =
    let after : rank_cmp t u ≡ Greater = rank_total.antisymm t u ∙ ap ordering_reverse below in
    ap is_eq after

not_of : (k : KeyValue) (xs : Entries) (e : Activation) → has k xs ≡ false → Among e xs → key_eq k e.1 ≡ false
not_of k [] e h there = absurd there
not_of k (x ∷ xs) e h (inl is) = ap (λ (y : Activation). key_eq k y.1) is ∙ (or_false (key_eq k x.1) (has k xs) h).0
not_of k (x ∷ xs) e h (inr there) = not_of k xs e (or_false (key_eq k x.1) (has k xs) h).1 there

-- what is left without one of the activations
module _ (e : Activation) where
  out : (es : Entries) → IsStrictlySortedBy rank_cmp (keys_of es) → AreOnce es → Among e es → has e.1 (remove_entry (is_at (rank_cmp e.0)) es) ≡ false
  out [] rising once there = absurd there
  out (x ∷ xs) rising once (inl is) =
      ap (λ b. has e.1 (cond b xs (x ∷ remove_entry (is_at (rank_cmp e.0)) xs))) (ap (λ (y : Activation). is_at (rank_cmp e.0) y.0) (sym is) ∙ at_itself e.0)
      ∙ ap (λ (y : Activation). has y.1 xs) is ∙ once.0
  out (x ∷ xs) rising once (inr there) =
      ap (λ b. has e.1 (cond b xs (x ∷ remove_entry (is_at (rank_cmp e.0)) xs))) (not_at e.0 x.0 (before x.0 xs (before_others rank_cmp x.0 (keys_of xs) rising) e there))
      ∙ ap₂ (λ s t. s || t) (key_equiv.symm e.1 x.1 ∙ not_of x.1 xs e once.0 there) (out xs (others_rise rank_cmp x.0 (keys_of xs) rising) once.1 there)

  others_in : (k : KeyValue) (es : Entries) → key_eq k e.1 ≡ false → IsStrictlySortedBy rank_cmp (keys_of es) → Among e es → has k (remove_entry (is_at (rank_cmp e.0)) es) ≡ has k es
  others_in k [] apart rising there = absurd there
  others_in k (x ∷ xs) apart rising (inl is) =
      ap (λ b. has k (cond b xs (x ∷ remove_entry (is_at (rank_cmp e.0)) xs))) (ap (λ (y : Activation). is_at (rank_cmp e.0) y.0) (sym is) ∙ at_itself e.0)
      ∙ sym (ap (λ b. b || has k xs) (ap (λ (y : Activation). key_eq k y.1) (sym is) ∙ apart))
  others_in k (x ∷ xs) apart rising (inr there) =
      ap (λ b. has k (cond b xs (x ∷ remove_entry (is_at (rank_cmp e.0)) xs))) (not_at e.0 x.0 (before x.0 xs (before_others rank_cmp x.0 (keys_of xs) rising) e there))
      ∙ ap (λ t. key_eq k x.1 || t) (others_in k xs apart (others_rise rank_cmp x.0 (keys_of xs) rising) there)

module _ (a b : AgendaValue) (k : KeyValue) (p : IsProper a) where
  taken_by : (o : Option Activation) → top_of a.strategy a.entries ≡ o → taken_out a o ≡ (b, Some k) → is_due b k ≡ false
  taken_by None e h =
      let bad : None ≡ Some k = ap (λ (q : AgendaValue × Option KeyValue). q.1) h in
      absurd (cc)
  taken_by (Some e) d h =
      let key : Some e.1 ≡ Some k = ap (λ (q : AgendaValue × Option KeyValue). q.1) h in
      let same : e.1 ≡ k = cc in
      subst (λ l. is_due b l ≡ false) same
      (ap (λ (q : AgendaValue × Option KeyValue). is_due q.0 e.1) (sym h) ∙ out e a.entries p.rising p.once (top_among a.strategy a.entries e d))

  pub taken_not_due : popped a ≡ (b, Some k) → is_due b k ≡ false
  unfolding popped
  taken_not_due h = taken_by (top_of a.strategy a.entries) refl h

  others_by : (l : KeyValue) → l ≢ k → (o : Option Activation) → top_of a.strategy a.entries ≡ o → taken_out a o ≡ (b, Some k) → is_due b l ≡ is_due a l
  others_by l n None e h =
      let bad : None ≡ Some k = ap (λ (q : AgendaValue × Option KeyValue). q.1) h in
      absurd (cc)
  others_by l n (Some e) d h =
      let key : Some e.1 ≡ Some k = ap (λ (q : AgendaValue × Option KeyValue). q.1) h in
      let same : e.1 ≡ k = cc in
      ap (λ (q : AgendaValue × Option KeyValue). is_due q.0 l) (sym h)
      ∙ others_in e l a.entries (ap (key_eq l) same ∙ key_apart k l n) p.rising (top_among a.strategy a.entries e d)

  pub others_as_before : (l : KeyValue) → popped a ≡ (b, Some k) → l ≢ k → is_due b l ≡ is_due a l
  unfolding popped
  others_as_before l h n = others_by l n (top_of a.strategy a.entries) refl h
