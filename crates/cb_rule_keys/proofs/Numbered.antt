-- Rules that stand under their numbers, in the order of these.
use Rattle.std.proofs.Common.{◌≡◌, ◌≢◌, ◌∙◌, ◌+◌, ◌<◌, ◌≤◌, ◌++◌, ◌∷◌, ◌⊎◌, ℕ, Bool, true, false, not, List, [], Some, None, Ordering, Less, Greater, ap, ap₂, arith, cond, filter, inl, inr, map, nat_cmp, nat_eq, nat_le, refl, subst, sym}
use Rattle.std.proofs.lemmas.Bool.Decides.{Decides-eqb}
use Rattle.std.proofs.lemmas.List.{append-nil, map-append}
use Rattle.std.proofs.lemmas.Map.Keys.{sorted_head, sorted_tail}
use Rattle.std.specs.BTreeMap.{insert_entry, is_at}
use Rattle.std.specs.Cmp.{ranks}
use Rattle.std.specs.List.{All, AllByRecursion, flat_map}
use Rattle.std.specs.List.Sorted.{IsStrictlySortedBy}
use Rattle.std.specs.Map.{keys_of, lookup, remove_entry, set_value, values_of}
use Rattle.std.specs.Ordering.{MatchOrdering, match_ordering}
use Rattle.cb_facts.specs.FactLists.{IndexedFacts}
use Rattle.cb_facts.proofs.MemberLaws.{is_at-Decides}
use Rattle.cb_matches.proofs.Lists.{by_test, in_at, in_either, in_map, map_in, place_of}
use Rattle.cb_matches.specs.Changes.{IsAbove}
use Rattle.cb_matches.specs.Chains.{Chain, In}
use Rattle.cb_matches.specs.Keys.{KeyValue}
use Rattle.cb_matches.specs.Networks.{Conditions}
use Rattle.cb_rule_keys.proofs.Dropped.{dropped}
use Rattle.cb_rule_keys.proofs.KeyLists.{same_test}
use Rattle.cb_rule_keys.specs.Keys.{branch_keys}
use Rattle.cb_rule_keys.specs.Numbers.{AreNamed, HaveOwnNumbers, Kept}
use Rattle.cb_rule_keys.specs.Sums.{branches_sum, rules_sum}
use Rattle.cb_rules.specs.Elements.{Elements}

less_in : {K : Type 0} (C : K → K → Ordering) (x : K) (xs : List K) → AllByRecursion (λ y. C x y ≡ Less) xs → (z : K) → In z xs → C x z ≡ Less
less_in C x [] h z i = absurd i
less_in C x (y ∷ ys) h z (inl e) = ap (C x) e ∙ h.0
less_in C x (y ∷ ys) h z (inr i) = less_in C x ys h.1 z i

-- the entry of a number
pub at_eq : (i j : ℕ) → is_at (nat_cmp i) j ≡ nat_eq i j
at_eq i j =
    by_test (nat_eq i j)
    (λ t. (is_at-Decides i j).1 ((Decides-eqb i j).0 t) ∙ sym t)
    (λ t. by_test (is_at (nat_cmp i) j)
    (λ u. let no : true ≡ false = sym ((Decides-eqb i j).1 ((is_at-Decides i j).0 u)) ∙ t in cc)
    (λ u. u ∙ sym t))

is_here : (i j : ℕ) → is_at (nat_cmp i) j ≡ true → i ≡ j
is_here i j t = (is_at-Decides i j).0 t

not_here : (i j : ℕ) → is_at (nat_cmp i) j ≡ false → i ≢ j
not_here i j t e = let no : true ≡ false = sym ((is_at-Decides i j).1 e) ∙ t in cc

pub less_below : (i j : ℕ) → nat_cmp i j ≡ Less → i < j
less_below i j h = subst (λ o. MatchOrdering o (i < j) (i ≡ j) (j < i)) h (ranks i j)

module _ {V : Type 0} where
  -- those behind the first have higher numbers
  pub behind : (e : ℕ × V) (es : List (ℕ × V)) → IsStrictlySortedBy nat_cmp (keys_of (e ∷ es)) → (z : ℕ × V) → In z es → e.0 < z.0
  behind e es s z i = less_below e.0 z.0 (less_in nat_cmp e.0 (keys_of es) (sorted_head nat_cmp e.0 (keys_of es) s) z.0 (map_in (λ (it : ℕ × V). it.0) es z i))

  pub after_first : (e : ℕ × V) (es : List (ℕ × V)) → IsStrictlySortedBy nat_cmp (keys_of (e ∷ es)) → IsStrictlySortedBy nat_cmp (keys_of es)
  after_first e es s = sorted_tail nat_cmp e.0 (keys_of es) s

  -- what is found under a number is there
  pub found_in : (id : ℕ) (es : List (ℕ × V)) (v : V) → lookup (is_at (nat_cmp id)) es ≡ Some v → In (id, v) es
  found_in id [] v h = cc
  found_in id (e ∷ es) v h =
      by_test (is_at (nat_cmp id) e.0)
      (λ t. let same : Some e.1 ≡ Some v = subst (λ b. cond b (Some e.1) (lookup (is_at (nat_cmp id)) es) ≡ Some v) t h in
      let is : e.1 ≡ v = cc in
      let number : id ≡ e.0 = is_here id e.0 t in inl (ap₂ (λ (a : ℕ) (b : V). (a, b)) number (sym is)))
      (λ t. inr (found_in id es v (subst (λ b. cond b (Some e.1) (lookup (is_at (nat_cmp id)) es) ≡ Some v) t h)))

  pub none_in : (id : ℕ) (es : List (ℕ × V)) → lookup (is_at (nat_cmp id)) es ≡ None → (z : ℕ × V) → In z es → z.0 ≢ id
  none_in id [] h z i = absurd i
  none_in id (e ∷ es) h z i =
      by_test (is_at (nat_cmp id) e.0)
      (λ t. let no : Some e.1 ≡ None = subst (λ b. cond b (Some e.1) (lookup (is_at (nat_cmp id)) es) ≡ None) t h in cc)
      (λ t. elim i as (λ _. z.0 ≢ id) [
        | inl e' ↦ λ same. not_here id e.0 t (sym (sym (ap (λ (it : ℕ × V). it.0) e') ∙ same))
        | inr j ↦ none_in id es (subst (λ b. cond b (Some e.1) (lookup (is_at (nat_cmp id)) es) ≡ None) t h) z j
      ])

  -- where another value is put there, each entry is that or was there under another number
  pub set_in : (id : ℕ) (w : V) (es : List (ℕ × V)) → IsStrictlySortedBy nat_cmp (keys_of es) → (z : ℕ × V) → In z (set_value (is_at (nat_cmp id)) es w)
      → (z ≡ (id, w)) ⊎ (In z es × (z.0 ≢ id))
  set_in id w [] s z i = absurd i
  set_in id w (e ∷ es) s z i =
      by_test (is_at (nat_cmp id) e.0)
      (λ t. let j : In z ((e.0, w) ∷ es) = subst (λ b. In z (cond b ((e.0, w) ∷ es) (e ∷ set_value (is_at (nat_cmp id)) es w))) t i in
      let number : id ≡ e.0 = is_here id e.0 t in
      elim j as (λ _. (z ≡ (id, w)) ⊎ (In z (e ∷ es) × (z.0 ≢ id))) [
        | inl same ↦ inl (same ∙ ap (λ (n : ℕ). (n, w)) (sym number))
        | inr k ↦ inr (inr k, (let l = behind e es s z k in omega (arith, l, number)))
      ])
      (λ t. let j : In z (e ∷ set_value (is_at (nat_cmp id)) es w) = subst (λ b. In z (cond b ((e.0, w) ∷ es) (e ∷ set_value (is_at (nat_cmp id)) es w))) t i in
      elim j as (λ _. (z ≡ (id, w)) ⊎ (In z (e ∷ es) × (z.0 ≢ id))) [
        | inl same ↦ inr (inl same, λ number. not_here id e.0 t (sym (sym (ap (λ (it : ℕ × V). it.0) same) ∙ number)))
        | inr k ↦ elim (set_in id w es (after_first e es s) z k) as (λ _. (z ≡ (id, w)) ⊎ (In z (e ∷ es) × (z.0 ≢ id))) [
          | inl new ↦ inl new
          | inr was ↦ inr (inr was.0, was.1)
        ]
      ])

  -- an entry with a higher number than all goes to the end
  pub put_last : (id : ℕ) (v : V) (es : List (ℕ × V)) → ((z : ℕ × V) → In z es → z.0 < id) → insert_entry nat_cmp es id v ≡ es ++ (id, v) ∷ []
  put_last id v [] above = refl
  put_last id v (e ∷ es) above =
      let l : e.0 < id = above e (inl refl) in
      let more : nat_cmp id e.0 ≡ Greater = grind (arith, l) in
      ap (λ o. match_ordering o ((id, v) ∷ e ∷ es) ((e.0, v) ∷ es) (e ∷ insert_entry nat_cmp es id v)) more
      ∙ ap (λ it. e ∷ it) (put_last id v es (λ z i. above z (inr i)))

  -- what is left where a number is taken out was there under another
  pub left_in : (id : ℕ) (es : List (ℕ × V)) → IsStrictlySortedBy nat_cmp (keys_of es) → (z : ℕ × V) → In z (remove_entry (is_at (nat_cmp id)) es) → In z es × (z.0 ≢ id)
  left_in id [] s z i = absurd i
  left_in id (e ∷ es) s z i =
      by_test (is_at (nat_cmp id) e.0)
      (λ t. let j : In z es = subst (λ b. In z (cond b es (e ∷ remove_entry (is_at (nat_cmp id)) es))) t i in
      (inr j, λ number. let l = behind e es s z j in let here : id ≡ e.0 = is_here id e.0 t in omega (arith, l, here, number)))
      (λ t. let j : In z (e ∷ remove_entry (is_at (nat_cmp id)) es) = subst (λ b. In z (cond b es (e ∷ remove_entry (is_at (nat_cmp id)) es))) t i in
      elim j as (λ _. In z (e ∷ es) × (z.0 ≢ id)) [
        | inl same ↦ (inl same, λ number. not_here id e.0 t (sym number ∙ ap (λ (it : ℕ × V). it.0) same))
        | inr k ↦ let rest = left_in id es (after_first e es s) z k in (inr rest.0, rest.1)
      ])

  -- where a number is absent, nothing goes
  pub left_same : (id : ℕ) (es : List (ℕ × V)) → lookup (is_at (nat_cmp id)) es ≡ None → remove_entry (is_at (nat_cmp id)) es ≡ es
  left_same id [] h = refl
  left_same id (e ∷ es) h =
      by_test (is_at (nat_cmp id) e.0)
      (λ t. let no : Some e.1 ≡ None = subst (λ b. cond b (Some e.1) (lookup (is_at (nat_cmp id)) es) ≡ None) t h in cc)
      (λ t. ap (λ b. cond b es (e ∷ remove_entry (is_at (nat_cmp id)) es)) t
      ∙ ap (λ it. e ∷ it) (left_same id es (subst (λ b. cond b (Some e.1) (lookup (is_at (nat_cmp id)) es) ≡ None) t h)))

  pub value_in : (es : List (ℕ × V)) (v : V) → In v (values_of es) → (e : ℕ × V) × In e es × (v ≡ e.1)
  value_in es v i = in_map (λ (it : ℕ × V). it.1) v es i

  pub in_value : (es : List (ℕ × V)) (e : ℕ × V) → In e es → In e.1 (values_of es)
  in_value es e i = map_in (λ (it : ℕ × V). it.1) es e i

  -- what holds of each
  pub all_in : (P : V → Type 0) (vs : List V) → All P vs → (v : V) → In v vs → P v
  all_in P vs all v i = let at = place_of v vs i in subst P (at.2 v) (all at.0 v at.1)

  pub in_all : (P : V → Type 0) (vs : List V) → ((v : V) → In v vs → P v) → All P vs
  in_all P vs each k d h = each _ (in_at vs k d h)

pub numbers_own : (rs : Conditions) → Chain (λ (r : Kept) (s : Kept). r.0 < s.0) rs → HaveOwnNumbers rs
numbers_own [] c = tt
numbers_own (r ∷ rs) c = (λ z i e. let l = c.0 z i in omega (arith, l, e), numbers_own rs c.1)

abbrev others : ℕ → Kept → Bool
others id r = not (nat_eq id r.0)

-- where none has the number, all stay
pub none_goes : (id : ℕ) (rs : Conditions) → ((r : Kept) → In r rs → r.0 ≢ id) → filter (others id) rs ≡ rs
none_goes id [] none = refl
none_goes id (r ∷ rs) none =
    ap (λ b. cond (not b) (r ∷ filter (others id) rs) (filter (others id) rs)) (not_eq id r.0 (λ e. none r (inl refl) (sym e)))
    ∙ ap (λ it. r ∷ it) (none_goes id rs (λ s i. none s (inr i)))
  where
    not_eq : (i j : ℕ) → i ≢ j → nat_eq i j ≡ false
    not_eq i j h = by_test (nat_eq i j) (λ t. absurd (h ((Decides-eqb i j).0 t))) (λ t. t)

pub none_told : (id : ℕ) (fs : IndexedFacts) (rs : Conditions) → ((r : Kept) → In r rs → r.0 ≢ id) → flat_map (dropped id fs) rs ≡ []
none_told id fs [] none = refl
none_told id fs (r ∷ rs) none =
    by_test (nat_eq id r.0)
    (λ t. absurd (none r (inl refl) (sym ((Decides-eqb id r.0).0 t))))
    (λ t. ap (λ b. cond b (branch_keys r.0 0 r.1 fs) [] ++ flat_map (dropped id fs) rs) t ∙ none_told id fs rs (λ s i. none s (inr i)))

abbrev pub from : ℕ → Kept → Bool
from n r = nat_le n r.0

le_true : (m n : ℕ) → m ≤ n → nat_le m n ≡ true
le_true m n h = grind (arith, h)

le_false : (m n : ℕ) → n < m → nat_le m n ≡ false
le_false m n h = grind (arith, h)

from_next : (n : ℕ) (rs : Conditions) → ((r : Kept) → In r rs → r.0 ≢ n) → filter (from n) rs ≡ filter (from (n + 1)) rs
from_next n rs apart = same_test (from n) (from (n + 1)) rs (λ r i. let ne : r.0 ≢ n = apart r i in grind (arith, ne))

pub from_there : (rs : Conditions) (r : Kept) → Chain (λ (s : Kept) (t : Kept). s.0 < t.0) rs → In r rs → filter (from r.0) rs ≡ r ∷ filter (from (r.0 + 1)) rs
from_there [] r c i = absurd i
from_there (s ∷ rs) r c (inl e) =
    let number : r.0 ≡ s.0 = ap (λ (it : Kept). it.0) e in
    let apart : (t : Kept) → In t rs → t.0 ≢ r.0 = (λ t i. let l = c.0 t i in omega (arith, l, number)) in
    let here : nat_le r.0 s.0 ≡ true = le_true r.0 s.0 (omega (arith, number)) in
    let past : nat_le (r.0 + 1) s.0 ≡ false = le_false (r.0 + 1) s.0 (omega (arith, number)) in
    ap (λ b. cond b (s ∷ filter (from r.0) rs) (filter (from r.0) rs)) here
    ∙ (ap (λ it. it ∷ filter (from r.0) rs) (sym e)
    ∙ (ap (λ it. r ∷ it) (from_next r.0 rs apart)
    ∙ sym (ap (λ b. r ∷ cond b (s ∷ filter (from (r.0 + 1)) rs) (filter (from (r.0 + 1)) rs)) past)))
from_there (s ∷ rs) r c (inr i) =
    let l : s.0 < r.0 = c.0 r i in
    let here : nat_le r.0 s.0 ≡ false = le_false r.0 s.0 l in
    let past : nat_le (r.0 + 1) s.0 ≡ false = le_false (r.0 + 1) s.0 (omega (arith, l)) in
    ap (λ b. cond b (s ∷ filter (from r.0) rs) (filter (from r.0) rs)) here
    ∙ (from_there rs r c.1 i
    ∙ sym (ap (λ b. r ∷ cond b (s ∷ filter (from (r.0 + 1)) rs) (filter (from (r.0 + 1)) rs)) past))

module _ {V : Type 0} (kept : V → Kept) where
  -- the rule that is kept under a number
  pub kept_in : (es : List (ℕ × V)) → AreNamed kept es → (r : Kept) → In r (map kept (values_of es)) → (e : ℕ × V) × In e es × (r ≡ kept e.1)
  kept_in es named r i =
      let q = in_map kept r (values_of es) i in
      let e = value_in es q.0 q.1 in
      (e.0, e.1, q.2 ∙ ap kept e.2)

  -- the numbers rise
  pub numbers_rise : (es : List (ℕ × V)) → AreNamed kept es → IsStrictlySortedBy nat_cmp (keys_of es) → Chain (λ (r : Kept) (s : Kept). r.0 < s.0) (map kept (values_of es))
  numbers_rise [] named s = tt
  numbers_rise (e ∷ es) named s = (
    λ z i.
        let q = kept_in es (λ z i. named z (inr i)) z i in
        let l : e.0 < q.0.0 = behind e es s q.0 q.1 in
        let here : e.0 ≡ (kept e.1).0 = named e (inl refl) in
        let there : q.0.0 ≡ (kept q.0.1).0 = named q.0 (inr q.1) in
        let number : z.0 ≡ (kept q.0.1).0 = ap (λ (it : Kept). it.0) q.2 in
        omega (arith, l, here, there, number),
    numbers_rise es (λ z i. named z (inr i)) (after_first e es s),
  )

  -- where one of the same elements is put under a number, all are kept as they were
  pub kept_set : (id : ℕ) (old new : V) (es : List (ℕ × V)) → lookup (is_at (nat_cmp id)) es ≡ Some old → kept new ≡ kept old
      → map kept (values_of (set_value (is_at (nat_cmp id)) es new)) ≡ map kept (values_of es)
  kept_set id old new [] h same = refl
  kept_set id old new (e ∷ es) h same =
      by_test (is_at (nat_cmp id) e.0)
      (λ t. let found : Some e.1 ≡ Some old = subst (λ b. cond b (Some e.1) (lookup (is_at (nat_cmp id)) es) ≡ Some old) t h in
      let is : e.1 ≡ old = cc in
      ap (λ b. map kept (values_of (cond b ((e.0, new) ∷ es) (e ∷ set_value (is_at (nat_cmp id)) es new)))) t
      ∙ ap (λ it. it ∷ map kept (values_of es)) (same ∙ ap kept (sym is)))
      (λ t. ap (λ b. map kept (values_of (cond b ((e.0, new) ∷ es) (e ∷ set_value (is_at (nat_cmp id)) es new)))) t
      ∙ ap (λ it. kept e.1 ∷ it) (kept_set id old new es (subst (λ b. cond b (Some e.1) (lookup (is_at (nat_cmp id)) es) ≡ Some old) t h) same))

  -- a rule with a higher number than all stands at the end
  pub put_above : (id : ℕ) (r : V) (es : List (ℕ × V)) → AreNamed kept es → IsAbove id (map kept (values_of es)) → insert_entry nat_cmp es id r ≡ es ++ (id, r) ∷ []
  put_above id r es named above =
      put_last id r es (λ z i.
      let there : In (kept z.1) (map kept (values_of es)) = map_in kept (values_of es) z.1 (in_value es z i) in
      let at = place_of (kept z.1) (map kept (values_of es)) there in
      let l : (kept z.1).0 < id = subst (λ (it : Kept). it.0 < id) (at.2 (kept z.1)) (above at.0 (kept z.1) at.1) in
      let number : z.0 ≡ (kept z.1).0 = named z i in
      omega (arith, l, number))

  pub values_with : (id : ℕ) (r : V) (es es' : List (ℕ × V)) → es' ≡ es ++ (id, r) ∷ [] → values_of es' ≡ values_of es ++ r ∷ []
  values_with id r es es' is = ap values_of is ∙ map-append (λ (e : ℕ × V). e.1) es ((id, r) ∷ [])

  pub named_with : (id : ℕ) (r : V) (es es' : List (ℕ × V)) → es' ≡ es ++ (id, r) ∷ [] → id ≡ (kept r).0 → AreNamed kept es → AreNamed kept es'
  named_with id r es es' is own named z i =
      elim (in_either z es ((id, r) ∷ []) (subst (In z) is i)) as (λ _. z.0 ≡ (kept z.1).0) [
        | inl j ↦ named z j
        | inr j ↦ elim j as (λ _. z.0 ≡ (kept z.1).0) [
          | inl e ↦ ap (λ (it : ℕ × V). it.0) e ∙ (own ∙ sym (ap (λ (it : ℕ × V). (kept it.1).0) e))
          | inr never ↦ absurd never
        ]
      ]

  -- ---- a rule taken away

  kept_apart : (id : ℕ) (es : List (ℕ × V)) → AreNamed kept es → ((z : ℕ × V) → In z es → z.0 ≢ id) → (r : Kept) → In r (map kept (values_of es)) → r.0 ≢ id
  kept_apart id es named apart r i e =
      let q = kept_in es named r i in
      apart q.0 q.1 (named q.0 q.1 ∙ (sym (ap (λ (it : Kept). it.0) q.2) ∙ e))

  pub kept_left : (id : ℕ) (es : List (ℕ × V)) → AreNamed kept es → IsStrictlySortedBy nat_cmp (keys_of es)
      → map kept (values_of (remove_entry (is_at (nat_cmp id)) es)) ≡ filter (others id) (map kept (values_of es))
  kept_left id [] named s = refl
  kept_left id (e ∷ es) named s =
      let same : nat_eq id (kept e.1).0 ≡ is_at (nat_cmp id) e.0 = ap (nat_eq id) (sym (named e (inl refl))) ∙ sym (at_eq id e.0) in
      let rest = remove_entry (is_at (nat_cmp id)) es in
      let ks : Conditions = map kept (values_of es) in
      let named' : AreNamed kept es = λ z i. named z (inr i) in
      by_test (is_at (nat_cmp id) e.0)
      (λ t. ap (λ b. map kept (values_of (cond b es (e ∷ rest)))) t
      ∙ (sym (none_goes id ks (kept_apart id es named' (λ z i number. let l = behind e es s z i in let here : id ≡ e.0 = is_here id e.0 t in omega (arith, l, here, number))))
      ∙ sym (ap (λ b. cond (not b) (kept e.1 ∷ filter (others id) ks) (filter (others id) ks)) (same ∙ t))))
      (λ t. ap (λ b. map kept (values_of (cond b es (e ∷ rest)))) t
      ∙ (ap (λ it. kept e.1 ∷ it) (kept_left id es named' (after_first e es s))
      ∙ sym (ap (λ b. cond (not b) (kept e.1 ∷ filter (others id) ks) (filter (others id) ks)) (same ∙ t))))

  -- what the rule that is taken away counts for
  pub sum_left : (of : Elements → ℕ) (id : ℕ) (es : List (ℕ × V)) (r : V) → lookup (is_at (nat_cmp id)) es ≡ Some r
      → rules_sum of (map kept (values_of es)) ≡ branches_sum of (kept r).1 + rules_sum of (map kept (values_of (remove_entry (is_at (nat_cmp id)) es)))
  sum_left of id [] r h = cc
  sum_left of id (e ∷ es) r h =
      let rest = remove_entry (is_at (nat_cmp id)) es in
      by_test (is_at (nat_cmp id) e.0)
      (λ t. let found : Some e.1 ≡ Some r = subst (λ b. cond b (Some e.1) (lookup (is_at (nat_cmp id)) es) ≡ Some r) t h in
      let is : e.1 ≡ r = cc in
      ap (λ (it : V). branches_sum of (kept it).1 + rules_sum of (map kept (values_of es))) is
      ∙ sym (ap (λ b. branches_sum of (kept r).1 + rules_sum of (map kept (values_of (cond b es (e ∷ rest))))) t))
      (λ t. let more = sum_left of id es r (subst (λ b. cond b (Some e.1) (lookup (is_at (nat_cmp id)) es) ≡ Some r) t h) in
      let here = ap (λ b. branches_sum of (kept r).1 + rules_sum of (map kept (values_of (cond b es (e ∷ rest))))) t in
      omega (arith, more, here))

  pub told_found : (id : ℕ) (fs : IndexedFacts) (es : List (ℕ × V)) (r : V) → AreNamed kept es → IsStrictlySortedBy nat_cmp (keys_of es) → lookup (is_at (nat_cmp id)) es ≡ Some r
      → flat_map (dropped id fs) (map kept (values_of es)) ≡ branch_keys (kept r).0 0 (kept r).1 fs
  told_found id fs [] r named s h = cc
  told_found id fs (e ∷ es) r named s h =
      let same : nat_eq id (kept e.1).0 ≡ is_at (nat_cmp id) e.0 = ap (nat_eq id) (sym (named e (inl refl))) ∙ sym (at_eq id e.0) in
      let own : List KeyValue = branch_keys (kept e.1).0 0 (kept e.1).1 fs in
      let ks : Conditions = map kept (values_of es) in
      let named' : AreNamed kept es = λ z i. named z (inr i) in
      by_test (is_at (nat_cmp id) e.0)
      (λ t. let found : Some e.1 ≡ Some r = subst (λ b. cond b (Some e.1) (lookup (is_at (nat_cmp id)) es) ≡ Some r) t h in
      let is : e.1 ≡ r = cc in
      ap (λ b. cond b own [] ++ flat_map (dropped id fs) ks) (same ∙ t)
      ∙ (ap (λ it. own ++ it) (none_told id fs ks (kept_apart id es named' (λ z i number. let l = behind e es s z i in let here : id ≡ e.0 = is_here id e.0 t in omega (arith, l, here, number))))
      ∙ (append-nil own ∙ ap (λ (it : V). branch_keys (kept it).0 0 (kept it).1 fs) is)))
      (λ t. ap (λ b. cond b own [] ++ flat_map (dropped id fs) ks) (same ∙ t)
      ∙ told_found id fs es r named' (after_first e es s) (subst (λ b. cond b (Some e.1) (lookup (is_at (nat_cmp id)) es) ≡ Some r) t h))

  pub told_nothing : (id : ℕ) (fs : IndexedFacts) (es : List (ℕ × V)) → AreNamed kept es → lookup (is_at (nat_cmp id)) es ≡ None → flat_map (dropped id fs) (map kept (values_of es)) ≡ []
  told_nothing id fs es named h = none_told id fs (map kept (values_of es)) (kept_apart id es named (none_in id es h))

  -- ---- those from a number on

  pub from_absent : (id : ℕ) (es : List (ℕ × V)) → AreNamed kept es → lookup (is_at (nat_cmp id)) es ≡ None → filter (from id) (map kept (values_of es)) ≡ filter (from (id + 1)) (map kept (values_of es))
  from_absent id es named h = from_next id (map kept (values_of es)) (kept_apart id es named (none_in id es h))
