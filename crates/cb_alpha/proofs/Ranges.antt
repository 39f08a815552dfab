-- What stands from one list of values on, before another: in a map from values to numbers of buckets, and in those buckets.
use Rattle.std.proofs.Common.{◌≡◌, ◌≢◌, ◌∙◌, ◌⊎◌, ◌<◌, ◌++◌, ◌∷◌, ℕ, Bool, true, false, List, [], Option, Some, None, Ordering, Less, Equal, Greater, Contains, ap, arith, inl, inr, is_gt, is_lt, nat_eq, refl, slice_get, subst, sym}
use Rattle.std.proofs.lemmas.Bool.{eq-eqb, eqb-true, false_from_ne_true}
use Rattle.std.proofs.lemmas.Map.Keys.{IsDistinct-from_apart, apart_from_distinct, sorted_head, sorted_tail}
use Rattle.std.proofs.lemmas.Map.Views.{IsInRange-from_range_contains, btree_map_get_iff, range_contains-from_IsInRange}
use Rattle.std.specs.BTreeMap as tree
use Rattle.std.specs.BTreeMap.{BTreeMap}
use Rattle.std.specs.BTreeMap.Range.{IsEntryInRange, IsInRange, IsLeBy, IsRangeOf, entries_between, range_contains}
use Rattle.std.specs.Cmp.{IsTotalOrder}
use Rattle.std.specs.Cmp.Lexicographic.{lists_total}
use Rattle.std.specs.List.{AllByRecursion, IsDistinct}
use Rattle.std.specs.List.Sorted.{IsStrictlySortedBy}
use Rattle.std.specs.Map.{keys_of}
use Rattle.std.specs.Option.{IfSome, is_some}
use Rattle.std.specs.Ordering.{ordering_reverse}
use Rattle.std.specs.declared.ops.Bound.TheVariants.{Excluded, Included}
use Rattle.cb_alpha.proofs.Filings.{bucket_of, filed_in}
use Rattle.cb_alpha.proofs.ValuesOrder.{values_exact, values_level}
use Rattle.cb_alpha.specs.Buckets.{AreFirst, AreLast, AreWithin, Filing, IsFiledWith, IsWithin, values_at, values_cmp}
use Rattle.cb_alpha.specs.Internal.Numbered.{AreInOrder, AreUsed, filing}
use Rattle.cb_facts.specs.contracts.value.ValueOrd.TheImpl.Laws as value_laws
use Rattle.cb_facts.specs.declared.value.Value.{Value}
use Rattle.cb_groups.specs.Groups.{AreMembers, Membership, group_of}
use Rattle.cb_matches.proofs.Lists.{chain_append, chain_filter, chain_from_pairs, contains_in, filter_in, in_contains, in_either, in_filter, in_left, in_right, map_in, pairs_from_chain}
use Rattle.cb_matches.specs.Chains.{Chain, In}

abbrev pub Entry : Type 0
Entry = List Value × ℕ

some_none : {A P : Type 0} {a : A} (o : Option A) → o ≡ Some a → o ≡ None → P
some_none {A} {P} {a} o e f = absurd (let no : Some a ≡ None = sym e ∙ f in cc)

none_some : {A P : Type 0} {a : A} → None ≡ Some a → P
none_some {A} {P} {a} e = absurd (let no : None ≡ Some a = e in cc)

some_is : {A : Type 0} {a b : A} → Some a ≡ Some b → a ≡ b
some_is e = cc

same_some : {A : Type 0} {a b : A} (o : Option A) → o ≡ Some a → o ≡ Some b → a ≡ b
same_some {A} {a} {b} o e f = some_is (sym e ∙ f)

-- ---- answers of comparisons

back_not_over : (o : Ordering) → o ≢ Less → is_gt (ordering_reverse o) ≡ false
back_not_over Less h = absurd (h refl)
back_not_over Equal h = refl
back_not_over Greater h = refl

over_not_back : (o : Ordering) → is_gt (ordering_reverse o) ≡ false → o ≢ Less
over_not_back Less h e = cc
over_not_back Equal h e = cc
over_not_back Greater h e = cc

under_not_back : (o : Ordering) → is_lt (ordering_reverse o) ≡ false → o ≢ Greater
under_not_back Less h e = cc
under_not_back Equal h e = cc
under_not_back Greater h e = cc

over_back : (o : Ordering) → is_gt o ≡ true → ordering_reverse o ≡ Less
over_back Less h = cc
over_back Equal h = cc
over_back Greater h = refl

pub values_total : IsTotalOrder values_cmp
values_total = lists_total value_laws.total-law

-- the first isn't above the second, seen from the second
not_less : (vs ws : List Value) → is_gt (values_cmp vs ws) ≡ false → values_cmp ws vs ≢ Less
not_less vs ws h = over_not_back (values_cmp ws vs) (ap is_gt (sym (values_total.antisymm vs ws)) ∙ h)

not_more : (vs ws : List Value) → is_lt (values_cmp vs ws) ≡ false → values_cmp ws vs ≢ Greater
not_more vs ws h = under_not_back (values_cmp ws vs) (ap is_lt (sym (values_total.antisymm vs ws)) ∙ h)

module _ (low high : List Value) where
  in_range : (q : List Value) → IsWithin low high q → IsInRange values_cmp (Included low) (Excluded high) q
  in_range q w = (ap is_gt (values_total.antisymm low q) ∙ back_not_over (values_cmp q low) w.above, w.below)

  range_in : (q : List Value) → IsInRange values_cmp (Included low) (Excluded high) q → IsWithin low high q
  range_in q h = record { above = not_less low q h.0; below = h.1 }

  -- nothing stands there where the first is above the second
  pub none_within : is_gt (values_cmp low high) ≡ true → (q : List Value) → IsWithin low high q → ⊥
  none_within over q w =
      let under : values_cmp high low ≡ Less = values_total.antisymm high low ∙ over_back (values_cmp low high) over in
      w.above (values_total.trans q high low w.below under)

-- ---- the least and the greatest, among some values

module _ (There : List Value → Type 0) (low high : List Value) where
  pub no_first : ((ws : List Value) → There ws → IsWithin low high ws → ⊥) → AreFirst There low high None
  no_first none = record {
    within = λ ws e. none_some e;
    least = λ ws others e. none_some e;
    none = λ ws e. none ws;
  }

  pub no_last : ((ws : List Value) → There ws → IsWithin low high ws → ⊥) → AreLast There low high None
  no_last none = record {
    within = λ ws e. none_some e;
    greatest = λ ws others e. none_some e;
    none = λ ws e. none ws;
  }

  module _ (Here : List Value → Type 0) (to : (ws : List Value) → There ws → Here ws) (from : (ws : List Value) → Here ws → There ws) where
    pub first_here : (first : Option (List Value)) → AreFirst There low high first → AreFirst Here low high first
    first_here first is = record {
      within = λ ws e. let it = is.within ws e in (it.0, to ws it.1);
      least = λ ws others e there w. is.least ws others e (from others there) w;
      none = λ others e there w. is.none others e (from others there) w;
    }

    pub last_here : (last : Option (List Value)) → AreLast There low high last → AreLast Here low high last
    last_here last is = record {
      within = λ ws e. let it = is.within ws e in (it.0, to ws it.1);
      greatest = λ ws others e there w. is.greatest ws others e (from others there) w;
      none = λ others e there w. is.none others e (from others there) w;
    }

-- ---- in a map

module _ (m : BTreeMap (List Value) ℕ) (vs : Filing) (is : AreInOrder m vs) (low high : List Value) where
  abbrev InRange : Entry → Type 0
  InRange e = IsEntryInRange values_cmp (Included low) (Excluded high) m e

  filed_at : (e : Entry) → tree.get values_cmp m e.0 ≡ Some e.1 → IsFiledWith vs e.0
  filed_at e got = (e.1, (is e.0 e.1).0 got)

  module _ (r : List Entry) (range : IsRangeOf values_cmp (Included low) (Excluded high) m r) where
    pub first_of : (e : Entry) (t : List Entry) → r ≡ e ∷ t → AreFirst (IsFiledWith vs) low high (Some e.0)
    first_of e t cut =
        let at : slice_get r 0 ≡ Some e = ap (λ it. slice_get it 0) cut in
        let here : InRange e = subst (λ o. IfSome o InRange) at range.1 in
        record {
          within = λ ws s. subst (λ it. IsWithin low high it × IsFiledWith vs it) (some_is s) (range_in low high e.0 here.0, filed_at e here.1);
          least = λ ws others s there w.
              let got : is_some (tree.get values_cmp m others) ≡ true = ap is_some ((is others there.0).1 there.1) in
              let below : is_gt (values_cmp e.0 others) ≡ false = subst (λ o. IfSome o (λ (f : Entry). IsLeBy values_cmp f.0 others)) at (range.2 others (in_range low high others w) got) in
              subst (λ it. values_cmp others it ≢ Less) (some_is s) (not_less e.0 others below);
          none = λ others s. some_none (Some e.0) refl s;
        }

    pub last_of : (e : Entry) (t : List Entry) → r ≡ t ++ e ∷ [] → AreLast (IsFiledWith vs) low high (Some e.0)
    last_of e t cut =
        let here : InRange e = range.3 e t cut in
        record {
          within = λ ws s. subst (λ it. IsWithin low high it × IsFiledWith vs it) (some_is s) (range_in low high e.0 here.0, filed_at e here.1);
          greatest = λ ws others s there w.
              let got : is_some (tree.get values_cmp m others) ≡ true = ap is_some ((is others there.0).1 there.1) in
              subst (λ it. values_cmp others it ≢ Greater) (some_is s) (not_more e.0 others (range.4 e t cut others (in_range low high others w) got));
          none = λ others s. some_none (Some e.0) refl s;
        }

    pub none_of : r ≡ [] → (ws : List Value) → IsFiledWith vs ws → IsWithin low high ws → ⊥
    none_of empty ws there w = some_none (tree.get values_cmp m ws) ((is ws there.0).1 there.1) (range.5 empty ws (in_range low high ws w))

-- ---- in buckets in each of which a member stands

module _ (vs : Filing) (ms : Membership) where
  pub from_member : (ws : List Value) → IsFiledWith (filing vs ms) ws → IsFiledWith vs ws
  from_member ws h = let b = bucket_of vs ms h.0 ws h.1 in (b.0, b.2)

  pub to_member : AreUsed vs ms → (ws : List Value) → IsFiledWith vs ws → IsFiledWith (filing vs ms) ws
  to_member used ws h =
      let i = used h.0 (λ none. some_none (values_at vs h.0) h.1 none) in
      (i.0, filed_in vs ms i.0 h.0 i.1 ∙ h.1)

  pub none_filed : (low high : List Value) → is_gt (values_cmp low high) ≡ true → AreWithin (filing vs ms) low high []
  none_filed low high over = record {
    are = λ i. (λ h. absurd (contains_in i [] h), λ h. absurd (none_within low high over h.0 h.2));
    once = IsDistinct-from_apart nat_eq [] (λ i j d l w. absurd (no_place j w));
  }
    where
      no_place : (j : ℕ) → j < 0 → ⊥
      no_place j l = omega (arith, l)

-- ---- the members of some buckets, gathered bucket by bucket

abbrev pub AreApart : Entry → Entry → Type 0
AreApart a b = a.1 ≢ b.1

abbrev pub AreOther : ℕ → ℕ → Type 0
AreOther i j = i ≢ j

-- those of these buckets, but for the ones that are left
pub record AreGathered (ms : Membership) (buckets left : List Entry) (found : List ℕ) : Type 0 where
  pub are : (i : ℕ) → In i found → (e : Entry) × In e buckets × (group_of ms i ≡ Some e.1)
  pub all : (i : ℕ) (e : Entry) → In e buckets → group_of ms i ≡ Some e.1 → In i found ⊎ In e left
  pub apart : (i : ℕ) (e : Entry) → In e left → group_of ms i ≡ Some e.1 → In i found → ⊥
  pub rest : (e : Entry) → In e left → In e buckets
  pub others : Chain AreApart left
  pub once : Chain AreOther found

pub once_in : (ns : List ℕ) → IsDistinct nat_eq ns → Chain AreOther ns
once_in ns once = chain_from_pairs AreOther ns (λ i j d l w same. not_both (eq-eqb _ _ same) (apart_from_distinct nat_eq ns i j d once l w))
  where
    not_both : {b : Bool} → b ≡ true → b ≡ false → ⊥
    not_both t f = let no : true ≡ false = sym t ∙ f in cc

pub distinct : (ns : List ℕ) → Chain AreOther ns → IsDistinct nat_eq ns
distinct ns once = IsDistinct-from_apart nat_eq ns (λ i j d l w. false_from_ne_true _ (λ t. pairs_from_chain AreOther ns once i j d l w (eqb-true _ _ t)))

pub one_bucket_more : (ms : Membership) (buckets left : List Entry) (found more : List ℕ) (e : Entry) → AreGathered ms buckets (e ∷ left) found → AreMembers ms e.1 more
    → AreGathered ms buckets left (found ++ more)
one_bucket_more ms buckets left found more e was members = record {
  are = λ i h. elim (in_either i found more h) as (λ _. (f : Entry) × In f buckets × (group_of ms i ≡ Some f.1)) [
    | inl k ↦ was.are i k
    | inr k ↦ (e, was.rest e (inl refl), (members.are i).0 (in_contains i more k))
  ];
  all = λ i f h g. elim (was.all i f h g) as (λ _. In i (found ++ more) ⊎ In f left) [
    | inl k ↦ inl (in_left i found more k)
    | inr k ↦ elim k as (λ _. In i (found ++ more) ⊎ In f left) [
      | inl same ↦ inl (in_right i found more (contains_in i more ((members.are i).1 (g ∙ ap (λ (it : Entry). Some it.1) same))))
      | inr later ↦ inr later
    ]
  ];
  apart = λ i f h g k. elim (in_either i found more k) as (λ _. ⊥) [
    | inl before ↦ was.apart i f (inr h) g before
    | inr now ↦ was.others.0 f h (same_some (group_of ms i) ((members.are i).0 (in_contains i more now)) g)
  ];
  rest = λ f h. was.rest f (inr h);
  others = was.others.1;
  once = chain_append AreOther found more was.once (once_in more members.once)
      (λ i j h k same. was.apart j e (inl refl) ((members.are j).0 (in_contains j more k)) (subst (λ it. In it found) same h));
}

less_in : (v : List Value) (vs : List (List Value)) → AllByRecursion (λ w. values_cmp v w ≡ Less) vs → (w : List Value) → In w vs → values_cmp v w ≡ Less
less_in v [] h w i = absurd i
less_in v (x ∷ xs) h w (inl e) = ap (values_cmp v) e ∙ h.0
less_in v (x ∷ xs) h w (inr i) = less_in v xs h.1 w i

entries_apart : (vs : Filing) (es : List Entry) → IsStrictlySortedBy values_cmp (keys_of es) → ((e : Entry) → In e es → values_at vs e.1 ≡ Some e.0) → Chain AreApart es
entries_apart vs [] sorted at = tt
entries_apart vs (e ∷ es) sorted at = (
  λ f h same.
      let one : e.0 ≡ f.0 = same_some (values_at vs e.1) (at e (inl refl)) (ap (values_at vs) same ∙ at f (inr h)) in
      let less : values_cmp e.0 f.0 ≡ Less = less_in e.0 (keys_of es) (sorted_head values_cmp e.0 (keys_of es) sorted) f.0 (map_in (λ (it : Entry). it.0) es f h) in
      clash (sym less ∙ values_level e.0 f.0 one),
  entries_apart vs es (sorted_tail values_cmp e.0 (keys_of es) sorted) (λ f h. at f (inr h)),
)
  where
    clash : Less ≡ Equal → ⊥
    clash h = cc

module _ (m : BTreeMap (List Value) ℕ) (sorted : tree.IsOrdered values_cmp m) (vs : Filing) (is : AreInOrder m vs) (ms : Membership) (low high : List Value) where
  abbrev test : Entry → Bool
  test e = range_contains values_cmp (Included low) (Excluded high) e.0

  abbrev between : List Entry
  between = entries_between values_cmp (Included low) (Excluded high) m.entries

  entry_at : (e : Entry) → In e m.entries → values_at vs e.1 ≡ Some e.0
  entry_at e h = (is e.0 e.1).0 ((btree_map_get_iff values_total values_exact m sorted e.0 e.1).1 (in_contains e m.entries h))

  pub none_gathered : AreGathered ms between between []
  none_gathered = record {
    are = λ i h. absurd h;
    all = λ i e h g. inr h;
    apart = λ i e h g k. k;
    rest = λ e h. h;
    others = chain_filter AreApart test m.entries (entries_apart vs m.entries sorted entry_at);
    once = tt;
  }

  pub all_gathered : (found : List ℕ) → AreGathered ms between [] found → AreWithin (filing vs ms) low high found
  all_gathered found gathered = record {
    are = λ i. (
      λ h.
          let g = gathered.are i (contains_in i found h) in
          let e : Entry = g.0 in
          let b = in_filter test e m.entries g.1 in
          (e.0, filed_in vs ms i e.1 g.2 ∙ entry_at e b.0, range_in low high e.0 (IsInRange-from_range_contains values_total (Included low) (Excluded high) e.0 b.1)),
      λ h.
          let b = bucket_of vs ms i h.0 h.1 in
          let e : Entry = (h.0, b.0) in
          let there : In e m.entries = contains_in e m.entries ((btree_map_get_iff values_total values_exact m sorted h.0 b.0).0 ((is h.0 b.0).1 b.2)) in
          let here : In e between = filter_in test e m.entries there (range_contains-from_IsInRange values_total (Included low) (Excluded high) h.0 (in_range low high h.0 h.2)) in
          elim (gathered.all i e here b.1) as (λ _. Contains found i) [ inl k ↦ in_contains i found k | inr k ↦ absurd k ],
    );
    once = distinct found gathered.once;
  }
