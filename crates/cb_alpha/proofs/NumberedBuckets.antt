-- The numbers of buckets, which are filed under mixes of their values or stand aside.
use Rattle.std.proofs.Common.{◌≡◌, ◌≢◌, ◌∙◌, ◌↔◌, ◌⊎◌, ◌<◌, ◌^◌, ℕ, Bool, true, false, List, Option, Some, None, ap, arith, if◌then◌else◌, inl, inr, refl, sym}
use Rattle.std.proofs.lemmas.Bool.{cases_eq, false_from_ne_true}
use Rattle.std.specs.BTreeMap as tree
use Rattle.std.specs.BTreeMap.{BTreeMap, is_at}
use Rattle.std.specs.Cmp.Lexicographic.{pointwise}
use Rattle.std.specs.Map.{lookup}
use Rattle.std.specs.Option.{option_or}
use Rattle.cb_alpha.proofs.ValuesOrder.{are_same, same_are, tied_same}
use Rattle.cb_alpha.specs.Buckets.{Filing, values_at, values_cmp}
use Rattle.cb_alpha.specs.Mixes.{mix_of}
use Rattle.cb_alpha.specs.Internal.Numbered.{AreInOrder, AreNumbered, IsMade, IsUnmade, are_those, filed_under, mix_in, number_in, number_with}
use Rattle.cb_alpha.specs.declared.numbering.Numbers.{Numbers}
use Rattle.cb_eval.specs.Comparison.{same}
use Rattle.cb_facts.specs.declared.value.Value.{Value}
use Rattle.cb_number_map.specs.NumberMaps.{AreSameNumbers, Updates, number_at}
use Rattle.cb_number_map.specs.declared.number_map.NumberMap.{NumberMap}

by_option : {A P : Type 0} (o : Option A) → (o ≡ None → P) → ((a : A) → o ≡ Some a → P) → P
by_option None none some = none refl
by_option (Some a) none some = some a refl

by_test : {P : Type 0} (b : Bool) → (b ≡ true → P) → (b ≡ false → P) → P
by_test true on_true on_false = on_true refl
by_test false on_true on_false = on_false refl

some_none : {A P : Type 0} {a : A} (o : Option A) → o ≡ Some a → o ≡ None → P
some_none {A} {P} {a} o e f = absurd (let no : Some a ≡ None = sym e ∙ f in cc)

same_some : {A : Type 0} {a b : A} (o : Option A) → o ≡ Some a → o ≡ Some b → a ≡ b
same_some {A} {a} {b} o e f = let both : Some a ≡ Some b = sym e ∙ f in cc

not_both : (b : Bool) → b ≡ true → b ≡ false → ⊥
not_both b t f = let no : true ≡ false = sym t ∙ f in cc

-- ---- equal values

values_cases : (vs ws : List Value) → (vs ≡ ws) ⊎ (vs ≢ ws)
values_cases vs ws = by_test (pointwise same vs ws)
    (λ t. inl (are_same vs ws t))
    (λ f. inr (λ e. not_both (pointwise same vs ws) (same_are vs ws e) f))

those : (o : Option (List Value)) (ws : List Value) → o ≡ Some ws → are_those o ws ≡ true
those o ws e = ap (λ (it : Option (List Value)). are_those it ws) e ∙ same_are ws ws refl

these : (o : Option (List Value)) (ws : List Value) → are_those o ws ≡ true → o ≡ Some ws
these None ws h = absurd (cc)
these (Some vs) ws h = ap Some (are_same vs ws h)

-- ---- a number, if its bucket has some values

if_so : (b : Bool) (n : ℕ) → b ≡ true → (if b then Some n else None) ≡ Some n
if_so b n t = rw (t) refl

if_not : (b : Bool) (n : ℕ) → b ≡ false → (if b then Some n else None) ≡ None
if_not b n f = rw (f) refl

module _ (vs : Filing) (ws : List Value) where
  with_these : (n : ℕ) → values_at vs n ≡ Some ws → number_with vs ws (Some n) ≡ Some n
  with_these n e = if_so (are_those (values_at vs n) ws) n (those (values_at vs n) ws e)

  with_others : (n : ℕ) → values_at vs n ≢ Some ws → number_with vs ws (Some n) ≡ None
  with_others n d = if_not (are_those (values_at vs n) ws) n (false_from_ne_true (are_those (values_at vs n) ws) (λ t. d (these (values_at vs n) ws t)))

  with_is : (o : Option ℕ) (n : ℕ) → number_with vs ws o ≡ Some n → values_at vs n ≡ Some ws
  with_is None n h = some_none None h refl
  with_is (Some k) n h = by_test (are_those (values_at vs k) ws)
      (λ t. let one : k ≡ n = same_some (number_with vs ws (Some k)) (if_so (are_those (values_at vs k) ws) k t) h in ap (values_at vs) (sym one) ∙ these (values_at vs k) ws t)
      (λ f. some_none (number_with vs ws (Some k)) h (if_not (are_those (values_at vs k) ws) k f))

  with_nobody : (o : Option ℕ) → ((n : ℕ) → values_at vs n ≢ Some ws) → number_with vs ws o ≡ None
  with_nobody None none = refl
  with_nobody (Some k) none = with_others k (none k)

-- two buckets that don't have the values that are asked for
both_others : (vs vs' : Filing) (ws : List Value) (n : ℕ) → values_at vs n ≢ Some ws → values_at vs' n ≢ Some ws → number_with vs' ws (Some n) ≡ number_with vs ws (Some n)
both_others vs vs' ws n d d' = with_others vs' ws n d' ∙ sym (with_others vs ws n d)

-- ---- a way to find one key more, or one less

module _ (find find' : List Value → Option ℕ) (key key' : ℕ → Option (List Value)) (ws : List Value) (n : ℕ)
    (was : (q : List Value) (i : ℕ) → (find q ≡ Some i) ↔ (key i ≡ Some q)) (others : (i : ℕ) → i ≢ n → key' i ≡ key i) (stay : (q : List Value) → q ≢ ws → find' q ≡ find q) where
  found_more : ((i : ℕ) → key i ≢ Some ws) → key n ≡ None → key' n ≡ Some ws → find' ws ≡ Some n → (q : List Value) (i : ℕ) → (find' q ≡ Some i) ↔ (key' i ≡ Some q)
  found_more absent free there now q i = elim (values_cases q ws) as (λ _. (find' q ≡ Some i) ↔ (key' i ≡ Some q)) [
    | inl e ↦ (
      λ h. let one : n ≡ i = same_some (find' ws) now (ap find' (sym e) ∙ h) in ap key' (sym one) ∙ (there ∙ ap Some (sym e)),
      λ h. elim (cases_eq i n) as (λ _. find' q ≡ Some i) [
        | inl s ↦ ap find' e ∙ (now ∙ ap Some (sym s))
        | inr d ↦ absurd (absent i (sym (others i d) ∙ (h ∙ ap Some e)))
      ],
    )
    | inr d ↦ (
      λ h. let old = (was q i).0 (sym (stay q d) ∙ h) in others i (λ s. some_none (key i) old (ap key s ∙ free)) ∙ old,
      λ h. elim (cases_eq i n) as (λ _. find' q ≡ Some i) [
        | inl s ↦ absurd (d (same_some (key' n) (ap key' (sym s) ∙ h) there))
        | inr o ↦ stay q d ∙ (was q i).1 (sym (others i o) ∙ h)
      ],
    )
  ]

  found_less : key n ≡ Some ws → key' n ≡ None → find' ws ≡ None → (q : List Value) (i : ℕ) → (find' q ≡ Some i) ↔ (key' i ≡ Some q)
  found_less there gone now q i = elim (values_cases q ws) as (λ _. (find' q ≡ Some i) ↔ (key' i ≡ Some q)) [
    | inl e ↦ (
      λ h. some_none (find' ws) (ap find' (sym e) ∙ h) now,
      λ h. elim (cases_eq i n) as (λ _. find' q ≡ Some i) [
        | inl s ↦ some_none (key' i) h (ap key' s ∙ gone)
        | inr d ↦ absurd (d (same_some (find ws) ((was ws i).1 (sym (others i d) ∙ (h ∙ ap Some e))) ((was ws n).1 there)))
      ],
    )
    | inr d ↦ (
      λ h. let old = (was q i).0 (sym (stay q d) ∙ h) in others i (λ s. d (same_some (key n) (ap key (sym s) ∙ old) there)) ∙ old,
      λ h. elim (cases_eq i n) as (λ _. find' q ≡ Some i) [
        | inl s ↦ some_none (key' i) h (ap key' s ∙ gone)
        | inr o ↦ stay q d ∙ (was q i).1 (sym (others i o) ∙ h)
      ],
    )
  ]

-- ---- maps that change at one key

other_mix : (m m' : NumberMap) (i j : ℕ) (o : Option ℕ) → Updates m m' i o → i ≢ j → number_at m' j ≡ number_at m j
other_mix m m' i j o u apart = u.others j (λ e. apart (sym e))

tied_is : (vs ws : List Value) → is_at (values_cmp vs) ws ≡ true → vs ≡ ws
tied_is vs ws t = are_same vs ws (tied_same vs ws ∙ t)

other_values : (m m' : BTreeMap (List Value) ℕ) (ws q : List Value) (o : Option ℕ) → tree.Updates values_cmp m m' ws o → q ≢ ws → tree.get values_cmp m' q ≡ tree.get values_cmp m q
other_values m m' ws q o u apart = u.2 q (false_from_ne_true (is_at (values_cmp ws) q) (λ t. apart (sym (tied_is ws q t))))

-- ---- where all stand aside

module _ (ns : Numbers) (vs : Filing) (is : AreNumbered ns vs) where
  -- two buckets don't have the same values
  pub one_bucket : (ws : List Value) (i j : ℕ) → values_at vs i ≡ Some ws → values_at vs j ≡ Some ws → i ≡ j
  one_bucket ws i j e f = same_some (number_in ns vs ws) ((is.found ws i).1 e) ((is.found ws j).1 f)

  -- what is found is the number of the bucket
  pub found_as : (ws : List Value) (result : Option ℕ) → result ≡ number_in ns vs ws → (n : ℕ) → (result ≡ Some n) ↔ (values_at vs n ≡ Some ws)
  found_as ws result e n = (λ h. (is.found ws n).0 (sym e ∙ h), λ h. e ∙ (is.found ws n).1 h)

  pub in_order : ns.is_ordered ≡ true → AreInOrder ns.aside vs
  in_order ordered ws n =
      let here : number_in ns vs ws ≡ tree.get values_cmp ns.aside ws =
      ap (λ b. option_or (number_with vs ws (filed_under ns.filed (if b then None else Some (mix_of ws)))) (tree.get values_cmp ns.aside ws)) ordered in
      (λ h. (is.found ws n).0 (here ∙ h), λ h. sym here ∙ (is.found ws n).1 h)

-- ---- a bucket more, and one less

module _ (ns ns' : Numbers) (order : ns'.is_ordered ≡ ns.is_ordered) where
  mix_stays : (q : List Value) → mix_in ns' q ≡ mix_in ns q
  mix_stays q = ap (λ b. if b then None else Some (mix_of q)) order

  -- maps with the same entries
  pub numbered_alike : (vs : Filing) → AreSameNumbers ns.filed ns'.filed → tree.IsUnchanged ns.aside ns'.aside → AreNumbered ns vs → AreNumbered ns' vs
  numbered_alike vs filed aside was = record { found = λ q i. (λ h. (was.found q i).0 (sym (alike q) ∙ h), λ h. alike q ∙ (was.found q i).1 h); small = was.small }
    where
      under : (mix : Option ℕ) → filed_under ns'.filed mix ≡ filed_under ns.filed mix
      under None = refl
      under (Some m) = filed m

      alike : (q : List Value) → number_in ns' vs q ≡ number_in ns vs q
      alike q =
          ap (λ it. option_or (number_with vs q (filed_under ns'.filed it)) (tree.get values_cmp ns'.aside q)) (mix_stays q)
          ∙ (ap (λ it. option_or (number_with vs q it) (tree.get values_cmp ns'.aside q)) (under (mix_in ns q))
          ∙ ap (λ es. option_or (number_with vs q (filed_under ns.filed (mix_in ns q))) (lookup (is_at (values_cmp q)) es)) aside)

  -- what is filed with other values
  module _ (vs vs' : Filing) (n : ℕ) (others : (i : ℕ) → i ≢ n → values_at vs' i ≡ values_at vs i) (q : List Value) (d : values_at vs n ≢ Some q) (d' : values_at vs' n ≢ Some q) where
    with_same : (o : Option ℕ) → number_with vs' q o ≡ number_with vs q o
    with_same None = refl
    with_same (Some k) = elim (cases_eq k n) as (λ _. number_with vs' q (Some k) ≡ number_with vs q (Some k)) [
      | inl e ↦ ap (λ i. number_with vs' q (Some i)) e ∙ (both_others vs vs' q n d d' ∙ ap (λ i. number_with vs q (Some i)) (sym e))
      | inr ne ↦ ap (λ it. if are_those it q then Some k else None) (others k ne)
    ]

    -- where nothing was filed or taken out
    filed_same : ns'.filed ≡ ns.filed → number_with vs' q (filed_under ns'.filed (mix_in ns' q)) ≡ number_with vs q (filed_under ns.filed (mix_in ns q))
    filed_same e = ap (λ it. number_with vs' q (filed_under it (mix_in ns' q))) e ∙ (ap (λ it. number_with vs' q (filed_under ns.filed it)) (mix_stays q) ∙ with_same (filed_under ns.filed (mix_in ns q)))

    -- where under a mix that number was filed, or taken out
    module _ (m : ℕ) (o : Option ℕ) (u : Updates ns.filed ns'.filed m o)
        (at : number_with vs' q o ≡ number_with vs q (number_at ns.filed m)) where
      filed_at : (mix : Option ℕ) → number_with vs' q (filed_under ns'.filed mix) ≡ number_with vs q (filed_under ns.filed mix)
      filed_at None = refl
      filed_at (Some j) = elim (cases_eq m j) as (λ _. number_with vs' q (number_at ns'.filed j) ≡ number_with vs q (number_at ns.filed j)) [
        | inl e ↦
            ap (λ i. number_with vs' q (number_at ns'.filed i)) (sym e)
            ∙ (ap (number_with vs' q) u.changed ∙ (at ∙ ap (λ i. number_with vs q (number_at ns.filed i)) e))
        | inr ne ↦ ap (number_with vs' q) (other_mix ns.filed ns'.filed m j o u ne) ∙ with_same (number_at ns.filed j)
      ]

      filed_then : number_with vs' q (filed_under ns'.filed (mix_in ns' q)) ≡ number_with vs q (filed_under ns.filed (mix_in ns q))
      filed_then = ap (λ it. number_with vs' q (filed_under ns'.filed it)) (mix_stays q) ∙ filed_at (mix_in ns q)

  -- a bucket comes
  module _ (vs vs' : Filing) (n : ℕ) (ws : List Value) (was : AreNumbered ns vs) (made : IsMade vs vs' n ws) (fits : n < 2 ^ 32) where
    not_it : (q : List Value) → q ≢ ws → values_at vs' n ≢ Some q
    not_it q d e = d (same_some (values_at vs' n) e made.there)

    not_yet : (q : List Value) → values_at vs n ≢ Some q
    not_yet q e = some_none (values_at vs n) e made.free

    numbered_more : number_in ns' vs' ws ≡ Some n → ((q : List Value) → q ≢ ws → number_in ns' vs' q ≡ number_in ns vs q) → AreNumbered ns' vs'
    numbered_more now stay = record {
      found = found_more (number_in ns vs) (number_in ns' vs') (values_at vs) (values_at vs') ws n was.found made.others stay made.absent made.free made.there now;
      small = λ i l. made.others i (λ e. absurd (omega (arith, l, fits, e))) ∙ was.small i l;
    }

    -- under a mix
    pub filed_more : (m : ℕ) → mix_in ns ws ≡ Some m → number_at ns.filed m ≡ None → Updates ns.filed ns'.filed m (Some n) → ns'.aside ≡ ns.aside → AreNumbered ns' vs'
    filed_more m mix free u aside = numbered_more
        (
        let here : filed_under ns'.filed (mix_in ns' ws) ≡ Some n = ap (filed_under ns'.filed) (mix_stays ws ∙ mix) ∙ u.changed in
        ap (λ o. option_or o (tree.get values_cmp ns'.aside ws)) (ap (number_with vs' ws) here ∙ with_these vs' ws n made.there)
        )
        (λ q d.
        let at : number_with vs' q (Some n) ≡ number_with vs q (number_at ns.filed m) = with_others vs' q n (not_it q d) ∙ ap (number_with vs q) (sym free) in
        ap (λ o. option_or o (tree.get values_cmp ns'.aside q)) (filed_then vs vs' n made.others q (not_yet q) (not_it q d) m (Some n) u at)
        ∙ ap (λ it. option_or (number_with vs q (filed_under ns.filed (mix_in ns q))) (tree.get values_cmp it q)) aside)

    -- or aside
    pub aside_more : ns'.filed ≡ ns.filed → tree.Updates values_cmp ns.aside ns'.aside ws (Some n) → AreNumbered ns' vs'
    aside_more filed u = numbered_more
        (by_option (number_with vs' ws (filed_under ns'.filed (mix_in ns' ws)))
        (λ none. ap (λ o. option_or o (tree.get values_cmp ns'.aside ws)) none ∙ u.1)
        (λ k some. ap (λ o. option_or o (tree.get values_cmp ns'.aside ws)) some ∙ ap Some (it_is k (with_is vs' ws (filed_under ns'.filed (mix_in ns' ws)) k some))))
        (λ q d.
        ap (λ o. option_or o (tree.get values_cmp ns'.aside q)) (filed_same vs vs' n made.others q (not_yet q) (not_it q d) filed)
        ∙ ap (option_or (number_with vs q (filed_under ns.filed (mix_in ns q)))) (other_values ns.aside ns'.aside ws q (Some n) u d))
      where
        it_is : (k : ℕ) → values_at vs' k ≡ Some ws → k ≡ n
        it_is k e = elim (cases_eq k n) as (λ _. k ≡ n) [ inl s ↦ s | inr d ↦ absurd (made.absent k (sym (made.others k d) ∙ e)) ]

  -- a bucket goes
  module _ (vs vs' : Filing) (n : ℕ) (ws : List Value) (was : AreNumbered ns vs) (unmade : IsUnmade vs vs' n ws) (u : tree.Updates values_cmp ns.aside ns'.aside ws None) where
    others_had : (q : List Value) → q ≢ ws → values_at vs n ≢ Some q
    others_had q d e = d (same_some (values_at vs n) e unmade.was)

    has_none : (q : List Value) → values_at vs' n ≢ Some q
    has_none q e = some_none (values_at vs' n) e unmade.gone

    nobody_has : (k : ℕ) → values_at vs' k ≢ Some ws
    nobody_has k e = elim (cases_eq k n) as (λ _. ⊥) [
      | inl s ↦ has_none ws (ap (values_at vs') (sym s) ∙ e)
      | inr d ↦ d (one_bucket ns vs was ws k n (sym (unmade.others k d) ∙ e) unmade.was)
    ]

    numbered_less : ((q : List Value) → q ≢ ws → number_with vs' q (filed_under ns'.filed (mix_in ns' q)) ≡ number_with vs q (filed_under ns.filed (mix_in ns q))) → AreNumbered ns' vs'
    numbered_less stay = record {
      found = found_less (number_in ns vs) (number_in ns' vs') (values_at vs) (values_at vs') ws n was.found unmade.others
          (λ q d. ap (λ o. option_or o (tree.get values_cmp ns'.aside q)) (stay q d)
          ∙ ap (option_or (number_with vs q (filed_under ns.filed (mix_in ns q)))) (other_values ns.aside ns'.aside ws q None u d))
          unmade.was unmade.gone
          (ap (λ o. option_or o (tree.get values_cmp ns'.aside ws)) (with_nobody vs' ws (filed_under ns'.filed (mix_in ns' ws)) nobody_has) ∙ u.1);
      small = λ i l. elim (cases_eq i n) as (λ _. values_at vs' i ≡ None) [ inl s ↦ ap (values_at vs') s ∙ unmade.gone | inr d ↦ unmade.others i d ∙ was.small i l ];
    }

    pub all_less : ((m : ℕ) → mix_in ns ws ≡ Some m → number_at ns.filed m ≡ Some n → Updates ns.filed ns'.filed m None)
        → (filed_under ns.filed (mix_in ns ws) ≢ Some n → ns'.filed ≡ ns.filed) → AreNumbered ns' vs'
    all_less gone other = by_option (filed_under ns.filed (mix_in ns ws))
        (λ none. untouched (λ e. some_none (filed_under ns.filed (mix_in ns ws)) e none))
        (λ k some. elim (cases_eq k n) as (λ _. AreNumbered ns' vs') [
          | inl s ↦ touched (some ∙ ap Some s) (mix_in ns ws) refl
          | inr d ↦ untouched (λ e. d (same_some (filed_under ns.filed (mix_in ns ws)) some e))
        ])
      where
        untouched : filed_under ns.filed (mix_in ns ws) ≢ Some n → AreNumbered ns' vs'
        untouched d = numbered_less (λ q ne. filed_same vs vs' n unmade.others q (others_had q ne) (has_none q) (other d))

        touched : filed_under ns.filed (mix_in ns ws) ≡ Some n → (mix : Option ℕ) → mix ≡ mix_in ns ws → AreNumbered ns' vs'
        touched at None e = let no : None ≡ Some n = ap (filed_under ns.filed) e ∙ at in absurd (cc)
        touched at (Some m) e =
            let here : number_at ns.filed m ≡ Some n = ap (filed_under ns.filed) e ∙ at in
            let v : Updates ns.filed ns'.filed m None = gone m (sym e) here in
            numbered_less (λ q ne. filed_then vs vs' n unmade.others q (others_had q ne) (has_none q) m None v
            (sym (ap (number_with vs q) here ∙ with_others vs q n (others_had q ne))))
