-- The variables to which elements give values: as a set, and in their order.
use Rattle.std.proofs.Common.{◌≡◌, ◌⊎◌, ◌∙◌, ◌∷◌, ◌++◌, ◌&&◌, ◌||◌, inl, inr, ℕ, Bool, true, false, cond, not, List, [], length, take, refl, sym, ap, ap₂, subst, is_err, true≢false, Result, Ok, Err}
use Rattle.std.proofs.lemmas.List.{append-nil, append_assoc}
use Rattle.std.proofs.lemmas.Map.Text.{is_eq-slice_cmp}
use Rattle.std.specs.BTreeMap.{is_at}
use Rattle.std.specs.Cmp.Lexicographic.{bytes_decides, slice_cmp}
use Rattle.std.specs.Ordering.{nat_cmp}
use Rattle.std.specs.Result.{OnOk}
use Rattle.std.specs.Str.{bytes_eq}
use Rattle.cb_branch.specs.Internal.Bounds.{AreSame, with_name, with_names}
use Rattle.cb_fit.specs.Plain.{are_apart, is_named}
use Rattle.cb_matches.proofs.Lists.{by_test, in_either, in_left, in_right}
use Rattle.cb_matches.specs.Chains.{In}
use Rattle.cb_scopes.specs.Scopes.{Scope}

-- true is not false
pub never : {P : Type 0} → true ≡ false → P
never e = absurd (true≢false e)

-- what holds where nothing went wrong
pub on_ok : {A E : Type 0} (r : Result A E) (P : Type 0) → is_err r ≡ false → OnOk r P → P
on_ok (Ok a) P e h = h
on_ok (Err x) P e h = never e

-- a name among others, and behind them
pub same_bytes : (x : List ℕ) → bytes_eq x x ≡ true
same_bytes x = (bytes_decides x x).1 refl

pub or_true : (a : Bool) → (a || true) ≡ true
or_true true = refl
or_true false = refl

or_none : (a : Bool) → (a || false) ≡ a
or_none true = refl
or_none false = refl

or_later : (a b c : Bool) → (a || (b || c)) ≡ ((a || b) || c)
or_later true b c = refl
or_later false b c = refl

pub named_behind : (x y : List ℕ) (names : Scope) → is_named x (names ++ y ∷ []) ≡ (is_named x names || bytes_eq x y)
named_behind x y [] = or_none (bytes_eq x y)
named_behind x y (z ∷ names) = ap (λ it. bytes_eq x z || it) (named_behind x y names) ∙ or_later (bytes_eq x z) (is_named x names) (bytes_eq x y)

-- names that stand once, with one behind them
pub both : (a b : Bool) → (a && b) ≡ true → (a ≡ true) × (b ≡ true)
both true true e = (refl, refl)
both true false e = never (sym e)
both false b e = never (sym e)

neither : (a b : Bool) → (a || b) ≡ false → (a ≡ false) × (b ≡ false)
neither true b e = never e
neither false true e = never e
neither false false e = (refl, refl)

not_false : (a : Bool) → not a ≡ true → a ≡ false
not_false true e = never (sym e)
not_false false e = refl

bytes_turned : (x y : List ℕ) → bytes_eq x y ≡ false → bytes_eq y x ≡ false
bytes_turned x y e = by_test (bytes_eq y x) (λ t. let is : y ≡ x = (bytes_decides y x).0 t in let no : bytes_eq x y ≡ true = (bytes_decides x y).1 (sym is) in never (sym no ∙ e)) (λ f. f)

pub apart_before : (names : Scope) (y : List ℕ) → are_apart (names ++ y ∷ []) ≡ true → (are_apart names ≡ true) × (is_named y names ≡ false)
apart_before [] y e = (refl, refl)
apart_before (z ∷ names) y e =
    let split = both (not (is_named z (names ++ y ∷ []))) (are_apart (names ++ y ∷ [])) e in
    let rest = apart_before names y split.1 in
    let alone = neither (is_named z names) (bytes_eq z y) (sym (named_behind z y names) ∙ not_false (is_named z (names ++ y ∷ [])) split.0) in
    (ap₂ (λ (a b : Bool). not a && b) alone.0 rest.0, ap₂ (λ (a b : Bool). a || b) (bytes_turned z y alone.1) rest.1)

pub apart_with : (names : Scope) (y : List ℕ) → are_apart names ≡ true → is_named y names ≡ false → are_apart (names ++ y ∷ []) ≡ true
apart_with [] y e f = refl
apart_with (z ∷ names) y e f =
    let split = both (not (is_named z names)) (are_apart names) e in
    let alone = neither (bytes_eq y z) (is_named y names) f in
    ap₂ (λ (a b : Bool). not a && b) (named_behind z y names ∙ ap₂ (λ (a b : Bool). a || b) (not_false (is_named z names) split.0) (bytes_turned y z alone.0)) (apart_with names y split.1 alone.1)

-- a set of names that gets one more, or loses the last one
at_name : (x y : List ℕ) → is_at (slice_cmp nat_cmp y) x ≡ bytes_eq y x
at_name x y = is_eq-slice_cmp y x

turned : (x y : List ℕ) → bytes_eq x y ≡ bytes_eq y x
turned x y = by_test (bytes_eq x y)
    (λ t. let is : x ≡ y = (bytes_decides x y).0 t in t ∙ sym ((bytes_decides y x).1 (sym is)))
    (λ f. f ∙ sym (bytes_turned x y f))

one_more : (a b : Bool) → cond b true a ≡ (a || b)
one_more true true = refl
one_more true false = refl
one_more false true = refl
one_more false false = refl

pub added : (names : Scope) (x y : List ℕ) (before after : Bool) → before ≡ is_named x names → after ≡ cond (is_at (slice_cmp nat_cmp y) x) true before → after ≡ is_named x (names ++ y ∷ [])
added names x y before after was is =
    is ∙ (ap₂ (λ (a b : Bool). cond a true b) (at_name x y ∙ turned y x) was ∙ (one_more (is_named x names) (bytes_eq x y) ∙ sym (named_behind x y names)))

one_less : (a b : Bool) → (b ≡ true → a ≡ false) → cond b false (a || b) ≡ a
one_less true true h = sym (h refl)
one_less false true h = refl
one_less true false h = refl
one_less false false h = refl

pub removed : (names : Scope) (x y : List ℕ) (before after : Bool) → is_named y names ≡ false → before ≡ is_named x (names ++ y ∷ []) → after ≡ cond (is_at (slice_cmp nat_cmp y) x) false before → after ≡ is_named x names
removed names x y before after alone was is =
    is ∙ (ap₂ (λ (a b : Bool). cond a false b) (at_name x y ∙ turned y x) (was ∙ named_behind x y names)
    ∙ one_less (is_named x names) (bytes_eq x y) (λ t. ap (λ z. is_named z names) ((bytes_decides x y).0 t) ∙ alone))

-- the names as a set
pub named_in : (x : List ℕ) (names : Scope) → is_named x names ≡ true → In x names
named_in x [] e = never (sym e)
named_in x (y ∷ names) e = by_test (bytes_eq x y) (λ t. inl ((bytes_decides x y).0 t)) (λ f. inr (named_in x names (sym (ap (λ b. b || is_named x names) f) ∙ e)))

pub in_named : (x : List ℕ) (names : Scope) → In x names → is_named x names ≡ true
in_named x [] h = absurd h
in_named x (y ∷ names) (inl is) = ap (λ b. b || is_named x names) ((bytes_decides x y).1 is)
in_named x (y ∷ names) (inr h) = ap (λ b. bytes_eq x y || b) (in_named x names h) ∙ or_true (bytes_eq x y)

same_test : (a b : Bool) → (a ≡ true → b ≡ true) → (b ≡ true → a ≡ true) → a ≡ b
same_test true b to from = sym (to refl)
same_test false true to from = from refl
same_test false false to from = refl

pub same_named : (us bs : Scope) → AreSame us bs → (x : List ℕ) → is_named x us ≡ is_named x bs
same_named us bs same x = same_test (is_named x us) (is_named x bs) (λ t. in_named x bs ((same x).0 (named_in x us t))) (λ t. in_named x us ((same x).1 (named_in x bs t)))

pub same_by : (us bs : Scope) → us ≡ bs → AreSame us bs
same_by us bs is x = (λ h. subst (In x) is h, λ h. subst (In x) (sym is) h)

pub same_both : (us bs cs : Scope) → AreSame us bs → AreSame bs cs → AreSame us cs
same_both us bs cs one two x = (λ h. (two x).0 ((one x).0 h), λ h. (one x).1 ((two x).1 h))

pub same_before : (us bs more : Scope) → AreSame us bs → AreSame (us ++ more) (bs ++ more)
same_before us bs more same x = (λ h. go us bs (λ i. (same x).0 i) (in_either x us more h), λ h. go bs us (λ i. (same x).1 i) (in_either x bs more h))
  where
    go : (cs ds : Scope) → (In x cs → In x ds) → In x cs ⊎ In x more → In x (ds ++ more)
    go cs ds to (inl i) = in_left x ds more (to i)
    go cs ds to (inr i) = in_right x ds more i

with_one : (x : List ℕ) (names : Scope) → AreSame (with_name x names) (names ++ x ∷ [])
with_one x names = by_test (is_named x names)
    (λ t. same_both (with_name x names) names (names ++ x ∷ []) (same_by (with_name x names) names (ap (λ b. cond b names (names ++ x ∷ [])) t)) (λ y. (λ h. in_left y names (x ∷ []) h, λ h. back t y (in_either y names (x ∷ []) h))))
    (λ f. same_by (with_name x names) (names ++ x ∷ []) (ap (λ b. cond b names (names ++ x ∷ [])) f))
  where
    back : is_named x names ≡ true → (y : List ℕ) → In y names ⊎ In y (x ∷ []) → In y names
    back t y (inl h) = h
    back t y (inr (inl is)) = subst (λ z. In z names) (sym is) (named_in x names t)
    back t y (inr (inr h)) = absurd h

pub with_several : (xs : List (List ℕ)) (names : Scope) → AreSame (with_names xs names) (names ++ xs)
with_several [] names = same_by names (names ++ []) (sym (append-nil names))
with_several (x ∷ xs) names =
    same_both (with_names xs (with_name x names)) (with_name x names ++ xs) (names ++ x ∷ xs) (with_several xs (with_name x names))
    (same_both (with_name x names ++ xs) ((names ++ x ∷ []) ++ xs) (names ++ x ∷ xs) (same_before (with_name x names) (names ++ x ∷ []) xs (with_one x names)) (same_by ((names ++ x ∷ []) ++ xs) (names ++ x ∷ xs) (append_assoc names (x ∷ []) xs)))

-- the names that came first
cut : (names more : Scope) → take (length names) (names ++ more) ≡ names
cut [] more = refl
cut (x ∷ names) more = ap (λ (it : Scope). x ∷ it) (cut names more)

pub cut_all : (names : Scope) → take (length names) names ≡ names
cut_all [] = refl
cut_all (x ∷ names) = ap (λ (it : Scope). x ∷ it) (cut_all names)

pub cut_twice : (us bs cs : Scope) → take (length us) bs ≡ us → take (length bs) cs ≡ bs → take (length us) cs ≡ us
cut_twice [] bs cs h k = refl
cut_twice (x ∷ us) [] cs h k = let none : [] ≡ x ∷ us = h in cc
cut_twice (x ∷ us) (y ∷ bs) [] h k = let none : [] ≡ y ∷ bs = k in cc
cut_twice (x ∷ us) (y ∷ bs) (z ∷ cs) h k =
    let one : y ∷ take (length us) bs ≡ x ∷ us = h in
    let two : z ∷ take (length bs) cs ≡ y ∷ bs = k in
    let head_one : y ≡ x = cc in
    let head_two : z ≡ y = cc in
    let tail_one : take (length us) bs ≡ us = cc in
    let tail_two : take (length bs) cs ≡ bs = cc in
    ap₂ (λ (a : List ℕ) (b : Scope). a ∷ b) (head_two ∙ head_one) (cut_twice us bs cs tail_one tail_two)

cut_one : (x : List ℕ) (names : Scope) → take (length names) (with_name x names) ≡ names
cut_one x names = by (is_named x names)
  where
    by : (b : Bool) → take (length names) (cond b names (names ++ x ∷ [])) ≡ names
    by true = cut_all names
    by false = cut names (x ∷ [])

pub cut_several : (xs : List (List ℕ)) (names : Scope) → take (length names) (with_names xs names) ≡ names
cut_several [] names = cut_all names
cut_several (x ∷ xs) names = cut_twice names (with_name x names) (with_names xs (with_name x names)) (cut_one x names) (cut_several xs (with_name x names))
