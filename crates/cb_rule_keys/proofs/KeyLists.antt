-- The keys that come, where keys are equal and in lists of parts.
use Rattle.std.proofs.Common.{◌≡◌, ℕ, ◌||◌, ◌&&◌, not, Bool, true, false, List, [], ◌∷◌, ◌++◌, filter, nat_eq, inl, inr, refl, sym, ◌∙◌, ap, ap₂, subst, cond}
use Rattle.std.proofs.lemmas.Bool.Decides.{Decides-eqb}
use Rattle.std.proofs.lemmas.List.{append-nil}
use Rattle.std.specs.Bool.{Decides}
use Rattle.std.specs.Cmp.Lexicographic.{pointwise, pointwise_decides}
use Rattle.std.specs.List.{list_any}
use Rattle.cb_matches.specs.Chains.{In}
use Rattle.cb_matches.proofs.Lists.{by_test}
use Rattle.cb_matches.specs.Changes.{come_of}
use Rattle.cb_matches.specs.Keys.{KeyValue, PartValue, key_eq, part_eq}

and_both : (a b : Bool) → a ≡ true → b ≡ true → (a && b) ≡ true
and_both a b h k = ap₂ (λ x y. x && y) h k

and_first : (a b : Bool) → (a && b) ≡ true → a ≡ true
and_first true b h = refl
and_first false b h = h

and_second : (a b : Bool) → (a && b) ≡ true → b ≡ true
and_second true b h = h
and_second false b h = absurd (cc)

make_part : ℕ → List ℕ → PartValue
make_part ix cuts = record { index = ix; cuts = cuts }

pub part_Decides : (p q : PartValue) → Decides (part_eq p q) (p ≡ q)
unfolding make_part
part_Decides p q = (
  λ h. ap₂ make_part ((Decides-eqb _ _).0 (and_first (nat_eq p.index q.index) _ h)) ((pointwise_decides Decides-eqb p.cuts q.cuts).0 (and_second (nat_eq p.index q.index) _ h)),
  λ e. and_both (nat_eq p.index q.index) (pointwise nat_eq p.cuts q.cuts) ((Decides-eqb _ _).1 (ap (λ it. it.index) e)) ((pointwise_decides Decides-eqb p.cuts q.cuts).1 (ap (λ it. it.cuts) e)),
)

pub parts_Decides : (ps qs : List PartValue) → Decides (pointwise part_eq ps qs) (ps ≡ qs)
parts_Decides ps qs = pointwise_decides part_Decides ps qs

make_key : ℕ → ℕ → List PartValue → KeyValue
make_key r b ps = record { rule = r; branch = b; parts = ps }

pub key_Decides : (k l : KeyValue) → Decides (key_eq k l) (k ≡ l)
unfolding make_key
key_Decides k l = (
  λ h. let more = and_second (nat_eq k.rule l.rule) _ h in
      ap₂ (λ (r : ℕ) (it : KeyValue). make_key r it.branch it.parts) ((Decides-eqb _ _).0 (and_first (nat_eq k.rule l.rule) _ h))
      (ap₂ (λ (b : ℕ) (ps : List PartValue). make_key 0 b ps) ((Decides-eqb _ _).0 (and_first (nat_eq k.branch l.branch) _ more)) ((parts_Decides k.parts l.parts).0 (and_second (nat_eq k.branch l.branch) _ more))),
  λ e. and_both (nat_eq k.rule l.rule) _ ((Decides-eqb _ _).1 (ap (λ it. it.rule) e))
      (and_both (nat_eq k.branch l.branch) _ ((Decides-eqb _ _).1 (ap (λ it. it.branch) e)) ((parts_Decides k.parts l.parts).1 (ap (λ it. it.parts) e))),
)

-- a test for one of a list that is equality finds the members
pub any_in : {A : Type 0} (eq : A → A → Bool) → ((a b : A) → Decides (eq a b) (a ≡ b)) → (z : A) (xs : List A) → list_any (eq z) xs ≡ true → In z xs
any_in eq decides z [] h = cc
any_in eq decides z (x ∷ xs) h =
    by_test (eq z x) (λ t. inl ((decides z x).0 t)) (λ t. inr (any_in eq decides z xs (subst (λ b. (b || list_any (eq z) xs) ≡ true) t h)))

pub or_second : (a b : Bool) → b ≡ true → (a || b) ≡ true
or_second true b h = refl
or_second false b h = h

pub in_any : {A : Type 0} (eq : A → A → Bool) → ((a b : A) → Decides (eq a b) (a ≡ b)) → (z : A) (xs : List A) → In z xs → list_any (eq z) xs ≡ true
in_any eq decides z [] h = absurd h
in_any eq decides z (x ∷ xs) (inl e) = ap (λ b. b || list_any (eq z) xs) ((decides z x).1 e)
in_any eq decides z (x ∷ xs) (inr h) = or_second (eq z x) (list_any (eq z) xs) (in_any eq decides z xs h)

-- a list of which no key is another's, before and after: each part for itself
pub same_test : {A : Type 0} (p q : A → Bool) (xs : List A) → ((x : A) → In x xs → p x ≡ q x) → filter p xs ≡ filter q xs
same_test p q [] h = refl
same_test {A} p q (x ∷ xs) h =
    ap₂ (λ (b : Bool) (rest : List A). cond b (x ∷ rest) rest) (h x (inl refl)) (same_test p q xs (λ z i. h z (inr i)))

none_of : (k : KeyValue) (ks : List KeyValue) → (In k ks → ⊥) → list_any (key_eq k) ks ≡ false
none_of k ks h = by_test (list_any (key_eq k) ks) (λ t. absurd (h (any_in key_eq key_Decides k ks t))) (λ t. t)

pub or_again : (a b c : Bool) → (a || (b || c)) ≡ ((a || b) || c)
or_again true b c = refl
or_again false b c = refl

any_append : (q : KeyValue → Bool) (ks ls : List KeyValue) → list_any q (ks ++ ls) ≡ (list_any q ks || list_any q ls)
any_append q [] ls = refl
any_append q (k ∷ ks) ls = ap (λ b. q k || b) (any_append q ks ls) ∙ or_again (q k) (list_any q ks) (list_any q ls)

or_false : (b : Bool) → (b || false) ≡ b
or_false true = refl
or_false false = refl

filter_both : (q : KeyValue → Bool) (ks ls : List KeyValue) → filter q (ks ++ ls) ≡ filter q ks ++ filter q ls
filter_both q [] ls = refl
filter_both q (k ∷ ks) ls = elim (q k) as (λ b. cond b (k ∷ filter q (ks ++ ls)) (filter q (ks ++ ls)) ≡ cond b (k ∷ filter q ks) (filter q ks) ++ filter q ls) [
  | true ↦ ap (λ rest. k ∷ rest) (filter_both q ks ls)
  | false ↦ filter_both q ks ls
]

pub come_in_parts : (old others new news : List KeyValue) → ((k : KeyValue) → In k new → In k others → ⊥) → ((k : KeyValue) → In k news → In k old → ⊥)
    → come_of (old ++ others) (new ++ news) ≡ come_of old new ++ come_of others news
come_in_parts old others new news h i =
    filter_both (λ k. not (list_any (key_eq k) (old ++ others))) new news
    ∙ ap₂ (λ (xs : List KeyValue) (ys : List KeyValue). xs ++ ys)
    (same_test (λ k. not (list_any (key_eq k) (old ++ others))) (λ k. not (list_any (key_eq k) old)) new
    (λ k j. ap not (any_append (key_eq k) old others ∙ (ap (λ b. list_any (key_eq k) old || b) (none_of k others (h k j)) ∙ or_false (list_any (key_eq k) old)))))
    (same_test (λ k. not (list_any (key_eq k) (old ++ others))) (λ k. not (list_any (key_eq k) others)) news
    (λ k j. ap not (any_append (key_eq k) old others ∙ ap (λ b. b || list_any (key_eq k) others) (none_of k old (i k j)))))

-- where all were there before, none comes
pub none_new : (old new : List KeyValue) → ((k : KeyValue) → In k new → In k old) → come_of old new ≡ []
none_new old [] h = refl
none_new old (k ∷ ks) h =
    ap (λ b. cond (not b) (k ∷ come_of old ks) (come_of old ks)) (in_any key_eq key_Decides k old (h k (inl refl))) ∙ none_new old ks (λ l i. h l (inr i))

-- where there were none, all come
pub all_new : (new : List KeyValue) → come_of [] new ≡ new
all_new [] = refl
all_new (k ∷ ks) = ap (λ it. k ∷ it) (all_new ks)

-- where the keys stay, none is told
pub none_more : (told ks ls : List KeyValue) → ks ≡ ls → told ≡ told ++ come_of ks ls
none_more told ks ls e = sym (append-nil told) ∙ ap (λ it. told ++ it) (sym (subst (λ it. come_of ks it ≡ []) e (none_new ks ks (λ k h. h))))
