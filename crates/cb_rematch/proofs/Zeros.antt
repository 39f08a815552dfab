-- Each match has the number 0: what a change then tells of numbers.
use Rattle.std.proofs.Common.{◌≡◌, ◌||◌, ◌&&◌, ℕ, Bool, true, false, not, List, [], ◌∷◌, inl, inr, length, nat_eq, refl, replicate, sym, ◌∙◌, ap, ap₂, subst}
use Rattle.std.proofs.lemmas.Bool.Decides.{Decides-eqb}
use Rattle.std.specs.Bool.{Decides}
use Rattle.std.specs.Cmp.Lexicographic.{pointwise, pointwise_decides}
use Rattle.std.specs.List.{list_any}
use Rattle.cb_matches.proofs.Lists.{by_test, filter_in, in_filter, in_map, map_in}
use Rattle.cb_matches.specs.Chains.{In}
use Rattle.cb_matches.specs.Changes.{HaveNumbers, IsDelta, IsNumber, TellsNumbers, come_of, keys_come, keys_gone}
use Rattle.cb_matches.specs.Keys.{KeyValue, PartValue, key_eq, part_eq}
use Rattle.cb_matches.specs.Networks.{Network, all_keys}
use Rattle.cb_matches.specs.declared.delta.Delta.{Delta}
use Rattle.cb_rematch.specs.Numbering.{zero_numbers}

-- keys that are equal by `==` are one
and_first : (a b : Bool) → (a && b) ≡ true → a ≡ true
and_first true b h = refl
and_first false b h = h

and_second : (a b : Bool) → (a && b) ≡ true → b ≡ true
and_second true b h = h
and_second false b h = absurd (cc)

and_both : (a b : Bool) → a ≡ true → b ≡ true → (a && b) ≡ true
and_both a b h k = ap₂ (λ x y. x && y) h k

make_part : ℕ → List ℕ → PartValue
make_part ix cuts = record { index = ix; cuts = cuts }

part_Decides : (p q : PartValue) → Decides (part_eq p q) (p ≡ q)
unfolding make_part
part_Decides p q = (
  λ h. ap₂ make_part ((Decides-eqb _ _).0 (and_first (nat_eq p.index q.index) _ h)) ((pointwise_decides Decides-eqb p.cuts q.cuts).0 (and_second (nat_eq p.index q.index) _ h)),
  λ e. and_both (nat_eq p.index q.index) (pointwise nat_eq p.cuts q.cuts) ((Decides-eqb _ _).1 (ap (λ it. it.index) e)) ((pointwise_decides Decides-eqb p.cuts q.cuts).1 (ap (λ it. it.cuts) e)),
)

make_key : ℕ → ℕ → List PartValue → KeyValue
make_key r b ps = record { rule = r; branch = b; parts = ps }

same_key : (k l : KeyValue) → key_eq k l ≡ true → k ≡ l
unfolding make_key
same_key k l h =
    let more = and_second (nat_eq k.rule l.rule) _ h in
    ap₂ (λ (r : ℕ) (it : KeyValue). make_key r it.branch it.parts) ((Decides-eqb _ _).0 (and_first (nat_eq k.rule l.rule) _ h))
    (ap₂ (λ (b : ℕ) (ps : List PartValue). make_key 0 b ps) ((Decides-eqb _ _).0 (and_first (nat_eq k.branch l.branch) _ more))
    ((pointwise_decides part_Decides k.parts l.parts).0 (and_second (nat_eq k.branch l.branch) _ more)))

any_in : (k : KeyValue) (ks : List KeyValue) → list_any (key_eq k) ks ≡ true → In k ks
any_in k [] h = cc
any_in k (l ∷ ls) h =
    by_test (key_eq k l) (λ t. inl (same_key k l t)) (λ t. inr (any_in k ls (subst (λ b. (b || list_any (key_eq k) ls) ≡ true) t h)))

-- a key of the new ones, or one that goes
stays : (k : KeyValue) (old new : List KeyValue) → In k old → (In k (come_of new old) → ⊥) → In k new
stays k old new there left =
    by_test (list_any (key_eq k) new) (λ t. any_in k new t) (λ t. absurd (left (filter_in (λ l. not (list_any (key_eq l) new)) k old there (ap not t))))

have_zeros : (Has : KeyValue → ℕ → Type 0) (ks : List KeyValue) → ((k : KeyValue) → In k ks → Has k 0) → HaveNumbers Has ks (replicate (length ks) 0)
have_zeros Has [] h = tt
have_zeros Has (k ∷ ks) h = (h k (inl refl), have_zeros Has ks (λ l i. h l (inr i)))

zeros : ℕ → List ℕ
zeros n = replicate n 0

pub as_many : (m n : ℕ) → m ≡ n → replicate {A = ℕ} m 0 ≡ replicate n 0
unfolding zeros
as_many m n e = ap zeros e

-- keys of a network with zeros
pub zeros_are : (n : Network) (ks : List KeyValue) (ns : List ℕ) → ((k : KeyValue) → In k ks → In k (all_keys n)) → ns ≡ replicate (length ks) 0 → HaveNumbers (IsNumber (zero_numbers n)) ks ns
zeros_are n ks ns among e =
    subst (HaveNumbers (IsNumber (zero_numbers n)) ks) (sym e) (have_zeros (IsNumber (zero_numbers n)) ks (λ k i. map_in (λ l. (l, 0)) (all_keys n) k (among k i)))

gone_among : (old new : Network) (k : KeyValue) → In k (keys_gone old new) → In k (all_keys old)
unfolding keys_gone
gone_among old new k i = (in_filter (λ l. not (list_any (key_eq l) (all_keys new))) k (all_keys old) i).0

come_among : (old new : Network) (k : KeyValue) → In k (keys_come old new) → In k (all_keys new)
unfolding keys_come
come_among old new k i = (in_filter (λ l. not (list_any (key_eq l) (all_keys old))) k (all_keys new) i).0

stay_among : (old new : Network) (k : KeyValue) → In k (all_keys old) → (In k (keys_gone old new) → ⊥) → In k (all_keys new)
unfolding keys_gone
stay_among old new k i left = stays k (all_keys old) (all_keys new) i left

-- the key of a pair is in the network, and the number is 0
of_pair : (n : Network) (k : KeyValue) (i : ℕ) → IsNumber (zero_numbers n) k i → In k (all_keys n) × (i ≡ 0)
of_pair n k i h =
    let from = in_map (λ l. (l, 0)) (k, i) (all_keys n) h in
    (subst (λ l. In l (all_keys n)) (sym (ap (λ p. p.0) from.2)) from.1, ap (λ p. p.1) from.2)

pub tells_zeros : (old new : Network) (delta : Delta) → IsDelta old new delta → delta.gone_numbers.items ≡ replicate (length delta.gone.items) 0
    → delta.come_numbers.items ≡ replicate (length delta.come.items) 0 → TellsNumbers (IsNumber (zero_numbers old)) (IsNumber (zero_numbers new)) delta
tells_zeros old new delta is gone come = record {
  once = λ k m n h i. (of_pair old k m h).1 ∙ sym (of_pair old k n i).1;
  once_now = λ k m n h i. (of_pair new k m h).1 ∙ sym (of_pair new k n i).1;
  gone = zeros_are old delta.gone.items delta.gone_numbers.items (λ k i. gone_among old new k (subst (In k) is.gone i)) gone;
  come = zeros_are new delta.come.items delta.come_numbers.items (λ k i. come_among old new k (subst (In k) is.come i)) come;
  stay = λ k n h left.
      let of = of_pair old k n h in
      subst (λ i. IsNumber (zero_numbers new) k i) (sym of.1)
      (map_in (λ l. (l, 0)) (all_keys new) k (stay_among old new k of.0 (λ i. left (subst (In k) (sym is.gone) i))));
}
