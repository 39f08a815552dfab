-- `==` of keys is equality, and so is the order where it says that two are equal.
use Rattle.std.proofs.Common.{◌≡◌, ◌≢◌, ◌⊎◌, ◌∙◌, inl, inr, ℕ, Bool, true, false, List, ap, ap₂, refl}
use Rattle.std.proofs.lemmas.Bool.{and_from, false_from_ne_true}
use Rattle.std.specs.BTreeMap.{is_at}
use Rattle.std.specs.Bool.{Decides}
use Rattle.std.specs.Cmp.{first_so, second_so, unsigned_Decides}
use Rattle.std.specs.Cmp.Lexicographic.{pointwise_decides, bytes_decides}
use Rattle.cb_matches.specs.Internal.KeyLaws.{key_tied}
use Rattle.cb_matches.specs.Keys.{KeyValue, PartValue, key_cmp, key_eq, part_eq}

part-same : (p q : PartValue) → p.index ≡ q.index → p.cuts ≡ q.cuts → p ≡ q
part-same p q e f = ap₂ (λ (i : ℕ) (cs : List ℕ). record { index = i; cuts = cs }) e f

part-Decides : (p q : PartValue) → Decides (part_eq p q) (p ≡ q)
part-Decides p q = (
  λ e. part-same p q ((unsigned_Decides p.index q.index).0 (first_so _ _ e)) ((bytes_decides p.cuts q.cuts).0 (second_so _ _ e)),
  λ e. and_from _ _ ((unsigned_Decides p.index q.index).1 (ap (λ (r : PartValue). r.index) e)) ((bytes_decides p.cuts q.cuts).1 (ap (λ (r : PartValue). r.cuts) e)),
)

key-same : (k l : KeyValue) → k.rule ≡ l.rule → k.branch ≡ l.branch → k.parts ≡ l.parts → k ≡ l
key-same k l e f g = ap₂ (λ (r : ℕ) (p : ℕ × List PartValue). record { rule = r; branch = p.0; parts = p.1 }) e (ap₂ (λ (b : ℕ) (ps : List PartValue). (b, ps)) f g)

pub key-Decides : (k l : KeyValue) → Decides (key_eq k l) (k ≡ l)
key-Decides k l = (
  λ e. key-same k l ((unsigned_Decides k.rule l.rule).0 (first_so _ _ e)) ((unsigned_Decides k.branch l.branch).0 (first_so _ _ (second_so _ _ e)))
      ((pointwise_decides part-Decides k.parts l.parts).0 (second_so _ _ (second_so _ _ e))),
  λ e. and_from _ _ ((unsigned_Decides k.rule l.rule).1 (ap (λ (m : KeyValue). m.rule) e))
      (and_from _ _ ((unsigned_Decides k.branch l.branch).1 (ap (λ (m : KeyValue). m.branch) e)) ((pointwise_decides part-Decides k.parts l.parts).1 (ap (λ (m : KeyValue). m.parts) e))),
)

key_by : (k l : KeyValue) (b : Bool) → key_eq k l ≡ b → (k ≡ l) ⊎ (k ≢ l)
key_by k l true e = inl ((key-Decides k l).0 e)
key_by k l false e = inr (λ same. cc (e, (key-Decides k l).1 same))

pub key-cases : (k l : KeyValue) → (k ≡ l) ⊎ (k ≢ l)
key-cases k l = key_by k l (key_eq k l) refl

pub key_itself : (k : KeyValue) → key_eq k k ≡ true
key_itself k = (key-Decides k k).1 refl

pub key_apart : (k l : KeyValue) → k ≢ l → is_at (key_cmp k) l ≡ false
key_apart k l apart = false_from_ne_true (is_at (key_cmp k) l) (λ e. apart ((key-Decides k l).0 (key_tied k l ∙ e)))

pub key_differs : (k l : KeyValue) → k ≢ l → key_eq k l ≡ false
key_differs k l apart = false_from_ne_true (key_eq k l) (λ e. apart ((key-Decides k l).0 e))
