-- `==` of these types is equality.
use Rattle.std.proofs.Common.{◌≡◌, List, ℕ, ap, ap₂, rules}
use Rattle.std.proofs.lemmas.Bool.{and_from}
use Rattle.std.specs.Bool.{Decides}
use Rattle.std.specs.Cmp.{first_so, second_so}
use Rattle.std.specs.Cmp.Lexicographic.{pointwise, pointwise_decides, bytes_decides}
use Rattle.std.specs.Cmp.Rules.{hashing}
use Rattle.cb_facts.specs.Facts.{slot_eq}
use Rattle.cb_facts.specs.declared.single.Single.{Single}
use Rattle.cb_facts.specs.declared.single.Single.TheVariants as s
use Rattle.cb_facts.specs.declared.value.Value.{Value}
use Rattle.cb_facts.specs.declared.value.Value.TheVariants as v
use Rattle.cb_facts.specs.contracts.single.SinglePartialEq.TheImpl as single
use Rattle.cb_facts.specs.contracts.value.ValuePartialEq.TheImpl as value

pub single-Decides : (a b : Single) → Decides (single.ghosts.eq a b) (a ≡ b)
single-Decides (s.Symbol a) (s.Symbol b) = search (hashing, rules)
single-Decides (s.Symbol a) (s.Str b) = search (hashing, rules)
single-Decides (s.Symbol a) (s.Int b) = search (hashing, rules)
single-Decides (s.Symbol a) (s.Fact b) = search (hashing, rules)
single-Decides (s.Str a) (s.Symbol b) = search (hashing, rules)
single-Decides (s.Str a) (s.Str b) = search (hashing, rules)
single-Decides (s.Str a) (s.Int b) = search (hashing, rules)
single-Decides (s.Str a) (s.Fact b) = search (hashing, rules)
single-Decides (s.Int a) (s.Symbol b) = search (hashing, rules)
single-Decides (s.Int a) (s.Str b) = search (hashing, rules)
single-Decides (s.Int a) (s.Int b) = search (hashing, rules)
single-Decides (s.Int a) (s.Fact b) = search (hashing, rules)
single-Decides (s.Fact a) (s.Symbol b) = search (hashing, rules)
single-Decides (s.Fact a) (s.Str b) = search (hashing, rules)
single-Decides (s.Fact a) (s.Int b) = search (hashing, rules)
single-Decides (s.Fact a) (s.Fact b) = search (hashing, rules)

pub singles-Decides : (xs ys : List Single) → Decides (pointwise single.ghosts.eq xs ys) (xs ≡ ys)
singles-Decides xs ys = pointwise_decides single-Decides xs ys

pub value-Decides : (a b : Value) → Decides (value.ghosts.eq a b) (a ≡ b)
value-Decides (v.Symbol a) (v.Symbol b) = search (hashing, rules)
value-Decides (v.Symbol a) (v.Str b) = search (hashing, rules)
value-Decides (v.Symbol a) (v.Int b) = search (hashing, rules)
value-Decides (v.Symbol a) (v.Fact b) = search (hashing, rules)
value-Decides (v.Symbol a) (v.Multi b) = search (hashing, rules)
value-Decides (v.Str a) (v.Symbol b) = search (hashing, rules)
value-Decides (v.Str a) (v.Str b) = search (hashing, rules)
value-Decides (v.Str a) (v.Int b) = search (hashing, rules)
value-Decides (v.Str a) (v.Fact b) = search (hashing, rules)
value-Decides (v.Str a) (v.Multi b) = search (hashing, rules)
value-Decides (v.Int a) (v.Symbol b) = search (hashing, rules)
value-Decides (v.Int a) (v.Str b) = search (hashing, rules)
value-Decides (v.Int a) (v.Int b) = search (hashing, rules)
value-Decides (v.Int a) (v.Fact b) = search (hashing, rules)
value-Decides (v.Int a) (v.Multi b) = search (hashing, rules)
value-Decides (v.Fact a) (v.Symbol b) = search (hashing, rules)
value-Decides (v.Fact a) (v.Str b) = search (hashing, rules)
value-Decides (v.Fact a) (v.Int b) = search (hashing, rules)
value-Decides (v.Fact a) (v.Fact b) = search (hashing, rules)
value-Decides (v.Fact a) (v.Multi b) = search (hashing, rules)
value-Decides (v.Multi a) (v.Symbol b) = search (hashing, rules)
value-Decides (v.Multi a) (v.Str b) = search (hashing, rules)
value-Decides (v.Multi a) (v.Int b) = search (hashing, rules)
value-Decides (v.Multi a) (v.Fact b) = search (hashing, rules)
value-Decides (v.Multi a) (v.Multi b) = search (hashing, rules, singles-Decides a b)

slot-same : (s t : List ℕ × Value) → s.0 ≡ t.0 → s.1 ≡ t.1 → s ≡ t
slot-same s t p q = ap₂ (λ (n : List ℕ) (v : Value). (n, v)) p q

pub slot-Decides : (s t : List ℕ × Value) → Decides (slot_eq s t) (s ≡ t)
slot-Decides s t = (
  λ e. slot-same s t ((bytes_decides s.0 t.0).0 (first_so _ _ e)) ((value-Decides s.1 t.1).0 (second_so _ _ e)),
  λ e. and_from _ _ ((bytes_decides s.0 t.0).1 (ap (λ (u : List ℕ × Value). u.0) e)) ((value-Decides s.1 t.1).1 (ap (λ (u : List ℕ × Value). u.1) e)),
)

pub slots-Decides : (ss ts : List (List ℕ × Value)) → Decides (pointwise slot_eq ss ts) (ss ≡ ts)
slots-Decides ss ts = pointwise_decides slot-Decides ss ts
