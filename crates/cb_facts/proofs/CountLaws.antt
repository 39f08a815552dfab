-- Counting one fact more and one less.
use Rattle.std.proofs.Common.{◌≡◌, ◌≤◌, ◌∙◌, ◌+◌, ◌-◌, ℕ, Bool, true, false, cond, List, Option, Some, None, refl, sym, ap, arith}
use Rattle.std.specs.BTreeMap as tree
use Rattle.std.specs.BTreeMap.{BTreeMap}
use Rattle.std.specs.Cmp.Lexicographic.{slice_cmp, texts_ties, bytes_decides}
use Rattle.std.specs.Option.{unwrap_or}
use Rattle.std.specs.Ordering.{nat_cmp}
use Rattle.std.specs.Str.{bytes_eq}
use Rattle.cb_facts.specs.RelationCounts.{HasOneLess, HasOneMore, count_of, one_if}

-- the number that a map has for a relation
abbrev pub number : BTreeMap (List ℕ) ℕ → List ℕ → Option ℕ
number m q = tree.get (slice_cmp nat_cmp) m q

put : (t : Bool) (o : Option ℕ) (was count : ℕ) → (t ≡ true → unwrap_or o 0 ≡ was) → count ≡ was + 1 → unwrap_or (cond t (Some count) o) 0 ≡ unwrap_or o 0 + one_if t
put true o was count same one = let is : unwrap_or o 0 ≡ was = same refl in omega arith
put false o was count same one = omega arith

-- an insertion of the next number counts one more
pub one_more : (old new : BTreeMap (List ℕ) ℕ) (relation shared : List ℕ) (count : ℕ) → shared ≡ relation → count ≡ count_of old.entries relation + 1
    → tree.Updates (slice_cmp nat_cmp) old new shared (Some count) → HasOneMore old.entries new.entries relation
one_more old new relation shared count same one u =
    λ q. ap (λ o. unwrap_or o 0) (u.0 q) ∙ ap (λ t. unwrap_or (cond t (Some count) (number old q)) 0) (sym (texts_ties shared q) ∙ ap (λ r. bytes_eq r q) same)
    ∙ put (bytes_eq relation q) (number old q) (count_of old.entries relation) count (λ e. ap (count_of old.entries) (sym ((bytes_decides relation q).0 e))) one

less : (t : Bool) (o : Option ℕ) (was count : ℕ) → (t ≡ true → unwrap_or o 0 ≡ was) → count ≡ was - 1 → unwrap_or (cond t (Some count) o) 0 ≡ unwrap_or o 0 - one_if t
less true o was count same one = let is : unwrap_or o 0 ≡ was = same refl in omega arith
less false o was count same one = omega arith

-- so does a number that is one less and is written in place of the old one
pub one_less : (old new : BTreeMap (List ℕ) ℕ) (relation : List ℕ) (count : ℕ) → count ≡ count_of old.entries relation - 1
    → tree.Updates (slice_cmp nat_cmp) old new relation (Some count) → HasOneLess old.entries new.entries relation
one_less old new relation count one u =
    λ q. ap (λ o. unwrap_or o 0) (u.0 q) ∙ ap (λ t. unwrap_or (cond t (Some count) (number old q)) 0) (sym (texts_ties relation q))
    ∙ less (bytes_eq relation q) (number old q) (count_of old.entries relation) count (λ e. ap (count_of old.entries) (sym ((bytes_decides relation q).0 e))) one

none_left : (t : Bool) (o : Option ℕ) (was : ℕ) → (t ≡ true → unwrap_or o 0 ≡ was) → was ≤ 1 → unwrap_or (cond t None o) 0 ≡ unwrap_or o 0 - one_if t
none_left true o was same few = let is : unwrap_or o 0 ≡ was = same refl in omega arith
none_left false o was same few = omega arith

-- and an entry that counts one and is taken out
pub last_less : (old new : BTreeMap (List ℕ) ℕ) (relation : List ℕ) → count_of old.entries relation ≤ 1 → tree.Updates (slice_cmp nat_cmp) old new relation None
    → HasOneLess old.entries new.entries relation
last_less old new relation few u =
    λ q. ap (λ o. unwrap_or o 0) (u.0 q) ∙ ap (λ t. unwrap_or (cond t None (number old q)) 0) (sym (texts_ties relation q))
    ∙ none_left (bytes_eq relation q) (number old q) (count_of old.entries relation) (λ e. ap (count_of old.entries) (sym ((bytes_decides relation q).0 e))) few
