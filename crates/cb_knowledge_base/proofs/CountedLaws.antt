-- Facts that are counted by their relations: one more, one less, and none of a relation.
use Rattle.std.proofs.Common.{◌≡◌, ◌∙◌, ◌+◌, ◌-◌, ℕ, List, [], None, option_map, sym, ap, arith, nat_lt, subst}
use Rattle.std.proofs.lemmas.Map.Entries.{sum_by-insert_entry, sum_by-remove_entry}
use Rattle.std.specs.BTreeMap.{is_at}
use Rattle.std.specs.Cmp.{nat_cmp_total}
use Rattle.std.specs.List.{list_any, sum_by}
use Rattle.std.specs.Map.{values_of}
use Rattle.std.specs.Option.{unwrap_or}
use Rattle.std.specs.Ordering.{nat_cmp}
use Rattle.std.specs.Str.{bytes_eq}
use Rattle.cb_facts.specs.FactLists.{IndexedFacts, IsFactBase, fact_at, with_fact, without_fact}
use Rattle.cb_facts.specs.Facts.{FactValue}
use Rattle.cb_facts.specs.RelationCounts.{Counts, HasOneLess, HasOneMore, IsEmpty, count_of, one_if}
use Rattle.cb_knowledge_base.proofs.Counting.{made_counted}
use Rattle.cb_knowledge_base.specs.Internal.WorkingMemories.{AreCounted, IsLessBy}

abbrev names : List ℕ → FactValue → ℕ
names q f = one_if (bytes_eq f.relation q)

pub counted_none : (facts : IndexedFacts) (counts : Counts) → facts ≡ [] → IsEmpty counts → AreCounted counts facts
counted_none facts counts none empty = subst (AreCounted counts) (sym none) (λ q. empty q)

pub counted-add : (facts : IndexedFacts) (counts more : Counts) (ix : ℕ) (fact : FactValue) → IsFactBase facts → AreCounted counts facts → fact_at facts ix ≡ None
    → HasOneMore counts more fact.relation → AreCounted more (with_fact facts ix fact)
counted-add facts counts more ix fact base counted free one q =
    let was : count_of counts q ≡ sum_by (names q) (values_of facts) = counted q in
    let is : count_of more q ≡ count_of counts q + names q fact = one q in
    let none : unwrap_or (option_map (names q) (fact_at facts ix)) 0 ≡ 0 = ap (λ o. unwrap_or (option_map (names q) o) 0) free in
    let sums : sum_by (names q) (values_of (with_fact facts ix fact)) + unwrap_or (option_map (names q) (fact_at facts ix)) 0 ≡ sum_by (names q) (values_of facts) + names q fact =
    sum_by-insert_entry (names q) nat_cmp_total facts ix fact base.rising in
    omega arith

pub counted-remove : (facts : IndexedFacts) (counts less : Counts) (ix : ℕ) → AreCounted counts facts → IsLessBy (fact_at facts ix) counts less → AreCounted less (without_fact facts ix)
counted-remove facts counts less ix counted by q =
    let was : count_of counts q ≡ sum_by (names q) (values_of facts) = counted q in
    let is : count_of less q ≡ count_of counts q - unwrap_or (option_map (names q) (fact_at facts ix)) 0 = by q in
    let sums : sum_by (names q) (values_of (without_fact facts ix)) + unwrap_or (option_map (names q) (fact_at facts ix)) 0 ≡ sum_by (names q) (values_of facts) =
    sum_by-remove_entry (names q) (is_at (nat_cmp ix)) facts in
    omega arith

pub counted-undone : (facts : IndexedFacts) (counts more less : Counts) (relation : List ℕ) → AreCounted counts facts → HasOneMore counts more relation → HasOneLess more less relation
    → AreCounted less facts
counted-undone facts counts more less relation counted one back q =
    let was : count_of counts q ≡ sum_by (names q) (values_of facts) = counted q in
    let is : count_of more q ≡ count_of counts q + one_if (bytes_eq relation q) = one q in
    let then : count_of less q ≡ count_of more q - one_if (bytes_eq relation q) = back q in
    omega arith

-- a fact names a relation where their number is not 0
pub counted_any : (facts : IndexedFacts) (counts : Counts) (relation : List ℕ) → AreCounted counts facts
    → nat_lt 0 (count_of counts relation) ≡ list_any (λ entry. bytes_eq entry.1.relation relation) facts
counted_any facts counts relation counted =
    ap (nat_lt 0) (counted relation) ∙ made_counted (λ e. e.1) (λ f. bytes_eq f.relation relation) facts
