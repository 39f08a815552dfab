-- The facts of groups, counted by their relations.
use Rattle.std.proofs.Common.{◌≡◌, ◌∙◌, ◌+◌, ◌-◌, ◌++◌, ◌∷◌, [], ◌||◌, ℕ, List, Option, option_map, refl, sym, ap, ap₂, arith, nat_lt, rules, subst}
use Rattle.std.proofs.lemmas.List.Sums.{sum_by-cons, sum_by_push}
use Rattle.std.specs.List.{sum_by}
use Rattle.std.specs.Option.{unwrap_or}
use Rattle.std.specs.Str.{bytes_eq}
use Rattle.cb_facts.specs.RelationCounts.{Counts, IsEmpty, count_of}
use Rattle.cb_knowledge_base.proofs.Counting.{any_counted}
use Rattle.cb_knowledge_base.specs.Deffacts.{DeffactsTable, is_named_in_deffacts}
use Rattle.cb_knowledge_base.specs.Internal.GroupCounts.{AreCounted, HasMore, IsLessByGroup, names_in}
use Rattle.cb_knowledge_base.specs.Internal.Groups.{Group}

pub group_none : (table : DeffactsTable) (counts : Counts) → table ≡ [] → IsEmpty counts → AreCounted counts table
group_none table counts none empty = subst (AreCounted counts) (sym none) (λ q. empty q)

pub group_taken : (old new : DeffactsTable) (counts less : Counts) (group : Option Group) → AreCounted counts old
    → ((f : Group → ℕ) → sum_by f new + unwrap_or (option_map f group) 0 ≡ sum_by f old) → IsLessByGroup group counts less → AreCounted less new
group_taken old new counts less group counted sums by q =
    let was : count_of counts q ≡ sum_by (names_in q) old = counted q in
    let is : count_of less q ≡ count_of counts q - unwrap_or (option_map (names_in q) group) 0 = by q in
    let sum : sum_by (names_in q) new + unwrap_or (option_map (names_in q) group) 0 ≡ sum_by (names_in q) old = sums (names_in q) in
    omega arith

pub group_kept : (old : DeffactsTable) (counts more : Counts) (group : Group) → AreCounted counts old → HasMore counts more group.1 → AreCounted more (old ++ group ∷ [])
group_kept old counts more group counted by q =
    let was : count_of counts q ≡ sum_by (names_in q) old = counted q in
    let is : count_of more q ≡ count_of counts q + names_in q group = by q in
    let sum : sum_by (names_in q) (old ++ group ∷ []) ≡ sum_by (names_in q) old + names_in q group = sum_by_push (names_in q) old group in
    omega arith

either : (n m : ℕ) → (nat_lt 0 n || nat_lt 0 m) ≡ nat_lt 0 (n + m)
either n m = search rules

-- a fact names a relation where their number is not 0
named_any : (relation : List ℕ) (table : DeffactsTable) → is_named_in_deffacts relation table ≡ nat_lt 0 (sum_by (names_in relation) table)
named_any relation [] = refl
named_any relation (g ∷ table) =
    ap₂ (λ s t. s || t) (any_counted (λ e. bytes_eq e.shape.relation relation) g.1) (named_any relation table)
    ∙ either (names_in relation g) (sum_by (names_in relation) table) ∙ ap (nat_lt 0) (sym (sum_by-cons (names_in relation) g table))

pub group_any : (table : DeffactsTable) (counts : Counts) (relation : List ℕ) → AreCounted counts table → nat_lt 0 (count_of counts relation) ≡ is_named_in_deffacts relation table
group_any table counts relation counted = ap (nat_lt 0) (counted relation) ∙ sym (named_any relation table)
