-- Rules under their own numbers: one is looked up by its number or its name, taken out, and put after the others.
use Rattle.std.proofs.Common.{◌≡◌, ◌≢◌, Bor, ◌∙◌, ◌<◌, ℕ, Bool, true, false, cond, not, List, [], ◌∷◌, Less, Greater, Option, Some, None, IfSome, option_copied, option_map, refl, sym, ap, ap₂, arith, nat_eq, subst}
use Rattle.std.proofs.lemmas.Bool.{eq-eqb, false_from_ne_true}
use Rattle.std.proofs.lemmas.Bool.Decides.{nat_tests}
use Rattle.std.proofs.lemmas.List.Elements.{All-append, All-cons, All-head, All-nil, All-tail}
use Rattle.std.proofs.lemmas.Map.Keys.{sorted_tail}
use Rattle.std.proofs.lemmas.Map.Views.{All-after_first}
use Rattle.std.specs.BTreeMap.{insert_entry, is_at}
use Rattle.std.specs.Cmp.{unsigned_tied}
use Rattle.std.specs.Cmp.Lexicographic.{bytes_decides}
use Rattle.std.specs.List.{All, Contains, filter}
use Rattle.std.specs.List.Sorted.{IsStrictlySortedBy}
use Rattle.std.specs.Map.{keys_of, lookup, remove_entry, values_of}
use Rattle.std.specs.Ordering.{is_eq, nat_cmp}
use Rattle.std.specs.Str.{bytes_eq}
use Rattle.cb_facts.proofs.MemberLaws.{contains_here, contains_there, is_at-Decides}
use Rattle.cb_rules.proofs.NumberedLaws.{IsAfterEach, at_end, numbered}
use Rattle.cb_rules.specs.Internal.{AreUnderOwn, IsTable, NumberedRules, name_under}
use Rattle.cb_rules.specs.RuleInfos.{RuleInfo}
use Rattle.cb_rules.specs.RuleTables.{rule_named, rule_numbered}

abbrev IsOwn : ℕ × RuleInfo → Type 0
IsOwn e = e.0 ≡ e.1.id

own_first : (e : ℕ × RuleInfo) (rules : NumberedRules) → AreUnderOwn (e ∷ rules) → e.0 ≡ e.1.id
own_first e rules own = All-head IsOwn e rules own

own_rest : (e : ℕ × RuleInfo) (rules : NumberedRules) → AreUnderOwn (e ∷ rules) → AreUnderOwn rules
own_rest e rules own = All-tail IsOwn e rules own

-- the test of a number is that of the rule's own
test_is : (id k : ℕ) (r : RuleInfo) → k ≡ r.id → is_at (nat_cmp id) k ≡ nat_eq id r.id
test_is id k r own = unsigned_tied id k ∙ ap (nat_eq id) own

-- what stands under a number is the rule with it
pub at_number : (rules : NumberedRules) (id : ℕ) → AreUnderOwn rules → lookup (is_at (nat_cmp id)) rules ≡ rule_numbered id (values_of rules)
at_number [] id own = refl
at_number ((k, r) ∷ rules) id own =
    ap₂ (λ t rest. cond t (Some r) rest) (test_is id k r (own_first (k, r) rules own)) (at_number rules id (own_rest (k, r) rules own))

named_first : (rules : NumberedRules) (m n : ℕ) (r : RuleInfo) (name : List ℕ) (t u : Bool) → is_at (nat_cmp n) m ≡ t → bytes_eq name r.name ≡ u
    → option_map (λ h. h.name) (cond t (Some r) (lookup (is_at (nat_cmp n)) rules)) ≡ Some name → (r.name ≡ name → m ≡ n)
    → (name_under (λ h. h.name) rules n ≡ Some name → lookup (is_at (nat_cmp n)) rules ≡ rule_named name (values_of rules))
    → cond t (Some r) (lookup (is_at (nat_cmp n)) rules) ≡ cond u (Some r) (rule_named name (values_of rules))
named_first rules m n r name true true te ue at only more = refl
named_first rules m n r name true false te ue at only more =
    let same : r.name ≡ name = cc in
    let yes : bytes_eq name r.name ≡ true = (bytes_decides name r.name).1 (sym same) in
    absurd (cc)
named_first rules m n r name false true te ue at only more =
    let is : n ≡ m = sym (only (sym ((bytes_decides name r.name).0 ue))) in
    let yes : is_at (nat_cmp n) m ≡ true = (is_at-Decides n m).1 is in
    absurd (cc)
named_first rules m n r name false false te ue at only more = more at

named_by : (rules : NumberedRules) (n : ℕ) (name : List ℕ) → name_under (λ h. h.name) rules n ≡ Some name → ((m : ℕ) (r : RuleInfo) → Contains rules (m, r) → r.name ≡ name → m ≡ n)
    → lookup (is_at (nat_cmp n)) rules ≡ rule_named name (values_of rules)
named_by [] n name at only = refl
named_by ((m, r) ∷ rules) n name at only =
    named_first rules m n r name (is_at (nat_cmp n) m) (bytes_eq name r.name) refl refl at (only m r (contains_here (m, r) rules))
    (λ there. named_by rules n name there (λ k h c. only k h (contains_there (m, r) (k, h) rules c)))

only_one : (rules : NumberedRules) (find : List ℕ → Option ℕ) (n m : ℕ) (name : List ℕ) (r : RuleInfo) → IsTable rules find → find name ≡ Some n → Contains rules (m, r) → r.name ≡ name → m ≡ n
only_one rules find n m name r inv found c same =
    let numbers : Some m ≡ Some n = sym (numbered (λ h. h.name) rules find m r inv.names c) ∙ ap find same ∙ found in
    cc

-- what stands under the number of a name is the rule with it
pub at_name : (rules : NumberedRules) (find : List ℕ → Option ℕ) (n : ℕ) (name : List ℕ) → IsTable rules find → find name ≡ Some n
    → lookup (is_at (nat_cmp n)) rules ≡ rule_named name (values_of rules)
at_name rules find n name inv found =
    named_by rules n name (inv.names.agree.listed name n found) (λ m r c same. only_one rules find n m name r inv found c same)

missing : (rules : NumberedRules) (name : List ℕ) → ((m : ℕ) (r : RuleInfo) → Contains rules (m, r) → r.name ≢ name) → rule_named name (values_of rules) ≡ None
missing [] name none = refl
missing ((m, r) ∷ rules) name none =
    ap (λ t. cond t (Some r) (rule_named name (values_of rules))) (false_from_ne_true (bytes_eq name r.name) (λ e. none m r (contains_here (m, r) rules) (sym ((bytes_decides name r.name).0 e))))
    ∙ missing rules name (λ k h c. none k h (contains_there (m, r) (k, h) rules c))

-- no rule has a name that has no number
pub missing-name : (rules : NumberedRules) (find : List ℕ → Option ℕ) (name : List ℕ) → IsTable rules find → find name ≡ None → rule_named name (values_of rules) ≡ None
missing-name rules find name inv none =
    missing rules name (λ m r c same. let there : None ≡ Some m = sym none ∙ ap find (sym same) ∙ numbered (λ h. h.name) rules find m r inv.names c in cc)

own_at_by : (rules : NumberedRules) (k n : ℕ) (r s : RuleInfo) (t : Bool) → is_at (nat_cmp n) k ≡ t → k ≡ r.id → cond t (Some r) (lookup (is_at (nat_cmp n)) rules) ≡ Some s
    → (lookup (is_at (nat_cmp n)) rules ≡ Some s → n ≡ s.id) → n ≡ s.id
own_at_by rules k n r s true here own at more =
    let same : r ≡ s = cc in
    (is_at-Decides n k).0 here ∙ own ∙ ap (λ (h : RuleInfo). h.id) same
own_at_by rules k n r s false here own at more = more at

-- what stands under a number has it
own_at : (rules : NumberedRules) (n : ℕ) (r : RuleInfo) → AreUnderOwn rules → lookup (is_at (nat_cmp n)) rules ≡ Some r → n ≡ r.id
own_at [] n r own at = absurd (cc)
own_at ((k, q) ∷ rules) n r own at =
    own_at_by rules k n q r (is_at (nat_cmp n) k) refl (own_first (k, q) rules own) at (λ there. own_at rules n r (own_rest (k, q) rules own) there)

others_by : (rs : List RuleInfo) (r : RuleInfo) (n : ℕ) (name : List ℕ) (t u : Bool) → nat_eq n r.id ≡ t → bytes_eq name r.name ≡ u → (r.name ≡ name → n ≡ r.id) → rule_named name rs ≡ None
    → rule_named name (cond (not t) (r ∷ rs) rs) ≡ None
others_by rs r n name true u there here only more = more
others_by rs r n name false true there here only more =
    let yes : nat_eq n r.id ≡ true = eq-eqb n r.id (only (sym ((bytes_decides name r.name).0 here))) in
    absurd (cc)
others_by rs r n name false false there here only more = ap (λ t. cond t (Some r) (rule_named name rs)) here ∙ more

others : (rules : NumberedRules) (n : ℕ) (name : List ℕ) → AreUnderOwn rules → ((m : ℕ) (r : RuleInfo) → Contains rules (m, r) → r.name ≡ name → m ≡ n)
    → rule_named name (filter (λ q. not (nat_eq n q.id)) (values_of rules)) ≡ None
others [] n name own only = refl
others ((m, r) ∷ rules) n name own only =
    others_by (filter (λ q. not (nat_eq n q.id)) (values_of rules)) r n name (nat_eq n r.id) (bytes_eq name r.name) refl refl
    (λ same. sym (only m r (contains_here (m, r) rules) same) ∙ own_first (m, r) rules own)
    (others rules n name (own_rest (m, r) rules own) (λ k h c. only k h (contains_there (m, r) (k, h) rules c)))

-- no other rule has the name of one
pub no_other : (rules : NumberedRules) (rs : List RuleInfo) (find : List ℕ → Option ℕ) (n : ℕ) (name : List ℕ) (found : Option (Bor RuleInfo)) → IsTable rules find → values_of rules ≡ rs → find name ≡ Some n
    → option_copied found ≡ lookup (is_at (nat_cmp n)) rules → IfSome found (λ r. rule_named name (filter (λ q. not (nat_eq r.now.id q.id)) rs) ≡ None)
no_other rules rs find n name None inv seen has at = tt
no_other rules rs find n name (Some r) inv seen has at =
    let is : n ≡ r.now.id = own_at rules n r.now inv.own (sym at) in
    let none : rule_named name (filter (λ q. not (nat_eq n q.id)) (values_of rules)) ≡ None = others rules n name inv.own (λ m s c same. only_one rules find n m name s inv has c same) in
    subst (λ it. rule_named name (filter (λ q. not (nat_eq r.now.id q.id)) it) ≡ None) seen (subst (λ k. rule_named name (filter (λ q. not (nat_eq k q.id)) (values_of rules)) ≡ None) is none)

not_named_first : (rules : NumberedRules) (r : RuleInfo) (name : List ℕ) (n : ℕ) (t u : Bool) → bytes_eq name r.name ≡ u → cond u (Some r) (rule_named name (values_of rules)) ≡ None
    → option_map (λ h. h.name) (cond t (Some r) (lookup (is_at (nat_cmp n)) rules)) ≡ Some name → (rule_named name (values_of rules) ≡ None → name_under (λ h. h.name) rules n ≢ Some name) → ⊥
not_named_first rules r name n t true e none at more = cc
not_named_first rules r name n true false e none at more =
    let same : r.name ≡ name = cc in
    let yes : bytes_eq name r.name ≡ true = (bytes_decides name r.name).1 (sym same) in
    cc
not_named_first rules r name n false false e none at more = more none at

-- no number leads to a name that no rule has
not_named : (rules : NumberedRules) (name : List ℕ) → rule_named name (values_of rules) ≡ None → (n : ℕ) → name_under (λ h. h.name) rules n ≢ Some name
not_named [] name none n at = cc
not_named ((m, r) ∷ rules) name none n at =
    not_named_first rules r name n (is_at (nat_cmp n) m) (bytes_eq name r.name) refl none at (λ h. not_named rules name h n)

-- a number greater than those of all rules comes after those that they stand under
after_of : (q : ℕ) (r : RuleInfo) (k : ℕ) → q ≡ r.id → r.id < k → nat_cmp k q ≡ Greater
after_of q r k own below = grind (arith, nat_tests)

after_all : (rules : NumberedRules) (k : ℕ) → AreUnderOwn rules → All (λ r. r.id < k) (values_of rules) → IsAfterEach rules k
after_all [] k own below = All-nil (λ q. nat_cmp k q ≡ Greater)
after_all ((q, r) ∷ rules) k own below =
    All-cons (λ i. nat_cmp k i ≡ Greater) q (keys_of rules) (after_of q r k (own_first (q, r) rules own) (All-head (λ h. h.id < k) r (values_of rules) below))
    (after_all rules k (own_rest (q, r) rules own) (All-tail (λ h. h.id < k) r (values_of rules) below))

-- a rule that may be added: its number comes after the others, and no number leads to its name
pub goes_after : (rules : NumberedRules) (rs : List RuleInfo) (k id : ℕ) → k ≡ id → values_of rules ≡ rs → AreUnderOwn rules → All (λ r. r.id < id) rs → IsAfterEach rules k
goes_after rules rs k id same seen own below =
    subst (IsAfterEach rules) (sym same) (after_all rules id own (subst (All (λ r. r.id < id)) (sym seen) below))

pub is_absent : (rules : NumberedRules) (rs : List RuleInfo) (name : List ℕ) → values_of rules ≡ rs → rule_named name rs ≡ None → (n : ℕ) → name_under (λ h. h.name) rules n ≢ Some name
is_absent rules rs name seen none = not_named rules name (ap (rule_named name) seen ∙ none)

-- a rule that is put after the others stands under its own number too
pub own-pushed : (rules : NumberedRules) (k : ℕ) (r : RuleInfo) → AreUnderOwn rules → k ≡ r.id → IsAfterEach rules k → AreUnderOwn (insert_entry nat_cmp rules k r)
own-pushed rules k r own is after =
    subst AreUnderOwn (sym (at_end rules k r after)) (All-append IsOwn rules ((k, r) ∷ []) own (All-cons IsOwn (k, r) [] is (All-nil IsOwn)))

own_left_by : (e : ℕ × RuleInfo) (rules left : NumberedRules) (t : Bool) → AreUnderOwn (e ∷ rules) → AreUnderOwn left → AreUnderOwn (cond t rules (e ∷ left))
own_left_by e rules left true own rest = own_rest e rules own
own_left_by e rules left false own rest = All-cons IsOwn e left (own_first e rules own) rest

-- so do those that are left
pub own-taken : (rules : NumberedRules) (test : ℕ → Bool) → AreUnderOwn rules → AreUnderOwn (remove_entry test rules)
own-taken [] test own = own
own-taken (e ∷ rules) test own = own_left_by e rules (remove_entry test rules) (test e.0) own (own-taken rules test (own_rest e rules own))

-- where no rule has the number, none is taken out
all_stay_by : (rs : List RuleInfo) (r : RuleInfo) (id : ℕ) (t : Bool) → cond t (Some r) (rule_numbered id rs) ≡ None → (rule_numbered id rs ≡ None → filter (λ h. not (nat_eq id h.id)) rs ≡ rs)
    → cond (not t) (r ∷ filter (λ h. not (nat_eq id h.id)) rs) (filter (λ h. not (nat_eq id h.id)) rs) ≡ r ∷ rs
all_stay_by rs r id true none more = absurd (cc)
all_stay_by rs r id false none more = ap (λ hs. r ∷ hs) (more none)

pub all_stay : (rs : List RuleInfo) (id : ℕ) → rule_numbered id rs ≡ None → filter (λ r. not (nat_eq id r.id)) rs ≡ rs
all_stay [] id none = refl
all_stay (r ∷ rs) id none = all_stay_by rs r id (nat_eq id r.id) none (all_stay rs id)

gone_after : (rules : NumberedRules) (k : ℕ) → All (λ q. nat_cmp k q ≡ Less) (keys_of rules) → lookup (is_at (nat_cmp k)) rules ≡ None
gone_after [] k after = refl
gone_after ((q, r) ∷ rules) k after =
    ap (λ o. cond (is_eq o) (Some r) (lookup (is_at (nat_cmp k)) rules)) (All-head (λ i. nat_cmp k i ≡ Less) q (keys_of rules) after)
    ∙ gone_after rules k (All-tail (λ i. nat_cmp k i ≡ Less) q (keys_of rules) after)

taken_by : (rules left : NumberedRules) (k : ℕ) (r : RuleInfo) (rest : List RuleInfo) (t u : Bool) → t ≡ u → (t ≡ true → values_of rules ≡ rest) → values_of left ≡ rest
    → values_of (cond t rules ((k, r) ∷ left)) ≡ cond (not u) (r ∷ rest) rest
taken_by rules left k r rest true true same here more = here refl
taken_by rules left k r rest true false same here more = absurd (cc)
taken_by rules left k r rest false true same here more = absurd (cc)
taken_by rules left k r rest false false same here more = ap (λ hs. r ∷ hs) more

others_stay : (rules : NumberedRules) (k id : ℕ) (r : RuleInfo) → AreUnderOwn ((k, r) ∷ rules) → IsStrictlySortedBy nat_cmp (keys_of ((k, r) ∷ rules)) → is_at (nat_cmp id) k ≡ true
    → values_of rules ≡ filter (λ h. not (nat_eq id h.id)) (values_of rules)
others_stay rules k id r own rising here =
    let is : k ≡ id = sym ((is_at-Decides id k).0 here) in
    let none : lookup (is_at (nat_cmp id)) rules ≡ None = subst (λ n. lookup (is_at (nat_cmp n)) rules ≡ None) is (gone_after rules k (All-after_first nat_cmp k (keys_of rules) rising)) in
    sym (all_stay (values_of rules) id (sym (at_number rules id (own_rest (k, r) rules own)) ∙ none))

-- the rule with a number is taken out
pub taken : (rules : NumberedRules) (id : ℕ) → AreUnderOwn rules → IsStrictlySortedBy nat_cmp (keys_of rules)
    → values_of (remove_entry (is_at (nat_cmp id)) rules) ≡ filter (λ r. not (nat_eq id r.id)) (values_of rules)
taken [] id own rising = refl
taken ((k, r) ∷ rules) id own rising =
    taken_by rules (remove_entry (is_at (nat_cmp id)) rules) k r (filter (λ h. not (nat_eq id h.id)) (values_of rules)) (is_at (nat_cmp id) k) (nat_eq id r.id)
    (test_is id k r (own_first (k, r) rules own)) (λ here. others_stay rules k id r own rising here)
    (taken rules id (own_rest (k, r) rules own) (sorted_tail nat_cmp k (keys_of rules) rising))
