-- Numbers of rules.
use Rattle.std.proofs.Common.{◌≡◌, ◌+◌, ◌≤◌, ℕ, Bool, true, false, List, [], ◌∷◌, ◌++◌, ◌||◌, ap, arith, rules, cond, not, nat_eq, refl, subst, sym, ◌∙◌}
use Rattle.std.proofs.lemmas.List.Elements.{All-append, All-cons, All-filter, All-map}
use Rattle.std.specs.BTreeMap.{is_at}
use Rattle.std.specs.BTreeSet.{insert_key}
use Rattle.std.specs.List.{All, filter, list_any}
use Rattle.std.specs.List.Sorted.{IsStrictlySortedBy}
use Rattle.std.specs.Map.{keys_of}
use Rattle.std.specs.Ordering.{nat_cmp}
use Rattle.std.specs.Set.{remove_key}
use Rattle.cb_knowledge_base.proofs.NumberLaws.{at_end, taken}
use Rattle.cb_knowledge_base.specs.Internal.WorkingMemories.{AreKept, AreRulesUpTo, without_rules}
use Rattle.cb_rules.specs.Elements.{Elements}
use Rattle.cb_matches.specs.Changes.{IsAbove}
use Rattle.cb_matches.specs.Networks.{Conditions, Network, empty_network, with_rule, without_rule}
use Rattle.cb_facts.specs.RelationCounts.{Counts, IsEmpty}
use Rattle.cb_matches.specs.Networks as network

pub above : (last : ℕ) (rules : Conditions) → AreRulesUpTo last rules → IsAbove (last + 1) rules
above last rules h = λ k d lt. let below = h k d lt in omega arith

more : (n m : ℕ) (rules : Conditions) → n ≤ m → AreRulesUpTo n rules → AreRulesUpTo m rules
more n m rules le h = λ k d lt. let below = h k d lt in omega arith

pub added : (last : ℕ) (branches : List Elements) (rules : Conditions) → AreRulesUpTo last rules → AreRulesUpTo (last + 1) (rules ++ (last + 1, branches) ∷ [])
added last branches rules h =
    let one : AreRulesUpTo (last + 1) ((last + 1, branches) ∷ []) = All-cons (λ r. r.0 ≤ last + 1) (last + 1, branches) [] (omega arith) (λ k d lt. absurd (omega arith)) in
    All-append (λ r. r.0 ≤ last + 1) rules ((last + 1, branches) ∷ []) (more last (last + 1) rules (omega arith) h) one

pub none_above : (last : ℕ) → AreRulesUpTo last []
none_above last = λ k d lt. absurd (omega arith)

pub added_keys : (id : ℕ) (branches : List Elements) (rules : Conditions) → keys_of (rules ++ (id, branches) ∷ []) ≡ keys_of rules ++ id ∷ []
added_keys id branches [] = refl
added_keys id branches (r ∷ rs) = ap (λ ks. r.0 ∷ ks) (added_keys id branches rs)

pub kept : (last id : ℕ) (rules : Conditions) → AreRulesUpTo last rules → AreRulesUpTo last (filter (λ r. not (nat_eq id r.0)) rules)
kept last id rules h = All-filter (λ r. not (nat_eq id r.0)) (λ r. r.0 ≤ last) rules h

keys_by : (b : Bool) (r : ℕ × List Elements) (rs : Conditions) (ks : List ℕ) → keys_of rs ≡ ks → keys_of (cond b (r ∷ rs) rs) ≡ cond b (r.0 ∷ ks) ks
keys_by true r rs ks e = ap (λ it. r.0 ∷ it) e
keys_by false r rs ks e = e

pub kept_keys : (id : ℕ) (rules : Conditions) → keys_of (filter (λ r. not (nat_eq id r.0)) rules) ≡ filter (λ n. not (nat_eq id n)) (keys_of rules)
kept_keys id [] = refl
kept_keys id (r ∷ rs) = keys_by (not (nat_eq id r.0)) r (filter (λ r. not (nat_eq id r.0)) rs) (filter (λ n. not (nat_eq id n)) (keys_of rs)) (kept_keys id rs)

-- all of a network's rules go by their numbers
abbrev AreAmong : List ℕ → Conditions → Type 0
AreAmong ids [] = Unit {0}
AreAmong ids (r ∷ rs) = (list_any (nat_eq r.0) ids ≡ true) × AreAmong ids rs

one_goes : (b c : Bool) (r : ℕ × List Elements) (rs : Conditions) (ids : List ℕ) → (c || list_any (nat_eq r.0) ids) ≡ true → c ≡ b → AreAmong ids rs → AreAmong ids (cond (not b) (r ∷ rs) rs)
one_goes true c r rs ids h e more = more
one_goes false true r rs ids h e more = absurd (cc)
one_goes false false r rs ids h e more = (h, more)

nat_eq_turned : (n m : ℕ) → nat_eq n m ≡ nat_eq m n
nat_eq_turned n m = search rules

some_go : (id : ℕ) (ids : List ℕ) (rs : Conditions) → AreAmong (id ∷ ids) rs → AreAmong ids (filter (λ r. not (nat_eq id r.0)) rs)
some_go id ids [] h = h
some_go id ids (r ∷ rs) h = one_goes (nat_eq id r.0) (nat_eq r.0 id) r (filter (λ r. not (nat_eq id r.0)) rs) ids h.0 (nat_eq_turned r.0 id) (some_go id ids rs h.1)

none_left : (rs : Conditions) → AreAmong [] rs → rs ≡ []
none_left [] h = refl
none_left (r ∷ rs) h = absurd (cc)

all_go : (ids : List ℕ) (n : Network) → AreAmong ids n.rules → without_rules ids n ≡ record { rules = []; facts = n.facts }
all_go [] n h = ap (λ (rs : Conditions). record { rules = rs; facts = n.facts }) (none_left n.rules h)
all_go (id ∷ ids) n h = all_go ids (without_rule id n) (some_go id ids n.rules h)

wider : (id : ℕ) (ids : List ℕ) (rs : Conditions) → AreAmong ids rs → AreAmong (id ∷ ids) rs
wider id ids [] h = h
wider id ids (r ∷ rs) h = (search rules, wider id ids rs h.1)

their_own : (rs : Conditions) → AreAmong (keys_of rs) rs
their_own [] = tt
their_own (r ∷ rs) = (search rules, wider r.0 (keys_of rs) rs (their_own rs))

pub without_all : (n : Network) → without_rules (keys_of n.rules) n ≡ record { rules = []; facts = n.facts }
without_all n = all_go (keys_of n.rules) n (their_own n.rules)

-- what fits where nothing is left
pub kept_empty : (counts : Counts) (numbers : List ℕ) (last last_rule : ℕ) (n : Network) → IsEmpty counts → IsStrictlySortedBy nat_cmp numbers → numbers ≡ [] → n ≡ empty_network
    → AreKept counts numbers last last_rule n
kept_empty counts numbers last last_rule n empty rising none e =
    subst (AreKept counts numbers last last_rule) (sym e) (record { indices = tt; counted = λ q. empty q; rising = rising; numbered = none; rules = none_above last_rule })

pub kept_restarted : (old counts : Counts) (numbers : List ℕ) (last last_rule : ℕ) (n m : Network) → AreKept old numbers last last_rule n → IsEmpty counts → m ≡ network.restarted n → AreKept counts numbers 0 last_rule m
kept_restarted old counts numbers last last_rule n m h empty e =
    subst (AreKept counts numbers 0 last_rule) (sym e) (record { indices = tt; counted = λ q. empty q; rising = h.rising; numbered = h.numbered; rules = h.rules })

keys_up_to : (last_rule : ℕ) (rules : Conditions) → AreRulesUpTo last_rule rules → All (λ k. k ≤ last_rule) (keys_of rules)
keys_up_to last_rule rules h = All-map (λ k. k ≤ last_rule) (λ r. r.0) rules h

pub kept_added : (counts : Counts) (numbers more : List ℕ) (last last_rule : ℕ) (branches : List Elements) (n m : Network) → AreKept counts numbers last last_rule n
    → more ≡ insert_key nat_cmp numbers (last_rule + 1) → IsStrictlySortedBy nat_cmp more → m ≡ with_rule (last_rule + 1) branches n → AreKept counts more last (last_rule + 1) m
kept_added counts numbers more last last_rule branches n m h p rising e =
    let up_to = subst (All (λ k. k ≤ last_rule)) (sym h.numbered) (keys_up_to last_rule n.rules h.rules) in
    subst (AreKept counts more last (last_rule + 1)) (sym e) (record {
      indices = h.indices;
      counted = h.counted;
      rising = rising;
      numbered = p ∙ (at_end numbers last_rule up_to ∙ (ap (λ (ks : List ℕ). ks ++ (last_rule + 1) ∷ []) h.numbered ∙ sym (added_keys (last_rule + 1) branches n.rules)));
      rules = added last_rule branches n.rules h.rules;
    })

pub kept_dropped : (counts : Counts) (numbers less : List ℕ) (last last_rule id : ℕ) (n m : Network) → AreKept counts numbers last last_rule n
    → less ≡ remove_key (is_at (nat_cmp id)) numbers → IsStrictlySortedBy nat_cmp less → m ≡ without_rule id n → AreKept counts less last last_rule m
kept_dropped counts numbers less last last_rule id n m h p rising e =
    subst (AreKept counts less last last_rule) (sym e) (record {
      indices = h.indices;
      counted = h.counted;
      rising = rising;
      numbered = p ∙ (taken numbers id h.rising ∙ (ap (λ (ks : List ℕ). filter (λ k. not (nat_eq id k)) ks) h.numbered ∙ sym (kept_keys id n.rules)));
      rules = kept last_rule id n.rules h.rules;
    })

pub all_gone : (numbers : List ℕ) (n dropped m : Network) → numbers ≡ keys_of n.rules → dropped ≡ without_rules numbers n → m ≡ network.restarted dropped → m ≡ empty_network
all_gone numbers n dropped m e d r = r ∙ (ap network.restarted (d ∙ (ap (λ (ks : List ℕ). without_rules ks n) e ∙ without_all n)))
