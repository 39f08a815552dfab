-- The matches of all rules are those that satisfy a branch of one.
use Rattle.std.proofs.Common.{◌≡◌, ℕ, ◌+◌, zero, suc, List, [], ◌∷◌, ◌++◌, Some, map, inl, inr, refl, sym, ◌∙◌, ap, subst, arith}
use Rattle.std.specs.List.{Contains, slice_get}
use Rattle.cb_exprs.specs.Bindings.{Bindings, no_bindings}
use Rattle.cb_facts.specs.FactLists.{IndexedFacts}
use Rattle.cb_matches.proofs.Satisfying.{Fitting, Giving, Listed, all_is_so}
use Rattle.cb_matches.specs.Keys.{KeyValue, PartValue}
use Rattle.cb_matches.specs.Laws.{IsInOrder, IsMatch, Satisfies}
use Rattle.cb_matches.proofs.Indices.{rising_keys}
use Rattle.cb_matches.proofs.Lists.{contains_in, flat_in, in_contains, in_either, in_flat, in_left, in_map, in_right, map_in}
use Rattle.cb_matches.specs.Chains.{In}
use Rattle.cb_matches.specs.Matches.{Partial, matches_of, no_parts}
use Rattle.cb_matches.specs.Networks.{Network, all_matches, branch_matches, keyed, rule_matches}
use Rattle.cb_rules.specs.Elements.{Elements}

-- a match of the branches from a place on: which branch it is of, and the partial match at its end
pub record IsListed (rule n : ℕ) (branches : List Elements) (fs : IndexedFacts) (z : KeyValue × Bindings) : Type 0 where
  pub place : ℕ
  pub branch : Elements
  pub found : slice_get branches place ≡ Some branch
  pub whole : Partial
  pub there : In whole (matches_of branch fs)
  pub is : z ≡ keyed rule (n + place) whole

pub is_listed : (rule n : ℕ) (branches : List Elements) (fs : IndexedFacts) (z : KeyValue × Bindings) → In z (branch_matches rule n branches fs) → IsListed rule n branches fs z
is_listed rule n [] fs z h = absurd h
is_listed rule n (es ∷ more) fs z h = elim (in_either z (map (keyed rule n) (matches_of es fs)) (branch_matches rule (n + 1) more fs) h) as (λ _. IsListed rule n (es ∷ more) fs z) [
  | inl i ↦ let m = in_map (keyed rule n) z (matches_of es fs) i in
      let e : n ≡ n + 0 = omega (arith) in
      record { place = 0; branch = es; found = refl; whole = m.0; there = m.1; is = m.2 ∙ ap (λ it. keyed rule it m.0) e }
  | inr i ↦ let l = is_listed rule (n + 1) more fs z i in
      let e : n + 1 + l.place ≡ n + suc l.place = omega (arith) in
      record { place = suc l.place; branch = l.branch; found = l.found; whole = l.whole; there = l.there; is = l.is ∙ ap (λ it. keyed rule it l.whole) e }
]

listed_in : (rule n : ℕ) (branches : List Elements) (fs : IndexedFacts) (place : ℕ) (es : Elements) (m : Partial) → slice_get branches place ≡ Some es → In m (matches_of es fs)
    → In (keyed rule (n + place) m) (branch_matches rule n branches fs)
listed_in rule n [] fs place es m h i = cc
listed_in rule n (b ∷ bs) fs zero es m h i =
    let same : b ≡ es = cc in
    let e : n ≡ n + 0 = omega (arith) in
    subst (λ it. In (keyed rule it m) (branch_matches rule n (b ∷ bs) fs)) e
    (in_left (keyed rule n m) (map (keyed rule n) (matches_of b fs)) (branch_matches rule (n + 1) bs fs) (map_in (keyed rule n) (matches_of b fs) m (subst (λ it. In m (matches_of it fs)) (sym same) i)))
listed_in rule n (b ∷ bs) fs (suc place) es m h i =
    let e : n + 1 + place ≡ n + suc place = omega (arith) in
    subst (λ it. In (keyed rule it m) (branch_matches rule n (b ∷ bs) fs)) e
    (in_right (keyed rule (n + 1 + place) m) (map (keyed rule n) (matches_of b fs)) (branch_matches rule (n + 1) bs fs) (listed_in rule (n + 1) bs fs place es m h i))

abbrev pair : ℕ → ℕ → List PartValue → Bindings → KeyValue × Bindings
pair rule branch parts env = (record { rule = rule; branch = branch; parts = parts }, env)

module _ (listed : Listed) (fitting : Fitting) (giving : Giving) where
  satisfies_branch : (es : Elements) (n : Network) → IsInOrder n → (m : Partial) → In m (matches_of es n.facts) → Satisfies es n.facts m.parts no_bindings m.env
  unfolding matches_of
  satisfies_branch es n order m h =
      let c = (all_is_so listed fitting giving n.facts (rising_keys n.facts order.facts) es).0 (no_parts ∷ []) m h in
      let first : c.0 ≡ no_parts = elim c.2 as (λ _. c.0 ≡ no_parts) [ inl e ↦ e | inr i ↦ absurd i ] in
      let parts : m.parts ≡ c.1 = c.3 ∙ ap (λ it. it.parts ++ c.1) first in
      subst (λ it. Satisfies es n.facts it no_bindings m.env) (sym parts) (subst (λ it. Satisfies es n.facts c.1 it.env m.env) first c.4)

  branch_satisfied : (es : Elements) (n : Network) → IsInOrder n → (parts : List PartValue) (env : Bindings) → Satisfies es n.facts parts no_bindings env → In (record { parts = parts; env = env }) (matches_of es n.facts)
  unfolding matches_of
  branch_satisfied es n order parts env h = (all_is_so listed fitting giving n.facts (rising_keys n.facts order.facts) es).1 (no_parts ∷ []) no_parts parts env (inl refl) h

  pub satisfying : (n : Network) (k : KeyValue) (env : Bindings) → IsInOrder n → Contains (all_matches n) (k, env) → IsMatch n k env
  unfolding all_matches
  satisfying n k env order h =
      let r = in_flat (rule_matches n.facts) (k, env) n.rules (contains_in (k, env) (all_matches n) h) in
      let l = is_listed r.0.0 0 r.0.1 n.facts (k, env) r.2 in
      let rule : k.rule ≡ r.0.0 = ap (λ it. it.0.rule) l.is in
      let place : k.branch ≡ l.place = ap (λ it. it.0.branch) l.is ∙ omega (arith) in
      let parts : k.parts ≡ l.whole.parts = ap (λ it. it.0.parts) l.is in
      let env_is : env ≡ l.whole.env = ap (λ it. it.1) l.is in
      let s = satisfies_branch l.branch n order l.whole l.there in (
        r.0.1,
        l.branch,
        in_contains (k.rule, r.0.1) n.rules (subst (λ it. In (it, r.0.1) n.rules) (sym rule) r.1),
        subst (λ it. slice_get r.0.1 it ≡ Some l.branch) (sym place) l.found,
        subst (λ it. Satisfies l.branch n.facts it no_bindings env) (sym parts) (subst (λ it. Satisfies l.branch n.facts l.whole.parts no_bindings it) (sym env_is) s),
      )

  pub all_listed : (n : Network) (k : KeyValue) (env : Bindings) → IsInOrder n → IsMatch n k env → Contains (all_matches n) (k, env)
  unfolding all_matches
  all_listed n k env order h =
      let m : Partial = record { parts = k.parts; env = env } in
      let i = listed_in k.rule 0 h.0 n.facts k.branch h.1 m h.3 (branch_satisfied h.1 n order k.parts env h.4) in
      let e : 0 + k.branch ≡ k.branch = omega (arith) in
      let same : keyed k.rule (0 + k.branch) m ≡ pair k.rule k.branch k.parts env = ap (λ it. pair k.rule it k.parts env) e in
      in_contains (k, env) (all_matches n)
      (flat_in (rule_matches n.facts) (k, env) n.rules (k.rule, h.0) (contains_in (k.rule, h.0) n.rules h.2) (subst (λ it. In it (branch_matches k.rule 0 h.0 n.facts)) same i))
