-- Each partial match goes on from one that was there before.
use Rattle.std.proofs.Common.{◌≡◌, ℕ, suc, Bool, List, [], ◌∷◌, ◌++◌, Option, filter, length, inl, inr, refl, sym, ◌∙◌, ap, ap₂, subst, arith}
use Rattle.std.proofs.lemmas.List.{append-nil, append_assoc}
use Rattle.cb_constraints.specs.PatternValues.{PatternValue}
use Rattle.cb_facts.specs.FactLists.{IndexedFacts}
use Rattle.cb_nodes.specs.Lists.{HaveParts}
use Rattle.cb_nodes.proofs.Grown.{moved, regrown}
use Rattle.cb_matches.specs.Keys.{PartValue}
use Rattle.cb_matches.proofs.Growth.{is_grown}
use Rattle.cb_matches.proofs.Lists.{chain_compares, filter_in, in_filter}
use Rattle.cb_matches.specs.Chains.{In}
use Rattle.cb_matches.specs.Order.{IsApart, IsOnce}
use Rattle.cb_matches.specs.Matches.{Partial, after, after_all, group_holds, next, test_holds}
use Rattle.cb_rules.specs.Elements.{Element, pattern, test, group, Elements, no_elements, element}

mutual
  -- more partial matches give more
  pub more_one : (e : Element) (fs : IndexedFacts) (ms ns : List Partial) → ((m : Partial) → In m ms → In m ns) → (z : Partial) → In z (after e fs ms) → In z (after e fs ns)
  more_one (pattern x p) fs ms ns h z k = moved x p fs fs ms ns (λ g i. i) h z k
  more_one (test t) fs ms ns h z k = let i = in_filter (λ m. test_holds t m.env) z ms k in filter_in (λ m. test_holds t m.env) z ns (h z i.0) i.1
  more_one (group positive inner) fs ms ns h z k =
      let i = in_filter (λ m. group_holds positive (after_all inner fs (m ∷ []))) z ms k in filter_in (λ m. group_holds positive (after_all inner fs (m ∷ []))) z ns (h z i.0) i.1

  pub more_all : (es : Elements) (fs : IndexedFacts) (ms ns : List Partial) → ((m : Partial) → In m ms → In m ns) → (z : Partial) → In z (after_all es fs ms) → In z (after_all es fs ns)
  more_all no_elements fs ms ns h z k = h z k
  more_all (element e es) fs ms ns h z k = more_all es fs (after e fs ms) (after e fs ns) (more_one e fs ms ns h) z k

-- the second list goes on from the first
abbrev pub Begins : List PartValue → List PartValue → Type 0
Begins ps qs = (rs : List PartValue) × (qs ≡ ps ++ rs)

begins_itself : (ps : List PartValue) → Begins ps ps
begins_itself ps = ([], sym (append-nil ps))

begins_trans : (ps qs rs : List PartValue) → Begins ps qs → Begins qs rs → Begins ps rs
begins_trans ps qs rs h k = (h.0 ++ k.0, k.1 ∙ (ap (λ it. it ++ k.0) h.1 ∙ append_assoc ps h.0 k.0))

-- one of these before, and what comes of it alone
abbrev pub Origin : List Partial → (Partial → List Partial) → Partial → Type 0
Origin ms f z = (m : Partial) × In m ms × In z (f m) × Begins m.parts z.parts

pub origin_one : (e : Element) (fs : IndexedFacts) (ms : List Partial) (z : Partial) → In z (after e fs ms) → Origin ms (λ m. after e fs (m ∷ [])) z
origin_one (pattern x p) fs ms z h =
    let k = is_grown x p fs ms z h in
    (k.parent, k.parent_in, regrown x p fs fs ms (k.parent ∷ []) z k (inl refl) k.fact_in, (record { index = k.fact.0; cuts = k.way.cuts } ∷ [], ap (λ it. it.parts) k.is))
origin_one (test t) fs ms z h =
    let i = in_filter (λ m. test_holds t m.env) z ms h in (z, i.0, filter_in (λ m. test_holds t m.env) z (z ∷ []) (inl refl) i.1, begins_itself z.parts)
origin_one (group positive inner) fs ms z h =
    let i = in_filter (λ m. group_holds positive (after_all inner fs (m ∷ []))) z ms h in
    (z, i.0, filter_in (λ m. group_holds positive (after_all inner fs (m ∷ []))) z (z ∷ []) (inl refl) i.1, begins_itself z.parts)

pub only_one : (y : Partial) (ms : List Partial) → In y ms → (m : Partial) → In m (y ∷ []) → In m ms
only_one y ms h m (inl e) = subst (λ it. In it ms) (sym e) h
only_one y ms h m (inr k) = absurd k

pub origin_all : (es : Elements) (fs : IndexedFacts) (ms : List Partial) (z : Partial) → In z (after_all es fs ms) → Origin ms (λ m. after_all es fs (m ∷ [])) z
origin_all no_elements fs ms z h = (z, h, inl refl, begins_itself z.parts)
origin_all (element e es) fs ms z h =
    let y = origin_all es fs (after e fs ms) z h in
    let m = origin_one e fs ms y.0 y.1 in
    (m.0, m.1, more_all es fs (y.0 ∷ []) (after e fs (m.0 ∷ [])) (only_one y.0 (after e fs (m.0 ∷ [])) m.2) z y.2, begins_trans m.0.parts y.0.parts z.parts m.3 y.3)

-- two beginnings of one list that are as long are one
pub same_begin : (ps qs rs : List PartValue) → length ps ≡ length qs → Begins ps rs → Begins qs rs → ps ≡ qs
same_begin [] [] rs e h k = refl
same_begin [] (q ∷ qs) rs e h k = absurd (omega (arith, e))
same_begin (p ∷ ps) [] rs e h k = absurd (omega (arith, e))
same_begin (p ∷ ps) (q ∷ qs) [] e h k = cc
same_begin (p ∷ ps) (q ∷ qs) (r ∷ rs) e h k =
    let first : p ≡ q = cc in
    let h' : rs ≡ ps ++ h.0 = cc in
    let k' : rs ≡ qs ++ k.0 = cc in
    ap₂ (λ (x : PartValue) (xs : List PartValue). x ∷ xs) first (same_begin ps qs rs (omega (arith, e)) (h.0, h') (k.0, k'))

-- of a list without doubles two with the same parts are one
pub one_by_parts : (ms : List Partial) → IsOnce ms → (m n : Partial) → In m ms → In n ms → m.parts ≡ n.parts → m ≡ n
one_by_parts ms once m n h i e = elim (chain_compares IsApart ms once m n h i) as (λ _. m ≡ n) [
  | inl j ↦ j
  | inr j ↦ elim j as (λ _. m ≡ n) [ inl k ↦ absurd (k e) | inr k ↦ absurd (k (sym e)) ]
]

-- what goes on from a partial match comes of it alone
pub of_that_alone : (es : Elements) (fs : IndexedFacts) (ms : List Partial) (n : ℕ) → HaveParts n ms → IsOnce ms → (b z : Partial) → In b ms
    → In z (after_all es fs ms) → Begins b.parts z.parts → In z (after_all es fs (b ∷ []))
of_that_alone es fs ms n long once b z h k i =
    let m = origin_all es fs ms z k in
    let e : m.0 ≡ b = one_by_parts ms once m.0 b m.1 h (same_begin m.0.parts b.parts z.parts (long m.0 m.1 ∙ sym (long b h)) m.3 i) in
    subst (λ it. In z (after_all es fs (it ∷ []))) e m.2

long_next : (p : PartValue) (ps : List PartValue) → length (ps ++ p ∷ []) ≡ suc (length ps)
long_next p [] = refl
long_next p (q ∷ ps) = ap suc (long_next p ps)

-- a pattern adds a part
pub long_pattern : (x : Option (List ℕ)) (p : PatternValue) (fs : IndexedFacts) (n : ℕ) (ms : List Partial) → HaveParts n ms → HaveParts (suc n) (next x p fs ms)
long_pattern x p fs n ms long z h =
    let k = is_grown x p fs ms z h in ap (λ it. length it.parts) k.is ∙ (long_next (record { index = k.fact.0; cuts = k.way.cuts }) k.parent.parts ∙ ap suc (long k.parent k.parent_in))

-- what is left out takes none away
pub long_filter : (t : Partial → Bool) (n : ℕ) (ms : List Partial) → HaveParts n ms → HaveParts n (filter t ms)
long_filter t n ms long z h = long z (in_filter t z ms h).0
