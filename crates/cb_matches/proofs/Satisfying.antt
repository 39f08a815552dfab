-- The matches of a branch are those that satisfy its elements.
use Rattle.std.proofs.Common.{◌≡◌, ℕ, Bool, true, false, List, [], ◌∷◌, ◌++◌, Option, filter, inl, inr, refl, sym, ◌∙◌, ap, ap₂, subst}
use Rattle.std.proofs.lemmas.List.{append-nil, append_assoc}
use Rattle.std.specs.List.{Contains}
use Rattle.cb_constraints.specs.Bound.{newly_bound}
use Rattle.cb_constraints.specs.PatternValues.{PatternValue}
use Rattle.cb_exprs.specs.Bindings.{Bindings, with_variables}
use Rattle.cb_facts.specs.FactLists.{IndexedFacts}
use Rattle.cb_facts.specs.Facts.{FactValue}
use Rattle.cb_fit.specs.Related.{Fits}
use Rattle.cb_fit.specs.Ways.{WayValue, taken_way, ways}
use Rattle.cb_matches.specs.Keys.{PartValue}
use Rattle.cb_matches.specs.Laws.{IsAsked, Satisfies, SatisfiesOne, Takes}
use Rattle.cb_matches.proofs.Growth.{in_next, is_grown}
use Rattle.cb_matches.proofs.Indices.{AreRising, in_looked, looked_in}
use Rattle.cb_matches.proofs.Lists.{contains_in, filter_in, in_contains, in_filter}
use Rattle.cb_matches.specs.Chains.{In}
use Rattle.cb_matches.specs.Matches.{Partial, after, after_all, group_holds, grown, next, test_holds, with_address}
use Rattle.cb_rules.specs.Elements.{Element, pattern, test, group, Elements, no_elements, element}

-- what is cited of ways
abbrev pub Listed : Type 0
Listed = (p : PatternValue) (f : FactValue) (cuts : List ℕ) (before after : Bindings) → Fits p f cuts before after → Contains (ways p f before) (taken_way p before cuts after)

abbrev pub Fitting : Type 0
Fitting = (p : PatternValue) (f : FactValue) (before : Bindings) (w : WayValue) → Contains (ways p f before) w → (after : Bindings) × (Fits p f w.cuts before after) × (w ≡ taken_way p before w.cuts after)

abbrev pub Giving : Type 0
Giving = (p : PatternValue) (f : FactValue) (cuts : List ℕ) (before after : Bindings) → Fits p f cuts before after → with_variables (newly_bound p.parts before after) before ≡ after

-- a partial match with more parts, and what variables have then
abbrev onto : Partial → List PartValue → Bindings → Partial
onto m own env = record { parts = m.parts ++ own; env = env }

-- one of these, and what satisfies the rest from it on
abbrev Comes : List Partial → (List PartValue → Bindings → Bindings → Type 0) → Partial → Type 0
Comes ms satisfied z = (m : Partial) × (own : List PartValue) × In m ms × (z.parts ≡ m.parts ++ own) × satisfied own m.env z.env

-- both ways: a list of partial matches after something, and what satisfies it
abbrev IsSo : (List Partial → List Partial) → (List PartValue → Bindings → Bindings → Type 0) → Type 0
IsSo step satisfied =
    ((ms : List Partial) (z : Partial) → In z (step ms) → Comes ms satisfied z)
    × ((ms : List Partial) (m : Partial) (own : List PartValue) (env : Bindings) → In m ms → satisfied own m.env env → In (onto m own env) (step ms))

alone : (z m : Partial) → In z (m ∷ []) → z ≡ m
alone z m (inl e) = e
alone z m (inr h) = absurd h

same_partial : (m n : Partial) → m.parts ≡ n.parts → m.env ≡ n.env → m ≡ n
same_partial m n h k = ap₂ (λ (ps : List PartValue) (env : Bindings). record { parts = ps; env = env }) h k

-- a group, by what is in its list
asked : (positive : Bool) (all : List Partial) (claim : Type 0) → ((z : Partial) → In z all → claim) → (claim → (z : Partial) × In z all) → group_holds positive all ≡ true → IsAsked positive claim
asked true [] claim to from h = absurd (cc)
asked true (z ∷ zs) claim to from h = to z (inl refl)
asked false [] claim to from h = λ c. (from c).1
asked false (z ∷ zs) claim to from h = absurd (cc)

holds : (positive : Bool) (all : List Partial) (claim : Type 0) → ((z : Partial) → In z all → claim) → (claim → (z : Partial) × In z all) → IsAsked positive claim → group_holds positive all ≡ true
holds true [] claim to from h = absurd (from h).1
holds true (z ∷ zs) claim to from h = refl
holds false [] claim to from h = refl
holds false (z ∷ zs) claim to from h = absurd (h (to z (inl refl)))

-- of these those that pass, with nothing more
filtered : (passes : Partial → Bool) (satisfied : List PartValue → Bindings → Bindings → Type 0)
    → ((m : Partial) → passes m ≡ true → satisfied [] m.env m.env)
    → ((m : Partial) (own : List PartValue) (env : Bindings) → satisfied own m.env env → (own ≡ []) × (m.env ≡ env) × (passes m ≡ true))
    → IsSo (filter passes) satisfied
filtered passes satisfied to from = (
  λ ms z h. let kept = in_filter passes z ms h in (z, [], kept.0, sym (append-nil z.parts), to z kept.1),
  λ ms m own env h k. let is = from m own env k in
      subst (λ it. In it (filter passes ms)) (same_partial m (onto m own env) (sym (append-nil m.parts) ∙ ap (λ it. m.parts ++ it) (sym is.0)) is.1) (filter_in passes m ms h is.2),
)

-- nothing, and one element after another
nothing_more : IsSo (λ ms. ms) (λ parts before after. (parts ≡ []) × (before ≡ after))
nothing_more = (
  λ ms z h. (z, [], h, sym (append-nil z.parts), (refl, refl)),
  λ ms m own env h k. subst (λ it. In it ms) (same_partial m (onto m own env) (sym (append-nil m.parts) ∙ ap (λ it. m.parts ++ it) (sym k.0)) k.1) h,
)

module _ (listed : Listed) (fitting : Fitting) (giving : Giving) (fs : IndexedFacts) (rising : AreRising fs) where
  taken : (x : Option (List ℕ)) (p : PatternValue) → IsSo (next x p fs) (λ parts before after. (q : PartValue) × (parts ≡ q ∷ []) × Takes x p fs q before after)
  taken x p = (
    λ ms z h. let g = is_grown x p fs ms z h in
        let before = with_address x g.fact.0 g.parent.env in
        let w = fitting p g.fact.1 before g.way (in_contains g.way (ways p g.fact.1 before) g.way_in) in
        let env : z.env ≡ w.0 = ap (λ it. it.env) g.is ∙ (ap (λ it. with_variables it.bound before) w.2 ∙ giving p g.fact.1 g.way.cuts before w.0 w.1) in (
          g.parent,
          record { index = g.fact.0; cuts = g.way.cuts } ∷ [],
          g.parent_in,
          ap (λ it. it.parts) g.is,
          (record { index = g.fact.0; cuts = g.way.cuts }, refl, (g.fact.1, in_looked fs rising g.fact g.fact_in, subst (λ it. Fits p g.fact.1 g.way.cuts before it) (sym env) w.1)),
        ),
    λ ms m own env h k.
        let q : PartValue = k.0 in
        let f : FactValue = k.2.0 in
        let before = with_address x q.index m.env in
        let w = taken_way p before q.cuts env in
        let there = contains_in w (ways p f before) (listed p f q.cuts before env k.2.2) in
        subst (λ it. In it (next x p fs ms))
        (same_partial (grown x q.index m w) (onto m own env) (ap (λ it. m.parts ++ it) (sym k.1)) (giving p f q.cuts before env k.2.2))
        (in_next x p fs ms m (q.index, f) w h (looked_in fs q.index f k.2.1) there),
  )

  mutual
    one_is_so : (e : Element) → IsSo (after e fs) (SatisfiesOne e fs)
    one_is_so (pattern x p) = taken x p
    one_is_so (test t) = filtered (λ m. test_holds t m.env) (SatisfiesOne (test t) fs) (λ m h. (refl, refl, h)) (λ m own env k. (k.0, k.1, k.2))
    one_is_so (group positive inner) =
        let so : IsSo (after_all inner fs) (Satisfies inner fs) = all_is_so inner in
        let to : (m z : Partial) → In z (after_all inner fs (m ∷ [])) → (qs : List PartValue) × (within : Bindings) × Satisfies inner fs qs m.env within =
        λ m z h. let c = so.0 (m ∷ []) z h in (c.1, z.env, subst (λ it. Satisfies inner fs c.1 it.env z.env) (alone c.0 m c.2) c.4) in
        let from : (m : Partial) → (qs : List PartValue) × (within : Bindings) × Satisfies inner fs qs m.env within → (z : Partial) × In z (after_all inner fs (m ∷ [])) =
        λ m c. (onto m c.0 c.1, so.1 (m ∷ []) m c.0 c.1 (inl refl) c.2) in
        filtered (λ m. group_holds positive (after_all inner fs (m ∷ []))) (SatisfiesOne (group positive inner) fs)
        (λ m h. (refl, refl, asked positive (after_all inner fs (m ∷ [])) _ (to m) (from m) h))
        (λ m own env k. (k.0, k.1, holds positive (after_all inner fs (m ∷ [])) _ (to m) (from m) k.2))

    pub all_is_so : (es : Elements) → IsSo (after_all es fs) (Satisfies es fs)
    all_is_so no_elements = nothing_more
    all_is_so (element e es) =
        let one : IsSo (after e fs) (SatisfiesOne e fs) = one_is_so e in
        let more : IsSo (after_all es fs) (Satisfies es fs) = all_is_so es in (
          λ ms z h. let last = more.0 (after e fs ms) z h in
              let first = one.0 ms last.0 last.2 in (
                first.0,
                first.1 ++ last.1,
                first.2,
                last.3 ∙ (ap (λ it. it ++ last.1) first.3 ∙ append_assoc first.0.parts first.1 last.1),
                (first.1, last.1, last.0.env, refl, first.4, last.4),
              ),
          λ ms m own env h k.
              let mid = one.1 ms m k.0 k.2 h k.4 in
              let end = more.1 (after e fs ms) (onto m k.0 k.2) k.1 env mid k.5 in
              subst (λ it. In it (after_all es fs (after e fs ms)))
              (same_partial (onto (onto m k.0 k.2) k.1 env) (onto m own env) (append_assoc m.parts k.0 k.1 ∙ ap (λ it. m.parts ++ it) (sym k.3)) refl) end,
        )
