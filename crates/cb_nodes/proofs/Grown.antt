-- Partial matches that go on at a pattern, with their parents and their facts among others.
use Rattle.std.proofs.Common.{◌≡◌, AllPairs, ℕ, ◌&&◌, not, Bool, true, false, List, Option, sym, ◌∙◌, ap, ap₂, refl, subst}
use Rattle.std.specs.Cmp.Lexicographic.{slice_cmp}
use Rattle.std.specs.Ordering.{nat_cmp}
use Rattle.std.specs.declared.cmp.Ordering.TheVariants.{Less}
use Rattle.cb_constraints.specs.PatternValues.{PatternValue}
use Rattle.cb_exprs.specs.Bindings.{Bindings}
use Rattle.cb_facts.specs.FactLists.{IndexedFacts}
use Rattle.cb_facts.specs.Facts.{FactValue}
use Rattle.cb_fit.specs.Ways.{WayValue, ways}
use Rattle.cb_matches.proofs.Lists.{chain_from_pairs}
use Rattle.cb_matches.specs.Chains.{In}
use Rattle.cb_matches.specs.Order.{WaysRise}
use Rattle.cb_matches.proofs.PartOrder.{part, same_last}
use Rattle.cb_matches.proofs.Growth.{Fact, IsGrown, in_next, is_grown}
use Rattle.cb_matches.specs.Matches.{Partial, next}

-- the ways of a pattern and a fact rise, from the law that says so by places
pub ways_rise : ((p : PatternValue) (f : FactValue) (before : Bindings)
    → AllPairs (λ (v : WayValue) (w : WayValue). slice_cmp nat_cmp v.cuts w.cuts ≡ Less) (ways p f before)) → WaysRise
ways_rise law p f before =
    chain_from_pairs (λ (v : WayValue) (w : WayValue). slice_cmp nat_cmp v.cuts w.cuts ≡ Less) (ways p f before) (law p f before)

-- with its parent and its fact among others
pub regrown : (x : Option (List ℕ)) (p : PatternValue) (fs gs : IndexedFacts) (ms ns : List Partial) (z : Partial) (k : IsGrown x p fs ms z) → In k.parent ns → In k.fact gs → In z (next x p gs ns)
regrown x p fs gs ms ns z k h i = subst (λ it. In it (next x p gs ns)) (sym k.is) (in_next x p gs ns k.parent k.fact k.way h i k.way_in)

-- what holds of more facts and more partial matches
pub moved : (x : Option (List ℕ)) (p : PatternValue) (fs gs : IndexedFacts) (ms ns : List Partial)
    → ((g : Fact) → In g fs → In g gs) → ((m : Partial) → In m ms → In m ns) → (z : Partial) → In z (next x p fs ms) → In z (next x p gs ns)
moved x p fs gs ms ns facts begun z h = let k = is_grown x p fs ms z h in regrown x p fs gs ms ns z k (begun k.parent k.parent_in) (facts k.fact k.fact_in)

-- partial matches with the same parts go on from such, by one fact
pub same_parents : (x : Option (List ℕ)) (p : PatternValue) (fs gs : IndexedFacts) (ms ns : List Partial) (z y : Partial) (k : IsGrown x p fs ms z) (l : IsGrown x p gs ns y)
    → z.parts ≡ y.parts → (k.parent.parts ≡ l.parent.parts) × (k.fact.0 ≡ l.fact.0)
same_parents x p fs gs ms ns z y k l e =
    let both = same_last k.parent.parts l.parent.parts (part k.fact.0 k.way.cuts) (part l.fact.0 l.way.cuts) (sym (ap (λ it. it.parts) k.is) ∙ (e ∙ ap (λ it. it.parts) l.is)) in
    (both.0, ap (λ it. it.index) both.1)

pub and_both : (a b : Bool) → a ≡ true → b ≡ true → (a && b) ≡ true
and_both a b h k = ap₂ (λ x y. x && y) h k

pub and_first : (a b : Bool) → (a && b) ≡ true → a ≡ true
and_first true b h = refl
and_first false b h = h

pub and_second : (a b : Bool) → (a && b) ≡ true → b ≡ true
and_second true b h = h
and_second false b h = absurd (cc)

pub not_true : (a : Bool) → a ≡ true → not a ≡ true → ⊥
not_true true h k = cc
not_true false h k = cc
