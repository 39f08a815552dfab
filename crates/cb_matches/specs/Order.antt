-- The order of partial matches.
use Rattle.std.specs.Prelude.{◌≡◌, ◌≢◌, ◌<◌, ◌⊎◌, ℕ, List, [], ◌∷◌}
use Rattle.std.specs.Cmp.Lexicographic.{slice_cmp}
use Rattle.std.specs.Ordering.{nat_cmp}
use Rattle.std.specs.declared.cmp.Ordering.TheVariants.{Less}
use Rattle.cb_constraints.specs.PatternValues.{PatternValue}
use Rattle.cb_exprs.specs.Bindings.{Bindings}
use Rattle.cb_facts.specs.FactLists.{IndexedFacts}
use Rattle.cb_facts.specs.Facts.{FactValue}
use Rattle.cb_fit.specs.Ways.{WayValue, ways}
use Rattle.cb_matches.specs.Chains.{Chain}
use Rattle.cb_matches.specs.Keys.{PartValue, part_cmp}
use Rattle.cb_matches.specs.Matches.{Partial}

-- both have a part where they first differ, and the first has the lower one
abbrev pub IsEarlier : List PartValue → List PartValue → Type 0
IsEarlier [] qs = ⊥
IsEarlier (p ∷ ps) [] = ⊥
IsEarlier (p ∷ ps) (q ∷ qs) = (part_cmp p q ≡ Less) ⊎ ((p ≡ q) × IsEarlier ps qs)

abbrev pub IsAhead : Partial → Partial → Type 0
IsAhead m n = IsEarlier m.parts n.parts

abbrev pub IsApart : Partial → Partial → Type 0
IsApart m n = m.parts ≢ n.parts

-- in the order of keys
abbrev pub IsSorted : List Partial → Type 0
IsSorted ms = Chain IsAhead ms

-- none twice, in any order
abbrev pub IsOnce : List Partial → Type 0
IsOnce ms = Chain IsApart ms

-- the indices rise
abbrev pub IsRising : IndexedFacts → Type 0
IsRising fs = Chain (λ (f : ℕ × FactValue) (g : ℕ × FactValue). f.0 < g.0) fs

-- the ways of a pattern and a fact come in rising cuts
abbrev pub WaysRise : Type 0
WaysRise = (p : PatternValue) (f : FactValue) (before : Bindings) → Chain (λ (v : WayValue) (w : WayValue). slice_cmp nat_cmp v.cuts w.cuts ≡ Less) (ways p f before)
