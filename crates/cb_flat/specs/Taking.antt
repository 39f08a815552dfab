-- The nodes of a branch that a fact can concern.
use Rattle.std.specs.Prelude.{◌≡◌, ◌+◌, ℕ, Bool, false, List, [], ◌∷◌, All}
use Rattle.cb_facts.specs.Facts.{FactValue}
use Rattle.cb_nodes.specs.Flat.{FlatNode, alone, grouping, joining, testing}
use Rattle.cb_fit.specs.Shapes.{is_selected}

-- the node is a pattern that the fact is selected for
abbrev pub takes : ℕ × FactValue → FlatNode → Bool
takes f (joining from x p ts) = is_selected p f.1
takes f (testing from t) = false
takes f (grouping from inner positive width) = false
takes f (alone from p positive) = is_selected p f.1

-- none of several is
abbrev pub NoneTakes : ℕ × FactValue → List FlatNode → Type 0
NoneTakes f ns = All (λ n. takes f n ≡ false) ns

-- how many patterns a node has
abbrev pub patterns_of : FlatNode → ℕ
patterns_of (joining from x p ts) = 1
patterns_of (testing from t) = 0
patterns_of (grouping from inner positive width) = 0
patterns_of (alone from p positive) = 1

-- the same of several
abbrev pub pattern_count : List FlatNode → ℕ
pattern_count [] = 0
pattern_count (n ∷ ns) = patterns_of n + pattern_count ns
