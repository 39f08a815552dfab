-- The lists of partial matches that the nodes of a branch make.
use Rattle.std.specs.Prelude.{◌≡◌, ◌<◌, ℕ, Bool, List, [], ◌∷◌, length, map, take}
use Rattle.cb_facts.specs.FactLists.{IndexedFacts}
use Rattle.cb_nodes.specs.Flat.{FlatNode, AreLists, AreWidths, Lists, lists_of, joining, testing, grouping, alone, begins, holds_by}
use Rattle.cb_matches.specs.Chains.{In}
use Rattle.cb_matches.specs.Matches.{Partial, no_parts}
use Rattle.std.specs.List.{list_any}
use Rattle.cb_matches.specs.Keys.{PartValue}

-- each of these has so many parts
abbrev pub HaveParts : ℕ → List Partial → Type 0
HaveParts n ms = (m : Partial) → In m ms → length m.parts ≡ n

-- the lists of partial matches of a branch
abbrev pub branch_lists : List FlatNode → IndexedFacts → Lists
branch_lists ns fs = lists_of ns fs (no_parts ∷ [])

-- the nodes are those of a branch: each names lists before its own, and these have widths
pub record AreWhole (ns : List FlatNode) : Type 0 where
  pub widths : (ws : ℕ → ℕ) × AreWidths ns ws
  pub lists : (fs : IndexedFacts) (first : List Partial) → AreLists ns fs first (lists_of ns fs first)

-- the group holds for m, where these are complete
abbrev pub group_with : Bool → List Partial → Partial → Bool
group_with positive complete m = holds_by positive (list_any (begins m.parts) complete)

-- the first parts of each
abbrev pub beginnings : ℕ → List Partial → List (List PartValue)
beginnings n ms = map (λ m. take n m.parts) ms

-- the node goes on from lists with smaller numbers
abbrev pub NamesListsBelow : ℕ → FlatNode → Type 0
NamesListsBelow k (joining from x p ts) = from < k
NamesListsBelow k (testing from t) = from < k
NamesListsBelow k (grouping from inner positive width) = (from < k) × (inner < k)
NamesListsBelow k (alone from p positive) = from < k

-- the group's width is that of the list before it
abbrev pub HasWidth : (ℕ → ℕ) → FlatNode → Type 0
HasWidth ws (joining from x p ts) = Unit {0}
HasWidth ws (testing from t) = Unit {0}
HasWidth ws (grouping from inner positive width) = width ≡ ws from
HasWidth ws (alone from p positive) = Unit {0}
