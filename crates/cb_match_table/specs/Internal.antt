-- What only the code needs.
use Rattle.std.specs.Prelude.{◌≡◌, ◌≢◌, ◌⊎◌, ℕ, Option, Some}
use Rattle.cb_match_index.specs.MatchIndices.{Place}
use Rattle.cb_match_table.specs.MatchTables.{Name}
use Rattle.cb_matches.specs.Keys.{KeyValue}

-- where a match is filed in the index: under its rule, its branch and its number
abbrev pub place_of : Name → Place
place_of m = (m.0.rule, (m.0.branch, m.1))

-- Each entry is found in the index under its own name, or aside under its key; what is found has this name, or this key; and no two
-- entries have the same key.
pub record IsFiled (filed : Place → Option ℕ) (aside : KeyValue → Option ℕ) (names : ℕ → Option Name) : Type 0 where
  pub filed_is : (p : Place) (i : ℕ) → filed p ≡ Some i → (m : Name) × (names i ≡ Some m) × (place_of m ≡ p)
  pub aside_is : (k : KeyValue) (i : ℕ) → aside k ≡ Some i → (n : ℕ) × (names i ≡ Some (k, n)) × (filed (place_of (k, n)) ≢ Some i)
  pub found : (i : ℕ) (m : Name) → names i ≡ Some m → (filed (place_of m) ≡ Some i) ⊎ (aside m.0 ≡ Some i)
  pub once : (k : KeyValue) (i j n o : ℕ) → names i ≡ Some (k, n) → names j ≡ Some (k, o) → i ≡ j
