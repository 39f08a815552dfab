-- Numbers of keys by the mixes of the keys, and in an ordered map those that find no room there.
use Rattle.std.specs.Prelude.{◌≡◌, ◌≢◌, ◌↔◌, ℕ, Bool, Option, Some, None, false, if◌then◌else◌}
use Rattle.std.specs.BTreeMap.{BTreeMap, get}
use Rattle.std.specs.Option.{option_or}
use Rattle.std.specs.declared.cmp.Ordering.{Ordering}
use Rattle.cb_number_map.specs.NumberMaps.{number_at}
use Rattle.cb_number_map.specs.declared.number_map.NumberMap.{NumberMap}

-- each key is found under the number that has it, and under no other
abbrev pub AreFound : {K : Type 0} → (K → Option ℕ) → (ℕ → Option K) → Type 0
AreFound {K} find keys = (k : K) (n : ℕ) → (find k ≡ Some n) ↔ (keys n ≡ Some k)

module _ {K : Type 0} (same : K → K → Bool) where
  -- there is a key, and it is this one
  abbrev pub is_key : Option K → K → Bool
  is_key None k = false
  is_key (Some q) k = same q k

  -- a number, where it has this key
  abbrev pub with_own_key : (ℕ → Option K) → Option ℕ → K → Option ℕ
  with_own_key keys None k = None
  with_own_key keys (Some n) k = if is_key (keys n) k then Some n else None

-- the number that is found by a key: the one that is filed under its mix, if it has this key, or else the one that stands aside
abbrev pub number_in : {K : Type 0} → (K → K → Bool) → (K → K → Ordering) → (K → ℕ) → (ℕ → Option K) → NumberMap → BTreeMap K ℕ → K → Option ℕ
number_in same order mix keys filed aside k = option_or (with_own_key same keys (number_at filed (mix k)) k) (get order aside k)

-- a key doesn't stand aside any more, and the others do as they did
pub record LeavesAside {K : Type 0} (order : K → K → Ordering) (old new : BTreeMap K ℕ) (k : K) : Type 0 where
  pub gone : get order new k ≡ None
  pub others : (q : K) → k ≢ q → get order new q ≡ get order old q

-- one number has this key now, or none, and the others have those that they had
pub record ChangesAt {K V : Type 0} (old new : K → Option V) (key : K) (answer : Option V) : Type 0 where
  pub here : new key ≡ answer
  pub others : (k : K) → key ≢ k → new k ≡ old k
