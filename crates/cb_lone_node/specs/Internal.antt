-- What is passed on and taken back, by whether the group held and holds.
use Rattle.std.specs.Prelude.{◌≡◌, ℕ, Bool, true, false, List, Some}
use Rattle.cb_beta.specs.Tokens.{TokenValue}
use Rattle.cb_groups.specs.Groups.{Membership, group_of}
use Rattle.cb_lone_node.specs.LoneNodes.{passed_alone}
use Rattle.cb_matches.specs.Chains.{In}

-- the token of one of these
abbrev pub AreOf : (ℕ → Type 0) → TokenValue → Type 0
AreOf There t = (number : ℕ) × There number × (t ≡ passed_alone number)

-- where it held and doesn't hold, all are taken back
abbrev pub Leaves : Bool → Bool → Membership → ℕ → Type 0
Leaves true false parents n = group_of parents n ≡ Some 0
Leaves true true parents n = ⊥
Leaves false holds parents n = ⊥

-- where it holds, what came is passed on, and where it didn't hold all
abbrev pub Arrives : Bool → Bool → List ℕ → Membership → ℕ → Type 0
Arrives true true come parents n = In n come
Arrives false true come parents n = group_of parents n ≡ Some 0
Arrives held false come parents n = ⊥
