-- What goes and comes where a group is settled.
use Rattle.std.proofs.Common.{◌≡◌, ◌∙◌, ◌+◌, ◌⊎◌, ◌<◌, ℕ, Bool, List, ap, get_or, inl, inr, length, sym, take}
use Rattle.cb_beta.proofs.Losses.{alike, then}
use Rattle.cb_beta.proofs.Members.{in_more, more_in}
use Rattle.cb_beta.specs.BetaMemories.{BetaMemoryValue, Loses}
use Rattle.cb_beta.specs.Tokens.{TokenValue}
use Rattle.cb_group_node.specs.Internal.{IsPassedByGroup}
use Rattle.cb_groups.specs.Groups.{Membership}
use Rattle.cb_matches.specs.Chains.{In}

pub differ : (positive : Bool) (inside : Membership) (i j : ℕ) (t : TokenValue) → IsPassedByGroup positive inside i t → IsPassedByGroup positive inside j t → i ≡ j
differ positive inside i j t h k = ap (λ (it : TokenValue). it.parent) (sym h.1 ∙ k.1)

-- what goes on from one number more
pub more_lost : (P : ℕ → Type 0) (old now new : BetaMemoryValue) (xs : List ℕ) (i : ℕ) → i < length xs → Loses old now (λ t. In t.parent (take i xs) × P t.parent)
    → Loses now new (λ t. (t.parent ≡ get_or xs i 0) × P t.parent) → Loses old new (λ t. In t.parent (take (i + 1) xs) × P t.parent)
more_lost P old now new xs i l first second =
    alike old new (λ t. (In t.parent (take i xs) × P t.parent) ⊎ ((t.parent ≡ get_or xs i 0) × P t.parent)) (λ t. In t.parent (take (i + 1) xs) × P t.parent)
    (λ t h. elim h as (λ _. In t.parent (take (i + 1) xs) × P t.parent) [ inl k ↦ (in_more xs i t.parent l (inl k.0), k.1) | inr k ↦ (in_more xs i t.parent l (inr k.0), k.1) ])
    (λ t h. elim (more_in xs i t.parent l h.0) as (λ _. (In t.parent (take i xs) × P t.parent) ⊎ ((t.parent ≡ get_or xs i 0) × P t.parent)) [ inl k ↦ inl (k, h.1) | inr k ↦ inr (k, h.1) ])
    (then old now (λ t. In t.parent (take i xs) × P t.parent) first new (λ t. (t.parent ≡ get_or xs i 0) × P t.parent) second)
