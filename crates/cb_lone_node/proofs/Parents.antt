-- What is before a group of one pattern that stands alone, and what it passes on and takes back.
use Rattle.std.proofs.Common.{◌≡◌, ◌∙◌, ◌⊎◌, ◌↔◌, ℕ, Bool, true, false, List, Some, None, inl, inr, refl, sym}
use Rattle.cb_beta.proofs.Live.{live_token, some_none, there_is}
use Rattle.cb_beta.proofs.Members.{by_in, contains_in, in_contains}
use Rattle.cb_beta.specs.BetaMemories.{BetaMemoryValue}
use Rattle.cb_group_node.specs.Internal.{Sets}
use Rattle.cb_groups.specs.Groups.{AreMembers, Membership, group_of}
use Rattle.cb_lone_node.specs.Internal.{Arrives, Leaves}
use Rattle.cb_lone_node.specs.LoneNodes.{AreParents}
use Rattle.cb_matches.specs.Chains.{In}
use Rattle.cb_token_lists.specs.Turns.{IsThere, WasThere}

-- after what went was taken out and what came was put in
pub parents_after : (before : BetaMemoryValue) (old mid new : Membership) → ((n : ℕ) → In n before.come → IsThere before n) → AreParents (WasThere before) old
    → Sets old mid (λ n. In n before.gone) None → Sets mid new (λ n. In n before.come) (Some 0) → AreParents (IsThere before) new
parents_after before old mid new came was left entered = record {
  are = λ n e. elim (by_in n before.come) as (λ _. IsThere before n) [
    | inl h ↦ came n h
    | inr m ↦
        let e' = sym (entered.others n m) ∙ e in
        elim (by_in n before.gone) as (λ _. IsThere before n) [
          | inl h ↦ some_none (group_of mid n) e' (left.set n h)
          | inr g ↦ let w = was.are n (sym (left.others n g) ∙ e') in (w.0.0, there_is before.tokens before.gone n g ∙ w.0.1)
        ]
  ];
  all = λ n h. elim (by_in n before.come) as (λ _. group_of new n ≡ Some 0) [
    | inl k ↦ entered.set n k
    | inr m ↦
        let l = live_token before.tokens before.gone n h.0 h.1 in
        entered.others n m ∙ (left.others n l.0 ∙ was.all n ((h.0, l.1), m))
  ];
}

-- the members of the group, as they are listed
pub member_in : (parents : Membership) (xs : List ℕ) → AreMembers parents 0 xs → (n : ℕ) → In n xs ↔ (group_of parents n ≡ Some 0)
member_in parents xs is n = (λ h. (is.are n).0 (in_contains xs n h), λ e. contains_in xs n ((is.are n).1 e))

-- what is taken back, case by case
pub all_leave : (held holds : Bool) (parents : Membership) (xs : List ℕ) → held ≡ true → holds ≡ false → AreMembers parents 0 xs → (n : ℕ) → In n xs ↔ Leaves held holds parents n
all_leave true false parents xs e f is n = member_in parents xs is n
all_leave true true parents xs e f is n = absurd (cc)
all_leave false holds parents xs e f is n = absurd (cc)

pub of_leaves : (held holds : Bool) (parents : Membership) (n : ℕ) → Leaves held holds parents n → (held ≡ true) × (holds ≡ false)
of_leaves true false parents n h = (refl, refl)
of_leaves true true parents n h = absurd h
of_leaves false holds parents n h = absurd h

pub leaves : (held holds : Bool) (parents : Membership) (n : ℕ) → held ≡ true → holds ≡ false → group_of parents n ≡ Some 0 → Leaves held holds parents n
leaves true false parents n e f h = h
leaves true true parents n e f h = absurd (cc)
leaves false holds parents n e f h = absurd (cc)

-- and what is passed on
pub come_arrive : (held holds : Bool) (come : List ℕ) (parents : Membership) → held ≡ true → holds ≡ true → (n : ℕ) → In n come ↔ Arrives held holds come parents n
come_arrive true true come parents e f n = (λ h. h, λ h. h)
come_arrive true false come parents e f n = absurd (cc)
come_arrive false holds come parents e f n = absurd (cc)

pub all_arrive : (held holds : Bool) (come : List ℕ) (parents : Membership) (xs : List ℕ) → held ≡ false → holds ≡ true → AreMembers parents 0 xs
    → (n : ℕ) → In n xs ↔ Arrives held holds come parents n
all_arrive false true come parents xs e f is n = member_in parents xs is n
all_arrive false false come parents xs e f is n = absurd (cc)
all_arrive true holds come parents xs e f is n = absurd (cc)

pub of_arrives : (held holds : Bool) (come : List ℕ) (parents : Membership) (n : ℕ) → Arrives held holds come parents n
    → (holds ≡ true) × (((held ≡ true) × In n come) ⊎ ((held ≡ false) × (group_of parents n ≡ Some 0)))
of_arrives true true come parents n h = (refl, inl (refl, h))
of_arrives false true come parents n h = (refl, inr (refl, h))
of_arrives true false come parents n h = absurd h
of_arrives false false come parents n h = absurd h
