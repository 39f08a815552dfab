use Rattle.std.proofs.Common.{◌≡◌, ◌≢◌, ◌∙◌, ◌↔◌, List, ℕ, ap, arith, false, get_or, length, not, refl, subst, sym, take}
use Rattle.std.proofs.Math.Seq.{take-length}
use Rattle.cb_alpha.specs.AlphaMemories.{live}
use Rattle.cb_lookup_node.proofs.Passed.{passes_where}
use Rattle.cb_lookup_node.proofs.Placed.{none_replaced, once_kept, one_in, one_kept, one_replaced}
use Rattle.cb_lookup_node.proofs.witnesses.Witnesses.place_alike.Goals as goal
use Rattle.cb_lookup_node.specs.Internal.{AreReplaced, IsPlaced}
use Rattle.cb_lookup_node.specs.LookupNodes.{SeesSome}
use Rattle.cb_matches.specs.Chains.{Chain, In}
use Rattle.cb_token_lists.specs.Partials.{partial_at}

pub loop-number-init : goal.loop-number-init
loop-number-init c js its =
    let at = partial_at c.args.lists.now.sources.now c.args.lists.now.lists.now c.args.from in
    let none = c.new-lost.ensures.items in (
      none_replaced c.args.self.now (IsPlaced c.args.compared.now js (live c.args.alpha.now) at),
      λ n. (λ h. absurd (subst (In n) none h), λ h. absurd h.0),
      λ once. subst (Chain (λ (i : ℕ) (j : ℕ). i ≢ j)) (sym none) tt,
    )

pub loop-number-preserved : goal.loop-number-preserved
loop-number-preserved c js its =
    let cs = c.args.compared.now in
    let facts = live c.args.alpha.now in
    let at = partial_at c.args.lists.now.sources.now c.args.lists.now.lists.now c.args.from in
    let xs = c.args.numbers.now in
    let i = c.loop-number.number-index in
    let n = get_or xs i 0 in
    let inv = c.loop-number.invariant js its in
    let one = its n (one_in xs i (omega arith)) in
    let P : ℕ → Type 0 = λ k. SeesSome cs js facts (at k) → ⊥ in
    let sees = c.in_ok-sees.sees in
    let all = c.loop-number.lost.items in
    let all' = c.keep_if.new.all.items in (
      one_replaced c.args.self.now c.loop-number.self c.place_among.new.self (IsPlaced cs js facts at) xs i (omega arith) inv.0 (c.in_ok-sees.ensures.placed js one),
      one_kept P xs i (omega arith) all (not sees) all' (passes_where false (SeesSome cs js facts (at n)) sees (not sees) (c.in_ok-sees.ensures.sees js one) refl) c.in_ok-keep_if.ensures inv.1,
      λ once. once_kept P xs i (omega arith) all (not sees) all' c.in_ok-keep_if.ensures (λ k h. ((inv.1 k).0 h).0) once (inv.2 once),
    )

pub returns-clause-placed : goal.returns-clause-placed
returns-clause-placed c js its =
    let at = partial_at c.args.lists.now.sources.now c.args.lists.now.lists.now c.args.from in
    let xs = c.args.numbers.now in
    let i = c.loop-number.number-index in
    let end : i ≡ length xs = omega (arith, c.loop-number-test.false, c.loop-number.auto.number-index-end) in
    subst (λ (it : List ℕ). AreReplaced c.args.self.now c.loop-number.self it (IsPlaced c.args.compared.now js (live c.args.alpha.now) at)) (ap (λ n. take n xs) end ∙ take-length xs)
    (c.loop-number.invariant js its).0

pub returns-clause-are : goal.returns-clause-are
returns-clause-are c js its n =
    let at = partial_at c.args.lists.now.sources.now c.args.lists.now.lists.now c.args.from in
    let xs = c.args.numbers.now in
    let i = c.loop-number.number-index in
    let end : i ≡ length xs = omega (arith, c.loop-number-test.false, c.loop-number.auto.number-index-end) in
    subst (λ (it : List ℕ). In n c.loop-number.lost.items ↔ (In n it × (SeesSome c.args.compared.now js (live c.args.alpha.now) (at n) → ⊥))) (ap (λ k. take k xs) end ∙ take-length xs)
    ((c.loop-number.invariant js its).1 n)

pub returns-clause-once : goal.returns-clause-once
returns-clause-once c js its = (c.loop-number.invariant js its).2
