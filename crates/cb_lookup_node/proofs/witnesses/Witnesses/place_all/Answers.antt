use Rattle.std.proofs.Common.{◌≡◌, ◌≢◌, ◌∙◌, ◌↔◌, List, ℕ, ap, arith, get_or, length, subst, sym, take}
use Rattle.std.proofs.Math.Seq.{take-length}
use Rattle.cb_alpha.specs.AlphaMemories.{live}
use Rattle.cb_lookup_node.proofs.Passed.{passes_where}
use Rattle.cb_lookup_node.proofs.Placed.{none_replaced, once_kept, one_kept, one_replaced}
use Rattle.cb_lookup_node.proofs.witnesses.Witnesses.place_all.Goals as goal
use Rattle.cb_lookup_node.specs.Internal.{AreReplaced, IsPlaced}
use Rattle.cb_lookup_node.specs.LookupNodes.{Passes, SeesSome}
use Rattle.cb_matches.specs.Chains.{Chain, In}
use Rattle.cb_token_lists.specs.Partials.{partial_at}

pub loop-number-init : goal.loop-number-init
loop-number-init c =
    let at = partial_at c.args.lists.now.sources.now c.args.lists.now.lists.now c.args.from in
    let none = c.new-all.ensures.items in (
      λ has. none_replaced c.args.self.now (IsPlaced c.args.compared.now c.args.fields.now (live c.args.alpha.now) at),
      λ has n. (λ h. absurd (subst (In n) none h), λ h. absurd h.0),
      λ has once. subst (Chain (λ (i : ℕ) (j : ℕ). i ≢ j)) (sym none) tt,
    )

pub loop-number-preserved : goal.loop-number-preserved
loop-number-preserved c =
    let cs = c.args.compared.now in
    let js = c.args.fields.now in
    let facts = live c.args.alpha.now in
    let at = partial_at c.args.lists.now.sources.now c.args.lists.now.lists.now c.args.from in
    let xs = c.args.numbers.now in
    let i = c.loop-number.number-index in
    let n = get_or xs i 0 in
    let inv = c.loop-number.invariant in
    let P : ℕ → Type 0 = λ k. Passes c.args.wanted (SeesSome cs js facts (at k)) in
    let all = c.loop-number.all.items in
    let all' = c.keep_if.new.all.items in (
      λ has. one_replaced c.args.self.now c.loop-number.self c.place.new.self (IsPlaced cs js facts at) xs i (omega arith) (inv.0 has) (c.in_ok-sees.ensures.placed has),
      λ has. one_kept P xs i (omega arith) all c.passes_by.result all'
          (passes_where c.args.wanted (SeesSome cs js facts (at n)) c.in_ok-sees.sees c.passes_by.result (c.in_ok-sees.ensures.sees has) c.passes_by.ensures) c.in_ok-keep_if.ensures (inv.1 has),
      λ has once. once_kept P xs i (omega arith) all c.passes_by.result all' c.in_ok-keep_if.ensures (λ k h. ((inv.1 has k).0 h).0) once (inv.2 has once),
    )

pub returns-clause-placed : goal.returns-clause-placed
returns-clause-placed c has =
    let at = partial_at c.args.lists.now.sources.now c.args.lists.now.lists.now c.args.from in
    let xs = c.args.numbers.now in
    let i = c.loop-number.number-index in
    let end : i ≡ length xs = omega (arith, c.loop-number-test.false, c.loop-number.auto.number-index-end) in
    subst (λ (it : List ℕ). AreReplaced c.args.self.now c.loop-number.self it (IsPlaced c.args.compared.now c.args.fields.now (live c.args.alpha.now) at)) (ap (λ n. take n xs) end ∙ take-length xs)
    (c.loop-number.invariant.0 has)

pub returns-clause-are : goal.returns-clause-are
returns-clause-are c has n =
    let at = partial_at c.args.lists.now.sources.now c.args.lists.now.lists.now c.args.from in
    let xs = c.args.numbers.now in
    let i = c.loop-number.number-index in
    let end : i ≡ length xs = omega (arith, c.loop-number-test.false, c.loop-number.auto.number-index-end) in
    subst (λ (it : List ℕ). In n c.loop-number.all.items ↔ (In n it × Passes c.args.wanted (SeesSome c.args.compared.now c.args.fields.now (live c.args.alpha.now) (at n)))) (ap (λ k. take k xs) end ∙ take-length xs)
    (c.loop-number.invariant.1 has n)

pub returns-clause-once : goal.returns-clause-once
returns-clause-once c = c.loop-number.invariant.2
