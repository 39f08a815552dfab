use Rattle.std.proofs.Common.{◌≡◌, ◌≢◌, ◌∙◌, ◌+◌, List, ℕ, Some, ap, arith, get_or, length, rules, subst, sym, take}
use Rattle.std.proofs.Math.Seq.{take-length}
use Rattle.cb_alpha.specs.AlphaMemories.{AlphaMemoryValue, index_of, live}
use Rattle.cb_alpha_network.proofs.Counted.{all_counted, counted_more, none_counted}
use Rattle.cb_alpha_network.proofs.OneByOne.{none_changed, not_before, one_changed}
use Rattle.cb_alpha_network.proofs.changing.assert_found.Goals as goal
use Rattle.cb_alpha_network.specs.Internal.{ChangesThose, IsAsserted}
use Rattle.cb_alpha_network.specs.Networks.{shape_in}

pub loop-number-init : goal.loop-number-init
loop-number-init g c = record {
  changed = none_changed (λ n. IsAsserted (shape_in c.args.shapes.now.slots n) c.args.index c.args.fact.now) c.args.memories.now;
  long = search rules;
  counted = none_counted c.args.shapes.now.slots c.args.found.now c.args.meter.now;
}

pub assert_at-requires-clause-within : goal.assert_at-requires-clause-within
assert_at-requires-clause-within g c =
    λ s at.
    let l = c.requires.within (get_or c.args.found.now c.loop-number.number-index 0) s at in
    let same = c.loop-number.invariant.long in
    omega (arith, l, same)

pub assert_at-requires-clause-none_come : goal.assert_at-requires-clause-none_come
assert_at-requires-clause-none_come g c =
    let ns = c.args.found.now in
    let i = c.loop-number.number-index in
    ap (λ (m : AlphaMemoryValue). m.come) (c.loop-number.invariant.changed.others (get_or ns i 0) (not_before ns i (omega arith) c.requires.sorted))
    ∙ (c.requires.rest (get_or ns i 0)).none_come

pub assert_at-requires-clause-absent : goal.assert_at-requires-clause-absent
assert_at-requires-clause-absent g c =
    let ns = c.args.found.now in
    let i = c.loop-number.number-index in
    λ s at. subst (λ (m : AlphaMemoryValue). (k : ℕ) → index_of (live m k) ≢ Some c.args.index)
    (sym (c.loop-number.invariant.changed.others (get_or ns i 0) (not_before ns i (omega arith) c.requires.sorted)))
    (c.requires.absent (get_or ns i 0) s at)

pub loop-number-preserved : goal.loop-number-preserved
loop-number-preserved g c = record {
  changed = one_changed (λ n. IsAsserted (shape_in c.args.shapes.now.slots n) c.args.index c.args.fact.now) c.args.found.now c.loop-number.number-index (omega arith) c.requires.sorted
      c.args.memories.now c.loop-number.memories c.assert_at.new.memories c.loop-number.invariant.changed c.in_ok-assert_at.ensures.at c.in_ok-assert_at.ensures.others;
  long = c.in_ok-assert_at.ensures.long ∙ c.loop-number.invariant.long;
  counted = counted_more c.args.shapes.now.slots c.args.found.now c.loop-number.number-index (omega arith) c.requires.sorted c.args.meter.now c.loop-number.meter c.assert_at.new.meter
      c.loop-number.invariant.counted c.in_ok-assert_at.ensures.probes;
}

pub returns-in_err-assert_at-clause-probes : goal.returns-in_err-assert_at-clause-probes
returns-in_err-assert_at-clause-probes g c =
    all_counted c.args.shapes.now.slots c.args.found.now (c.loop-number.number-index + 1) c.args.meter.now c.assert_at.new.meter
    (counted_more c.args.shapes.now.slots c.args.found.now c.loop-number.number-index (omega arith) c.requires.sorted c.args.meter.now c.loop-number.meter c.assert_at.new.meter
    c.loop-number.invariant.counted c.in_err-assert_at.ensures.probes)

pub returns-clause-changed : goal.returns-clause-changed
returns-clause-changed g c =
    let ns = c.args.found.now in
    let i = c.loop-number.number-index in
    let end : i ≡ length ns = omega (arith, c.loop-number-test.false, c.loop-number.auto.number-index-end) in
    subst (λ (it : List ℕ). ChangesThose (λ n. IsAsserted (shape_in c.args.shapes.now.slots n) c.args.index c.args.fact.now) it c.args.memories.now c.loop-number.memories)
    (ap (λ n. take n ns) end ∙ take-length ns) c.loop-number.invariant.changed

pub returns-clause-probes : goal.returns-clause-probes
returns-clause-probes g c = all_counted c.args.shapes.now.slots c.args.found.now c.loop-number.number-index c.args.meter.now c.loop-number.meter c.loop-number.invariant.counted
