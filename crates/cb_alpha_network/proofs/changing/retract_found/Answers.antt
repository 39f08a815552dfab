use Rattle.std.proofs.Common.{◌≡◌, ◌∙◌, List, ℕ, ap, arith, get_or, length, rules, subst, take}
use Rattle.std.proofs.Math.Seq.{take-length}
use Rattle.cb_alpha.specs.AlphaMemories.{AlphaMemoryValue}
use Rattle.cb_alpha_network.proofs.OneByOne.{none_changed, not_before, one_changed}
use Rattle.cb_alpha_network.proofs.changing.retract_found.Goals as goal
use Rattle.cb_alpha_network.specs.Internal.{ChangesThose, IsRetracted}

pub loop-number-init : goal.loop-number-init
loop-number-init c = record { changed = none_changed (λ n. IsRetracted c.args.index) c.args.memories.now; long = search rules }

pub remove-requires : goal.remove-requires
remove-requires c =
    let ns = c.args.found.now in
    let i = c.loop-number.number-index in
    ap (λ (m : AlphaMemoryValue). m.gone) (c.loop-number.invariant.changed.others (get_or ns i 0) (not_before ns i (omega arith) c.requires.sorted))
    ∙ (c.requires.rest (get_or ns i 0)).none_gone

pub loop-number-preserved : goal.loop-number-preserved
loop-number-preserved c = record {
  changed = one_changed (λ n. IsRetracted c.args.index) c.args.found.now c.loop-number.number-index (omega arith) c.requires.sorted c.args.memories.now c.loop-number.memories c.remove.new.self
      c.loop-number.invariant.changed c.in_ok-remove.ensures.ok c.in_ok-remove.ensures.others;
  long = c.in_ok-remove.ensures.long ∙ c.loop-number.invariant.long;
}

pub returns-clause-changed : goal.returns-clause-changed
returns-clause-changed c =
    let ns = c.args.found.now in
    let i = c.loop-number.number-index in
    let end : i ≡ length ns = omega (arith, c.loop-number-test.false, c.loop-number.auto.number-index-end) in
    subst (λ (it : List ℕ). ChangesThose (λ n. IsRetracted c.args.index) it c.args.memories.now c.loop-number.memories) (ap (λ n. take n ns) end ∙ take-length ns) c.loop-number.invariant.changed
