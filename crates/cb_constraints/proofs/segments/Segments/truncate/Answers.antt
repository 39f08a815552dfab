use Rattle.std.proofs.Common.{arith, ◌≡◌, ◌∙◌, ◌-◌, ◌≤◌, ap, length, rules, sym}
use Rattle.cb_constraints.proofs.CutLaws.{length_kept, totals_kept}
use Rattle.cb_constraints.specs.Internal.Lengths.{all_lengths, last_count}
use Rattle.cb_constraints.proofs.segments.Segments.truncate.Goals as goal

pub invariant_of-self : goal.invariant_of-self
invariant_of-self c =
    let all = c.self.inside.segments.items in
    let front = c.cut_back.new.segments.items in
    let before : c.totals-before.result.0 ≡ last_count 0 c.cut_back.new.segments.items = search rules in
    let within : c.args.count ≤ length (all_lengths c.self.inside.segments.items c.self.inside.ones) = omega arith in (
      length_kept c.args.count c.self.inside.ones all front c.self.invariant.1 c.cut_back.ensures.front c.cut_back.ensures.within within
          ∙ ap (λ k. length (all_lengths c.cut_back.new.segments.items (c.args.count - k))) (sym before),
      totals_kept c.args.count all front c.self.invariant.1 c.cut_back.ensures.front,
    )
