use Rattle.std.proofs.Common.{rules, ◌≡◌, ◌≤◌, ◌+◌, ℕ, None, Option, Some, List, length, option_copied, subst}
use Rattle.cb_alpha.proofs.AllBuckets.{best_at_end, nothing_at}
use Rattle.cb_alpha.specs.Buckets.{values_at}
use Rattle.cb_alpha.specs.Internal.Numbered.{AreBest, IsAhead}
use Rattle.cb_facts.specs.declared.value.Value.{Value}
use Rattle.cb_alpha.proofs.all_buckets.best_of_all.Goals as goal
use Rattle.cb_alpha.proofs.all_buckets.best_of_all.Goals.{in-Some, in_default}

pub loop-key-preserved : goal.loop-key-preserved
loop-key-preserved c =
    let vs = c.args.buckets.now.slots in
    let k : ℕ = c.loop-key.key in
    let low = c.args.low.now in
    let high = c.args.high.now in
    let old : Option (List Value) = option_copied c.loop-key.best in
    let new : Option (List Value) = option_copied c.match-get.best in
    elim c.match-get.branch as (λ _. AreBest c.args.wanted (IsAhead vs (k + 1)) low high new) [
      | in-Some w ↦
          let at : values_at vs k ≡ Some w.in-Some.values.now = search rules in
          let same : option_copied w.better-best.result ≡ new = search rules in
          subst (AreBest c.args.wanted (IsAhead vs (k + 1)) low high) same (w.better-best.ensures vs k at c.loop-key.invariant)
      | in_default w ↦
          let none : values_at vs k ≡ None = search rules in
          let same : old ≡ new = search rules in
          subst (AreBest c.args.wanted (IsAhead vs (k + 1)) low high) same (nothing_at c.args.wanted c.requires low high vs k old none c.loop-key.invariant)
    ]

pub returns : goal.returns
returns c =
    let vs = c.args.buckets.now.slots in
    let long : length vs ≤ c.loop-key.key = search rules in
    best_at_end c.args.wanted c.requires c.args.low.now c.args.high.now vs c.loop-key.key (option_copied c.loop-key.best) long c.loop-key.invariant
