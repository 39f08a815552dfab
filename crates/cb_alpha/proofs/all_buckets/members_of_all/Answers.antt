use Rattle.std.proofs.Common.{rules, ◌≡◌, ◌≤◌, ◌+◌, ◌++◌, ℕ, None, Some, List, length, subst}
use Rattle.cb_alpha.proofs.AllBuckets.{AreMembersAhead, all_ahead, bucket_more, none_more, not_both, same_some, some_none}
use Rattle.cb_alpha.specs.Buckets.{IsWithin, values_at}
use Rattle.cb_groups.specs.Groups.{AreMembers}
use Rattle.cb_alpha.proofs.all_buckets.members_of_all.Goals as goal
use Rattle.cb_alpha.proofs.all_buckets.members_of_all.Goals.{in-Some+then-is_within+in_ok-extend_from_slice, in-Some+else-is_within, in_default}

pub loop-key-preserved : goal.loop-key-preserved
loop-key-preserved c =
    let vs = c.args.buckets.now.slots in
    let ms = c.args.members.now in
    let k : ℕ = c.loop-key.key in
    let low = c.args.low.now in
    let high = c.args.high.now in
    let old : List ℕ = c.loop-key.all.items in
    let new : List ℕ = c.match-get.all.items in
    elim c.match-get.branch as (λ _. AreMembersAhead vs ms low high (k + 1) new) [
      | in-Some+then-is_within+in_ok-extend_from_slice w ↦
          let at : values_at vs k ≡ Some w.in-Some.values.now = search rules in
          let members : AreMembers ms k w.members.result.now = search rules in
          let items : old ++ w.members.result.now ≡ new = search rules in
          subst (AreMembersAhead vs ms low high (k + 1)) items
          (bucket_more vs ms low high k old c.loop-key.invariant w.in-Some.values.now w.members.result.now at (w.is_within.ensures.0 w.if-is_within.true) members)
      | in-Some+else-is_within w ↦
          let at : values_at vs k ≡ Some w.in-Some.values.now = search rules in
          let same : old ≡ new = search rules in
          subst (AreMembersAhead vs ms low high (k + 1)) same
          (none_more vs ms low high k old c.loop-key.invariant (λ ws is here. not_both w.is_within.result
          (w.is_within.ensures.1 (subst (IsWithin low high) (same_some (values_at vs k) is at) here)) w.if-is_within.false))
      | in_default w ↦
          let none : values_at vs k ≡ None = search rules in
          let same : old ≡ new = search rules in
          subst (AreMembersAhead vs ms low high (k + 1)) same
          (none_more vs ms low high k old c.loop-key.invariant (λ ws is here. some_none (values_at vs k) is none))
    ]

pub returns : goal.returns
returns c =
    let vs = c.args.buckets.now.slots in
    let long : length vs ≤ c.loop-key.key = search rules in
    all_ahead vs c.args.members.now c.args.low.now c.args.high.now c.loop-key.key c.loop-key.all.items long c.loop-key.invariant
