use Rattle.std.proofs.Common.{rules, ◌≡◌, ◌≢◌, ◌+◌, None, Some, List, option_copied, subst, sym}
use Rattle.cb_alpha.proofs.AllBuckets.{best_kept, better_taken, first_taken, not_both, not_within}
use Rattle.cb_alpha.specs.Buckets.{values_cmp}
use Rattle.cb_alpha.specs.Internal.Numbered.{AreBest, IsAhead}
use Rattle.cb_facts.specs.declared.value.Value.{Value}
use Rattle.cb_alpha.proofs.all_buckets.better.Goals as goal

pub returns-then-not-is_within : goal.returns-then-not-is_within
returns-then-not-is_within c vs k at is =
    not_within c.args.wanted c.requires c.args.low.now c.args.high.now vs k c.args.values.now at (option_copied c.args.best)
    (λ w. not_both c.is_within.result (c.is_within.ensures.1 w) c.if-not-is_within.true) is

pub returns-then-eq : goal.returns-then-eq
returns-then-eq c vs k at is =
    let others : List Value = c.in-Some.others.now in
    let before : option_copied c.args.best ≡ Some others = search rules in
    let wanted : values_cmp c.args.values.now others ≡ c.args.wanted = search rules in
    better_taken c.args.wanted c.requires c.args.low.now c.args.high.now vs k c.args.values.now at others (c.is_within.ensures.0 c.if-not-is_within.false) wanted
    (subst (AreBest c.args.wanted (IsAhead vs k) c.args.low.now c.args.high.now) before is)

pub returns-else-eq : goal.returns-else-eq
returns-else-eq c vs k at is =
    let others : List Value = c.in-Some.others.now in
    let before : option_copied c.args.best ≡ Some others = search rules in
    let unwanted : values_cmp c.args.values.now others ≢ c.args.wanted = search rules in
    subst (AreBest c.args.wanted (IsAhead vs (k + 1)) c.args.low.now c.args.high.now) (sym before)
    (best_kept c.args.wanted c.requires c.args.low.now c.args.high.now vs k c.args.values.now at others unwanted
    (subst (AreBest c.args.wanted (IsAhead vs k) c.args.low.now c.args.high.now) before is))

pub returns-in-None : goal.returns-in-None
returns-in-None c vs k at is =
    let before : option_copied c.args.best ≡ None = search rules in
    first_taken c.args.wanted c.requires c.args.low.now c.args.high.now vs k c.args.values.now at (c.is_within.ensures.0 c.if-not-is_within.false)
    (subst (AreBest c.args.wanted (IsAhead vs k) c.args.low.now c.args.high.now) before is)
