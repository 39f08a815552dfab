use Rattle.std.proofs.Common.{◌∙◌, rules}
use Rattle.cb_fit.specs.Internal.Lengths.{lengths_in}
use Rattle.cb_fit.proofs.LengthsAt.{both_end, others_end, they_differ, they_end, those_behind}
use Rattle.cb_fit.proofs.cuts.in_turn.Goals as goal

pub returns-in_default-get : goal.returns-in_default-get
returns-in_default-get c =
    others_end (lengths_in c.args.lengths.now) (lengths_in c.args.others.now) c.loop-length.at c.in-Some.length c.in-Some.ensures.length (search rules) ∙ c.loop-length.invariant

pub loop-length-preserved : goal.loop-length-preserved
loop-length-preserved c =
    those_behind (lengths_in c.args.lengths.now) (lengths_in c.args.others.now) c.loop-length.at c.in-Some.length c.in-Some-get.other c.in-Some.ensures.length c.in-Some-get.ensures.length c.in-Equal.ensures ∙ c.loop-length.invariant

pub returns-in_default-cmp : goal.returns-in_default-cmp
returns-in_default-cmp c =
    c.cmp.ensures ∙ (they_differ (lengths_in c.args.lengths.now) (lengths_in c.args.others.now) c.loop-length.at c.in-Some.length c.in-Some-get.other c.in-Some.ensures.length c.in-Some-get.ensures.length (λ e. c.in_default-cmp.not-Equal (c.cmp.ensures ∙ e)) ∙ c.loop-length.invariant)

pub returns-in-Some-get-2 : goal.returns-in-Some-get-2
returns-in-Some-get-2 c =
    they_end (lengths_in c.args.lengths.now) (lengths_in c.args.others.now) c.loop-length.at c.in-Some-get-2.field-0 (search rules) c.in-Some-get-2.ensures.length ∙ c.loop-length.invariant

pub returns-in-None : goal.returns-in-None
returns-in-None c =
    both_end (lengths_in c.args.lengths.now) (lengths_in c.args.others.now) c.loop-length.at (search rules) c.in-None.ensures.length ∙ c.loop-length.invariant
