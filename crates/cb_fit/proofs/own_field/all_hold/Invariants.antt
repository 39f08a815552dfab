use Rattle.std.proofs.Common.{◌≡◌, drop}
use Rattle.cb_fit.specs.Comparisons.{all_own_hold}
use Rattle.cb_fit.proofs.own_field.all_hold.Given as goal

abbrev pub invariant-loop-field : goal.invariant-loop-field
invariant-loop-field l = all_own_hold (drop l.field-index l.fields) l.fact.content ≡ all_own_hold l.fields l.fact.content
