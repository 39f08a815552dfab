use Rattle.std.proofs.Common.{◌≡◌, length, take}
use Rattle.cb_expr_forms.proofs.name_list.NameList.truncate.Given as goal

abbrev pub decreases-loop-self : goal.decreases-loop-self
decreases-loop-self l = length l.self

abbrev pub invariant-loop-self : goal.invariant-loop-self
invariant-loop-self l = take l.len l.self ≡ take l.len l.initial.self
