use Rattle.std.proofs.Common.{◌≡◌, ◌++◌}
use Rattle.std.specs.List.{filter}
use Rattle.cb_expr_forms.specs.Scopes.{is_known}
use Rattle.cb_rule_forms.proofs.mentions.keep_known.Given as goal

abbrev pub invariant-loop-name : goal.invariant-loop-name
invariant-loop-name l = l.kept ++ filter (is_known l.known) l.name-iterator.rest.items ≡ filter (is_known l.known) l.fn.names
