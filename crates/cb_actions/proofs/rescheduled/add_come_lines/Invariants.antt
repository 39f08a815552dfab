use Rattle.std.proofs.Common.{◌≡◌, ◌++◌, codes, drop, flat_map}
use Rattle.cb_lines.specs.Lines.{activation_line}
use Rattle.cb_actions.proofs.rescheduled.add_come_lines.Given as goal

abbrev pub invariant-loop-key : goal.invariant-loop-key
invariant-loop-key l =
    l.lines.items ++ flat_map (activation_line (codes "==> ") l.rules) (drop l.key-index l.keys) ≡ l.initial.lines.items ++ flat_map (activation_line (codes "==> ") l.rules) l.keys
