use Rattle.std.proofs.Common.{◌≡◌, ◌++◌, codes, drop, flat_map}
use Rattle.std.specs.List.{filter}
use Rattle.cb_actions.specs.Internal.{FirstHave, IsItsNumber}
use Rattle.cb_lines.specs.Lines.{activation_line}
use Rattle.cb_agenda.specs.Agendas.{is_due}
use Rattle.cb_actions.proofs.rescheduled.add_gone_lines.Given as goal

abbrev pub invariant-loop-key : goal.invariant-loop-key
invariant-loop-key l = record {
  lines : l.lines.items ++ flat_map (activation_line (codes "<== ") l.rules) (filter (is_due l.agenda.agenda) (drop l.key-index l.keys))
      ≡ l.initial.lines.items ++ flat_map (activation_line (codes "<== ") l.rules) (filter (is_due l.agenda.agenda) l.keys);
  known : FirstHave (IsItsNumber l.agenda.numbers) l.left (drop l.key-index l.keys);
}
