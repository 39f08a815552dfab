use Rattle.cb_actions.proofs.StepLaws.{known_first}
use Rattle.cb_actions.proofs.rescheduled.lines_of.Goals as goal

pub add_gone_lines-requires : goal.add_gone_lines-requires
add_gone_lines-requires c = rw (c.known_numbers-numbers.ensures, c.as_slice.ensures.value) (known_first c.args.agenda.now.numbers c.args.in_step c.args.delta.now c.requires)
