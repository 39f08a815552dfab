use Rattle.cb_actions.proofs.StepLaws.{next_known}
use Rattle.cb_actions.proofs.rescheduled.add_gone_lines.Goals as goal

pub is_due-requires : goal.is_due-requires
is_due-requires c = (next_known _ c.args.keys.now c.loop-key.key-index _ _ _ _ c.key-item.is c.loop-key-test.true c.split_number-number.ensures c.loop-key.invariant.known).0
