use Rattle.std.proofs.Common.{sym, ◌∙◌}
use Rattle.cb_session.proofs.PlaceLaws.{far-none}
use Rattle.cb_session.proofs.ScriptLaws.{way-start_of}
use Rattle.cb_session.specs.Setups.{setup_of}
use Rattle.cb_session.proofs.session.Session.starting_at.Goals as goal

pub invariant_of-result : goal.invariant_of-result
invariant_of-result g c = (
  λ on goes. rw c.new-4.ensures (way-start_of (setup_of c.args.limits c.args.numbers) _ _ c.new.ensures c.new-2.ensures c.args.limits.form_has_a_byte),
  λ on. rw c.new-4.ensures (c.new-3.ensures ∙ sym (far-none (setup_of c.args.limits c.args.numbers))),
)
