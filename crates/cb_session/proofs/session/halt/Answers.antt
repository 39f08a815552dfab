use Rattle.std.proofs.Common.{refl, ap, sym}
use Rattle.cb_io.specs.Output.{extent_at}
use Rattle.cb_io.proofs.PutLaws.{puts_as, puts_fine, puts_part_failed, puts_part_then}
use Rattle.cb_session.proofs.session.halt.Goals as goal

pub returns-in-Ok-clause-puts : goal.returns-in-Ok-clause-puts
returns-in-Ok-clause-puts g c = λ o bytes h.
    puts_part_then g.K.Sink.writes _ _ _ bytes (puts_as g.K.Sink.writes _ _ _ _ _ _ (sym (ap extent_at c.in-NoMemory.is)) refl h) (c.in-Ok.ensures.puts (c.requires c.in-NoMemory.is))

pub returns-in-Ok-clause-ready : goal.returns-in-Ok-clause-ready
returns-in-Ok-clause-ready g c = λ _. (c.in-Ok.ensures.ok_pending, puts_fine g.K.Sink.writes _ _ _ (c.in-Ok.ensures.puts (c.requires c.in-NoMemory.is)))

pub returns-in-Err-clause-puts : goal.returns-in-Err-clause-puts
returns-in-Err-clause-puts g c = λ o bytes h.
    puts_part_failed g.K.Sink.writes _ _ _ bytes (puts_as g.K.Sink.writes _ _ _ _ _ _ (sym (ap extent_at c.in-NoMemory.is)) refl h) (c.in-Err.ensures.puts (c.requires c.in-NoMemory.is))
