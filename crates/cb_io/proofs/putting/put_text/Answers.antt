use Rattle.cb_io.proofs.putting.put_text.Goals as goal
use Rattle.cb_io.proofs.PutLaws.{puts_nothing}

pub returns-in-Err : goal.returns-in-Err
returns-in-Err g c = λ bytes h. puts_nothing g.K.Sink.writes _ bytes c.requires
