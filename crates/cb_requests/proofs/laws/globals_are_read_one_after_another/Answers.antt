use Rattle.cb_requests.proofs.GlobalLaws.{globals_followed}
use Rattle.cb_requests.proofs.laws.globals_are_read_one_after_another.Goals as goal

pub returns : goal.returns
returns c = λ templates env given ts us globals h. globals_followed templates env given ts us globals h
