use Rattle.cb_knowledge_base.proofs.KeepLaws.{keeps_others}
use Rattle.cb_knowledge_base.proofs.laws.what_is_added_keeps_the_others.Goals as goal

pub returns : goal.returns
returns c = λ m fact none. keeps_others m fact none
