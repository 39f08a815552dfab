use Rattle.cb_session.proofs.PlaceLaws.{places-ended}
use Rattle.cb_session.proofs.laws.known_places_stay.Goals as goal

pub returns-clause-so_far : goal.returns-clause-so_far
returns-clause-so_far c = λ setup p r status ended. (places-ended setup p r status ended).0

pub returns-clause-whole : goal.returns-clause-whole
returns-clause-whole c = λ setup p r status ended. (places-ended setup p r status ended).1
