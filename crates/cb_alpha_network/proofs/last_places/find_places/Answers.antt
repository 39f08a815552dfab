use Rattle.std.proofs.lemmas.Result.{on_ok_weaker}
use Rattle.cb_alpha_network.proofs.last_places.find_places.Goals as goal

pub returns-clause-found : goal.returns-clause-found
returns-clause-found c = on_ok_weaker c.add_places-added.result (λ has n place i at. c.order.ensures.stay place (has n place i at)) c.add_places-added.ensures
