use Rattle.cb_alpha_network.proofs.LastPlaces.{none_last}
use Rattle.cb_alpha_network.proofs.last_places.LastPlaces.forget.Goals as goal

pub returns : goal.returns
returns c = λ users. none_last users (record { numbers = c.clear.new.self; places = c.clear-2.new.self }) c.clear.ensures.items c.clear-2.ensures.items
