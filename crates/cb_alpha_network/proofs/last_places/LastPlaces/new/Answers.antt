use Rattle.cb_alpha_network.proofs.LastPlaces.{none_last}
use Rattle.cb_alpha_network.proofs.last_places.LastPlaces.new.Goals as goal

pub returns : goal.returns
returns c = λ users. none_last users (record { numbers = c.new.result; places = c.new-2.result }) c.new.ensures.items c.new-2.ensures.items
