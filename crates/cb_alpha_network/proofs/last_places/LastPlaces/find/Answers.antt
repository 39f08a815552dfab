use Rattle.std.proofs.Common.{◌≡◌, ◌∙◌, ◌++◌, ap, subst, sym}
use Rattle.cb_alpha_network.proofs.last_places.LastPlaces.find.Goals as goal
use Rattle.cb_alpha_network.specs.LastPlaces.{HasPlaces}

pub returns-clause-last : goal.returns-clause-last
returns-clause-last c =
    let ns = c.args.numbers.now in
    let those : c.extend_from_slice.new.self.items ≡ ns = c.in_ok-extend_from_slice.ensures.items ∙ ap (λ it. it ++ ns) c.clear.ensures.items in
    record {
      ordered = c.in_ok-find_places.ensures.ordered;
      found = subst (λ it. HasPlaces c.args.users.now.keys it c.find_places.new.places.items) (sym those) c.in_ok-find_places.ensures.found;
    }
