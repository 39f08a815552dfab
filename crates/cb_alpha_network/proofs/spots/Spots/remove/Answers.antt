use Rattle.std.proofs.Common.{Bool, ap, nat_eq, not, rules, ◌∙◌}
use Rattle.std.proofs.lemmas.Fn.{filter_same}
use Rattle.std.specs.List.{filter}
use Rattle.cb_alpha_network.proofs.spots.Spots.remove.Goals as goal
use Rattle.cb_alpha_network.specs.declared.spots.Spot.{Spot}

pub returns : goal.returns
returns c =
    let keeps : Spot → Bool = λ s. not (nat_eq s.number c.args.number) in
    filter_same _ keeps _ (λ x b f' k. search rules) _ _ c.retain.ensures.filtered ∙ ap (filter keeps) c.self.view_is
