use Rattle.std.proofs.Common.{◌≡◌, ◌++◌, ◌∷◌, [], Some, false, length, nat_eq, rules, subst}
use Rattle.std.specs.Option.{option_eq}
use Rattle.cb_facts.specs.Internal.NamePlaces.{HasPlaces, place_at}
use Rattle.cb_expr_forms.proofs.PlaceLaws.{has_places-taken, has_places-left}
use Rattle.cb_expr_forms.proofs.name_list.NameList.pop.Goals as goal

pub invariant_of-self-then-eq : goal.invariant_of-self-then-eq
invariant_of-self-then-eq c =
    let names = c.pop.new.self.items in
    let all : c.self.inside.names.items ≡ names ++ c.in-Some.name ∷ [] = search rules in
    let at : place_at c.self.inside.firsts c.in-Some.name ≡ Some (length names) = search rules in
    has_places-taken c.self.inside.firsts c.remove.new.self names c.in-Some.name (subst (HasPlaces c.self.inside.firsts) all c.self.invariant) at c.remove.ensures.updates

pub invariant_of-self-else-eq : goal.invariant_of-self-else-eq
invariant_of-self-else-eq c =
    let names = c.pop.new.self.items in
    let all : c.self.inside.names.items ≡ names ++ c.in-Some.name ∷ [] = search rules in
    let other : option_eq nat_eq (place_at c.self.inside.firsts c.in-Some.name) (Some (length names)) ≡ false = search rules in
    has_places-left c.self.inside.firsts names c.in-Some.name (subst (HasPlaces c.self.inside.firsts) all c.self.invariant) other
