use Rattle.std.proofs.Common.{◌≡◌, ◌∙◌, IfSome, ap, filter, map, subst}
use Rattle.std.specs.List.{slice_get}
use Rattle.std.specs.Map.{lookup}
use Rattle.std.specs.Option.{option_and_then, option_map}
use Rattle.std.specs.Str.{bytes_eq}
use Rattle.cb_constraints.specs.Binders.{constraints_in}
use Rattle.cb_constraints.specs.Internal.Places.{first_place, if_before, is_before, places}
use Rattle.cb_constraints.specs.PartValues.{asked_parts}
use Rattle.cb_constraints.proofs.PlaceLaws.{found, looked_up, looked_up_before}
use Rattle.cb_constraints.proofs.body.Body.first_before.Goals as goal
use Rattle.cb_facts.specs.Places.{place_in}

pub returns-in-Some : goal.returns-in-Some
returns-in-Some c =
    c.if_before.ensures
    ∙ ap (if_before c.args.constraint c.args.check)
    (c.find_place.ensures
    ∙ (ap (λ es. option_and_then (λ i. option_map (λ e. e.1) (slice_get es i)) (place_in c.deref.result.now c.args.name.now)) c.as_slice.ensures.value
    ∙ (found c.args.name.now c.deref.result.now c.self.inside.variables.items
    (c.deref.ensures ∙ subst (λ kept. IfSome (option_map (λ n. n.value) kept) (λ xs. xs ≡ map (λ e. e.0) c.self.inside.variables.items)) c.in-Some.is c.self.invariant.0)
    ∙ (ap (lookup (bytes_eq c.args.name.now)) c.self.invariant.1
    ∙ (looked_up c.args.name.now (places 0 (constraints_in (asked_parts c.self.inside.parts)))
    ∙ ap (λ p. first_place c.args.name.now (constraints_in p)) c.self.view_is)))))

pub returns-in-None : goal.returns-in-None
returns-in-None c =
    c.place_before.ensures
    ∙ (ap (λ es. lookup (bytes_eq c.args.name.now) (filter (λ e. is_before e.1 c.args.constraint c.args.check) es)) (c.as_slice-in-None.ensures.value ∙ c.self.invariant.1)
    ∙ (looked_up_before c.args.name.now c.args.constraint c.args.check (places 0 (constraints_in (asked_parts c.self.inside.parts)))
    ∙ ap (λ p. if_before c.args.constraint c.args.check (first_place c.args.name.now (constraints_in p))) c.self.view_is))
