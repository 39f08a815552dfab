use Rattle.std.proofs.Common.{◌≡◌, ◌∙◌, ◌∷◌, Global, Vec, ap, map, rules, sym}
use Rattle.std.specs.List.{flat_map}
use Rattle.cb_rule_forms.specs.Branches.{asked_by}
use Rattle.cb_rule_forms.specs.Elements.{element_faults, written_elements}
use Rattle.cb_rule_forms.specs.declared.element.ElementForm.{ElementForm}
use Rattle.cb_rule_forms.specs.Internal.{branches_read, form_value, way_seen, ways_seen}
use Rattle.cb_rule_forms.proofs.WayLaws.{fault_passes}
use Rattle.cb_rule_forms.proofs.ways.read_ways.Goals as goal

pub returns-in_err-read_way : goal.returns-in_err-read_way
returns-in_err-read_way c =
    let s = c.args.scope.now in
    let ways_faults = flat_map (flat_map (element_faults s)) in
    let step : c.loop-way.way-iterator.rest.items ≡ c.in-Some.way ∷ c.next.new.self.rest.items = search rules in
    fault_passes (λ (es : Vec ElementForm Global). map form_value es.items) (λ (branches : Vec (Vec ElementForm Global) Global). branches_read branches.items) c.in_err-read_way.field-0.0 c.from_residual.result
    (flat_map (element_faults s) (way_seen c.in-Some.way)) (ways_faults (ways_seen c.next.new.self.rest.items)) (ways_faults (ways_seen c.args.ways.items))
    (flat_map (written_elements s.templates) (way_seen c.in-Some.way)) (map (asked_by s.templates) (ways_seen c.args.ways.items))
    (ap (λ ways. ways_faults (ways_seen ways)) (sym step) ∙ c.loop-way.invariant.0)
    (search rules)
    c.in_err-read_way.ensures
