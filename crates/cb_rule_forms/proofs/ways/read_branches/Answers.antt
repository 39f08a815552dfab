use Rattle.std.proofs.Common.{◌≡◌, ◌∙◌, [], Global, Vec, ap, length, map, nat_le, refl, rules, subst, sym}
use Rattle.cb_forms.specs.declared.fault.Fault.TheVariants.{TooManyBranches}
use Rattle.cb_rule_forms.specs.Branches.{asked_by, branches_in, ways_through_all}
use Rattle.cb_rule_forms.specs.Elements.{elements_faults}
use Rattle.cb_rule_forms.specs.Internal.{branches_read, ways_seen, writtens, written_seen}
use Rattle.cb_rule_forms.specs.Rules.{left_faults}
use Rattle.cb_rule_forms.specs.declared.element.ElementForm.{ElementForm}
use Rattle.cb_rule_forms.proofs.WayLaws.{all_right, both_none, fault_passes, ways_faults}
use Rattle.cb_facts.specs.FaultLists.{ReadsAs, unless}
use Rattle.cb_rule_forms.proofs.ways.read_branches.Goals as goal

pub returns-in_err-check_elements : goal.returns-in_err-check_elements
returns-in_err-check_elements c =
    let s = c.args.scope.now in
    let ws = writtens (map written_seen c.args.elements.now) in
    fault_passes (λ (done : Unit {0}). done) (λ (branches : Vec (Vec ElementForm Global) Global). branches_read branches.items) c.in_err-check_elements.field-0.0 c.from_residual.result
    (elements_faults s ws) (unless (nat_le (length (ways_through_all ws)) 64) TooManyBranches) (left_faults s ws) tt (branches_in s.templates ws) refl (search rules)
    c.in_err-check_elements.ensures

pub returns : goal.returns
returns c =
    let s = c.args.scope.now in
    let ws = writtens (map written_seen c.args.elements.now) in
    let view = λ (branches : Vec (Vec ElementForm Global) Global). branches_read branches.items in
    let ways = ways_seen c.in_ok-ways.ways.items in
    let is : ways ≡ ways_through_all ws = c.in_ok-ways.ensures.1 in
    let right : elements_faults s ws ≡ [] = c.in_ok-check_elements.ensures.0 in
    let none : ways_faults s ways ≡ left_faults s ws =
    ap (ways_faults s) is ∙ (all_right s ws right ∙ sym (both_none (elements_faults s ws) _ right c.in_ok-ways.ensures.0))
    in
    subst (λ faults. ReadsAs view c.read_ways.result faults (branches_in s.templates ws)) none
    (subst (λ it. ReadsAs view c.read_ways.result (ways_faults s ways) it) (ap (map (asked_by s.templates)) is) c.read_ways.ensures)
