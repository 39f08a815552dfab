use Rattle.std.proofs.Common.{◌≡◌, ◌∙◌, ◌+◌, ◌∷◌, ◌++◌, [], suc, ap, drop, length, map, refl, rules, subst, sym}
use Rattle.std.proofs.lemmas.List.{append-nil, drop_more}
use Rattle.cb_constraints.proofs.TableLaws.{counted_on, going_on}
use Rattle.cb_constraints.specs.Internal.Places.{places, places_for, sites_of}
use Rattle.cb_constraints.specs.Constraints.{constraint_of, demand_of}
use Rattle.cb_constraints.specs.Internal.Tables.{Going, Grows}
use Rattle.cb_constraints.specs.declared.site.Site.{Site}
use Rattle.cb_constraints.specs.declared.table.Table.{Table}
use Rattle.cb_constraints.proofs.table.Table.add_row.Goals as goal

pub loop-constraint-preserved : goal.loop-constraint-preserved
loop-constraint-preserved c =
    let rest = map constraint_of (drop (c.loop-constraint.constraint-index + 1) c.args.constraints.now) in
    let all = places (length c.args.self.now.sites.items) (map constraint_of c.args.constraints.now) in
    let total = sites_of c.args.row c.len-start.result (map constraint_of c.args.constraints.now) in
    let number = length c.loop-constraint.self.sites.items in
    let site : Site = record { row = c.args.row; start = c.len-start.result; takes_segment = (constraint_of c.constraint-item.result).segment } in
    let next : c.constraint-item.result ∷ drop (c.loop-constraint.constraint-index + 1) c.args.constraints.now ≡ drop c.loop-constraint.constraint-index c.args.constraints.now =
    sym (drop_more c.args.constraints.now c.loop-constraint.constraint-index c.constraint-item.result c.loop-constraint-test.true ∙ ap (λ r. r ∷ drop (c.loop-constraint.constraint-index + 1) c.args.constraints.now) (search rules)) in
    let pushed : c.push.new.self.items ≡ c.add_demand.new.self.sites.items ++ site ∷ [] = search rules in
    let before : Going c.args.self.now c.loop-constraint.self (places_for number (demand_of c.constraint-item.result.demand) ++ places (suc number) rest) all (site ∷ sites_of c.args.row c.len-start.result rest) total =
    subst (λ ys. Going c.args.self.now c.loop-constraint.self (places number (map constraint_of ys)) all (sites_of c.args.row c.len-start.result (map constraint_of ys)) total) (sym next) c.loop-constraint.invariant in
    let told : c.len-number.result ≡ length c.loop-constraint.self.sites.items = search rules in
    let grew : Grows c.loop-constraint.self c.add_demand.new.self (places_for number (demand_of c.constraint-item.result.demand)) [] =
    subst (λ k. Grows c.loop-constraint.self c.add_demand.new.self (places_for k (demand_of c.constraint-item.result.demand)) []) told c.in_ok-add_demand.ensures in
    let counted : suc number ≡ length c.push.new.self.items =
    counted_on c.loop-constraint.self.sites.items c.push.new.self.items site (pushed ∙ ap (λ xs. xs ++ site ∷ []) (grew.sites ∙ append-nil c.loop-constraint.self.sites.items)) in
    let here : Table = record { names = c.add_demand.new.self.names; variables = c.add_demand.new.self.variables; sites = c.push.new.self } in
    subst (λ k. Going c.args.self.now here (places k rest) all (sites_of c.args.row c.len-start.result rest) total) counted
    (going_on c.args.self.now c.loop-constraint.self c.add_demand.new.self here (places_for number (demand_of c.constraint-item.result.demand)) (places (suc number) rest) all site
    (sites_of c.args.row c.len-start.result rest) total before grew refl refl pushed)
