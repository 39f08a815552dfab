use Rattle.std.proofs.Common.{◌≡◌, ◌++◌, ℤ, List, ap, map, of_z, rules, subst, to_z, w64, ◌∙◌}
use Rattle.cb_agenda.proofs.LaneCalls.{both_listed}
use Rattle.cb_agenda.specs.Agendas.{key_and_salience}
use Rattle.cb_agenda.specs.Internal.{current, active_at, ranked_all}
use Rattle.cb_matches.specs.Keys.{KeyValue}
use Rattle.cb_agenda.proofs.lane.Lane.add_listed.Goals as goal

pub returns : goal.returns
returns c =
    let level : to_z w64 (of_z w64 c.args.salience) ≡ c.args.salience = search rules in
    let find = active_at c.args.activations.now in
    let first : c.add_listed.new.listed.items ≡ c.args.listed.now.items ++ map key_and_salience (current find (ranked_all c.args.salience c.as_slices.result.0.now)) =
    subst (λ (u : ℤ). c.add_listed.new.listed.items ≡ c.args.listed.now.items ++ map key_and_salience (current find (ranked_all u c.as_slices.result.0.now))) level c.in_ok-add_listed.ensures in
    let second : c.add_listed-2.new.listed.items ≡ c.add_listed.new.listed.items ++ map key_and_salience (current find (ranked_all c.args.salience c.as_slices.result.1.now)) =
    subst (λ (u : ℤ). c.add_listed-2.new.listed.items ≡ c.add_listed.new.listed.items ++ map key_and_salience (current find (ranked_all u c.as_slices.result.1.now))) level c.in_ok-add_listed-2.ensures in
    second ∙ (ap (λ (all : List (KeyValue × ℤ)). all ++ map key_and_salience (current find (ranked_all c.args.salience c.as_slices.result.1.now))) first
    ∙ both_listed find c.args.salience c.args.listed.now.items c.as_slices.result.0.now c.as_slices.result.1.now c.args.self.now (c.as_slices.ensures.items ∙ c.self.view_is))
