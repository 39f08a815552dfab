use Rattle.std.proofs.Common.{◌≡◌, ◌-◌, ℤ, Some, length, of_z, rules, slice_get, subst, sym, to_z, w64, ◌∙◌}
use Rattle.cb_agenda.proofs.lanes.greatest.Goals as goal

pub returns-clause-some : goal.returns-clause-some
returns-clause-some c = λ s is.
    let level : to_z w64 (of_z w64 c.in_ok-salience.salience.now) ≡ c.in_ok-salience.salience.now = search rules in
    let both : Some (to_z w64 (of_z w64 c.in_ok-salience.salience.now)) ≡ Some s = is in
    let read : to_z w64 (of_z w64 c.in_ok-salience.salience.now) ≡ s = some_same both in (
      c.in_ok-salience.field-0-1.now,
      subst (λ (u : ℤ). slice_get c.args.lanes.now.entries (length c.args.lanes.now.entries - 1) ≡ Some (u, c.in_ok-salience.field-0-1.now)) (sym level ∙ read) c.in_ok-salience.ensures.last,
    )
  where
    some_same : {a b : ℤ} → Some a ≡ Some b → a ≡ b
    some_same h = cc
