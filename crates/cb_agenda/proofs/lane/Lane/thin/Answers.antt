use Rattle.std.proofs.Common.{◌≡◌, ℕ, ℤ, ap, filter, inr, of_z, rules, subst, to_z, w64, ◌∙◌}
use Rattle.cb_agenda.specs.Internal.{Line, is_current, active_at, ranked}
use Rattle.cb_agenda.proofs.lane.Lane.thin.Goals as goal

pub returns-then-len-self : goal.returns-then-len-self
returns-then-len-self c =
    let level : to_z w64 (of_z w64 c.args.salience) ≡ c.args.salience = search rules in
    inr (subst (λ (u : ℤ). c.let_go.new.entries.items ≡ filter (λ (x : ℕ × ℕ). is_current (active_at c.args.activations.now) (ranked u x)) c.self.inside.entries.items) level c.let_go.ensures
    ∙ ap (λ (xs : Line). filter (λ (x : ℕ × ℕ). is_current (active_at c.args.activations.now) (ranked c.args.salience x)) xs) c.self.view_is)
