use Rattle.std.proofs.Common.{arith, ◌≡◌, ◌∙◌, ◌++◌, ◌+◌, ◌-◌, ◌*◌, ℕ, Some, suc, ap, map, subst, sym}
use Rattle.std.specs.List.{flat_map}
use Rattle.cb_constraints.specs.Constraints.{constraint_of}
use Rattle.cb_constraints.specs.PartValues.{asked_slot}
use Rattle.cb_constraints.specs.Rows.{segments_wanted}
use Rattle.cb_fit.proofs.Choices.{last-first, open-last, others-choice, tries-last, up-to-last}
use Rattle.cb_fit.proofs.Tries.{no-more}
use Rattle.cb_fit.specs.Internal.{endings}
use Rattle.cb_fit.specs.Internal.Choices.{AreOpen, AreUpTo, cuts_before, followed_by_rows, group_from, segments_in, tries_after, tries_left, ways_left, most_tries}
use Rattle.cb_fit.proofs.open_choices.open_others.Goals as goal

pub returns-clause-ways : goal.returns-clause-ways
returns-clause-ways c = λ s cuts.
    ap (ways_left s cuts) c.in_ok-push.ensures.ok
    ∙ (last-first s cuts c.args.choices.now.items (Some (record { fields = c.args.choice.fields; number = c.args.choice.number; at = c.args.choice.at; constraint = c.args.choice.constraint; ones = c.args.choice.ones; rest = c.args.choice.rest; wanted = c.args.choice.wanted; rows = c.args.choice.rows; to = c.args.to + 1; last = c.args.choice.last }))
    ∙ ap (λ n. followed_by_rows (map asked_slot c.args.choice.rows.now) s.slots (flat_map (endings (map constraint_of c.args.choice.rest.now)) (group_from s (cuts_before c.args.choice cuts) c.args.choice (c.args.to + 1) n)) ++ ways_left s cuts c.args.choices.now.items)
    (one-less c.args.choice.last c.args.to))
  where
    one-less : (last to : ℕ) → last + 1 - (to + 1) ≡ last - to
    one-less last to = omega arith

pub returns-clause-tries : goal.returns-clause-tries
returns-clause-tries c =
    no-more (tries_left c.push.new.self.items) (tries_after c.args.choice c.args.to + tries_left c.args.choices.now.items)
    (ap tries_left c.in_ok-push.ensures.ok
    ∙ (tries-last c.args.choices.now.items (Some (record { fields = c.args.choice.fields; number = c.args.choice.number; at = c.args.choice.at; constraint = c.args.choice.constraint; ones = c.args.choice.ones; rest = c.args.choice.rest; wanted = c.args.choice.wanted; rows = c.args.choice.rows; to = c.args.to + 1; last = c.args.choice.last }))
    ∙ ap (λ n. n * suc (most_tries (segments_wanted (map constraint_of c.args.choice.rest.now) + segments_in (map asked_slot c.args.choice.rows.now))) + tries_left c.args.choices.now.items)
    (one-less c.args.choice.last c.args.to)))
  where
    one-less : (last to : ℕ) → last + 1 - (to + 1) ≡ last - to
    one-less last to = omega arith

pub returns-clause-open : goal.returns-clause-open
returns-clause-open c = λ s cuts is order were.
    subst (AreOpen s cuts) (sym c.in_ok-push.ensures.ok)
    (open-last s cuts c.args.choices.now.items (Some (record { fields = c.args.choice.fields; number = c.args.choice.number; at = c.args.choice.at; constraint = c.args.choice.constraint; ones = c.args.choice.ones; rest = c.args.choice.rest; wanted = c.args.choice.wanted; rows = c.args.choice.rows; to = c.args.to + 1; last = c.args.choice.last }))
    (record { choice = others-choice c.args.choice (c.args.to + 1) (omega (arith, c.requires.order)) (omega arith) (λ e. absurd (omega (arith, e, c.requires.order))) is.choice; inside = record { number = is.inside.number; place = is.inside.place; next = is.inside.next }; rows = is.rows }) order were)

pub returns-clause-order : goal.returns-clause-order
returns-clause-order c = λ order.
    subst (AreUpTo c.args.choice.number) (sym c.in_ok-push.ensures.ok)
    (up-to-last c.args.choice.number c.args.choices.now.items (Some (record { fields = c.args.choice.fields; number = c.args.choice.number; at = c.args.choice.at; constraint = c.args.choice.constraint; ones = c.args.choice.ones; rest = c.args.choice.rest; wanted = c.args.choice.wanted; rows = c.args.choice.rows; to = c.args.to + 1; last = c.args.choice.last })) (omega arith) order)
