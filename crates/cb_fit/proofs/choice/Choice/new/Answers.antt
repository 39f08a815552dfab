use Rattle.std.proofs.Common.{arith, ◌≡◌, ◌∙◌, ◌++◌, ◌+◌, ◌-◌, ◌<◌, ◌≤◌, ◌∷◌, ap, length, map, refl, rules, subst, sym}
use Rattle.std.proofs.lemmas.List.{length-map}
use Rattle.cb_constraints.specs.Constraints.{constraint_of}
use Rattle.cb_constraints.specs.PartValues.{asked_slot}
use Rattle.cb_constraints.specs.Rows.{before_segments, fields_wanted, segments_wanted}
use Rattle.cb_fit.proofs.Groups.{choice-done, group_skipped}
use Rattle.cb_fit.proofs.Parted.{parted}
use Rattle.cb_fit.proofs.Splits.{group-segments, is-segment}
use Rattle.cb_fit.proofs.Tries.{enough_tries, few_ends, suc-first}
use Rattle.cb_fit.specs.Internal.{begun_at, endings}
use Rattle.cb_fit.specs.Internal.Choices.{segments_in}
use Rattle.cb_fit.specs.Internal.Standing.{AreNext, IsAt}
use Rattle.cb_constraints.specs.Internal.RowFields.{row_fields}
use Rattle.cb_fit.proofs.choice.Choice.new.Goals as goal

pub returns-then-len-rest-clause-ways : goal.returns-then-len-rest-clause-ways
returns-then-len-rest-clause-ways c = λ s before.
    let split : c.args.rest.constraints.now ≡ c.in_ok-constraint.constraint.now ∷ c.in_ok-constraint.following.now = search rules in
    let p = parted c.args.rest c.in_ok-constraint.constraint.now c.in_ok-constraint.following.now c.split_ones.result.0.now c.split_ones.result.1.now c.requires.rest split c.split_ones.ensures.all c.split_ones.ensures.ones in
    let few : length (row_fields c.args.fields) - c.args.rest.at < c.args.rest.wanted = search rules in
    ap (λ cs. endings cs (begun_at s (row_fields c.args.fields) before c.args.rest.at)) p.row
    ∙ group_skipped (constraint_of c.in_ok-constraint.constraint.now) (map constraint_of c.split_ones.result.0.now ++ map constraint_of c.split_ones.result.1.now) (row_fields c.args.fields) (begun_at s (row_fields c.args.fields) before c.args.rest.at) c.args.rest.at c.args.rest.wanted p.wants_both few refl

pub overflow_sub-result : goal.overflow_sub-result
overflow_sub-result c =
    let split : c.args.rest.constraints.now ≡ c.in_ok-constraint.constraint.now ∷ c.in_ok-constraint.following.now = search rules in
    let p = parted c.args.rest c.in_ok-constraint.constraint.now c.in_ok-constraint.following.now c.split_ones.result.0.now c.split_ones.result.1.now c.requires.rest split c.split_ones.ensures.all c.split_ones.ensures.ones in
    omega (arith, p.wants)

pub returns-clause-ways : goal.returns-clause-ways
returns-clause-ways c = λ s before.
    let split : c.args.rest.constraints.now ≡ c.in_ok-constraint.constraint.now ∷ c.in_ok-constraint.following.now = search rules in
    let p = parted c.args.rest c.in_ok-constraint.constraint.now c.in_ok-constraint.following.now c.split_ones.result.0.now c.split_ones.result.1.now c.requires.rest split c.split_ones.ensures.all c.split_ones.ensures.ones in
    let enough : c.args.rest.wanted ≤ length (row_fields c.args.fields) = search rules in
    choice-done (constraint_of c.in_ok-constraint.constraint.now) (map constraint_of c.split_ones.result.0.now) (map constraint_of c.split_ones.result.1.now) (row_fields c.args.fields) (begun_at s (row_fields c.args.fields) before c.args.rest.at) c.args.rest.at c.first_end-to.result (c.len-len.result - c.args.rest.wanted) c.args.rest.wanted
    c.split_ones.ensures.ones p.wants_both enough (ap (λ n. n - c.args.rest.wanted) c.len-len.ensures) c.first_end-to.ensures.begun c.first_end-to.ensures.order
    (λ h. ap (map constraint_of) (c.first_end-to.ensures.alone h)) refl
    ∙ sym (ap (λ cs. endings cs (begun_at s (row_fields c.args.fields) before c.args.rest.at)) p.row)

pub returns-clause-choice : goal.returns-clause-choice
returns-clause-choice c =
    let split : c.args.rest.constraints.now ≡ c.in_ok-constraint.constraint.now ∷ c.in_ok-constraint.following.now = search rules in
    let p = parted c.args.rest c.in_ok-constraint.constraint.now c.in_ok-constraint.following.now c.split_ones.result.0.now c.split_ones.result.1.now c.requires.rest split c.split_ones.ensures.all c.split_ones.ensures.ones in
    record {
      segment = is-segment c.in_ok-constraint.constraint.now.takes_segment (before_segments (map constraint_of c.in_ok-constraint.following.now)) (ap (λ cs. before_segments (map constraint_of cs)) (sym split) ∙ c.requires.rest.0);
      ones = c.split_ones.ensures.ones;
      rest = c.split_ones.ensures.segment;
      wanted = omega (arith, p.wants);
      begun = c.first_end-to.ensures.begun;
      order = c.first_end-to.ensures.order;
      within = omega (arith, c.len-len.ensures, p.wants);
      room = omega (arith, c.len-len.type_inv, p.wants);
      alone = λ e. c.first_end-to.ensures.ended e;
      ended = λ e.
          let all : c.args.rest.wanted ≡ length c.split_ones.result.0.now + 0 = p.wants ∙ ap (λ cs. length c.split_ones.result.0.now + fields_wanted (map constraint_of cs)) e in
          omega (arith, all, c.len-len.ensures);
    }

pub returns-clause-tries : goal.returns-clause-tries
returns-clause-tries c =
    let split : c.args.rest.constraints.now ≡ c.in_ok-constraint.constraint.now ∷ c.in_ok-constraint.following.now = search rules in
    enough_tries (c.len-len.result - c.args.rest.wanted + 1 - c.first_end-to.result) (segments_wanted (map constraint_of c.split_ones.result.1.now) + segments_in (map asked_slot c.args.rows.now))
    (segments_wanted (map constraint_of c.args.rest.constraints.now) + segments_in (map asked_slot c.args.rows.now))
    (few_ends c.len-len.result c.args.rest.wanted c.first_end-to.result c.len-len.type_inv)
    (ap (λ n. n + segments_in (map asked_slot c.args.rows.now))
    (ap (λ cs. segments_wanted (map constraint_of cs)) split
    ∙ group-segments c.in_ok-constraint.constraint.now c.in_ok-constraint.following.now c.split_ones.result.0.now c.split_ones.result.1.now (sym c.split_ones.ensures.all) (ap (λ cs. before_segments (map constraint_of cs)) (sym split) ∙ c.requires.rest.0) c.split_ones.ensures.ones)
    ∙ suc-first (segments_wanted (map constraint_of c.split_ones.result.1.now)) (segments_in (map asked_slot c.args.rows.now)))

pub returns-clause-inside : goal.returns-clause-inside
returns-clause-inside c = λ s before number place next.
    let split : c.args.rest.constraints.now ≡ c.in_ok-constraint.constraint.now ∷ c.in_ok-constraint.following.now = search rules in
    let p = parted c.args.rest c.in_ok-constraint.constraint.now c.in_ok-constraint.following.now c.split_ones.result.0.now c.split_ones.result.1.now c.requires.rest split c.split_ones.ensures.all c.split_ones.ensures.ones in
    record {
      number = number;
      place = subst (IsAt s (row_fields c.args.fields) before c.args.rest.at) p.row place;
      next = subst (λ n. AreNext s (length before + n) (map asked_slot c.args.rows.now)) (sym (length-map c.args.rest.constraints.now constraint_of) ∙ ap length p.row) next;
    }
