use Rattle.std.proofs.Common.{◌≡◌, ◌∙◌, ◌||◌, ◌++◌, ◌∷◌, [], arith, Bor, Some, List, Result, Err, ap, rules, subst, sym}
use Rattle.std.specs.Prelude.{MatchResult}
use Rattle.cb_constraints.specs.Constraints.{check_of, constraint_of}
use Rattle.cb_constraints.specs.declared.constraint.Constraint.{Constraint}
use Rattle.cb_facts.specs.FaultLists.{first_of}
use Rattle.cb_facts.specs.Results.{Reports}
use Rattle.cb_facts.specs.declared.refused.Refused.{Refused}
use Rattle.cb_forms.specs.Members.{members}
use Rattle.cb_forms.specs.declared.form.Form.{Form}
use Rattle.cb_rule_forms.specs.Members.{check, members_in}
use Rattle.cb_rule_forms.specs.RowFaults.{written_faults}
use Rattle.cb_rule_forms.specs.Rows.{check_in, is_several, put_before, written_constraints}
use Rattle.cb_rule_forms.specs.Internal.RowReading.{StartsWithConstraint, alternatives_of, checks_faults, checks_of, connective_of, written_of}
use Rattle.cb_rule_forms.proofs.RowLaws.{check_faulty, checks_more, ends_with, faults_on, written_on, tells}
use Rattle.cb_rule_forms.proofs.row.read_constraint.Goals as goal
use Rattle.cb_rule_forms.proofs.row.read_constraint.Goals.{then-takes_segment, else-takes_segment}

pub returns-in_err-read_check-clause-constraint : goal.returns-in_err-read_check-clause-constraint
returns-in_err-read_check-clause-constraint c =
    let s = c.args.scope.now in
    let all = members_in (members c.args.forms.now) in
    let w = written_of c.in-Some.written in
    let n = c.in-Some.is_negated in
    let others = members_in (members c.in-Some.following.now) in
    let r : c.from_residual.result ≡ Err c.in_err-read_check.field-0.0 = search rules in
    subst
    (λ (it : Result (Constraint × Bor (List Form)) Refused).
    MatchResult it (λ split. StartsWithConstraint s (first_of (checks_faults s all)) all (constraint_of split.0) (members_in (members split.1.now))) (λ e. Reports e (λ f. first_of (checks_faults s all) ≡ Some f)))
    (sym r)
    (tells check_of (check_in s.templates n w) c.in_err-read_check.field-0.0 (written_faults s w) (λ f. first_of (checks_faults s all) ≡ Some f)
    (λ f h. ap first_of (sym c.loop-is_negated.invariant.0 ∙ ap (checks_faults s) c.in-Some.ensures.check) ∙ check_faulty s n w others f h)
    c.in_err-read_check.ensures)

pub returns-in_default-split_connective-clause-constraint : goal.returns-in_default-split_connective-clause-constraint
returns-in_default-split_connective-clause-constraint c =
    let s = c.args.scope.now in
    let w = written_of c.in-Some.written in
    let n = c.in-Some.is_negated in
    let others = members_in (members c.in-Some.following.now) in
    let more : c.if-takes_segment.takes_segment ≡ (c.loop-is_negated.takes_segment || is_several w) =
    elim c.if-takes_segment.branch [ then-takes_segment w ↦ search rules | else-takes_segment w ↦ search rules ] in
    let grown : checks_of c.push.new.self ≡ checks_of c.loop-is_negated.checks ++ check_in s.templates n w ∷ [] =
    checks_more c.loop-is_negated.checks.items c.push.new.self.items c.in_ok-read_check.field-0 (check_in s.templates n w) c.in_ok-push.ensures.items c.in_ok-read_check.ensures.1 in
    ends_with s (members_in (members c.args.forms.now)) c.loop-is_negated.takes_segment c.if-takes_segment.takes_segment (alternatives_of c.loop-is_negated.alternatives) (checks_of c.loop-is_negated.checks)
    (checks_of c.push.new.self) n w others (members_in (members c.loop-is_negated.rest.now)) _ c.loop-is_negated.invariant.0 c.loop-is_negated.invariant.1
    c.in-Some.ensures.check c.in_default-split_connective.ensures.connective c.in_ok-read_check.ensures.0 more grown c.in_ok-demand.ensures

pub loop-is_negated-preserved : goal.loop-is_negated-preserved
loop-is_negated-preserved c =
    let s = c.args.scope.now in
    let w = written_of c.in-Some.written in
    let n = c.in-Some.is_negated in
    let k = c.in-Some-split_connective.connective in
    let others = members_in (members c.in-Some-split_connective.others.now) in
    let inv = c.loop-is_negated.invariant in
    let more : c.if-takes_segment.takes_segment ≡ (c.loop-is_negated.takes_segment || is_several w) =
    elim c.if-takes_segment.branch [ then-takes_segment w ↦ search rules | else-takes_segment w ↦ search rules ] in
    let grown : checks_of c.push.new.self ≡ checks_of c.loop-is_negated.checks ++ check_in s.templates n w ∷ [] =
    checks_more c.loop-is_negated.checks.items c.push.new.self.items c.in_ok-read_check.field-0 (check_in s.templates n w) c.in_ok-push.ensures.items c.in_ok-read_check.ensures.1 in
    let here : members_in (members c.loop-is_negated.rest.now) ≡ check n w ∷ connective_of k ∷ others =
    c.in-Some.ensures.check ∙ ap (λ ms. check n w ∷ ms) c.in-Some-split_connective.ensures.connective in
    let before = put_before c.loop-is_negated.takes_segment (alternatives_of c.loop-is_negated.alternatives) (checks_of c.loop-is_negated.checks) in
    let shorter = c.in-Some.ensures.shorter in
    let least = c.in-Some-split_connective.ensures.shorter in
    let within = inv.2 in (
      sym (ap (checks_faults s) here ∙ faults_on s k n w others c.in_ok-read_check.ensures.0) ∙ inv.0,
      sym (ap (λ ms. before (written_constraints s.templates ms)) here
          ∙ written_on s.templates k c.loop-is_negated.takes_segment c.if-takes_segment.takes_segment (alternatives_of c.loop-is_negated.alternatives) (alternatives_of c.connect.new.alternatives)
          (checks_of c.loop-is_negated.checks) (checks_of c.push.new.self) (checks_of c.connect.new.checks) n w others more grown c.in_ok-connect.ensures) ∙ inv.1,
      omega arith,
    )
