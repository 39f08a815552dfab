use Rattle.std.proofs.Common.{rules, ◌≡◌, ◌∙◌, ◌++◌, ◌∷◌, [], List, true, false, ap, sym}
use Rattle.cb_constraints.specs.PartValues.{asked_parts}
use Rattle.cb_fit.proofs.FirstFields.{first_more, first_still, is_seen, unseen, unseen_none}
use Rattle.cb_fit.proofs.join_fields.giving_of_parts.Goals as goal
use Rattle.cb_fit.specs.JoinFields.{first_fields, join_fields}
use Rattle.cb_fit.specs.declared.join_fields.JoinField.{JoinField}

pub loop-field-init : goal.loop-field-init
loop-field-init c =
    let all : c.into_iter-field-iterator.result.rest.items ≡ join_fields (asked_parts c.args.parts.now) = search rules in
    ap (λ (ks : List JoinField). ks ++ unseen ks (first_fields c.into_iter-field-iterator.result.rest.items)) c.new-all.ensures
    ∙ unseen_none (first_fields c.into_iter-field-iterator.result.rest.items)
    ∙ ap first_fields all

pub loop-field-preserved-then-is_none : goal.loop-field-preserved-then-is_none
loop-field-preserved-then-is_none c =
    let unknown : is_seen c.loop-field.all c.in-Some.field.variable ≡ false = search rules in
    let pushed : c.in_ok-all.all ≡ c.loop-field.all ++ c.in-Some.field ∷ [] = search rules in
    let next : c.loop-field.field-iterator.rest.items ≡ c.in-Some.field ∷ c.next.new.self.rest.items = search rules in
    ap (λ (ks : List JoinField). ks ++ unseen ks (first_fields c.next.new.self.rest.items)) pushed
    ∙ first_more c.loop-field.all c.in-Some.field c.next.new.self.rest.items unknown
    ∙ ap (λ (js : List JoinField). c.loop-field.all ++ unseen c.loop-field.all (first_fields js)) (sym next)
    ∙ c.loop-field.invariant

pub loop-field-preserved : goal.loop-field-preserved
loop-field-preserved c =
    let known : is_seen c.loop-field.all c.in-Some.field.variable ≡ true = search rules in
    let next : c.loop-field.field-iterator.rest.items ≡ c.in-Some.field ∷ c.next.new.self.rest.items = search rules in
    first_still c.loop-field.all c.in-Some.field c.next.new.self.rest.items known
    ∙ ap (λ (js : List JoinField). c.loop-field.all ++ unseen c.loop-field.all (first_fields js)) (sym next)
    ∙ c.loop-field.invariant
