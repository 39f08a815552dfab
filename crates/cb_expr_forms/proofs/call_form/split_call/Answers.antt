use Rattle.std.proofs.Common.{◌≡◌, ◌∙◌, Some, ap, sym}
use Rattle.cb_expr_forms.proofs.Calls.{by_head, by_word}
use Rattle.cb_forms.specs.Members.{members}
use Rattle.cb_words.specs.Words.{head_of}
use Rattle.cb_words.specs.declared.words.Head.TheVariants as head
use Rattle.cb_expr_forms.proofs.call_form.split_call.Goals as goal

pub returns-in-Some-Function : goal.returns-in-Some-Function
returns-in-Some-Function c =
    let side = c.args.side in
    let us = members c.in-Some.args.now in
    let word : head_of c.in-Some.name.now ≡ Some (head.Function c.in-Some-Function.function) = sym c.read_head.ensures ∙ c.in-Some-Function.is ∙ ap Some c.in-Some-Function.field-0-is in
    by_head side (members c.args.forms.now) c.in-Some.name.now us c.split_function.result c.in-Some.ensures
    (by_word side (head_of c.in-Some.name.now) (Some (head.Function c.in-Some-Function.function)) us c.split_function.result word (c.split_function.ensures side))

pub returns-in-Some-Action : goal.returns-in-Some-Action
returns-in-Some-Action c =
    let side = c.args.side in
    let us = members c.in-Some.args.now in
    let word : head_of c.in-Some.name.now ≡ Some (head.Action c.in-Some-Action.action) = sym c.read_head.ensures ∙ c.in-Some-Action.is ∙ ap Some c.in-Some-Action.field-0-is in
    by_head side (members c.args.forms.now) c.in-Some.name.now us c.split_acting.result c.in-Some.ensures
    (by_word side (head_of c.in-Some.name.now) (Some (head.Action c.in-Some-Action.action)) us c.split_acting.result word c.split_acting.ensures)
