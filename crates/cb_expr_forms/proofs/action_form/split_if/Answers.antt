use Rattle.std.proofs.Common.{◌∙◌, sym}
use Rattle.cb_expr_forms.proofs.Ifs.{if_faults_are, if_fits, is_if, not_if}
use Rattle.cb_expr_forms.proofs.action_form.split_if.Goals as goal

pub returns-then-not-is_symbol : goal.returns-then-not-is_symbol
returns-then-not-is_symbol c =
    not_if c.args.args.now c.in_ok-test.rest.now c.in_ok-word.actions.now c.in_ok-test.test.now c.in_ok-word.word.now c.in_ok-test.ensures.cases.0 c.in_ok-word.ensures.cases.0
    (sym c.is_symbol.ensures ∙ c.if-not-is_symbol.true)

pub returns : goal.returns
returns c =
    let all = c.args.args.now in
    let rest = c.in_ok-test.rest.now in
    let body = c.in_ok-word.actions.now in
    let first = c.split_else.result.0.now in
    let second = c.split_else.result.1.now in
    let h = sym c.is_symbol.ensures ∙ c.if-not-is_symbol.false in
    let cut = c.split_else.ensures in
    let once = c.if-has_else.ensures in
    let starts = c.in_ok-test.ensures.cases.0 in
    let goes_on = c.in_ok-word.ensures.cases.0 in (
      is_if all rest body c.in_ok-test.test.now c.in_ok-word.word.now starts goes_on first second h cut once,
      if_faults_are all rest body c.in_ok-test.test.now c.in_ok-word.word.now starts goes_on first second h cut once,
      if_fits all rest body c.in_ok-test.test.now c.in_ok-word.word.now starts goes_on first second h cut once,
    )
