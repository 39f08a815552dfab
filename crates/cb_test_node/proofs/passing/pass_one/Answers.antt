use Rattle.std.proofs.Common.{◌≡◌, ◌∙◌, ap, subst, sym}
use Rattle.cb_beta.specs.BetaMemories.{Gains}
use Rattle.cb_exprs.specs.Terms.{term_of}
use Rattle.cb_matches.specs.Matches.{test_holds}
use Rattle.cb_test_node.proofs.Behind.{fails, passes}
use Rattle.cb_test_node.proofs.passing.pass_one.Goals as goal
use Rattle.cb_token_lists.specs.Partials.{partial_at}
use Rattle.cb_token_lists.specs.declared.known.Reading.{Reading}

pub returns-then-not-branch : goal.returns-then-not-branch
returns-then-not-branch c =
    let at = partial_at c.args.lists.now.sources.now c.args.lists.now.lists.now c.args.from in
    let test = term_of c.args.test.now in
    let read = λ (it : Reading). test_holds test (partial_at it.lists.sources.now it.lists.lists.now it.list it.number).env in
    let is : test_holds test (at c.args.number).env ≡ c.in_ok-holds.field-0 = sym (ap read c.reading.ensures) ∙ sym c.in_ok-holds.ensures in
    fails test at c.args.own.now c.args.number (is ∙ c.if-not-branch.true)

pub returns : goal.returns
returns c =
    let at = partial_at c.args.lists.now.sources.now c.args.lists.now.lists.now c.args.from in
    let test = term_of c.args.test.now in
    let read = λ (it : Reading). test_holds test (partial_at it.lists.sources.now it.lists.lists.now it.list it.number).env in
    let is : test_holds test (at c.args.number).env ≡ c.in_ok-holds.field-0 = sym (ap read c.reading.ensures) ∙ sym c.in_ok-holds.ensures in
    passes test at c.args.own.now c.add.new.self c.args.number c.in_ok-add.field-0 (is ∙ c.if-not-branch.false) (subst (Gains c.args.own.now c.add.new.self c.in_ok-add.field-0) c.bare.ensures c.in_ok-add.ensures.ok)
