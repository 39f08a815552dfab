use Rattle.std.proofs.Common.{◌∙◌, ap, map, sym}
use Rattle.cb_exprs.specs.Terms.{term_of}
use Rattle.cb_join_node.proofs.Tokens.{no_token}
use Rattle.cb_join_node.proofs.joining.add_given.Goals as goal
use Rattle.cb_join_node.specs.Nodes.{tests_of}
use Rattle.cb_matches.specs.Matches.{grown}
use Rattle.cb_nodes.specs.Flat.{all_hold}
use Rattle.cb_token_lists.specs.Partials.{partial_at}

pub returns-then-not-branch : goal.returns-then-not-branch
returns-then-not-branch g c =
    let m = partial_at c.args.lists.now.sources.now c.args.lists.now.lists.now c.args.from c.args.number in
    no_token c.args.asked.now.address (tests_of c.args.asked.now) m c.args.number c.args.candidate c.args.index c.args.own.now c.args.given
    (ap (λ es. all_hold (map term_of es) (grown c.args.asked.now.address c.args.index m c.args.given)) (sym c.as_slice-tests.ensures.value) ∙ (sym c.in_ok-hold_after.ensures ∙ c.if-not-branch.true))
