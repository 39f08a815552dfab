use Rattle.cb_forms.specs.Trees.{tree_of}
use Rattle.cb_requests.proofs.Globals.{is_global}
use Rattle.cb_requests.proofs.global_list.split_global.Goals as goal

pub returns-clause-parts : goal.returns-clause-parts
returns-clause-parts c =
    is_global (tree_of c.args.first.now) c.args.following.now c.in_ok-word.rest.now c.in_ok-form.others.now c.in_ok-word.word.now c.in_ok-form.form.now _
    c.in_ok-word.ensures.cases.0 c.in_ok-form.ensures.cases.0 c.in_ok-name_given.ensures
