use Rattle.std.proofs.Common.{◌≡◌, ◌∙◌, ◌<◌, List, Some, get_or, length, refl, slice_get, subst, sym}
use Rattle.std.proofs.lemmas.Option.{slice_get-get_or}
use Rattle.cb_beta.proofs.Losses.{on_ok}
use Rattle.cb_beta.specs.BetaMemories.{BetaMemoryValue}
use Rattle.cb_branch.proofs.one_node.change_first.Goals as goal
use Rattle.cb_branch.specs.Turning.{IsNodeAfter, IsNodeBefore}
use Rattle.cb_list_changes.proofs.Places.{one_some}

pub returns-clause-after : goal.returns-clause-after
returns-clause-after g c =
    let alphas = c.args.alphas.now in
    let sources = c.args.sources.now in
    let read = c.args.read.now in
    let lists : List BetaMemoryValue = c.args.lists.now in
    let node = c.args.node.now in
    let some : 0 < length lists = c.requires in
    let taken : BetaMemoryValue = get_or lists 0 c.index-lists-0.result in
    let there : slice_get lists 0 ≡ Some taken = slice_get-get_or lists 0 c.index-lists-0.result some in
    on_ok c.change_node.result
    (λ after before now fs fs' old new k own is b.
    let same : taken ≡ own = one_some (sym there ∙ is) in
    let first = subst (λ it. IsNodeBefore alphas sources before now read fs fs' old new k node it) (sym same) b in
    record {
      own_now = c.change_node.new.own;
      put = refl;
      after = subst (λ it. IsNodeAfter alphas sources read fs fs' old new node c.change_node.new.node it c.change_node.new.own) same (after before now fs fs' old new k first);
    })
    c.change_node.ensures.after

pub returns-clause-probes : goal.returns-clause-probes
returns-clause-probes g c =
    let alphas = c.args.alphas.now in
    let sources = c.args.sources.now in
    let read = c.args.read.now in
    let lists : List BetaMemoryValue = c.args.lists.now in
    let node = c.args.node.now in
    let some : 0 < length lists = c.requires in
    let taken : BetaMemoryValue = get_or lists 0 c.index-lists-0.result in
    let there : slice_get lists 0 ≡ Some taken = slice_get-get_or lists 0 c.index-lists-0.result some in
    on_ok c.change_node.result
    (λ pays before now fs fs' old new k own added is b takes.
    let same : taken ≡ own = one_some (sym there ∙ is) in
    pays before now fs fs' old new k added (subst (λ it. IsNodeBefore alphas sources before now read fs fs' old new k node it) (sym same) b) takes)
    c.change_node.ensures.probes
