use Rattle.std.proofs.Common.{◌∙◌, sym}
use Rattle.cb_alpha_network.proofs.Searched.{found_there, there_found}
use Rattle.cb_alpha_network.proofs.node_place.is_found.Goals as goal

pub returns : goal.returns
returns c =
    let ps = c.args.found.now in
    let r = c.binary_search.result in (
      λ t. found_there ps c.args.place c.requires r c.binary_search.ensures.bound c.binary_search.ensures.position (sym c.is_ok.ensures.value ∙ t),
      λ i. c.is_ok.ensures.value ∙ there_found ps c.args.place c.requires r c.binary_search.ensures.bound c.binary_search.ensures.position i,
    )
