use Rattle.std.proofs.Common.{◌≡◌, ◌∙◌, ap, rules, subst, sym}
use Rattle.cb_alpha.specs.AlphaMemories.{AlphaMemoryValue, GainsFact}
use Rattle.cb_alpha.specs.Turning.{AlphaTurns}
use Rattle.cb_alpha_network.proofs.filling.fill_one.Goals as goal
use Rattle.cb_alpha_network.proofs.filling.fill_one.Goals.{then-branch+in_ok-clone+in_ok-add, else-branch}
use Rattle.cb_facts.specs.FactLists.{with_fact}
use Rattle.cb_fit.specs.Shapes.{is_selected, selects}

pub returns : goal.returns
returns g c =
    λ p fs shape over free.
    let ix = c.args.index in
    let f = c.args.fact.now in
    let fits_is : c.in_ok-selects.field-0 ≡ is_selected p f = c.in_ok-selects.ensures.selects ∙ ap (λ q. selects q f) shape in
    let turns : AlphaTurns p c.if-branch.memory fs (with_fact fs ix f) = elim c.if-branch.branch as (λ _. AlphaTurns p c.if-branch.memory fs (with_fact fs ix f)) [
      | then-branch+in_ok-clone+in_ok-add w ↦
          let gains : GainsFact c.args.memory.now c.if-branch.memory w.in_ok-add.field-0 (ix, f) = search rules in
          c.a_fact_that_comes_turns_an_alpha_memory.ensures p c.args.memory.now c.if-branch.memory w.in_ok-add.field-0 ix f fs over gains free (sym fits_is ∙ w.if-branch.true)
      | else-branch w ↦
          subst (λ (m : AlphaMemoryValue). AlphaTurns p m fs (with_fact fs ix f)) (sym w.memory-is)
          (c.a_fact_that_is_not_selected_comes.ensures p c.args.memory.now ix f fs over free (sym fits_is ∙ w.if-branch.false))
    ] in
    c.a_change_of_an_alpha_memory_ends.ensures p c.if-branch.memory c.end_change.new.self fs (with_fact fs ix f) turns c.end_change.ensures
