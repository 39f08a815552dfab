use Rattle.std.proofs.Common.{◌≡◌, ◌∙◌, [], ◌∷◌, ap, rules}
use Rattle.cb_facts.specs.declared.value.Value.{Value}
use Rattle.cb_alpha.proofs.join_values.three_copied.Goals as goal

pub returns : goal.returns
returns c =
    let one : c.in_ok-first.first ≡ c.args.first.now = search rules in
    let two : c.in_ok-second.second ≡ c.args.second.now = search rules in
    let three : c.in_ok-third.third ≡ c.args.third.now = search rules in
    c.three.ensures
    ∙ (ap (λ (it : Value). it ∷ c.in_ok-second.second ∷ c.in_ok-third.third ∷ []) one
    ∙ (ap (λ (it : Value). c.args.first.now ∷ it ∷ c.in_ok-third.third ∷ []) two
    ∙ ap (λ (it : Value). c.args.first.now ∷ c.args.second.now ∷ it ∷ []) three))
