use Rattle.std.proofs.Common.{◌≡◌, ◌∙◌, ◌++◌, List, ℕ, [], ◌∷◌, Option, Some, ap, rules, sym}
use Rattle.cb_beta.proofs.Values.{both_given}
use Rattle.cb_exprs.specs.Bindings.{with_variables}
use Rattle.cb_facts.specs.declared.value.Value.TheVariants as value
use Rattle.cb_matches.specs.Matches.{with_address}
use Rattle.cb_token_lists.proofs.binding.bind_address.Goals as goal

pub returns-in_ok-push : goal.returns-in_ok-push
returns-in_ok-push c = λ env.
    let old = c.args.bindings.now.items in
    let ix = c.args.index in
    let name = c.in-Some.name in
    let items : c.push.new.self.items ≡ old ++ (name, value.Fact ix) ∷ [] = search rules in
    let some : c.args.address.now ≡ Some name = search rules in
    ap (λ it. with_variables it env) items
    ∙ (both_given old ((name, value.Fact ix) ∷ []) env
    ∙ ap (λ (x : Option (List ℕ)). with_address x ix (with_variables old env)) (sym some))
