use Rattle.std.proofs.Common.{◌≡◌, ◌∙◌, Some, ap, rules, sym}
use Rattle.std.proofs.lemmas.Result.{on_ok_weaker}
use Rattle.cb_alpha_network.proofs.asked.Asked.add_numbers_at.Goals as goal
use Rattle.cb_alpha_network.specs.Wanted.{sought_in}

pub returns-in-Some-clause-added : goal.returns-in-Some-clause-added
returns-in-Some-clause-added c =
    on_ok_weaker c.add_sought.result
    (λ added values number at there.
    let all : Some c.in-Some.values ≡ Some values = sym c.in-Some.is ∙ (c.in_ok-values.ensures ∙ at) in
    let same : c.in-Some.values ≡ values = cc in
    added (record { sought = sought_in c.args.spot.now.number values; number = number }) there (ap (sought_in c.args.spot.now.number) (sym same) ∙ sym c.new.ensures))
    c.add_sought.ensures.added
