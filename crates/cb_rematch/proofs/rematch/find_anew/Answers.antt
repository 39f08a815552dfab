use Rattle.cb_rematch.proofs.rematch.find_anew.Goals as goal

pub returns-clause-numbers : goal.returns-clause-numbers
returns-clause-numbers g c = λ old was. c.replace_matches.ensures.numbers old (record { rules = c.args.rules.now; facts = c.args.facts.now }) was c.in_ok-found.ensures
