use Rattle.std.proofs.Common.{rules, ap}
use Rattle.cb_command_line.proofs.Options.{made, made_app, number_option, form_option, firings_option, turns_option}
use Rattle.cb_command_line.proofs.words.limits_command.Goals as goal

pub returns : goal.returns
returns c =
    let three = made _ _ _ _ _ _ _ c.in_ok-arg.ensures c.in_ok-arg-2.ensures c.in_ok-command.ensures (search rules) (search rules) (search rules)
    c.number.ensures.plain c.number-2.ensures.plain c.number-3.ensures.plain c.number.ensures.local c.number-2.ensures.local c.number-3.ensures.local in
    let form_id = ap (λ x. x.now) c.number.ensures.id in
    let firings_id = ap (λ x. x.now) c.number-2.ensures.id in
    let turns_id = ap (λ x. x.now) c.number-3.ensures.id in
    record {
      app = made_app _ _ _ _ _ _ _ c.in_ok-arg.ensures c.in_ok-arg-2.ensures c.in_ok-command.ensures (search rules)
          c.number.ensures.local c.number-2.ensures.local c.number-3.ensures.local c.number.ensures.rule c.number-2.ensures.rule c.number-3.ensures.rule;
      numbers = λ m p. record {
        form = number_option _ m p _ _ _ three.plain three.globals (form_option _ _ _ _ three form_id firings_id turns_id 1 16777216 c.number.ensures.parser);
        firings = number_option _ m p _ _ _ three.plain three.globals (firings_option _ _ _ _ three form_id firings_id turns_id 0 1000000000000 c.number-2.ensures.parser);
        turns = number_option _ m p _ _ _ three.plain three.globals (turns_option _ _ _ _ three form_id firings_id turns_id 0 1000000000000 c.number-3.ensures.parser);
      };
    }
