use Rattle.cb_forms.proofs.NumberLemmas.{All-integer}
use Rattle.cb_forms.proofs.number.integer.Goals as goal

pub digits_value-requires : goal.digits_value-requires
digits_value-requires c = rw c.without_sign.ensures (All-integer c.args.word.now c.requires)
