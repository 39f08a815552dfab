use Rattle.cb_number_map.proofs.Maps.{nothing_at}
use Rattle.cb_number_map.specs.declared.number_map.NumberMap.{NumberMap}
use Rattle.cb_number_map.proofs.number_map.NumberMap.new.Goals as goal

pub returns : goal.returns
returns c = λ key.
    let m : NumberMap = record { alloc = c.args.alloc; table = c.new.result; taken = 0; aside = c.new-2.result } in
    nothing_at m m key (c.new.ensures key) c.new-2.ensures.empty
