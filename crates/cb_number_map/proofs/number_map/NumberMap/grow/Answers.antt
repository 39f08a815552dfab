use Rattle.std.proofs.Common.{inl}
use Rattle.cb_number_map.proofs.Maps.{nothing_at}
use Rattle.cb_number_map.specs.declared.number_map.NumberMap.{NumberMap}
use Rattle.cb_number_map.proofs.number_map.NumberMap.grow.Goals as goal

pub take_table-requires : goal.take_table-requires
take_table-requires c = λ key.
    let m : NumberMap = record { alloc = c.args.self.now.alloc; table = c.in_ok-longer.field-0; taken = 0; aside = c.new.result } in
    inl (nothing_at m m key (c.in_ok-longer.ensures key) c.new.ensures.empty)
