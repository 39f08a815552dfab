use Rattle.std.proofs.Common.{refl}
use Rattle.cb_number_map.proofs.Maps.{absent_table, same_parts, table_updates}
use Rattle.cb_number_map.specs.declared.number_map.NumberMap.{NumberMap}
use Rattle.cb_number_map.proofs.number_map.NumberMap.put.Goals as goal

pub put-requires : goal.put-requires
put-requires c = absent_table c.args.self.now c.args.self.now c.args.key c.requires

pub returns-then-not-put-clause-full : goal.returns-then-not-put-clause-full
returns-then-not-put-clause-full c = λ _.
    let old = c.args.self.now in
    let m : NumberMap = record { alloc = old.alloc; table = c.put.new.self; taken = old.taken; aside = old.aside } in
    same_parts old m (c.if-not-put.ensures.full refl) refl

pub returns-clause-put : goal.returns-clause-put
returns-clause-put c = λ _.
    let old = c.args.self.now in
    let m : NumberMap = record { alloc = old.alloc; table = c.put.new.self; taken = c.saturating_add-self.result; aside = old.aside } in
    table_updates old m c.args.key c.args.number refl (c.if-not-put.ensures.put refl)
