use Rattle.std.proofs.Common.{◌∙◌, refl, sym}
use Rattle.cb_number_map.proofs.Maps.{absent_parts, same_parts, table_updates}
use Rattle.cb_number_map.specs.declared.number_map.NumberMap.{NumberMap}
use Rattle.cb_number_map.proofs.number_map.NumberMap.put_new.Goals as goal

pub returns-then-not-put_new-clause-not : goal.returns-then-not-put_new-clause-not
returns-then-not-put_new-clause-not c = λ _.
    let old = c.args.self.now in
    let m : NumberMap = record { alloc = old.alloc; table = c.put_new.new.self; taken = old.taken; aside = old.aside } in
    same_parts old m (c.if-not-put_new.ensures.not refl) refl

pub returns-clause-absent : goal.returns-clause-absent
returns-clause-absent c = λ _.
    absent_parts c.args.self.now c.args.self.now c.args.key (c.if-not-put_new.ensures.absent refl) (sym c.stands_aside.ensures ∙ c.if-stands_aside.false)

pub returns-clause-put : goal.returns-clause-put
returns-clause-put c = λ _.
    let old = c.args.self.now in
    let m : NumberMap = record { alloc = old.alloc; table = c.put_new.new.self; taken = c.saturating_add-self.result; aside = old.aside } in
    table_updates old m c.args.key c.args.number refl (c.if-not-put_new.ensures.put refl)
