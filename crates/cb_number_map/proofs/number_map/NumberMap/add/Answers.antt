use Rattle.std.proofs.Common.{◌≡◌, ◌∙◌, Some, nat_cmp, refl, rules}
use Rattle.std.specs.BTreeMap as tree
use Rattle.cb_number_map.proofs.Maps.{aside_updates, on_err, same_behind, same_parts, updates_behind}
use Rattle.cb_number_map.specs.NumberMaps.{AreSameNumbers}
use Rattle.cb_number_map.specs.declared.number_map.NumberMap.{NumberMap}
use Rattle.cb_number_map.proofs.number_map.NumberMap.add.Goals as goal

pub returns-in_err-insert-clause-err : goal.returns-in_err-insert-clause-err
returns-in_err-insert-clause-err c =
    let mid = c.put.new.self in
    let m : NumberMap = record { alloc = mid.alloc; table = mid.table; taken = mid.taken; aside = c.insert.new.self } in
    let same : m.aside.entries ≡ mid.aside.entries = search rules in
    on_err c.from_residual.result (same_behind c.args.self.now mid m (c.if-not-put.ensures.full refl) (same_parts mid m refl same))

pub returns-in_ok-insert-clause-ok : goal.returns-in_ok-insert-clause-ok
returns-in_ok-insert-clause-ok c =
    let mid = c.put.new.self in
    let m : NumberMap = record { alloc = mid.alloc; table = mid.table; taken = mid.taken; aside = c.insert.new.self } in
    let same : AreSameNumbers c.args.self.now mid = c.if-not-put.ensures.full refl in
    let is : tree.Updates nat_cmp mid.aside m.aside c.args.key (Some c.args.number) = search rules in
    updates_behind c.args.self.now mid m c.args.key (Some c.args.number) same (aside_updates mid m c.args.key c.args.number refl is (same c.args.key ∙ c.requires))
