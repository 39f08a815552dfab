use Rattle.std.proofs.Common.{arith, ◌≡◌, ◌∙◌, ◌+◌, ◌∷◌, ◌++◌, suc, ap, drop, length, map, rules, subst, sym}
use Rattle.std.proofs.lemmas.List.{drop_more}
use Rattle.std.specs.List.{flat_map}
use Rattle.cb_constraints.proofs.TableLaws.{counted_row, going_more, places_both}
use Rattle.cb_constraints.specs.Internal.Places.{places, sites_from, sites_of}
use Rattle.cb_constraints.specs.Internal.Tables.{Going, Grows}
use Rattle.cb_constraints.specs.PartValues.{asked_slot}
use Rattle.cb_constraints.proofs.table.Table.add_rows.Goals as goal

pub loop-slot-preserved : goal.loop-slot-preserved
loop-slot-preserved c =
    let i = c.loop-slot.slot-index in
    let n = length c.loop-slot.self.sites.items in
    let row = (asked_slot c.slot-item.result).row in
    let left = map asked_slot (drop (c.loop-slot.slot-index + 1) c.args.rows.now) in
    let rest = flat_map (λ s. s.row) left in
    let all = places (length c.args.self.now.sites.items) (flat_map (λ s. s.row) (map asked_slot c.args.rows.now)) in
    let total = sites_from 0 (length c.args.self.now.sites.items) (map asked_slot c.args.rows.now) in
    let next : c.slot-item.result ∷ drop (c.loop-slot.slot-index + 1) c.args.rows.now ≡ drop c.loop-slot.slot-index c.args.rows.now =
    sym (drop_more c.args.rows.now c.loop-slot.slot-index c.slot-item.result c.loop-slot-test.true ∙ ap (λ r. r ∷ drop (c.loop-slot.slot-index + 1) c.args.rows.now) (search rules)) in
    let before : Going c.args.self.now c.loop-slot.self (places n (row ++ rest)) all (sites_of i n row ++ sites_from (suc i) (n + length row) left) total =
    subst (λ ys. Going c.args.self.now c.loop-slot.self (places n (flat_map (λ s. s.row) (map asked_slot ys))) all (sites_from i n (map asked_slot ys)) total) (sym next) c.loop-slot.invariant.1 in
    let parted = subst (λ ps. Going c.args.self.now c.loop-slot.self ps all (sites_of i n row ++ sites_from (suc i) (n + length row) left) total) (places_both n row rest) before in
    let grew : Grows c.loop-slot.self c.add_row.new.self (places n row) (sites_of i n row) =
    subst (λ r. Grows c.loop-slot.self c.add_row.new.self (places n row) (sites_of r n row)) c.loop-slot.invariant.0
    (subst (λ cs. Grows c.loop-slot.self c.add_row.new.self (places n cs) (sites_of c.loop-slot.number n cs)) c.constraints.ensures c.in_ok-add_row.ensures) in
    let counted : n + length row ≡ length c.add_row.new.self.sites.items = counted_row c.loop-slot.self.sites.items c.add_row.new.self.sites.items i n row grew.sites in
    let on : suc c.loop-slot.slot-index ≡ c.loop-slot.slot-index + 1 = omega arith in (
      ap (λ k. k + 1) c.loop-slot.invariant.0,
      subst (λ r. Going c.args.self.now c.add_row.new.self (places (length c.add_row.new.self.sites.items) rest) all (sites_from r (length c.add_row.new.self.sites.items) left) total) on
          (subst (λ k. Going c.args.self.now c.add_row.new.self (places k rest) all (sites_from (suc i) k left) total) counted
          (going_more c.args.self.now c.loop-slot.self c.add_row.new.self (places n row) (places (n + length row) rest) all (sites_of i n row) (sites_from (suc i) (n + length row) left) total parted grew)),
    )
