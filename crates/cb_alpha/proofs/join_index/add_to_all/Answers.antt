use Rattle.std.proofs.Common.{◌≡◌, ◌<◌, ℕ, ap, arith, get_or, length, subst, sym}
use Rattle.cb_alpha.proofs.Joins.{ahead_more, all_set, but_refiled, done_more, fields_set, filed_now}
use Rattle.cb_alpha.specs.AlphaMemories.{values_in}
use Rattle.cb_alpha.specs.Buckets.{Refiles}
use Rattle.cb_alpha.specs.Internal.Joined.{IsFiled, IsFiledBut, JoinIndexValue}
use Rattle.cb_alpha.proofs.join_index.add_to_all.Goals as goal

pub returns-in_err-add-clause-fields : goal.returns-in_err-add-clause-fields
returns-in_err-add-clause-fields c =
    let i : ℕ = c.loop-join.join-index in
    fields_set c.loop-join.joins c.args.joins.now i (get_or c.loop-join.joins i c.join-item.result) c.add.new.self c.loop-join.invariant.fields (ap (get_or c.loop-join.joins i) c.join-item.is) c.add.ensures.fields

pub loop-join-preserved : goal.loop-join-preserved
loop-join-preserved c =
    let inv = c.loop-join.invariant in
    let xs = c.loop-join.joins in
    let i : ℕ = c.loop-join.join-index in
    let old : JoinIndexValue = get_or xs i c.join-item.result in
    let new : JoinIndexValue = c.add.new.self in
    let l : i < length xs = omega arith in
    let is : old ≡ get_or xs i old = ap (get_or xs i) c.join-item.is in
    let same : new.fields ≡ old.fields = c.add.ensures.fields in
    record {
      fields = fields_set xs c.args.joins.now i old new inv.fields is same;
      ahead = ahead_more xs i new l c.args.joins.now inv.ahead;
      done = λ found index there before. done_more xs i new l (IsFiled found) (inv.done found index there before)
          (filed_now old new c.args.number found same (subst (IsFiledBut c.args.number found) (sym is) (inv.others found before i old l))
          (subst (λ it. Refiles old.facts new.facts c.args.number (values_in old.fields it)) (sym there) c.in_ok-add.ensures.ok));
      others = λ found before. all_set xs i new l (IsFiledBut c.args.number found) (inv.others found before)
          (but_refiled old new c.args.number found same (subst (IsFiledBut c.args.number found) (sym is) (inv.others found before i old l)) _ c.in_ok-add.ensures.ok);
    }
