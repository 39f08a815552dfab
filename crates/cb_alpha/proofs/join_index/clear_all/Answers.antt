use Rattle.std.proofs.Common.{◌≡◌, ◌<◌, ℕ, None, ap, arith, get_or, length}
use Rattle.cb_alpha.proofs.Joins.{done_more, fields_set}
use Rattle.cb_alpha.specs.Internal.Joined.{IsFiled, JoinIndexValue}
use Rattle.cb_alpha.proofs.join_index.clear_all.Goals as goal

pub loop-join-preserved : goal.loop-join-preserved
loop-join-preserved c =
    let inv = c.loop-join.invariant in
    let xs = c.loop-join.joins in
    let i : ℕ = c.loop-join.join-index in
    let old : JoinIndexValue = get_or xs i c.join-item.result in
    let new : JoinIndexValue = c.clear.new.self in
    let l : i < length xs = omega arith in
    let is : old ≡ get_or xs i old = ap (get_or xs i) c.join-item.is in
    let same : new.fields ≡ old.fields = c.clear.ensures.fields in
    record {
      fields = fields_set xs c.args.joins.now i old new inv.fields is same;
      done = done_more xs i new l (IsFiled (λ n. None)) inv.done c.clear.ensures.none;
    }
