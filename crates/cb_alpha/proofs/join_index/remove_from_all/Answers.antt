use Rattle.std.proofs.Common.{rules, ◌≡◌, ◌<◌, ◌∙◌, ℕ, ap, arith, get_or, length, subst, sym}
use Rattle.cb_alpha.proofs.Joins.{ahead_more, done_more, fields_set, filed_now}
use Rattle.cb_alpha.specs.AlphaMemories.{values_in}
use Rattle.cb_alpha.specs.Buckets.{Refiles}
use Rattle.cb_alpha.specs.Internal.Joined.{IsFiled, IsFiledBut, JoinIndexValue}
use Rattle.cb_alpha.proofs.join_index.remove_from_all.Goals as goal

pub loop-join-preserved : goal.loop-join-preserved
loop-join-preserved c =
    let inv = c.loop-join.invariant in
    let xs = c.loop-join.joins in
    let i : ℕ = c.loop-join.join-index in
    let old : JoinIndexValue = get_or xs i c.join-item.result in
    let new : JoinIndexValue = c.remove.new.self in
    let l : i < length xs = omega arith in
    let is : old ≡ get_or xs i old = ap (get_or xs i) c.join-item.is in
    let same : new.fields ≡ old.fields = c.remove.ensures.fields in
    let long : length xs ≡ length c.args.joins.now = search rules in
    record {
      fields = fields_set xs c.args.joins.now i old new inv.fields is same;
      ahead = ahead_more xs i new l c.args.joins.now inv.ahead;
      done = λ found none before. done_more xs i new l (IsFiled found) (inv.done found none before)
          (filed_now old new c.args.number found same
          (subst (IsFiledBut c.args.number found) (sym (is ∙ inv.ahead i old (omega arith) l)) (before i old (omega (arith, l, long))))
          (subst (λ it. Refiles old.facts new.facts c.args.number (values_in old.fields it)) (sym none) c.remove.ensures.facts));
    }
