use Rattle.std.proofs.Common.{◌≡◌, ◌<◌, arith, length}
use Rattle.cb_alpha.proofs.Joins.{one_place_more}
use Rattle.cb_alpha.proofs.join_index.are_at_same_places.Goals as goal

pub loop-at-preserved : goal.loop-at-preserved
loop-at-preserved c =
    let inv = c.loop-at.invariant in
    let l : c.loop-at.at < length c.args.some.now = c.loop-at-test.true in
    let long : length c.args.some.now ≡ length c.args.others.now = inv.long in
    let same = c.are_at_one_place.ensures in
    record {
      within = omega (arith, l);
      long = long;
      same = λ rest. inv.same (one_place_more c.args.some.now c.args.others.now c.loop-at.at c.index-some-at.result c.index-others-at.result l (omega (arith, l, long))
          c.index-some-at.is c.index-others-at.is (same.slot c.if-not-are_at_one_place.false) (same.field c.if-not-are_at_one_place.false) rest);
    }
