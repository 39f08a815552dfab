use Rattle.std.proofs.Common.{None}
use Rattle.std.specs.BTreeMap.{get}
use Rattle.cb_match_index.specs.MatchIndices.{kept_at}
use Rattle.cb_match_table.proofs.FilingLaws.{aside_more, forgot_aside}
use Rattle.cb_matches.specs.Keys.{key_cmp}
use Rattle.cb_match_table.proofs.filing.unfile.Goals as goal

pub returns-else-is_at : goal.returns-else-is_at
returns-else-is_at c = λ names less was there change.
    forgot_aside (kept_at c.args.filed.now) (get key_cmp c.args.aside.now) names less was c.args.key.now c.args.number c.args.place there change (get key_cmp c.remove.new.self)
    (c.is_at.ensures.not c.if-is_at.false) (aside_more c.args.aside.now c.remove.new.self c.args.key.now None c.remove.ensures.updates)
