use Rattle.std.proofs.Common.{rules, ◌≡◌, subst, sym}
use Rattle.cb_alpha.specs.Internal.Numbered.{AreNumbered}
use Rattle.cb_alpha.proofs.numbering.Numbers.add.Goals as goal

pub returns-in_err-insert-clause-is : goal.returns-in_err-insert-clause-is
returns-in_err-insert-clause-is c =
    let same : c.make_room.new.buckets.slots ≡ c.args.buckets.now.slots = search rules in
    subst (AreNumbered c.insert.new.self) (sym same) (c.in_err-insert.ensures.err c.args.buckets.now.slots c.requires.is)
