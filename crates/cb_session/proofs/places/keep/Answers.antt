use Rattle.std.proofs.Common.{◌≡◌, ◌++◌, ◌∷◌, [], arith, length, refl, sym, ◌∙◌}
use Rattle.cb_session.proofs.KeptPlaces.{full-kept}
use Rattle.cb_session.proofs.places.keep.Goals as goal

pub returns-else-len-lt8-clause-ok : goal.returns-else-len-lt8-clause-ok
returns-else-len-lt8-clause-ok c = sym (full-kept c.args.first.now.items c.args.place (omega (arith, c.if-len-lt8.false, c.requires, c.len.ensures)))
