use Rattle.std.proofs.Common.{◌≡◌, ◌∙◌, ap, rules}
use Rattle.cb_exprs.specs.Bindings.{with_value}
use Rattle.cb_exprs.specs.Internal.Frames.{pairs_in}
use Rattle.cb_exprs.proofs.FrameLaws.{written_before, written_here}
use Rattle.cb_exprs.proofs.Trees.{on_ok_then}
use Rattle.cb_exprs.proofs.frames.Frames.+write.Goals as goal

pub returns-then-eq-clause-ok : goal.returns-then-eq-clause-ok
returns-then-eq-clause-ok t c = search (rules, written_here)

pub returns-else-eq-clause-ok : goal.returns-else-eq-clause-ok
returns-else-eq-clause-ok t c =
    let name = c.args.name.now in
    let one = c.in-Some.one.now in
    let before = pairs_in one.before in
    let put = pairs_in c.write.new.self in
    on_ok_then c.write.result (put ≡ with_value name c.args.value before)
    (with_value one.name one.value put ≡ with_value name c.args.value (pairs_in c.args.self.now))
    c.write.ensures.ok (λ is. ap (with_value one.name one.value) is ∙ search (rules, written_before))
