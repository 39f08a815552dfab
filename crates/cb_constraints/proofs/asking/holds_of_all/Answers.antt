use Rattle.std.proofs.Common.{◌≡◌, false, subst, sym, true}
use Rattle.cb_constraints.proofs.AskingLaws.{lone_holds, ok-then}
use Rattle.cb_constraints.specs.Internal.Asking.{HoldsOfAll}
use Rattle.cb_constraints.proofs.asking.holds_of_all.Goals as goal

never : false ≡ true → ⊥
never e = cc

pub returns-in_default : goal.returns-in_default
returns-in_default g c e = absurd (never e)

pub returns-then-not-is_first : goal.returns-then-not-is_first
returns-then-not-is_first g c e = absurd (never e)

pub returns : goal.returns
returns g c =
    ok-then c.has_none.result
    (λ all none e. subst (HoldsOfAll c.args.body.now c.args.constraint (g.L.Lookup.bindings c.args.before.now)) (sym c.in-Some.ensures)
    (lone_holds c.in-Some.name.now c.args.body.now c.args.constraint (g.L.Lookup.bindings c.args.before.now) (c.is_first.ensures c.if-not-is_first.false) (none e)))
    c.has_none.ensures
