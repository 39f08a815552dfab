use Rattle.std.proofs.Common.{◌≡◌, []}
use Rattle.cb_rete_tests.proofs.tests.changing.all_alike.Given as goal

abbrev pub invariant-loop-change : goal.invariant-loop-change
invariant-loop-change g l = record {
  first : (g.M.Matcher.network l.initial.one).rules ≡ [] → (g.M.Matcher.network l.one).rules ≡ [];
  second : (g.N.Matcher.network l.initial.other).rules ≡ [] → (g.N.Matcher.network l.other).rules ≡ [];
}
