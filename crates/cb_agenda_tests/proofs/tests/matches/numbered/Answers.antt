use Rattle.std.proofs.Common.{◌≡◌, ◌++◌, ◌∷◌, ℕ, List, [], subst, sym}
use Rattle.cb_agenda_tests.proofs.Numbering.{have_more}
use Rattle.cb_agenda_tests.specs.Numbering.{IsOwn}
use Rattle.cb_matches.specs.Changes.{HaveNumbers}
use Rattle.cb_matches.specs.Keys.{KeyValue}
use Rattle.cb_agenda_tests.proofs.tests.matches.numbered.Goals as goal

pub loop-which-init : goal.loop-which-init
loop-which-init c =
    subst (λ (ks : List KeyValue). HaveNumbers IsOwn ks c.new-numbers.result.items) (sym c.new-keys.ensures.items) (subst (λ (ns : List ℕ). HaveNumbers IsOwn [] ns) (sym c.new-numbers.ensures.items) tt)

pub loop-which-preserved : goal.loop-which-preserved
loop-which-preserved c =
    subst (λ (ks : List KeyValue). HaveNumbers IsOwn ks c.push.new.self.items) (sym c.in_ok-push-2.ensures.items)
    (subst (λ (ns : List ℕ). HaveNumbers IsOwn (c.loop-which.keys.items ++ c.key-key.result ∷ []) ns) (sym c.in_ok-push.ensures.items) (have_more c.loop-which.keys.items c.loop-which.numbers.items c.key-key.result c.number_of.result c.loop-which.invariant c.number_of.ensures))
