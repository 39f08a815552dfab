use Rattle.std.proofs.Common.{◌≡◌, ◌∙◌, List, ℕ, Some, subst, sym}
use Rattle.cb_beta.proofs.Losses.{on_ok}
use Rattle.cb_beta.specs.BetaMemories.{BetaMemoryValue, Loses}
use Rattle.cb_beta.specs.Tokens.{TokenValue}
use Rattle.cb_exprs.specs.Terms.{term_of}
use Rattle.cb_matches.specs.Chains.{Chain, In}
use Rattle.cb_test_node.proofs.Behind.{changed}
use Rattle.cb_test_node.proofs.passing.change_test.Goals as goal
use Rattle.cb_test_node.specs.Tests.{ArePassed, IsAfter, IsBefore}
use Rattle.cb_token_lists.proofs.Down.{got}
use Rattle.cb_token_lists.proofs.Keeping.{keeps_then, lost_keeps}
use Rattle.cb_token_lists.specs.Growth.{Comes}
use Rattle.cb_token_lists.specs.Partials.{partial_at}

one_some : {A : Type 0} {a b : A} → Some a ≡ Some b → a ≡ b
one_some {A} {a} {b} e = cc

pub returns-clause-after : goal.returns-clause-after
returns-clause-after c =
    let ls = c.args.lists.now.lists.now in
    let at = partial_at c.args.lists.now.sources.now ls c.args.from in
    let test = term_of c.args.test.now in
    let m : BetaMemoryValue = c.in-Some.before.now in
    let own₀ = c.args.own.now in
    let own₁ = c.remove_all_children.new.self in
    let own = c.pass_all.new.own in
    let look = c.in-Some.ensures.lookup in
    let lost : Loses own₀ own₁ (λ t. In t.parent m.gone) = subst (λ (it : List ℕ). Loses own₀ own₁ (λ t. In t.parent it)) c.gone.ensures c.in_ok-remove_all_children.ensures in
    on_ok c.pass_all.result
    (λ come before old new is given.
    let one : m ≡ before = one_some (sym (got ls c.args.from m look.3.0 (look.3.1 m)) ∙ is) in
    let b : IsBefore test at m own₀ old new = subst (λ it. IsBefore test at it own₀ old new) (sym one) given in
    let once = subst (Chain (λ (i : ℕ) (j : ℕ). i ≡ j → ⊥)) (sym c.come.ensures) b.turns.come_once in
    let came : Comes own₁ own (ArePassed test at (λ n. In n m.come)) = subst (λ (it : List ℕ). Comes own₁ own (ArePassed test at (λ n. In n it))) c.come.ensures (come once) in
    subst (λ it. IsAfter test at it own old new) one (changed test at m own₀ own₁ own old new b lost came))
    c.pass_all.ensures.come

pub returns-clause-keeps : goal.returns-clause-keeps
returns-clause-keeps c =
    let own₀ = c.args.own.now in
    let own₁ = c.remove_all_children.new.self in
    on_ok c.pass_all.result
    (keeps_then own₀ own₁ c.pass_all.new.own (lost_keeps own₀ own₁ (λ (t : TokenValue). In t.parent c.gone.result.now) c.in_ok-remove_all_children.ensures))
    c.pass_all.ensures.keeps
