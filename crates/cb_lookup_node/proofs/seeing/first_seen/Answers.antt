use Rattle.std.proofs.Common.{◌≡◌, ◌∙◌, ℕ, List, ap, arith, false, get_or, inl, inr, length, subst, sym, take, true}
use Rattle.std.proofs.Math.Seq.{take-length}
use Rattle.cb_alpha.specs.AlphaMemories.{candidate_in}
use Rattle.cb_beta.proofs.Members.{more_in}
use Rattle.cb_lookup_node.proofs.Placed.{one_in}
use Rattle.cb_lookup_node.proofs.seeing.first_seen.Goals as goal
use Rattle.cb_lookup_node.specs.LookupNodes.{compares_with}
use Rattle.cb_matches.specs.Chains.{In}
use Rattle.cb_token_lists.specs.Partials.{partial_at}

pub returns-then-so-clause-some : goal.returns-then-so-clause-some
returns-then-so-clause-some c k e =
    let at = partial_at c.args.lists.now.sources.now c.args.lists.now.lists.now c.args.from c.args.number in
    let xs = c.args.candidates.now in
    let i = c.loop-candidate.candidate-index in
    let x = get_or xs i 0 in
    let is : x ≡ k = cc in
    subst (λ n. In n xs × (compares_with c.args.compared.now (candidate_in c.args.alpha.now.candidates n) at ≡ true)) is (one_in xs i (omega arith), sym c.in_ok-so.ensures ∙ c.if-so.true)

pub loop-candidate-preserved : goal.loop-candidate-preserved
loop-candidate-preserved c k h =
    let at = partial_at c.args.lists.now.sources.now c.args.lists.now.lists.now c.args.from c.args.number in
    let xs = c.args.candidates.now in
    let i = c.loop-candidate.candidate-index in
    elim (more_in xs i k (omega arith) h) as (λ _. compares_with c.args.compared.now (candidate_in c.args.alpha.now.candidates k) at ≡ false) [
      | inl there ↦ c.loop-candidate.invariant k there
      | inr e ↦ ap (λ n. compares_with c.args.compared.now (candidate_in c.args.alpha.now.candidates n) at) e ∙ (sym c.in_ok-so.ensures ∙ c.if-so.false)
    ]

pub returns-clause-none : goal.returns-clause-none
returns-clause-none c k e h =
    let xs = c.args.candidates.now in
    let i = c.loop-candidate.candidate-index in
    let end : i ≡ length xs = omega (arith, c.loop-candidate-test.false, c.loop-candidate.auto.candidate-index-end) in
    c.loop-candidate.invariant k (subst (λ (it : List ℕ). In k it) (sym (ap (λ n. take n xs) end ∙ take-length xs)) h)
