use Rattle.std.proofs.Common.{◌≡◌, ◌∙◌, List, ℕ, ap, arith, inl, inr, length, subst, sym, take}
use Rattle.std.proofs.Math.Seq.{take-length}
use Rattle.cb_alpha_network.proofs.OneByOne.{in_more}
use Rattle.cb_alpha_network.proofs.Users.{user_at}
use Rattle.cb_alpha_network.proofs.changing.add_places.Goals as goal
use Rattle.cb_matches.specs.Chains.{In}

pub loop-number-preserved : goal.loop-number-preserved
loop-number-preserved c =
    λ n place i at.
    elim (in_more c.args.numbers.now c.loop-number.number-index (omega arith) n i) as (λ _. In place c.add_places_of.new.places.items) [
      | inl j ↦ c.in_ok-add_places_of.ensures.stay place (c.loop-number.invariant n place j at)
      | inr e ↦ c.in_ok-add_places_of.ensures.added place (subst (λ it. In (user_at it place) c.args.users.now.keys) e at)
    ]

pub returns : goal.returns
returns c =
    let ns = c.args.numbers.now in
    let i = c.loop-number.number-index in
    let end : i ≡ length ns = omega (arith, c.loop-number-test.false, c.loop-number.auto.number-index-end) in
    λ n place j at. c.loop-number.invariant n place (subst (λ (it : List ℕ). In n it) (sym (ap (λ k. take k ns) end ∙ take-length ns)) j) at
