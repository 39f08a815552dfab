use Rattle.std.proofs.Common.{◌≡◌, ◌⊎◌, ◌∙◌, ◌++◌, ◌∷◌, List, [], false, ap, inl, inr, rules, subst, sym}
use Rattle.cb_alpha_network.proofs.Pieces.{none_further, one_further, run}
use Rattle.cb_alpha_network.proofs.Users.{begun_in, not_uses, user_at, uses}
use Rattle.cb_alpha_network.proofs.changing.add_places_of.Goals as goal
use Rattle.cb_alpha_network.specs.declared.node_place.NodePlace.{NodePlace}
use Rattle.cb_alpha_network.specs.declared.user.User.{User}
use Rattle.cb_matches.proofs.Lists.{in_left, in_right}
use Rattle.cb_matches.specs.Chains.{In}

pub loop-user-init : goal.loop-user-init
loop-user-init c =
    let n = c.args.number in
    record {
      added = λ place i. inr (subst (λ it. In (user_at n place) (run (uses n) it)) (sym (c.into_iter-user-iterator.ensures.into_iter_gives ∙ c.range-user-items.ensures.between tt))
          (begun_in c.args.users.now.keys c.range-user-items.ensures.ordered n c.first_user-first.result c.first_user-first.ensures place i));
      stay = λ place h. h;
    }

pub loop-user-preserved : goal.loop-user-preserved
loop-user-preserved c =
    let n = c.args.number in
    let at : User = c.in-Some.user.now in
    let rest : List User = c.next.new.self in
    let cut : c.loop-user.user-iterator ≡ at ∷ rest = search rules in
    let found : List NodePlace = c.loop-user.places.items in
    let now : List NodePlace = c.push.new.self.items in
    let is : now ≡ found ++ at.place ∷ [] = c.in_ok-push.ensures.items in
    record {
      added = λ place h. elim (c.loop-user.invariant.added place h) as (λ _. In place now ⊎ In (user_at n place) (run (uses n) rest)) [
        | inl done ↦ inl (subst (In place) (sym is) (in_left place found (at.place ∷ []) done))
        | inr more ↦ elim (one_further (uses n) at rest (user_at n place) (subst (λ it. In (user_at n place) (run (uses n) it)) cut more)) as (λ _. In place now ⊎ In (user_at n place) (run (uses n) rest)) [
          | inl same ↦ inl (subst (In place) (sym is) (in_right place found (at.place ∷ []) (inl (ap (λ (it : User). it.place) same))))
          | inr later ↦ inr later
        ]
      ];
      stay = λ place h. subst (In place) (sym is) (in_left place found (at.place ∷ []) (c.loop-user.invariant.stay place h));
    }

pub returns-then-user-number-clause-added : goal.returns-then-user-number-clause-added
returns-then-user-number-clause-added c =
    λ place i.
    let n = c.args.number in
    let at : User = c.in-Some.user.now in
    let rest : List User = c.next.new.self in
    let cut : c.loop-user.user-iterator ≡ at ∷ rest = search rules in
    let differs : uses n at ≡ false = not_uses n at c.if-user-number.true in
    elim (c.loop-user.invariant.added place i) as (λ _. In place c.loop-user.places.items) [
      | inl done ↦ done
      | inr more ↦ absurd (none_further (uses n) at rest differs (user_at n place) (subst (λ it. In (user_at n place) (run (uses n) it)) cut more))
    ]

pub returns-clause-added : goal.returns-clause-added
returns-clause-added c =
    λ place i.
    let n = c.args.number in
    let none : c.loop-user.user-iterator ≡ [] = search rules in
    elim (c.loop-user.invariant.added place i) as (λ _. In place c.loop-user.places.items) [
      | inl done ↦ done
      | inr more ↦ absurd (subst (λ it. In (user_at n place) (run (uses n) it)) none more)
    ]
