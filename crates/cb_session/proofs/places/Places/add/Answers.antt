use Rattle.std.proofs.Common.{◌≡◌, ◌++◌, ◌∷◌, ◌+◌, ◌-◌, ◌^◌, [], arith, ap, length, min, take, refl, sym, ◌∙◌}
use Rattle.std.proofs.lemmas.List.{length_push}
use Rattle.cb_session.proofs.KeptPlaces.{kept-push}
use Rattle.cb_session.proofs.places.Places.add.Goals as goal

pub invariant_of-self-2 : goal.invariant_of-self-2
invariant_of-self-2 c =
    let all = c.self.inside.all.items in
    let one = length_push all c.args.place in
    let count : c.saturating_add-self-inside.result ≡ min (length (all ++ c.args.place ∷ [])) (2 ^ 64 - 1) = omega (arith, one, c.self.invariant.0, c.saturating_add-self-inside.ensures) in (
      rw c.and-all.ensures count,
      rw c.and-all.ensures (c.in_ok-keep.ensures.ok ∙ (ap (λ ps. take 8 (ps ++ c.args.place ∷ [])) c.self.invariant.1 ∙ kept-push all c.args.place)),
    )
