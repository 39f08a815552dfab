-- The places that are kept.
use Rattle.std.proofs.Common.{◌≡◌, ◌≤◌, ◌<◌, ◌+◌, ℕ, List, [], ◌∷◌, ◌++◌, arith, ap, inl, inr, length, min, sym, take, ◌∙◌}
use Rattle.std.proofs.lemmas.List.{length-take, take-append-le, take_all}
use Rattle.std.proofs.lemmas.Bool.{cases_lt}
use Rattle.cb_session.specs.declared.places.Place.{Place}

-- where eight are kept, no more is
pub full-kept : (ps : List Place) (p : Place) → length ps ≡ 8 → take 8 (ps ++ p ∷ []) ≡ ps
full-kept ps p full = take-append-le 8 ps (p ∷ []) (omega (arith, full)) ∙ take_all 8 ps (omega (arith, full))

-- what is kept of places is kept of what is kept
pub kept-push : (ps : List Place) (p : Place) → take 8 (take 8 ps ++ p ∷ []) ≡ take 8 (ps ++ p ∷ [])
kept-push ps p = elim (cases_lt 8 (length ps)) [
  | inr few ↦ ap (λ it. take 8 (it ++ p ∷ [])) (take_all 8 ps few)
  | inl many ↦
      let long = length-take 8 ps in
      full-kept (take 8 ps) p (omega (arith, long, many)) ∙ sym (take-append-le 8 ps (p ∷ []) (omega (arith, many)))
]
