-- Cutting a list into parts: one more element, and that there is one way to cut.
use Rattle.std.proofs.Common.{◌≡◌, Bool, true, false, List, [], ◌∷◌, ◌++◌, refl, sym, ap, ◌∙◌, append_assoc, if◌then◌else◌}
use Rattle.std.proofs.lemmas.List.{append-nil}
use Rattle.cb_forms.specs.Cutting.{cut_from, cut, TakesAll, EndsBefore, AreCut, joined}

module _ {X : Type 0} (takes : List X → X → Bool) where
  -- one more element, to the part that is last or as a part of its own
  abbrev pub onto : List X → X → List (List X)
  onto part x = if takes part x then (part ++ x ∷ []) ∷ [] else part ∷ (x ∷ []) ∷ []

  abbrev pub pushed : List (List X) → X → List (List X)
  pushed [] x = (x ∷ []) ∷ []
  pushed (part ∷ []) x = onto part x
  pushed (part ∷ other ∷ parts) x = part ∷ pushed (other ∷ parts) x

  pushed-cons : (part first : List X) (s : List X) (x : X) → pushed (part ∷ cut_from takes first s) x ≡ part ∷ pushed (cut_from takes first s) x
  pushed-cons part first [] x = refl
  pushed-cons part first (y ∷ ys) x = elim (takes first y) as (λ t. pushed (part ∷ (if t then cut_from takes (first ++ y ∷ []) ys else first ∷ cut_from takes (y ∷ []) ys)) x ≡ part ∷ pushed (if t then cut_from takes (first ++ y ∷ []) ys else first ∷ cut_from takes (y ∷ []) ys) x) [
    | true ↦ pushed-cons part (first ++ y ∷ []) ys x
    | false ↦ refl
  ]

  cut_from-push : (part s : List X) (x : X) → cut_from takes part (s ++ x ∷ []) ≡ pushed (cut_from takes part s) x
  cut_from-push part [] x = refl
  cut_from-push part (y ∷ ys) x = elim (takes part y) as (λ t. (if t then cut_from takes (part ++ y ∷ []) (ys ++ x ∷ []) else part ∷ cut_from takes (y ∷ []) (ys ++ x ∷ [])) ≡ pushed (if t then cut_from takes (part ++ y ∷ []) ys else part ∷ cut_from takes (y ∷ []) ys) x) [
    | true ↦ cut_from-push (part ++ y ∷ []) ys x
    | false ↦ ap (λ more. part ∷ more) (cut_from-push (y ∷ []) ys x) ∙ sym (pushed-cons part (y ∷ []) ys x)
  ]

  -- the parts of a list with one more element
  pub cut-push : (s : List X) (x : X) → cut takes (s ++ x ∷ []) ≡ pushed (cut takes s) x
  cut-push [] x = refl
  cut-push (y ∷ ys) x = cut_from-push (y ∷ []) ys x

  joined-cut_from : (part s : List X) → joined (cut_from takes part s) ≡ part ++ s
  joined-cut_from part [] = refl
  joined-cut_from part (x ∷ xs) = elim (takes part x) as (λ t. joined (if t then cut_from takes (part ++ x ∷ []) xs else part ∷ cut_from takes (x ∷ []) xs) ≡ part ++ x ∷ xs) [
    | true ↦ joined-cut_from (part ++ x ∷ []) xs ∙ append_assoc part (x ∷ []) xs
    | false ↦ ap (λ more. part ++ more) (joined-cut_from (x ∷ []) xs)
  ]

  -- the parts of a list, put together, are the list
  pub joined-cut : (s : List X) → joined (cut takes s) ≡ s
  joined-cut [] = refl
  joined-cut (x ∷ xs) = joined-cut_from (x ∷ []) xs

  takes_all-push : (part xs : List X) (x : X) → TakesAll takes part xs → takes (part ++ xs) x ≡ true → TakesAll takes part (xs ++ x ∷ [])
  takes_all-push part [] x h e = (ap (λ w. takes w x) (sym (append-nil part)) ∙ e, tt)
  takes_all-push part (y ∷ ys) x h e = (h.0, takes_all-push (part ++ y ∷ []) ys x h.1 (ap (λ w. takes w x) (append_assoc part (y ∷ []) ys) ∙ e))

  ends_before-cut_from : (part : List X) (x : X) (xs s : List X) → takes part x ≡ false → EndsBefore takes part (cut_from takes (x ∷ xs) s)
  ends_before-cut_from part x xs [] e = e
  ends_before-cut_from part x xs (y ∷ ys) e = elim (takes (x ∷ xs) y) as (λ t. EndsBefore takes part (if t then cut_from takes (x ∷ xs ++ y ∷ []) ys else (x ∷ xs) ∷ cut_from takes (y ∷ []) ys)) [
    | true ↦ ends_before-cut_from part x (xs ++ y ∷ []) ys e
    | false ↦ e
  ]

  are_cut-cut_from : (x : X) (xs s : List X) → TakesAll takes (x ∷ []) xs → AreCut takes (cut_from takes (x ∷ xs) s)
  are_cut-cut_from x xs [] h = (h, tt, tt)
  are_cut-cut_from x xs (y ∷ ys) h =
      let P : Bool → Type 0 = λ t. takes (x ∷ xs) y ≡ t → AreCut takes (if t then cut_from takes (x ∷ xs ++ y ∷ []) ys else (x ∷ xs) ∷ cut_from takes (y ∷ []) ys) in
      let cases : (t : Bool) → P t = λ t. elim t as P [
        | true ↦ λ e. are_cut-cut_from x (xs ++ y ∷ []) ys (takes_all-push (x ∷ []) xs y h e)
        | false ↦ λ e. (h, ends_before-cut_from (x ∷ xs) y [] ys e, are_cut-cut_from y [] ys tt)
      ] in cases (takes (x ∷ xs) y) refl

  -- the parts are cut where each goes on as long as it takes what comes
  pub are_cut-cut : (s : List X) → AreCut takes (cut takes s)
  are_cut-cut [] = tt
  are_cut-cut (x ∷ xs) = are_cut-cut_from x [] xs tt

  cut_from-takes : (part xs s : List X) → TakesAll takes part xs → cut_from takes part (xs ++ s) ≡ cut_from takes (part ++ xs) s
  cut_from-takes part [] s h = ap (λ w. cut_from takes w s) (sym (append-nil part))
  cut_from-takes part (x ∷ xs) s h = rw h.0 (cut_from-takes (part ++ x ∷ []) xs s h.1 ∙ ap (λ w. cut_from takes w s) (append_assoc part (x ∷ []) xs))

  cut_from-ends : (part : List X) (parts : List (List X)) → EndsBefore takes part parts → AreCut takes parts → cut_from takes part (joined parts) ≡ part ∷ cut takes (joined parts)
  cut_from-ends part [] e h = refl
  cut_from-ends part ([] ∷ parts) e h = absurd e
  cut_from-ends part ((x ∷ xs) ∷ parts) e h = rw e refl

  -- a list is cut in one way
  pub cut-joined : (parts : List (List X)) → AreCut takes parts → cut takes (joined parts) ≡ parts
  cut-joined [] h = refl
  cut-joined ([] ∷ parts) h = absurd h
  cut-joined ((x ∷ xs) ∷ parts) h =
      cut_from-takes (x ∷ []) xs (joined parts) h.0 ∙ (cut_from-ends (x ∷ xs) parts h.1 h.2 ∙ ap (λ more. (x ∷ xs) ∷ more) (cut-joined parts h.2))

  ends_before-front : (part : List X) (qs ps : List (List X)) → EndsBefore takes part (qs ++ ps) → EndsBefore takes part qs
  ends_before-front part [] ps h = tt
  ends_before-front part ([] ∷ qs) ps h = h
  ends_before-front part ((x ∷ xs) ∷ qs) ps h = h

  -- parts at the front of a cut
  pub are_cut-front : (qs ps : List (List X)) → AreCut takes (qs ++ ps) → AreCut takes qs
  are_cut-front [] ps h = tt
  are_cut-front ([] ∷ qs) ps h = h
  are_cut-front ((x ∷ xs) ∷ qs) ps h = (h.0, ends_before-front (x ∷ xs) qs ps h.1, are_cut-front qs ps h.2)

  -- and at its end
  pub are_cut-back : (qs ps : List (List X)) → AreCut takes (qs ++ ps) → AreCut takes ps
  are_cut-back [] ps h = h
  are_cut-back ([] ∷ qs) ps h = absurd h
  are_cut-back ((x ∷ xs) ∷ qs) ps h = are_cut-back qs ps h.2
