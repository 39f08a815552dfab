-- What a partial match goes on from.
use Rattle.std.proofs.Common.{◌∙◌, ◌++◌, ℕ, suc, List, [], ◌∷◌, Option, Some, None, ap, append-nil, append_assoc, subst, sym}
use Rattle.cb_beta.specs.BetaMemories.{BetaMemoryValue}
use Rattle.cb_beta.specs.Tokens.{TakenValue, with_taken}
use Rattle.cb_matches.specs.Keys.{PartValue}
use Rattle.cb_matches.specs.Matches.{Partial}
use Rattle.cb_token_lists.proofs.Down.{goes_on, of_token}
use Rattle.cb_token_lists.specs.Partials.{AreBelow, GoesOnFrom, Meets, SourceValue, meets_here, meets_below, partial_at, tokens_in}

on_with_taken : (x : Option (List ℕ)) (taken : Option TakenValue) (m z : Partial) → GoesOnFrom m z → GoesOnFrom m (with_taken x taken z)
on_with_taken x None m z h = h
on_with_taken x (Some t) m z h =
    let last : List PartValue = record { index = t.index; cuts = t.way.cuts } ∷ [] in
    (h.0 ++ last, ap (λ it. it ++ last) h.1 ∙ append_assoc m.parts h.0 last)

-- a partial match goes on from each that is met by going down from it
pub goes_on_from : (sources : List SourceValue) (lists : List BetaMemoryValue) → AreBelow sources → (j a k i : ℕ) → Meets sources lists j a k i
    → GoesOnFrom (partial_at sources lists j a) (partial_at sources lists k i)
goes_on_from sources lists below j a k i meets_here = ([], sym (append-nil (partial_at sources lists j a).parts))
goes_on_from sources lists below j a k i (meets_below k' i' s t is there more) =
    subst (GoesOnFrom (partial_at sources lists j a))
    (sym (goes_on sources lists below k' i' s is ∙ of_token s.address (tokens_in lists (suc k')) (partial_at sources lists s.from) i' t there))
    (on_with_taken s.address t.taken (partial_at sources lists j a) (partial_at sources lists s.from t.parent) (goes_on_from sources lists below j a s.from t.parent more))
