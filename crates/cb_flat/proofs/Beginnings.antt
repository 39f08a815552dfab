-- Partial matches that go on from parts.
use Rattle.std.proofs.Common.{◌≡◌, ◌||◌, Bool, true, false, List, [], ◌∷◌, ◌++◌, drop, length, take, inl, inr, refl, sym, ◌∙◌, ap, subst}
use Rattle.std.proofs.Math.Seq.{take-append_seam}
use Rattle.std.proofs.lemmas.List.{take-append-drop}
use Rattle.std.specs.List.{list_any}
use Rattle.cb_flat.proofs.Parts.{or_second, parts_Decides}
use Rattle.cb_nodes.proofs.Origins.{Begins}
use Rattle.cb_nodes.specs.Flat.{begins}
use Rattle.cb_matches.specs.Keys.{PartValue}
use Rattle.cb_matches.proofs.Lists.{by_test}
use Rattle.cb_matches.specs.Chains.{In}
use Rattle.cb_matches.specs.Matches.{Partial}

pub begins_to : (ps : List PartValue) (z : Partial) → begins ps z ≡ true → Begins ps z.parts
begins_to ps z h =
    let e = (parts_Decides (take (length ps) z.parts) ps).0 h in
    (drop (length ps) z.parts, sym (take-append-drop (length ps) z.parts) ∙ ap (λ it. it ++ drop (length ps) z.parts) e)

pub to_begins : (ps : List PartValue) (z : Partial) → Begins ps z.parts → begins ps z ≡ true
to_begins ps z h = (parts_Decides (take (length ps) z.parts) ps).1 (ap (λ it. take (length ps) it) h.1 ∙ take-append_seam ps h.0)

-- one of a list passes a test
pub some_in : {A : Type 0} (q : A → Bool) (xs : List A) → list_any q xs ≡ true → (x : A) × In x xs × (q x ≡ true)
some_in q [] h = cc
some_in {A} q (x ∷ xs) h =
    by_test (q x) (λ t. (x, inl refl, t))
    (λ t. let more = some_in q xs (subst (λ b. (b || list_any q xs) ≡ true) t h) in (more.0, inr more.1, more.2))

pub in_some : {A : Type 0} (q : A → Bool) (x : A) (xs : List A) → In x xs → q x ≡ true → list_any q xs ≡ true
in_some q x [] h t = absurd h
in_some q x (y ∷ ys) (inl e) t = ap (λ b. b || list_any q ys) (ap q (sym e) ∙ t)
in_some q x (y ∷ ys) (inr h) t = or_second (q y) (list_any q ys) (in_some q x ys h t)

pub true_false : (b : Bool) → b ≡ true → b ≡ false → ⊥
true_false true h k = cc
true_false false h k = cc
