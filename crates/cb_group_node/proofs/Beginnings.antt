-- Partial matches that go on from parts.
use Rattle.std.proofs.Common.{◌≡◌, ◌∙◌, ◌||◌, Bool, true, false, ℕ, List, [], ◌∷◌, ◌++◌, ap, ap₂, drop, inl, inr, length, nat_eq, refl, subst, sym, take}
use Rattle.std.proofs.Math.Seq.{take-append_seam}
use Rattle.std.proofs.lemmas.Bool.Decides.{Decides-eqb}
use Rattle.std.proofs.lemmas.List.{take-append-drop}
use Rattle.std.specs.Bool.{Decides}
use Rattle.std.specs.Cmp.Lexicographic.{pointwise, pointwise_decides}
use Rattle.std.specs.List.{list_any}
use Rattle.cb_matches.proofs.Lists.{by_test}
use Rattle.cb_matches.specs.Chains.{In}
use Rattle.cb_matches.specs.Keys.{PartValue, part_eq}
use Rattle.cb_matches.specs.Matches.{Partial}
use Rattle.cb_nodes.proofs.Grown.{and_both, and_first, and_second}
use Rattle.cb_nodes.proofs.Origins.{Begins}
use Rattle.cb_nodes.specs.Flat.{begins}

make_part : ℕ → List ℕ → PartValue
make_part ix cuts = record { index = ix; cuts = cuts }

pub part_Decides : (p q : PartValue) → Decides (part_eq p q) (p ≡ q)
unfolding make_part
part_Decides p q = (
  λ h. ap₂ make_part ((Decides-eqb _ _).0 (and_first (nat_eq p.index q.index) _ h)) ((pointwise_decides Decides-eqb p.cuts q.cuts).0 (and_second (nat_eq p.index q.index) _ h)),
  λ e. and_both (nat_eq p.index q.index) (pointwise nat_eq p.cuts q.cuts) ((Decides-eqb _ _).1 (ap (λ it. it.index) e)) ((pointwise_decides Decides-eqb p.cuts q.cuts).1 (ap (λ it. it.cuts) e)),
)

pub parts_Decides : (ps qs : List PartValue) → Decides (pointwise part_eq ps qs) (ps ≡ qs)
parts_Decides ps qs = pointwise_decides part_Decides ps qs

pub begins_to : (ps : List PartValue) (z : Partial) → begins ps z ≡ true → Begins ps z.parts
begins_to ps z h =
    let e = (parts_Decides (take (length ps) z.parts) ps).0 h in
    (drop (length ps) z.parts, sym (take-append-drop (length ps) z.parts) ∙ ap (λ it. it ++ drop (length ps) z.parts) e)

pub to_begins : (ps : List PartValue) (z : Partial) → Begins ps z.parts → begins ps z ≡ true
to_begins ps z h = (parts_Decides (take (length ps) z.parts) ps).1 (ap (λ it. take (length ps) it) h.1 ∙ take-append_seam ps h.0)

-- one of a list passes a test
pub some_in : {A : Type 0} (q : A → Bool) (xs : List A) → list_any q xs ≡ true → (x : A) × In x xs × (q x ≡ true)
some_in q [] h = cc
some_in {A} q (x ∷ xs) h =
    by_test (q x) (λ t. (x, inl refl, t))
    (λ t. let more = some_in q xs (subst (λ b. (b || list_any q xs) ≡ true) t h) in (more.0, inr more.1, more.2))

or_second : (a b : Bool) → b ≡ true → (a || b) ≡ true
or_second true b h = refl
or_second false b h = h

pub in_some : {A : Type 0} (q : A → Bool) (x : A) (xs : List A) → In x xs → q x ≡ true → list_any q xs ≡ true
in_some q x [] h t = absurd h
in_some q x (y ∷ ys) (inl e) t = ap (λ b. b || list_any q ys) (ap q (sym e) ∙ t)
in_some q x (y ∷ ys) (inr h) t = or_second (q y) (list_any q ys) (in_some q x ys h t)
