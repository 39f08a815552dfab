-- Segments, which are fixed by their lengths and their joining.
use Rattle.std.proofs.Common.{◌≡◌, ◌∙◌, ℕ, suc, List, [], ◌∷◌, ◌++◌, Option, None, Some, ap, drop, length, map, refl, sym, take}
use Rattle.std.proofs.Math.Seq.{take-append_seam, drop-append_seam}
use Rattle.std.specs.List.{flat_map}
use Rattle.std.specs.Option.{option_and_then}
use Rattle.cb_constraints.specs.Constraints.{Constraint}
use Rattle.cb_exprs.specs.Bindings.{Bindings}
use Rattle.cb_facts.specs.declared.single.Single.{Single}
use Rattle.cb_fit.specs.Related.{HoldInTurn}

-- two lists that begin with equally long ones
pub same-front : {X : Type 0} (xs ys us vs : List X) → length xs ≡ length ys → xs ++ us ≡ ys ++ vs → xs ≡ ys
same-front xs ys us vs n e = sym (take-append_seam xs us) ∙ (ap (take (length xs)) e ∙ (ap (λ k. take k (ys ++ vs)) n ∙ take-append_seam ys vs))

pub same-back : {X : Type 0} (xs ys us vs : List X) → length xs ≡ length ys → xs ++ us ≡ ys ++ vs → us ≡ vs
same-back xs ys us vs n e = sym (drop-append_seam xs us) ∙ (ap (drop (length xs)) e ∙ (ap (λ k. drop k (ys ++ vs)) n ∙ drop-append_seam ys vs))

first-of : (m n : ℕ) (ms ns : List ℕ) → m ∷ ms ≡ n ∷ ns → m ≡ n
first-of m n ms ns e = cc

others-of : (m n : ℕ) (ms ns : List ℕ) → m ∷ ms ≡ n ∷ ns → ms ≡ ns
others-of m n ms ns e = cc

-- segments are fixed by their lengths and their joining
pub same-segments : (ss ts : List (List Single)) → map length ss ≡ map length ts → flat_map (λ s. s) ss ≡ flat_map (λ s. s) ts → ss ≡ ts
same-segments [] [] n e = refl
same-segments [] (t ∷ ts) n e = absurd (no_more (length t) (map length ts) n)
  where
    no_more : (m : ℕ) (ms : List ℕ) → [] ≡ m ∷ ms → ⊥
    no_more m ms e = cc
same-segments (s ∷ ss) [] n e = absurd (no_more (length s) (map length ss) n)
  where
    no_more : (m : ℕ) (ms : List ℕ) → m ∷ ms ≡ [] → ⊥
    no_more m ms e = cc
same-segments (s ∷ ss) (t ∷ ts) n e =
    let long = first-of (length s) (length t) (map length ss) (map length ts) n in
    ap (λ x. x ∷ ss) (same-front s t (flat_map (λ u. u) ss) (flat_map (λ u. u) ts) long e)
    ∙ ap (λ xs. t ∷ xs) (same-segments ss ts (others-of (length s) (length t) (map length ss) (map length ts) n) (same-back s t (flat_map (λ u. u) ss) (flat_map (λ u. u) ts) long e))

-- a row has one segment for each constraint
pub as-many : (row : List Constraint) (ss : List (List Single)) (before after : Bindings) → HoldInTurn row ss before after → length ss ≡ length row
as-many [] [] before after h = refl
as-many [] (s ∷ ss) before after h = absurd h
as-many (c ∷ cs) [] before after h = absurd h
as-many (c ∷ cs) (s ∷ ss) before after h = ap suc (as-many cs ss h.0 after h.2)

-- what follows something that is there
pub then-some : {X Y : Type 0} (next : X → Option Y) (o : Option X) (y : Y) → option_and_then next o ≡ Some y → (x : X) × (o ≡ Some x) × (next x ≡ Some y)
then-some next None y e = absurd (apart e)
  where
    apart : None ≡ Some y → ⊥
    apart e = cc
then-some next (Some x) y e = (x, refl, e)

pub same-some : {X : Type 0} (o : Option X) (x y : X) → o ≡ Some x → o ≡ Some y → x ≡ y
same-some o x y e d = cc
