-- Ways of slots, one after another.
use Rattle.std.proofs.Common.{◌≡◌, ◌∙◌, ◌++◌, ◌∷◌, [], List, ℕ, ap, map, refl, sym}
use Rattle.std.proofs.lemmas.Grind.{flat_map-append}
use Rattle.std.proofs.lemmas.List.{append-nil, map-append}
use Rattle.cb_exprs.specs.Bindings.{Bindings}
use Rattle.cb_fit.proofs.Rows.{cuts-together, no-cuts}
use Rattle.cb_fit.specs.Ways.{Taken, after_cuts, each_followed_by}

pub after-these : (next : Bindings → List Taken) (t : Taken) (ts : List Taken) → each_followed_by next (map (after_cuts t.cuts) ts) ≡ map (after_cuts t.cuts) (each_followed_by next ts)
after-these next t [] = refl
after-these next t (u ∷ us) =
    ap (λ xs. xs ++ each_followed_by next (map (after_cuts t.cuts) us)) (sym (cuts-together t.cuts u.cuts (next u.env)))
    ∙ (ap (λ xs. map (after_cuts t.cuts) (map (after_cuts u.cuts) (next u.env)) ++ xs) (after-these next t us)
    ∙ sym (map-append (after_cuts t.cuts) (map (after_cuts u.cuts) (next u.env)) (each_followed_by next us)))

-- what follows what follows
pub then-then : (next first : Bindings → List Taken) (ts : List Taken) → each_followed_by next (each_followed_by first ts) ≡ each_followed_by (λ env. each_followed_by next (first env)) ts
then-then next first [] = refl
then-then next first (t ∷ ts) =
    flat_map-append (λ u. map (after_cuts u.cuts) (next u.env)) (map (after_cuts t.cuts) (first t.env)) (each_followed_by first ts)
    ∙ (ap (λ xs. xs ++ each_followed_by next (each_followed_by first ts)) (after-these next t (first t.env))
    ∙ ap (λ xs. map (after_cuts t.cuts) (each_followed_by next (first t.env)) ++ xs) (then-then next first ts))

-- where nothing more is asked, they stay
pub and-no-more : (ts : List Taken) → each_followed_by (λ env. record { cuts = []; env = env } ∷ []) ts ≡ ts
and-no-more [] = refl
and-no-more (t ∷ ts) = ap (λ cuts. record { cuts = cuts; env = t.env } ∷ each_followed_by (λ env. record { cuts = []; env = env } ∷ []) ts) (append-nil t.cuts) ∙ ap (λ us. t ∷ us) (and-no-more ts)

-- from the start on
pub from_start : (cuts : List ℕ) (ts : List Taken) → cuts ≡ [] → map (after_cuts cuts) ts ≡ ts
from_start cuts ts e = ap (λ xs. map (after_cuts xs) ts) e ∙ no-cuts ts

pub from_start_alone : (next : Bindings → List Taken) (t : Taken) (env : Bindings) → t.cuts ≡ [] → t.env ≡ env → each_followed_by next (t ∷ []) ≡ next env
from_start_alone next t env e d = append-nil (map (after_cuts t.cuts) (next t.env)) ∙ (from_start t.cuts (next t.env) e ∙ ap next d)
