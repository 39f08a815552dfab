-- Lists of parts that grow at their end.
use Rattle.std.proofs.Common.{◌≡◌, ℕ, ◌<◌, List, [], ◌∷◌, ◌++◌, inl, inr, refl, sym, ◌∙◌, ap, ap₂, subst}
use Rattle.std.specs.Cmp.{nat_cmp_is}
use Rattle.std.specs.Cmp.Lexicographic.{slice_cmp}
use Rattle.std.specs.Ordering.{nat_cmp, ordering_reverse, ordering_then}
use Rattle.std.specs.declared.cmp.Ordering.{Ordering}
use Rattle.std.specs.declared.cmp.Ordering.TheVariants.{Less, Equal, Greater}
use Rattle.cb_matches.specs.Order.{IsEarlier}
use Rattle.cb_matches.specs.Internal.KeyLaws.{part_total}
use Rattle.cb_matches.specs.Keys.{PartValue, part_cmp}

abbrev pub part : ℕ → List ℕ → PartValue
part ix cuts = record { index = ix; cuts = cuts }

ties : (o : Ordering) → o ≡ ordering_reverse o → o ≡ Equal
ties Less h = cc
ties Equal h = refl
ties Greater h = cc

part_never_below : (p : PartValue) → part_cmp p p ≡ Less → ⊥
part_never_below p h = let e : Less ≡ Greater = sym h ∙ (part_total.antisymm p p ∙ ap ordering_reverse h) in cc

part_ties : (p : PartValue) → part_cmp p p ≡ Equal
part_ties p = ties (part_cmp p p) (part_total.antisymm p p)

-- two lists that are one with a part at their end are one, and have one part there
pub same_last : (ps qs : List PartValue) (p q : PartValue) → ps ++ p ∷ [] ≡ qs ++ q ∷ [] → (ps ≡ qs) × (p ≡ q)
same_last [] [] p q h = (refl, cc)
same_last [] (x ∷ []) p q h = cc
same_last [] (x ∷ y ∷ ys) p q h = cc
same_last (x ∷ []) [] p q h = cc
same_last (x ∷ y ∷ ys) [] p q h = cc
same_last (x ∷ xs) (y ∷ ys) p q h =
    let first : x ≡ y = cc in
    let rest : xs ++ p ∷ [] ≡ ys ++ q ∷ [] = cc in
    let more = same_last xs ys p q rest in
    (ap₂ (λ (z : PartValue) (zs : List PartValue). z ∷ zs) first more.0, more.1)

pub never_earlier : (ps : List PartValue) → IsEarlier ps ps → ⊥
never_earlier [] h = absurd h
never_earlier (p ∷ ps) (inl h) = part_never_below p h
never_earlier (p ∷ ps) (inr h) = never_earlier ps h.1

pub earlier_trans : (ps qs rs : List PartValue) → IsEarlier ps qs → IsEarlier qs rs → IsEarlier ps rs
earlier_trans [] qs rs h k = absurd h
earlier_trans (p ∷ ps) [] rs h k = absurd h
earlier_trans (p ∷ ps) (q ∷ qs) [] h k = absurd k
earlier_trans (p ∷ ps) (q ∷ qs) (r ∷ rs) (inl h) (inl k) = inl (part_total.trans p q r h k)
earlier_trans (p ∷ ps) (q ∷ qs) (r ∷ rs) (inl h) (inr k) = inl (subst (λ it. part_cmp p it ≡ Less) k.0 h)
earlier_trans (p ∷ ps) (q ∷ qs) (r ∷ rs) (inr h) (inl k) = inl (subst (λ it. part_cmp it r ≡ Less) (sym h.0) k)
earlier_trans (p ∷ ps) (q ∷ qs) (r ∷ rs) (inr h) (inr k) = inr (h.0 ∙ k.0, earlier_trans ps qs rs h.1 k.1)

-- what comes after the first difference counts for nothing
pub earlier_more : (ps qs cs ds : List PartValue) → IsEarlier ps qs → IsEarlier (ps ++ cs) (qs ++ ds)
earlier_more [] qs cs ds h = absurd h
earlier_more (p ∷ ps) [] cs ds h = absurd h
earlier_more (p ∷ ps) (q ∷ qs) cs ds (inl h) = inl h
earlier_more (p ∷ ps) (q ∷ qs) cs ds (inr h) = inr (h.0, earlier_more ps qs cs ds h.1)

pub earlier_last : (ps : List PartValue) (p q : PartValue) → part_cmp p q ≡ Less → IsEarlier (ps ++ p ∷ []) (ps ++ q ∷ [])
earlier_last [] p q h = inl h
earlier_last (x ∷ ps) p q h = inr (refl, earlier_last ps p q h)

-- it is the order of keys
pub earlier_is_less : (ps qs : List PartValue) → IsEarlier ps qs → slice_cmp part_cmp ps qs ≡ Less
earlier_is_less [] qs h = absurd h
earlier_is_less (p ∷ ps) [] h = absurd h
earlier_is_less (p ∷ ps) (q ∷ qs) (inl h) = ap (λ o. ordering_then o (slice_cmp part_cmp ps qs)) h
earlier_is_less (p ∷ ps) (q ∷ qs) (inr h) =
    ap (λ o. ordering_then o (slice_cmp part_cmp ps qs)) (ap (λ it. part_cmp p it) (sym h.0) ∙ part_ties p) ∙ earlier_is_less ps qs h.1

pub below_by_index : (i j : ℕ) (cs ds : List ℕ) → i < j → part_cmp (part i cs) (part j ds) ≡ Less
below_by_index i j cs ds h = ap (λ o. ordering_then o (slice_cmp nat_cmp cs ds)) (sym (nat_cmp_is i j Less h))

pub below_by_cuts : (i : ℕ) (cs ds : List ℕ) → slice_cmp nat_cmp cs ds ≡ Less → part_cmp (part i cs) (part i ds) ≡ Less
below_by_cuts i cs ds h = ap (λ o. ordering_then o (slice_cmp nat_cmp cs ds)) (sym (nat_cmp_is i i Equal refl)) ∙ h
