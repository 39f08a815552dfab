-- Items are carried out one after another.
use Rattle.std.proofs.Common.{◌≡◌, ◌∙◌, ◌++◌, ◌∷◌, ℕ, Bool, List, [], None, false, true, ap, refl, sym}
use Rattle.std.proofs.lemmas.Bool.{true≢false}
use Rattle.cb_forms.proofs.FittingLaws.{fitting-items, over-kept_all}
use Rattle.cb_forms.specs.Items.{items, over, whole}
use Rattle.cb_forms.specs.Trees.{Reading}
use Rattle.cb_laws.specs.Running.{IsCarriedOut}
use Rattle.cb_session.proofs.OpenLaws.{complete_by, so_far_by}
use Rattle.cb_session.specs.Setups.{Setup}
use Rattle.cb_session.specs.Transcripts.{Run, after, after_all, after_status, begun, complete, so_far}

one_more : (run : Run) (rs : List Reading) (r : Reading) → after_all run (rs ++ r ∷ []) ≡ after (after_all run rs) r
one_more run [] r = refl
one_more run (q ∷ rs) r = one_more (after run q) rs r

carried : (run next : Run) (r : Reading) → run.status ≡ None → next ≡ after run r → IsCarriedOut run r next
carried run next r none is =
    let same : next ≡ after_status None run r = is ∙ ap (λ o. after_status o run r) none in
    record { state = ap (λ it. it.state) same; written = ap (λ it. it.written) same; status = ap (λ it. it.status) same }

-- no item of the beginning is too long
fits_before : (setup : Setup) (p q : List ℕ) → over setup.max_form (p ++ q) ≡ false → over setup.max_form p ≡ false
fits_before setup p q fine = by (over setup.max_form p) refl
  where
    by : (b : Bool) → over setup.max_form p ≡ b → b ≡ false
    by false e = refl
    by true e = absurd (true≢false (sym (over-kept_all setup.max_form p q e) ∙ fine))

pub next_carried : (setup : Setup) (p q : List ℕ) (r : Reading) → over setup.max_form (p ++ q) ≡ false → whole (p ++ q) ≡ whole p ++ r ∷ [] → (so_far setup p).status ≡ None
    → IsCarriedOut (so_far setup p) r (so_far setup (p ++ q))
next_carried setup p q r fine one none =
    let before : so_far setup p ≡ after_all (begun setup) (whole p) = so_far_by setup p false (fits_before setup p q fine) in
    carried (so_far setup p) (so_far setup (p ++ q)) r none (
    so_far_by setup (p ++ q) false fine
    ∙ (ap (after_all (begun setup)) one
    ∙ (one_more (begun setup) (whole p) r
    ∙ ap (λ run. after run r) (sym before)))
    )

-- at the end of a script
ended : (setup : Setup) (s : List ℕ) → over setup.max_form s ≡ false → complete setup s ≡ after_all (begun setup) (items s)
ended setup s fine = complete_by setup s false fine ∙ ap (after_all (begun setup)) (fitting-items setup.max_form s fine)

pub last_carried : (setup : Setup) (s : List ℕ) (r : Reading) → over setup.max_form s ≡ false → items s ≡ whole s ++ r ∷ [] → (so_far setup s).status ≡ None
    → IsCarriedOut (so_far setup s) r (complete setup s)
last_carried setup s r fine one none =
    let before : so_far setup s ≡ after_all (begun setup) (whole s) = so_far_by setup s false fine in
    carried (so_far setup s) (complete setup s) r none (
    ended setup s fine
    ∙ (ap (after_all (begun setup)) one
    ∙ (one_more (begun setup) (whole s) r
    ∙ ap (λ run. after run r) (sym before)))
    )

pub none_carried : (setup : Setup) (s : List ℕ) → over setup.max_form s ≡ false → items s ≡ whole s → complete setup s ≡ so_far setup s
none_carried setup s fine same = ended setup s fine ∙ (ap (after_all (begun setup)) same ∙ sym (so_far_by setup s false fine))
