-- What is not carried out of a script is its open item.
use Rattle.std.proofs.Common.{◌≡◌, ◌∙◌, ◌<◌, ◌≤◌, ◌||◌, ◌++◌, ℕ, Bool, true, false, List, Option, Some, None, length, refl, sym, ap, subst, arith, append-nil, if◌then◌else◌}
use Rattle.cb_forms.specs.Items.{fitting, is_longer, is_open, last_part, over, parts, rest, whole}
use Rattle.cb_forms.specs.Trees.{Reading}
use Rattle.cb_forms.proofs.FittingLaws.{fitting-items, fitting-kept, over-kept_all}
use Rattle.cb_session.proofs.OpenTexts.{before_open, fitting_before, is_longer_open, not_longer, over_before, rest_none, rest_open, whole_before, whole_ended}
use Rattle.cb_session.specs.Setups.{Setup}
use Rattle.cb_session.specs.Transcripts.{Run, after_all, begun, complete, so_far, too_long, too_long_status}
use Rattle.cb_session.specs.declared.status.Status.{Status}

-- runs, by whether an item is too long
abbrev pub run_of : Setup → Bool → List Reading → List Reading → Run
run_of setup t some all = if t then too_long (after_all (begun setup) some) else after_all (begun setup) all

pub so_far_by : (setup : Setup) (p : List ℕ) (t : Bool) → over setup.max_form p ≡ t → so_far setup p ≡ run_of setup t (fitting setup.max_form p) (whole p)
unfolding so_far
so_far_by setup p t e = ap (λ b. run_of setup b (fitting setup.max_form p) (whole p)) e

pub complete_by : (setup : Setup) (s : List ℕ) (t : Bool) → over setup.max_form s ≡ t → complete setup s ≡ run_of setup t (fitting setup.max_form s) (fitting setup.max_form s)
unfolding complete
complete_by setup s t e = ap (λ b. run_of setup b (fitting setup.max_form s) (fitting setup.max_form s)) e

long_once : (status : Option Status) (run : Run) → run.status ≡ status → too_long (too_long_status status run) ≡ too_long_status status run
long_once None run e = refl
long_once (Some status) run e = ap (λ o. too_long_status o run) e

-- an item before the open one is too long
long_before : (setup : Setup) (p before : List ℕ) → p ≡ before ++ rest p → over setup.max_form before ≡ true → so_far setup p ≡ complete setup before
long_before setup p before e long =
    let later : over setup.max_form p ≡ true = subst (λ s. over setup.max_form s ≡ true) (sym e) (over-kept_all setup.max_form before (rest p) long) in
    let same : fitting setup.max_form p ≡ fitting setup.max_form before = ap (fitting setup.max_form) e ∙ fitting-kept setup.max_form before (rest p) long in
    so_far_by setup p true later ∙ ap (λ them. too_long (after_all (begun setup) them)) same ∙ sym (complete_by setup before true long)

fits_by : (setup : Setup) (p before : List ℕ) (t u : Bool) → p ≡ before ++ rest p → length (rest p) ≤ setup.max_form → is_open (last_part (parts p)) ≡ t → over setup.max_form before ≡ u
    → so_far setup p ≡ complete setup before
fits_by setup p before t true e h opens long = long_before setup p before e long
fits_by setup p before true false e h opens fits =
    let it = before_open p before e opens in
    let short : is_longer setup.max_form (last_part (parts p)) ≡ false = not_longer setup.max_form (last_part (parts p)) (subst (λ w. length w ≤ setup.max_form) (rest_open p opens) h) in
    let fine : over setup.max_form p ≡ false = over_before setup.max_form p before it ∙ ap (λ b. b || is_longer setup.max_form (last_part (parts p))) fits ∙ short in
    so_far_by setup p false fine
    ∙ ap (after_all (begun setup)) (whole_before p before it opens ∙ sym (fitting-items setup.max_form before fits))
    ∙ sym (complete_by setup before false fits)
fits_by setup p before false false e h shut fits =
    let same : p ≡ before = e ∙ ap (λ w. before ++ w) (rest_none p shut) ∙ append-nil before in
    let fine : over setup.max_form p ≡ false = ap (over setup.max_form) same ∙ fits in
    so_far_by setup p false fine
    ∙ ap (after_all (begun setup)) (whole_ended p shut ∙ sym (fitting-items setup.max_form p fine))
    ∙ sym (complete_by setup p false fine)
    ∙ ap (complete setup) same

pub what_fits : (setup : Setup) (p before : List ℕ) → p ≡ before ++ rest p → length (rest p) ≤ setup.max_form → so_far setup p ≡ complete setup before
what_fits setup p before e h = fits_by setup p before (is_open (last_part (parts p))) (over setup.max_form before) e h refl refl

long_by : (setup : Setup) (p before : List ℕ) (t u : Bool) → p ≡ before ++ rest p → setup.max_form < length (rest p) → is_open (last_part (parts p)) ≡ t → over setup.max_form before ≡ u
    → so_far setup p ≡ too_long (complete setup before)
long_by setup p before t true e h opens long =
    let run = after_all (begun setup) (fitting setup.max_form before) in
    let is : complete setup before ≡ too_long run = complete_by setup before true long in
    long_before setup p before e long ∙ is ∙ sym (long_once run.status run refl) ∙ ap too_long (sym is)
long_by setup p before true false e h opens fits =
    let it = before_open p before e opens in
    let long : is_longer setup.max_form (last_part (parts p)) ≡ true = is_longer_open setup.max_form (last_part (parts p)) opens (subst (λ w. setup.max_form < length w) (rest_open p opens) h) in
    let all : over setup.max_form p ≡ true = over_before setup.max_form p before it ∙ ap (λ b. b || is_longer setup.max_form (last_part (parts p))) fits ∙ long in
    so_far_by setup p true all
    ∙ ap (λ them. too_long (after_all (begun setup) them)) (fitting_before setup.max_form p before it fits long ∙ sym (fitting-items setup.max_form before fits))
    ∙ ap too_long (sym (complete_by setup before false fits))
long_by setup p before false false e h shut fits =
    let empty : setup.max_form < 0 = subst (λ w. setup.max_form < length w) (rest_none p shut) h in
    absurd (omega arith)

pub what_is_too_long : (setup : Setup) (p before : List ℕ) → p ≡ before ++ rest p → setup.max_form < length (rest p) → so_far setup p ≡ too_long (complete setup before)
what_is_too_long setup p before e h = long_by setup p before (is_open (last_part (parts p))) (over setup.max_form before) e h refl refl
