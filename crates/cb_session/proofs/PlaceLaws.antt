-- The places of a script, as it grows.
use Rattle.std.proofs.Common.{◌≡◌, ◌≤◌, ℕ, true, false, List, [], ◌∷◌, ◌++◌, Option, Some, None, Bool, is_some, refl, sym, ap, ap₂, ◌∙◌, subst, inl, inr, if◌then◌else◌}
use Rattle.std.proofs.lemmas.Bool.{cases_Bool}
use Rattle.std.proofs.lemmas.List.{append-nil, map-append}
use Rattle.cb_forms.specs.Cuts.{cut_items, is_too_long, item_readings}
use Rattle.cb_forms.specs.Cutter.{Progress, readings_in}
use Rattle.cb_forms.specs.Internal.Cuts.{cut_readings}
use Rattle.cb_forms.specs.Items.{fitting, items, over, parts, whole}
use Rattle.cb_forms.specs.Lines.{open_line}
use Rattle.cb_forms.specs.Trees.{Reading, reading_of}
use Rattle.cb_forms.specs.declared.cut.Cut.{Cut}
use Rattle.cb_forms.specs.declared.form.Item.{Item}
use Rattle.cb_forms.proofs.FittingLaws.{fitting-kept, fitting-whole, over-kept_all}
use Rattle.cb_session.proofs.CutOffLaws.{placed-cut, placed-end, placed-settled, placed-starts}
use Rattle.cb_session.proofs.ItemLineLaws.{placed-grows, placed-push, placed-run, whole-readings, without_lines}
use Rattle.cb_session.proofs.SoFarLaws.{after_all-ended, fitting-run, so_far-fits}
use Rattle.cb_session.specs.Internal.Scripts.{AreNoted, IsUnderWay, cut_noted}
use Rattle.cb_session.specs.ItemLines.{all_on, placed_fitting, placed_whole, too_long_at}
use Rattle.cb_session.specs.Places.{FaultPlaces, all_places, no_places, noted_all, noted_from_start, noted_item, noted_too_long, places_cut_off, places_so_far}
use Rattle.cb_session.specs.Setups.{Setup}
use Rattle.cb_session.specs.States.{State}
use Rattle.cb_session.specs.Transcripts.{Run, after_all, after_status, begun, so_far}
use Rattle.cb_session.specs.declared.status.Status.{Status}

-- after the end nothing counts
noted-ended : (status : Status) (s : State) (ps : FaultPlaces) (xs : List (ℕ × Reading)) → noted_all (Some status) s ps xs ≡ ps
noted-ended status s ps [] = refl
noted-ended status s ps (x ∷ xs) = refl

ended-by : (o : Option Status) (status : Status) (s : State) (ps : FaultPlaces) (xs : List (ℕ × Reading)) → o ≡ Some status → noted_all o s ps xs ≡ ps
ended-by o status s ps xs e = ap (λ it. noted_all it s ps xs) e ∙ noted-ended status s ps xs

-- items, and items after them
noted-then : (run : Run) (ps : FaultPlaces) (xs ys : List (ℕ × Reading))
    → noted_all run.status run.state ps (xs ++ ys) ≡ noted_all (after_all run (without_lines xs)).status (after_all run (without_lines xs)).state (noted_all run.status run.state ps xs) ys
noted-then run ps [] ys = refl
noted-then run ps (x ∷ xs) ys = by run.status refl (λ next qs. noted-then next qs xs ys)
  where
    by : (o : Option Status) → run.status ≡ o
        → ((next : Run) (qs : FaultPlaces) → noted_all next.status next.state qs (xs ++ ys) ≡ noted_all (after_all next (without_lines xs)).status (after_all next (without_lines xs)).state (noted_all next.status next.state qs xs) ys)
        → noted_all o run.state ps (x ∷ (xs ++ ys)) ≡ noted_all (after_all (after_status o run x.1) (without_lines xs)).status (after_all (after_status o run x.1) (without_lines xs)).state (noted_all o run.state ps (x ∷ xs)) ys
    by None e more = more (after_status None run x.1) (noted_item x.0 run.state x.1 ps)
    by (Some status) e more =
        let same = after_all-ended run status (without_lines xs) e in
        sym (ap (λ it. noted_all it.status it.state ps ys) same ∙ ended-by run.status status run.state ps ys e)

-- the items of a script, and items after them
start-then : (l : Setup) (xs ys : List (ℕ × Reading)) → noted_from_start l (xs ++ ys) ≡ noted_all (after_all (begun l) (without_lines xs)).status (after_all (begun l) (without_lines xs)).state (noted_from_start l xs) ys
start-then l xs ys = noted-then (begun l) (noted_from_start l []) xs ys

-- the same after the items that have ended
whole-then : (l : Setup) (p : List ℕ) (ys : List (ℕ × Reading)) → noted_from_start l (placed_whole p ++ ys) ≡ noted_all (after_all (begun l) (whole p)).status (after_all (begun l) (whole p)).state (noted_from_start l (placed_whole p)) ys
whole-then l p ys = start-then l (placed_whole p) ys ∙ ap (λ rs. noted_all (after_all (begun l) rs).status (after_all (begun l) rs).state (noted_from_start l (placed_whole p)) ys) (whole-readings p)

-- the places, by whether an item is too long
pub far-fits : (l : Setup) (p : List ℕ) → over l.max_form p ≡ false → places_so_far l p ≡ noted_from_start l (placed_whole p)
unfolding places_so_far
far-fits l p h = ap (λ t. if t then places_cut_off l p else noted_from_start l (placed_whole p)) h

-- before the first byte
pub far-none : (l : Setup) → places_so_far l [] ≡ no_places
unfolding over parts placed_whole places_so_far
far-none l = refl

far-long : (l : Setup) (p : List ℕ) → over l.max_form p ≡ true → places_so_far l p ≡ places_cut_off l p
unfolding places_so_far
far-long l p h = ap (λ t. if t then places_cut_off l p else noted_from_start l (placed_whole p)) h

all-fit : (l : Setup) (p : List ℕ) → over l.max_form p ≡ false → all_places l p ≡ noted_from_start l (placed_fitting l.max_form p)
unfolding all_places
all-fit l p h = ap (λ t. if t then places_cut_off l p else noted_from_start l (placed_fitting l.max_form p)) h

all-long : (l : Setup) (p : List ℕ) → over l.max_form p ≡ true → all_places l p ≡ places_cut_off l p
unfolding all_places
all-long l p h = ap (λ t. if t then places_cut_off l p else noted_from_start l (placed_fitting l.max_form p)) h

cut-settled : (l : Setup) (p r : List ℕ) → over l.max_form p ≡ true → places_cut_off l (p ++ r) ≡ places_cut_off l p
cut-settled l p r long =
    let settled = placed-settled l.max_form p r long in
    ap (λ rs. noted_too_long (after_all (begun l) rs).status (too_long_at l.max_form (p ++ r)) (noted_from_start l (placed_fitting l.max_form (p ++ r)))) (fitting-kept l.max_form p r long)
    ∙ ap₂ (λ n xs. noted_too_long (after_all (begun l) (fitting l.max_form p)).status n (noted_from_start l xs)) settled.1 settled.0

ended-long : (o : Option Status) (status : Status) (line : ℕ) (ps : FaultPlaces) → o ≡ Some status → noted_too_long o line ps ≡ ps
ended-long o status line ps e = ap (λ it. noted_too_long it line ps) e

-- a script that has ended so far has ended so
pub places-ended : (l : Setup) (p r : List ℕ) (status : Status) → (so_far l p).status ≡ Some status → (places_so_far l (p ++ r) ≡ places_so_far l p) × (all_places l (p ++ r) ≡ places_so_far l p)
unfolding places_so_far all_places
places-ended l p r status ended = elim (cases_Bool (over l.max_form p)) [
  | inl long ↦
      let long' = over-kept_all l.max_form p r long in
      let same = cut-settled l p r long ∙ sym (far-long l p long) in
      (far-long l (p ++ r) long' ∙ same, all-long l (p ++ r) long' ∙ same)
  | inr fits ↦
      let here = after_all (begun l) (whole p) in
      let over_here : here.status ≡ Some status = ap (λ it. it.status) (sym (so_far-fits l p fits)) ∙ ended in
      let known = noted_from_start l (placed_whole p) in
      let stays : (more : List (ℕ × Reading)) → noted_from_start l (placed_whole p ++ more) ≡ known = λ more. whole-then l p more ∙ ended-by here.status status here.state known more over_here in
      let grows = placed-grows p r in
      let starts = placed-starts l.max_form p r fits in
      let whole_same : noted_from_start l (placed_whole (p ++ r)) ≡ known = ap (noted_from_start l) grows.is ∙ stays grows.more in
      let fit_same : noted_from_start l (placed_fitting l.max_form (p ++ r)) ≡ known = ap (noted_from_start l) starts.is ∙ stays starts.more in
      let run = fitting-run l p r fits in
      let over_then : (after_all (begun l) (fitting l.max_form (p ++ r))).status ≡ Some status = ap (λ it. it.status) (run.1 ∙ after_all-ended here status run.0 over_here) ∙ over_here in
      let cut_same : places_cut_off l (p ++ r) ≡ known = ended-long _ status (too_long_at l.max_form (p ++ r)) (noted_from_start l (placed_fitting l.max_form (p ++ r))) over_then ∙ fit_same in
      let P : Bool → Type 0 = λ t. ((if t then places_cut_off l (p ++ r) else noted_from_start l (placed_whole (p ++ r))) ≡ known) × ((if t then places_cut_off l (p ++ r) else noted_from_start l (placed_fitting l.max_form (p ++ r))) ≡ known) in
      let both : P (over l.max_form (p ++ r)) = elim (over l.max_form (p ++ r)) as P [ true ↦ (cut_same, cut_same) | false ↦ (whole_same, fit_same) ] in
      let is = far-fits l p fits in
      (both.0 ∙ sym is, both.1 ∙ sym is)
]

-- where a script has ended, no more places come
pub are-noted : (l : Setup) (p : List ℕ) (o : Option Status) (ps : FaultPlaces) → o ≡ (so_far l p).status → ps ≡ places_so_far l p → AreNoted l p o ps
are-noted l p None ps e is = is
are-noted l p (Some status) ps e is = is ∙ (sym (places-ended l p [] status (sym e)).1 ∙ ap (all_places l) (append-nil p))

pub all-settled : (l : Setup) (p q : List ℕ) (status : Status) → (so_far l p).status ≡ Some status → all_places l (p ++ q) ≡ all_places l p
all-settled l p q status e = (places-ended l p q status e).1 ∙ (sym (places-ended l p [] status e).1 ∙ ap (all_places l) (append-nil p))

noted-after : (l : Setup) (p q : List ℕ) (status : Status) (ps : FaultPlaces) → (so_far l p).status ≡ Some status → AreNoted l p (Some status) ps → AreNoted l (p ++ q) (Some status) ps
noted-after l p q status ps e is = is ∙ sym (all-settled l p q status e)

pub still-noted : (l : Setup) (p q : List ℕ) (o : Option Status) (ps : FaultPlaces) → o ≡ (so_far l p).status → is_some o ≡ true → AreNoted l p o ps → AreNoted l (p ++ q) o ps
still-noted l p q None ps e some is = absurd (cc)
still-noted l p q (Some status) ps e some is = noted-after l p q status ps (sym e) is

pub not-none : (o : Option Status) → is_some o ≡ true → o ≡ None → ⊥
not-none None some none = cc
not-none (Some status) some none = cc

module _ (l : Setup) (fed : List ℕ) (cutter : Progress) (state : State) (way : IsUnderWay l fed cutter state) where
  -- the line on which the open item begins, as the cutter tells it
  pub line-here : (line : ℕ) → (cutter.failed ≡ false → over cutter.limit cutter.stepped ≡ false → line ≡ open_line cutter.stepped) → line ≡ open_line cutter.stepped
  line-here line tells = tells way.fine (ap (λ it. over it cutter.stepped) way.limit ∙ (ap (over l.max_form) way.stepped ∙ way.fits))

  -- what follows the items that have ended
  way-then : (ps : FaultPlaces) (ys : List (ℕ × Reading)) → ps ≡ places_so_far l fed → noted_from_start l (placed_whole fed ++ ys) ≡ noted_all None state ps ys
  way-then ps ys is =
      let here = after_all (begun l) (whole fed) in
      let known : noted_from_start l (placed_whole fed) ≡ ps = sym (is ∙ far-fits l fed way.fits) in
      whole-then l fed ys ∙ (ap (λ o. noted_all o here.state (noted_from_start l (placed_whole fed)) ys) way.goes ∙ ap₂ (λ s qs. noted_all None s qs ys) (sym way.state_is) known)

  -- one more byte, by what it completes
  pub places-push : (cutter' : Progress) (b : ℕ) (given : Cut) (line : ℕ) (ps ps' : FaultPlaces) → cutter'.limit ≡ cutter.limit → cutter'.stepped ≡ cutter.stepped ++ b ∷ [] → cutter'.given ≡ cutter.given ++ cut_items given
      → (over cutter'.limit cutter'.stepped ≡ false → readings_in cutter'.given ≡ whole cutter'.stepped) → is_too_long given ≡ over cutter'.limit cutter'.stepped
      → line ≡ open_line cutter.stepped → ps ≡ places_so_far l fed → ps' ≡ cut_noted state line given ps → ps' ≡ places_so_far l (fed ++ b ∷ [])
  places-push cutter' b given line ps ps' limit stepped items whole_is long_is line_is known more =
      let n = l.max_form in
      let bytes : cutter'.stepped ≡ fed ++ b ∷ [] = stepped ∙ ap (λ it. it ++ b ∷ []) way.stepped in
      let at : line ≡ open_line fed = line_is ∙ ap open_line way.stepped in
      let over_is : over cutter'.limit cutter'.stepped ≡ over n (fed ++ b ∷ []) = ap (λ it. over it cutter'.stepped) (limit ∙ way.limit) ∙ ap (over n) bytes in
      elim (cases_Bool (is_too_long given)) [
        | inl e ↦
            let long : over n (fed ++ b ∷ []) ≡ true = sym over_is ∙ (sym long_is ∙ e) in
            let cut = placed-cut n fed b way.some way.fits long in
            let noted_is : cut_noted state line given ps ≡ record ps { limit = Some line } = ap (λ t. if t then record ps { limit = Some line } else noted_all None state ps (all_on line (cut_readings given))) e in
            let status : (after_all (begun l) (fitting n (fed ++ b ∷ []))).status ≡ None = ap (λ rs. (after_all (begun l) rs).status) (fitting-whole n fed b way.some way.fits long) ∙ way.goes in
            let all : places_cut_off l (fed ++ b ∷ []) ≡ record ps { limit = Some line } =
            ap (λ o. noted_too_long o (too_long_at n (fed ++ b ∷ [])) (noted_from_start l (placed_fitting n (fed ++ b ∷ [])))) status
            ∙ (ap₂ (λ m xs. noted_too_long None m (noted_from_start l xs)) (cut.1 ∙ sym at) cut.0
            ∙ ap (λ (qs : FaultPlaces). record qs { limit = Some line }) (sym (known ∙ far-fits l fed way.fits))) in
            more ∙ (noted_is ∙ sym (far-long l (fed ++ b ∷ []) long ∙ all))
        | inr e ↦
            let fits : over n (fed ++ b ∷ []) ≡ false = sym over_is ∙ (sym long_is ∙ e) in
            let noted_is : cut_noted state line given ps ≡ noted_all None state ps (all_on line (cut_readings given)) = ap (λ t. if t then record ps { limit = Some line } else noted_all None state ps (all_on line (cut_readings given))) e in
            let wholes : whole (fed ++ b ∷ []) ≡ whole fed ++ cut_readings given = ap whole (sym bytes) ∙ (sym (whole_is (sym long_is ∙ e)) ∙ (ap readings_in items ∙ (map-append reading_of cutter.given (cut_items given) ∙ ap (λ it. it ++ cut_readings given) way.given))) in
            let all : noted_from_start l (placed_whole (fed ++ b ∷ [])) ≡ noted_all None state ps (all_on line (cut_readings given)) =
            ap (noted_from_start l) (placed-push fed b (cut_readings given) wholes) ∙ (way-then ps (all_on (open_line fed) (cut_readings given)) known ∙ ap (λ m. noted_all None state ps (all_on m (cut_readings given))) (sym at)) in
            more ∙ (noted_is ∙ sym (far-fits l (fed ++ b ∷ []) fits ∙ all))
      ]

  -- a run of bytes that complete nothing
  pub places-run : (q : List ℕ) (cutter' : Progress) (ps : FaultPlaces) → IsUnderWay l (fed ++ q) cutter' state → cutter'.given ≡ cutter.given → ps ≡ places_so_far l fed → ps ≡ places_so_far l (fed ++ q)
  places-run q cutter' ps way' given known =
      let same : whole (fed ++ q) ≡ whole fed = sym way'.given ∙ (ap readings_in given ∙ way.given) in
      known ∙ (far-fits l fed way.fits ∙ (ap (noted_from_start l) (sym (placed-run fed q same)) ∙ sym (far-fits l (fed ++ q) way'.fits)))

  -- the end, and the item that is open there
  pub places-end : (item : Option Item) (line : ℕ) (ps : FaultPlaces) → line ≡ open_line cutter.stepped → (over cutter.limit cutter.stepped ≡ false → readings_in cutter.given ++ item_readings item ≡ items cutter.stepped)
      → ps ≡ places_so_far l fed → noted_all None state ps (all_on line (item_readings item)) ≡ all_places l fed
  places-end item line ps line_is ends known =
      let at : line ≡ open_line fed = line_is ∙ ap open_line way.stepped in
      let over_is : over cutter.limit cutter.stepped ≡ over l.max_form fed = ap (λ it. over it cutter.stepped) way.limit ∙ ap (over l.max_form) way.stepped in
      let all : items fed ≡ whole fed ++ item_readings item = ap items (sym way.stepped) ∙ (sym (ends (over_is ∙ way.fits)) ∙ ap (λ it. it ++ item_readings item) way.given) in
      ap (λ m. noted_all None state ps (all_on m (item_readings item))) at
      ∙ (sym (way-then ps (all_on (open_line fed) (item_readings item)) known) ∙ (ap (noted_from_start l) (sym (placed-end l.max_form fed (item_readings item) way.fits all)) ∙ sym (all-fit l fed way.fits)))
