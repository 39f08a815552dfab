-- What is kept of a part after a byte that completes nothing.
use Rattle.std.proofs.Common.{◌≡◌, ◌==◌, ℕ, ◌+◌, ◌-◌, Bool, true, false, List, [], ◌∷◌, ◌++◌, nat_lt, refl, sym, ap, ◌∙◌, subst, if◌then◌else◌}
use Rattle.std.proofs.lemmas.Bool.{or_right}
use Rattle.cb_forms.specs.Internal.Cuts.{opened_readings, part_with, readings_before}
use Rattle.cb_forms.specs.Items.{part_takes, readings_of, is_open, ended_readings}
use Rattle.cb_forms.specs.Internal.OpenParts.{IsKept, Reaches}
use Rattle.cb_forms.specs.Internal.ScanStates.{mode_takes, fresh_mode, continued_mode, next_mode, next_depth}
use Rattle.cb_forms.specs.Trees.{Reading}
use Rattle.cb_forms.specs.declared.cut.Cut.TheVariants as cut
use Rattle.cb_forms.specs.declared.lex_mode.LexMode.{LexMode}
use Rattle.cb_forms.specs.declared.open_part.OpenPart.{OpenPart}
use Rattle.cb_forms.proofs.OpenPartLaws.{reaches-comment}
use Rattle.cb_forms.proofs.ScanStateLaws.{state-takes}

-- the byte goes on with the part
goes_on : (limit : ℕ) (w : List ℕ) (b : ℕ) (part : OpenPart) → part_takes w b ≡ true → Reaches limit (w ++ b ∷ []) [] cut.More part → Reaches limit (part_with w b) (readings_before w b) cut.More part
goes_on limit w b part takes goes =
    let P : Bool → Type 0 = λ t. Reaches limit (if t then w ++ b ∷ [] else b ∷ []) (if t then [] else opened_readings w) cut.More part in
    subst P (sym takes) goes

-- the byte begins a part, and no item was open
pub begins : (limit : ℕ) (w : List ℕ) (b : ℕ) (part : OpenPart) → part_takes w b ≡ false → is_open w ≡ false → Reaches limit (b ∷ []) [] cut.More part → Reaches limit (part_with w b) (readings_before w b) cut.More part
begins limit w b part takes shut goes =
    let P : Bool → Type 0 = λ t. Reaches limit (if t then w ++ b ∷ [] else b ∷ []) (if t then [] else opened_readings w) cut.More part in
    let Q : List Reading → Type 0 = λ it. Reaches limit (b ∷ []) it cut.More part in
    let none : opened_readings w ≡ [] = ap (λ t. if t then readings_of w else []) shut in
    subst P (sym takes) (subst Q (sym none) goes)

-- nothing is said by an item that is open
pub ended-open : (w : List ℕ) → is_open w ≡ true → ended_readings w ≡ []
ended-open w h = ap (λ t. if t then [] else readings_of w) h

stay-takes : (part : OpenPart) (b : ℕ) → IsKept part → mode_takes part.state.mode b ≡ true → part_takes part.spelled.items b ≡ true
stay-takes part b kept goes = state-takes part.spelled.items part.state.mode part.state.depth b kept.state_is ∙ or_right (nat_lt 0 part.state.depth) (mode_takes part.state.mode b) goes

stay-mode : (m : LexMode) (b : ℕ) → mode_takes m b ≡ true → continued_mode m b ≡ m → m ≡ next_mode m b
stay-mode m b goes same = sym (ap (λ t. if t then continued_mode m b else fresh_mode b) goes ∙ same)

stay-depth : (m : LexMode) (d b : ℕ) → mode_takes m b ≡ true → d ≡ next_depth m d b
stay-depth m d b goes = sym (ap (λ t. if t then d else (if b == 40 then d + 1 else (if b == 41 then d - 1 else d))) goes)

-- a comment goes on, and its state stays
pub stays-comment : (limit : ℕ) (b : ℕ) (old new : OpenPart) → IsKept old → mode_takes old.state.mode b ≡ true → continued_mode old.state.mode b ≡ old.state.mode → old.bytes ≡ [] → new.bytes ≡ [] → new.state.mode ≡ old.state.mode → new.state.depth ≡ old.state.depth
    → new.spelled.items ≡ old.spelled.items ++ b ∷ [] → Reaches limit (part_with old.spelled.items b) (readings_before old.spelled.items b) cut.More new
stays-comment limit b old new kept goes same none bytes mode depth spelled =
    let takes = stay-takes old b kept goes in
    goes_on limit old.spelled.items b new takes (reaches-comment limit old.spelled.items b old new refl kept takes none bytes (mode ∙ stay-mode old.state.mode b goes same) (depth ∙ stay-depth old.state.mode old.state.depth b goes) spelled)
