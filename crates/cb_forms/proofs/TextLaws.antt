-- A text without a fault is its forms as they are written, with blanks and comments between them.
use Rattle.std.proofs.Common.{◌≡◌, ◌==◌, ◌⊎◌, ℕ, Bool, true, false, List, [], ◌∷◌, ◌++◌, Ok, Err, map, nat_lt, refl, sym, ap, ◌∙◌, append_assoc, subst, inl, inr, arith, if◌then◌else◌}
use Rattle.std.proofs.lemmas.Bool.{cases_Bool, eqb-true, ltb-false, or_parts}
use Rattle.std.proofs.lemmas.List.{append-nil, map-append}
use Rattle.std.specs.List.{flat_map}
use Rattle.cb_forms.specs.Cutting.{cut_from, cut, TakesAll, AreCut, joined}
use Rattle.cb_forms.specs.Items.{is_open_list, part_takes, parts, piece_readings, readings_of, items, last_part}
use Rattle.cb_forms.specs.Laws.{without_gaps}
use Rattle.cb_forms.specs.Lists.{list_reading, written}
use Rattle.cb_forms.specs.Pieces.{piece_takes, pieces, lexeme_of, lexemes}
use Rattle.cb_forms.specs.Internal.ScanStates.{mode_takes, fresh_mode, next_mode, next_depth, fresh_depth, mode_in, IsStateIn}
use Rattle.cb_forms.specs.Trees.{Tree, atom, Reading}
use Rattle.cb_forms.specs.declared.fault.Fault.TheVariants.{FormNotClosed, UnmatchedParenthesis}
use Rattle.cb_forms.specs.declared.lexeme.Lexeme.{Lexeme}
use Rattle.cb_forms.specs.declared.lexeme.Lexeme.TheVariants.{Gap, Opening, Closing, Atom}
use Rattle.cb_forms.specs.declared.lex_mode.LexMode.{LexMode}
use Rattle.cb_forms.specs.declared.lex_mode.LexMode.TheVariants.{Ended}
use Rattle.cb_forms.proofs.CuttingLaws.{joined-cut, are_cut-cut}
use Rattle.cb_forms.proofs.Modes.{piece-takes}
use Rattle.cb_forms.proofs.ScanStateLaws.{state-takes, state-push, state-fresh}
use Rattle.cb_forms.proofs.SpellingLaws.{gaps-append, one-piece, SaysPart, says-part}

module _ (takes : List ℕ → ℕ → Bool) where
  last_part-cons : (part p xs : List ℕ) → last_part (part ∷ cut_from takes p xs) ≡ last_part (cut_from takes p xs)
  last_part-cons part p [] = refl
  last_part-cons part p (x ∷ xs) = elim (takes p x) as (λ t. last_part (part ∷ (if t then cut_from takes (p ++ x ∷ []) xs else p ∷ cut_from takes (x ∷ []) xs)) ≡ last_part (if t then cut_from takes (p ++ x ∷ []) xs else p ∷ cut_from takes (x ∷ []) xs)) [
    | true ↦ last_part-cons part (p ++ x ∷ []) xs
    | false ↦ refl
  ]

  -- where the last part ends before a byte, the parts are those before it and those from it on
  cut_from-append : (part xs : List ℕ) (b : ℕ) (more : List ℕ) → takes (last_part (cut_from takes part xs)) b ≡ false → cut_from takes part (xs ++ b ∷ more) ≡ cut_from takes part xs ++ cut takes (b ∷ more)
  cut_from-append part [] b more = λ h. ap (λ t. if t then cut_from takes (part ++ b ∷ []) more else part ∷ cut_from takes (b ∷ []) more) h
  cut_from-append part (x ∷ xs) b more =
      elim (takes part x) as (λ t. takes (last_part (if t then cut_from takes (part ++ x ∷ []) xs else part ∷ cut_from takes (x ∷ []) xs)) b ≡ false → (if t then cut_from takes (part ++ x ∷ []) (xs ++ b ∷ more) else part ∷ cut_from takes (x ∷ []) (xs ++ b ∷ more)) ≡ (if t then cut_from takes (part ++ x ∷ []) xs else part ∷ cut_from takes (x ∷ []) xs) ++ cut takes (b ∷ more)) [
        | true ↦ cut_from-append (part ++ x ∷ []) xs b more
        | false ↦ λ h. ap (λ it. part ∷ it) (cut_from-append (x ∷ []) xs b more (ap (λ it. takes it b) (sym (last_part-cons part (x ∷ []) xs)) ∙ h))
      ]

pieces-append : (c : ℕ) (cs : List ℕ) (b : ℕ) (more : List ℕ) → piece_takes (last_part (pieces (c ∷ cs))) b ≡ false → pieces (c ∷ cs ++ b ∷ more) ≡ pieces (c ∷ cs) ++ pieces (b ∷ more)
unfolding pieces
pieces-append c cs b more h = cut_from-append piece_takes (c ∷ []) cs b more h

-- there is a state at the end of each part
record HasPlace (w : List ℕ) : Type 0 where
  pub mode : LexMode
  pub depth : ℕ
  pub at : IsStateIn w mode depth

has_place-more : (part xs : List ℕ) → HasPlace part → TakesAll part_takes part xs → HasPlace (part ++ xs)
has_place-more part [] h takes = rw (append-nil part) h
has_place-more part (x ∷ xs) h takes = rw (← append_assoc part (x ∷ []) xs) (has_place-more (part ++ x ∷ []) xs (record { mode = next_mode h.mode x; depth = next_depth h.mode h.depth x; at = state-push part h.mode h.depth x h.at takes.0 }) takes.1)

has_state : (c : ℕ) (cs : List ℕ) → TakesAll part_takes (c ∷ []) cs → HasPlace (c ∷ cs)
has_state c cs takes = has_place-more (c ∷ []) cs (record { mode = fresh_mode c; depth = fresh_depth c; at = state-fresh c }) takes

ends-list : (cs : List ℕ) (b : ℕ) → HasPlace (40 ∷ cs) → part_takes (40 ∷ cs) b ≡ false → piece_takes (last_part (pieces (40 ∷ cs))) b ≡ false
unfolding mode_in
ends-list cs b h ends =
    let both = or_parts (nat_lt 0 h.depth) (mode_takes h.mode b) (sym (state-takes (40 ∷ cs) h.mode h.depth b h.at) ∙ ends) in
    let le = ltb-false 0 h.depth both.0 in
    let ended : h.mode ≡ Ended = h.at.closed refl (omega arith) in
    piece-takes (last_part (pieces (40 ∷ cs))) b ∙ ap (λ m. mode_takes m b) (sym h.at.mode_is ∙ ended)

ends-piece : (c : ℕ) (cs : List ℕ) (b : ℕ) → (c == 40) ≡ false → TakesAll part_takes (c ∷ []) cs → part_takes (c ∷ cs) b ≡ false → piece_takes (last_part (pieces (c ∷ cs))) b ≡ false
ends-piece c cs b e takes ends =
    ap (λ ps. piece_takes (last_part ps) b) (one-piece c cs e takes) ∙ (
    sym (ap (λ t. if t then is_open_list (c ∷ cs) else piece_takes (c ∷ cs) b) e) ∙ ends)

-- a piece ends where a part does
ends-part : (c : ℕ) (cs : List ℕ) (b : ℕ) → TakesAll part_takes (c ∷ []) cs → part_takes (c ∷ cs) b ≡ false → piece_takes (last_part (pieces (c ∷ cs))) b ≡ false
ends-part c cs b takes ends =
    let P : ℕ → Type 0 = λ it. HasPlace (it ∷ cs) → part_takes (it ∷ cs) b ≡ false → piece_takes (last_part (pieces (it ∷ cs))) b ≡ false in
    elim (cases_Bool (c == 40)) [ inl e ↦ subst P (sym (eqb-true c 40 e)) (ends-list cs b) (has_state c cs takes) ends | inr e ↦ ends-piece c cs b e takes ends ]

pieces-none : pieces [] ≡ []
unfolding pieces
pieces-none = refl

-- the pieces of a text are those of its parts
pieces-joined : (ws : List (List ℕ)) → AreCut part_takes ws → pieces (joined ws) ≡ flat_map pieces ws
pieces-joined [] h = pieces-none
pieces-joined ([] ∷ ws) h = absurd h
pieces-joined ((c ∷ cs) ∷ []) h = ap pieces (append-nil (c ∷ cs)) ∙ sym (append-nil (pieces (c ∷ cs)))
pieces-joined ((c ∷ cs) ∷ [] ∷ ws) h = absurd h.1
pieces-joined ((c ∷ cs) ∷ (b ∷ bs) ∷ ws) h = pieces-append c cs b (bs ++ joined ws) (ends-part c cs b h.0 h.1) ∙ ap (λ it. pieces (c ∷ cs) ++ it) (pieces-joined ((b ∷ bs) ∷ ws) h.2)

spelled-flat : (ws : List (List ℕ)) → without_gaps (map lexeme_of (flat_map pieces ws)) ≡ flat_map (λ w. without_gaps (lexemes w)) ws
spelled-flat [] = refl
spelled-flat (w ∷ ws) = ap without_gaps (map-append lexeme_of (pieces w) (flat_map pieces ws)) ∙ (gaps-append (lexemes w) (map lexeme_of (flat_map pieces ws)) ∙ ap (λ it. without_gaps (lexemes w) ++ it) (spelled-flat ws))

piece-few : (l : Lexeme) → (piece_readings l ≡ []) ⊎ ((r : Reading) × (piece_readings l ≡ r ∷ []))
piece-few Gap = inl refl
piece-few Opening = inl refl
piece-few Closing = inr (Err UnmatchedParenthesis, refl)
piece-few (Atom (Ok t)) = inr (Ok (atom t), refl)
piece-few (Atom (Err f)) = inr (Err f, refl)

-- a part says one thing at most
part-few : (c : ℕ) (cs : List ℕ) → (readings_of (c ∷ cs) ≡ []) ⊎ ((r : Reading) × (readings_of (c ∷ cs) ≡ r ∷ []))
part-few c cs =
    let list : Reading = if is_open_list (c ∷ cs) then Err FormNotClosed else list_reading (lexemes (c ∷ cs)) in
    elim (c == 40) as (λ t. ((if t then list ∷ [] else piece_readings (lexeme_of (c ∷ cs))) ≡ []) ⊎ ((r : Reading) × ((if t then list ∷ [] else piece_readings (lexeme_of (c ∷ cs))) ≡ r ∷ []))) [
      | true ↦ inr (list, refl)
      | false ↦ piece-few (lexeme_of (c ∷ cs))
    ]

abbrev pub spelled : List (List ℕ) → List Lexeme
spelled ws = flat_map (λ w. without_gaps (lexemes w)) ws

spelled-form : (w : List ℕ) (r : Reading) (ws : List (List ℕ)) (ts : List Tree) → SaysPart w → readings_of w ≡ r ∷ [] → r ∷ flat_map readings_of ws ≡ map Ok ts → ((us : List Tree) → flat_map readings_of ws ≡ map Ok us → spelled ws ≡ flat_map written us) → spelled (w ∷ ws) ≡ flat_map written ts
spelled-form w r ws [] says one h more = cc
spelled-form w r ws (t ∷ ts) says one h more =
    let head : r ≡ Ok t = cc in
    let tail : flat_map readings_of ws ≡ map Ok ts = cc in
    ap (λ it. it ++ spelled ws) (says.form t (one ∙ ap (λ it. it ∷ []) head)) ∙ ap (λ it. written t ++ it) (more ts tail)

none-read : (ts : List Tree) → flat_map readings_of [] ≡ map Ok ts → spelled [] ≡ flat_map written ts
none-read [] h = refl
none-read (t ∷ ts) h = cc

spelled-forms : (ws : List (List ℕ)) → AreCut part_takes ws → (ts : List Tree) → flat_map readings_of ws ≡ map Ok ts → spelled ws ≡ flat_map written ts
spelled-forms [] cut ts h = none-read ts h
spelled-forms ([] ∷ ws) cut ts h = absurd cut
spelled-forms ((c ∷ cs) ∷ ws) cut ts h =
    let says = says-part c cs cut.0 in
    let more = spelled-forms ws cut.2 in
    elim (part-few c cs) [
      | inl none ↦ ap (λ it. it ++ spelled ws) (says.none none) ∙ more ts (sym (ap (λ it. it ++ flat_map readings_of ws) none) ∙ h)
      | inr one ↦ spelled-form (c ∷ cs) one.0 ws ts says one.1 (sym (ap (λ it. it ++ flat_map readings_of ws) one.1) ∙ h) more
    ]

-- the lexemes of a text are those of its parts
pub text-spelled : (s : List ℕ) → without_gaps (lexemes s) ≡ spelled (parts s)
unfolding parts
text-spelled s =
    let ws = cut part_takes s in
    ap (λ it. without_gaps (lexemes it)) (sym (joined-cut part_takes s)) ∙ (
    ap (λ it. without_gaps (map lexeme_of it)) (pieces-joined ws (are_cut-cut part_takes s)) ∙ spelled-flat ws)

-- a text of which every item is a form is those forms as they are written
pub text-written : (s : List ℕ) (ts : List Tree) → items s ≡ map Ok ts → without_gaps (lexemes s) ≡ flat_map written ts
unfolding items parts
text-written s ts h = text-spelled s ∙ spelled-forms (parts s) (are_cut-cut part_takes s) ts h
