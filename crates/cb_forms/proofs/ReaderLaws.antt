-- Reading a text part by part.
use Rattle.std.proofs.Common.{◌≡◌, ◌==◌, ◌||◌, ◌<◌, ◌≤◌, ℕ, ◌+◌, true, false, List, [], ◌∷◌, ◌++◌, length, nat_lt, get_or, take, drop, refl, sym, ap, ◌∙◌, subst, append_assoc, arith, if◌then◌else◌}
use Rattle.std.proofs.lemmas.List.{append-nil, take_more}
use Rattle.std.specs.List.{flat_map}
use Rattle.cb_forms.specs.Cutting.{cut_from}
use Rattle.cb_forms.specs.Items.{part_takes, parts, readings_of, items}
use Rattle.cb_forms.specs.Internal.ScanStates.{mode_takes, fresh_mode, next_mode, next_depth, fresh_depth, IsStateIn}
use Rattle.cb_forms.specs.Trees.{Reading}
use Rattle.cb_forms.specs.declared.lex_mode.LexMode.{LexMode}
use Rattle.cb_forms.proofs.OpenPartLaws.{depth-next}
use Rattle.cb_forms.proofs.ScanStateLaws.{state-takes, state-push, state-fresh}
use Rattle.cb_forms.proofs.Splits.{split-more, split-all, split-end}

-- the part at the front of a text, as far as the first i bytes tell
pub record IsPartSoFar (s : List ℕ) (i : ℕ) (mode : LexMode) (depth : ℕ) : Type 0 where
  pub state_is : IsStateIn (take i s) mode depth
  pub depth_fits : depth ≤ i
  pub cut_is : cut_from part_takes (take i s) (drop i s) ≡ parts s

fresh-fits : (b : ℕ) → fresh_depth b ≤ 1
fresh-fits b = elim (b == 40) as (λ t. (if t then 1 else 0) ≤ 1) [ true ↦ omega arith | false ↦ omega arith ]

pub part-begin : (s : List ℕ) → 0 < length s → IsPartSoFar s 1 (fresh_mode (get_or s 0 0)) (fresh_depth (get_or s 0 0))
unfolding parts
part-begin [] h = absurd (omega arith)
part-begin (x ∷ xs) h = record { state_is = state-fresh x; depth_fits = fresh-fits x; cut_is = refl }

-- the part goes on with the next byte
pub part-more : (s : List ℕ) (i : ℕ) (m : LexMode) (d : ℕ) → i < length s → IsPartSoFar s i m d → (nat_lt 0 d || mode_takes m (get_or s i 0)) ≡ true → IsPartSoFar s (i + 1) (next_mode m (get_or s i 0)) (next_depth m d (get_or s i 0))
part-more s i m d lt so_far h =
    let b = get_or s i 0 in
    let takes : part_takes (take i s) b ≡ true = state-takes (take i s) m d b so_far.state_is ∙ h in
    let P : List ℕ → Type 0 = λ w. IsStateIn w (next_mode m b) (next_depth m d b) in record {
      state_is = subst P (sym (take_more s i 0 lt)) (state-push (take i s) m d b so_far.state_is takes);
      depth_fits = let fits = so_far.depth_fits in let next = depth-next m d b in omega arith;
      cut_is = split-more part_takes s i lt takes ∙ so_far.cut_is;
    }

-- the part ends with the text
pub part-all : (s : List ℕ) (i : ℕ) (m : LexMode) (d : ℕ) → length s ≤ i → IsPartSoFar s i m d → parts s ≡ take i s ∷ parts (drop i s)
unfolding parts
part-all s i m d le so_far = sym so_far.cut_is ∙ split-all part_takes s i le

-- the part ends before a byte that it doesn't take
pub part-end : (s : List ℕ) (i : ℕ) (m : LexMode) (d : ℕ) → i < length s → IsPartSoFar s i m d → (nat_lt 0 d || mode_takes m (get_or s i 0)) ≡ false → parts s ≡ take i s ∷ parts (drop i s)
unfolding parts
part-end s i m d lt so_far h =
    let takes : part_takes (take i s) (get_or s i 0) ≡ false = state-takes (take i s) m d (get_or s i 0) so_far.state_is ∙ h in
    sym so_far.cut_is ∙ split-end part_takes s i lt takes

items-none : (s : List ℕ) → length s ≡ 0 → items s ≡ []
unfolding items parts
items-none [] h = refl
items-none (b ∷ bs) h = absurd (omega arith)

-- the items of a text are what its first part says, and those after it
items-cut : (s w more : List ℕ) → parts s ≡ w ∷ parts more → items s ≡ readings_of w ++ items more
unfolding items
items-cut s w more h = ap (flat_map readings_of) h

-- What has been read and what is left are the items of the text: so they are with one part more,
pub read-more : (text rest w more : List ℕ) (read read' says : List Reading) → read ++ items rest ≡ items text → parts rest ≡ w ∷ parts more → says ≡ readings_of w → read' ≡ read ++ says → read' ++ items more ≡ items text
read-more text rest w more read read' says so_far cut is reads =
    ap (λ it. it ++ items more) (reads ∙ ap (λ it. read ++ it) is) ∙ (
    append_assoc read (readings_of w) (items more) ∙ (ap (λ it. read ++ it) (sym (items-cut rest w more cut)) ∙ so_far))

-- and where nothing is left, they are what has been read.
pub read-all : (text rest : List ℕ) (read : List Reading) → read ++ items rest ≡ items text → length rest ≡ 0 → read ≡ items text
read-all text rest read so_far none = sym (append-nil read) ∙ (ap (λ it. read ++ it) (sym (items-none rest none)) ∙ so_far)
