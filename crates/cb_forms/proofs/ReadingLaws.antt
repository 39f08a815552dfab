-- Texts and their items: each text reads in one way, and what has ended, is too long or is open stays so.
use Rattle.std.proofs.Common.{◌≡◌, ◌&&◌, ◌≤◌, ℕ, true, false, not, List, [], ◌∷◌, ◌++◌, length, nat_lt, refl, sym, ap, ◌∙◌, append_assoc, subst, Ok, Err, inl, inr, arith, if◌then◌else◌}
use Rattle.std.proofs.lemmas.Bool.{ltb-false, cases_Bool, or_parts}
use Rattle.std.proofs.lemmas.List.{append-nil}
use Rattle.std.specs.List.{flat_map}
use Rattle.cb_forms.specs.Internal.Cuts.{opened_readings}
use Rattle.cb_forms.specs.Cutting.{AreCut, joined}
use Rattle.cb_forms.specs.Items.{part_takes, parts, readings_of, items, ArePartsOf, Reads, but_last, last_part, is_open, ended_readings, whole, rest, is_longer, over}
use Rattle.cb_forms.specs.Laws.{BeginsWith, OpensAfter, without_gaps}
use Rattle.cb_forms.specs.Lists.{put_first, listed, levels_of, first_tree, written, written_all}
use Rattle.cb_forms.specs.Trees.{Tree, atom, branch, Trees, no_trees, tree, trees_of, Reading}
use Rattle.cb_forms.specs.declared.lexeme.Lexeme.{Lexeme}
use Rattle.cb_forms.specs.declared.lexeme.Lexeme.TheVariants.{Gap, Opening, Closing, Atom}
use Rattle.cb_forms.proofs.CuttingLaws.{joined-cut, are_cut-cut, cut-joined, are_cut-front}
use Rattle.cb_forms.proofs.ListStackLaws.{first_tree-put_first}
use Rattle.cb_forms.proofs.OpenPartLaws.{open-no_gap}
use Rattle.cb_forms.proofs.PartLaws.{tail, items-split, whole-taken, whole-fresh, over-split, over-kept}

-- a text reads as its items
pub reads-items : (s : List ℕ) → Reads s (items s)
unfolding items parts
reads-items s = (parts s, record { together = joined-cut part_takes s; each = are_cut-cut part_takes s }, refl)

-- and as nothing else
pub reads-one : (s : List ℕ) (rs : List Reading) → Reads s rs → rs ≡ items s
unfolding items parts
reads-one s rs reads =
    let are : ArePartsOf s reads.0 = reads.1 in
    reads.2 ∙ ap (flat_map readings_of) (sym (cut-joined part_takes reads.0 are.each) ∙ ap parts are.together)

begins-all : {X : Type 0} (xs : List X) → BeginsWith xs xs
begins-all xs = ([], sym (append-nil xs))

begins-more : {X : Type 0} (xs ys zs : List X) → BeginsWith xs ys → BeginsWith ys zs → BeginsWith xs zs
begins-more xs ys zs f g = (f.0 ++ g.0, g.1 ∙ (ap (λ it. it ++ g.0) f.1 ∙ append_assoc xs f.0 g.0))

whole-push : (p : List ℕ) (b : ℕ) → BeginsWith (whole p) (whole (p ++ b ∷ []))
whole-push p b = elim (cases_Bool (part_takes (tail p) b)) [
  | inl e ↦ (ended_readings (tail p ++ b ∷ []), whole-taken p b e)
  | inr e ↦ (opened_readings (tail p) ++ ended_readings (b ∷ []), whole-fresh p b e)
]

-- the items that have ended are the first of those that have ended in a longer text
pub whole-grows : (p r : List ℕ) → BeginsWith (whole p) (whole (p ++ r))
whole-grows p [] = rw (append-nil p) (begins-all (whole p))
whole-grows p (b ∷ bs) = begins-more (whole p) (whole (p ++ b ∷ [])) (whole (p ++ b ∷ bs)) (whole-push p b) (rw (← append_assoc p (b ∷ []) bs) (whole-grows (p ++ b ∷ []) bs))

-- and the first of its items
pub items-keep : (p r : List ℕ) → BeginsWith (whole p) (items (p ++ r))
items-keep p r = begins-more (whole p) (whole (p ++ r)) (items (p ++ r)) (whole-grows p r) (opened_readings (tail (p ++ r)), items-split (p ++ r))

-- a text with an item that is too long has one however it goes on
pub over-stays : (limit : ℕ) (p r : List ℕ) → over limit p ≡ true → over limit (p ++ r) ≡ true
over-stays limit p [] h = rw (append-nil p) h
over-stays limit p (b ∷ bs) h = rw (← append_assoc p (b ∷ []) bs) (over-stays limit (p ++ b ∷ []) bs (over-kept limit p b h))

-- the open item is no longer than the limit
pub rest-fits : (limit : ℕ) (p : List ℕ) → over limit p ≡ false → length (rest p) ≤ limit
unfolding rest
rest-fits limit p h =
    let w = tail p in
    let split = or_parts _ (is_longer limit w) (sym (over-split limit p) ∙ h) in
    elim (cases_Bool (is_open w)) as (λ _. length (if is_open w then w else []) ≤ limit) [
      | inl e ↦
          let low : nat_lt limit (length w) ≡ false = sym (ap (λ t. not t && nat_lt limit (length w)) (open-no_gap w e)) ∙ split.1 in
          let fits = ltb-false limit (length w) low in rw e (omega arith)
      | inr e ↦ rw e (omega arith)
    ]

split-last : (w : List ℕ) (ws : List (List ℕ)) → w ∷ ws ≡ but_last (w ∷ ws) ++ last_part (w ∷ ws) ∷ []
split-last w [] = refl
split-last w (v ∷ ws) = ap (λ more. w ∷ more) (split-last v ws)

joined-front : (qs : List (List ℕ)) (w : List ℕ) → joined (qs ++ w ∷ []) ≡ joined qs ++ w
joined-front [] w = append-nil w
joined-front (q ∷ qs) w = ap (λ it. q ++ it) (joined-front qs w) ∙ sym (append_assoc q (joined qs) w)

items-joined : (qs : List (List ℕ)) → AreCut part_takes qs → items (joined qs) ≡ flat_map readings_of qs
unfolding items parts
items-joined qs h = ap (flat_map readings_of) (cut-joined part_takes qs h)

-- the parts of a text but the last one say what has ended before it
front-after : (p : List ℕ) (ws : List (List ℕ)) → joined ws ≡ p → AreCut part_takes ws → (p ≡ joined (but_last ws) ++ last_part ws) × (items (joined (but_last ws)) ≡ flat_map readings_of (but_last ws))
front-after p [] together each = (sym together, items-joined [] tt)
front-after p (w ∷ ws) together each =
    let P : List (List ℕ) → Type 0 = λ it. AreCut part_takes it in
    let split = split-last w ws in (
      sym together ∙ (ap joined split ∙ joined-front (but_last (w ∷ ws)) (last_part (w ∷ ws))),
      items-joined (but_last (w ∷ ws)) (are_cut-front part_takes (but_last (w ∷ ws)) (last_part (w ∷ ws) ∷ []) (subst P split each)),
    )

parts-are : (p : List ℕ) → (joined (parts p) ≡ p) × AreCut part_takes (parts p)
unfolding parts
parts-are p = (joined-cut part_takes p, are_cut-cut part_takes p)

-- the open item stands after those that have ended
pub rest-after : (p : List ℕ) → (before : List ℕ) × OpensAfter p before
unfolding rest whole
rest-after p =
    let w = tail p in
    let are = parts-are p in
    elim (cases_Bool (is_open w)) [
      | inl e ↦
          let front = front-after p (parts p) are.0 are.1 in (
            joined (but_last (parts p)),
            record {
              together = front.0 ∙ sym (ap (λ t. joined (but_last (parts p)) ++ (if t then w else [])) e);
              ended = front.1 ∙ (sym (append-nil (flat_map readings_of (but_last (parts p)))) ∙ sym (ap (λ t. flat_map readings_of (but_last (parts p)) ++ (if t then [] else readings_of w)) e));
            },
          )
      | inr e ↦ (
        p,
        record {
          together = sym (append-nil p) ∙ sym (ap (λ t. p ++ (if t then w else [])) e);
          ended = items-split p ∙ (ap (λ t. whole p ++ (if t then readings_of w else [])) e ∙ append-nil (whole p));
        },
      )
    ]

-- the trees of a list, as a list
abbrev trees_list : Trees → List Tree
trees_list no_trees = []
trees_list (tree t ts) = t ∷ trees_list ts

trees_of-list : (ts : Trees) → trees_of (trees_list ts) ≡ ts
trees_of-list no_trees = refl
trees_of-list (tree t ts) = ap (λ more. tree t more) (trees_of-list ts)

mutual
  -- a tree as it is written stands first on the level where it begins
  pub levels-written : (t : Tree) (ls : List Lexeme) → levels_of (written t ++ ls) ≡ put_first t (levels_of ls)
  levels-written (atom t) ls = refl
  levels-written (branch ts) ls =
      ap (λ it. listed [] (levels_of it)) (append_assoc (written_all ts) (Closing ∷ []) ls) ∙ (
      ap (listed []) (levels-written_all ts ls) ∙ ap (λ it. put_first (branch it) (levels_of ls)) (trees_of-list ts))

  levels-written_all : (ts : Trees) (ls : List Lexeme) → levels_of (written_all ts ++ Closing ∷ ls) ≡ trees_list ts ∷ levels_of ls
  levels-written_all no_trees ls = refl
  levels-written_all (tree t ts) ls =
      ap levels_of (append_assoc (written t) (written_all ts) (Closing ∷ ls)) ∙ (
      levels-written t (written_all ts ++ Closing ∷ ls) ∙ ap (put_first t) (levels-written_all ts ls))

-- blanks and comments say nothing
pub levels-gaps : (ls : List Lexeme) → levels_of (without_gaps ls) ≡ levels_of ls
levels-gaps [] = refl
levels-gaps (Gap ∷ ls) = levels-gaps ls
levels-gaps (Opening ∷ ls) = ap (listed []) (levels-gaps ls)
levels-gaps (Closing ∷ ls) = ap (λ more. [] ∷ more) (levels-gaps ls)
levels-gaps (Atom (Ok t) ∷ ls) = ap (put_first (atom t)) (levels-gaps ls)
levels-gaps (Atom (Err f) ∷ ls) = levels-gaps ls

tree-of-written : (t : Tree) → first_tree (levels_of (written t)) ≡ t
tree-of-written t = ap (λ ls. first_tree (levels_of ls)) (sym (append-nil (written t))) ∙ (ap first_tree (levels-written t []) ∙ first_tree-put_first t (levels_of []))

-- lexemes that are a tree as it is written, with blanks and comments between them, are that tree
pub tree-written : (ls : List Lexeme) (t : Tree) → without_gaps ls ≡ written t → first_tree (levels_of ls) ≡ t
tree-written ls t h =
    ap first_tree (sym (levels-gaps ls)) ∙ (ap (λ it. first_tree (levels_of it)) h ∙ tree-of-written t)

-- trees that are written alike are one
pub written-alike : (t u : Tree) → written t ≡ written u → t ≡ u
written-alike t u h = sym (tree-of-written t) ∙ (ap (λ ls. first_tree (levels_of ls)) h ∙ tree-of-written u)
