-- A text that is forms as they are written reads as those forms.
use Rattle.std.proofs.Common.{◌≡◌, ◌==◌, ◌≤◌, ℕ, ◌+◌, ◌-◌, true, false, List, [], ◌∷◌, ◌++◌, Some, None, Ok, Err, map, nat_le, refl, sym, All, ap, ◌∙◌, append_assoc, subst, inl, inr, arith, if◌then◌else◌}
use Rattle.std.proofs.lemmas.Bool.{false≢true, cases_Bool, eqb-true, ltb-true}
use Rattle.std.proofs.lemmas.List.{append-nil, append_cancel_left}
use Rattle.std.proofs.lemmas.List.Elements.{All-head, All-tail}
use Rattle.std.specs.List.{flat_map}
use Rattle.cb_forms.specs.Cutting.{cut, TakesAll, EndsBefore, AreCut}
use Rattle.cb_forms.specs.Items.{openings, closings, is_open_list, part_takes, parts, piece_readings, readings_of, items}
use Rattle.cb_forms.specs.Laws.{without_gaps, depth_of, deepest}
use Rattle.cb_forms.specs.Lists.{first_fault, levels_of, first_tree, fault_or, list_reading, written, written_all}
use Rattle.cb_forms.specs.Pieces.{pieces, lexeme_of, lexemes}
use Rattle.cb_forms.specs.Trees.{Tree, atom, branch, Trees, no_trees, tree}
use Rattle.cb_forms.specs.declared.fault.Fault.TheVariants.{FormNotClosed, NestingTooDeep}
use Rattle.cb_forms.specs.declared.lexeme.Lexeme.{Lexeme}
use Rattle.cb_forms.specs.declared.lexeme.Lexeme.TheVariants.{Gap, Opening, Closing, Atom}
use Rattle.cb_forms.proofs.CuttingLaws.{are_cut-cut}
use Rattle.cb_forms.proofs.ListLaws.{is_opening, opening-begins, pieces-list}
use Rattle.cb_forms.proofs.ListStackLaws.{first_tree-put_first}
use Rattle.cb_forms.proofs.DepthLaws.{fine-trees, fault-gaps}
use Rattle.cb_forms.proofs.ReadingLaws.{levels-written}
use Rattle.cb_forms.proofs.SpellingLaws.{one-piece, list-spelled}
use Rattle.cb_forms.proofs.TextLaws.{spelled, text-spelled}
use Rattle.cb_forms.proofs.WritingLaws.{opens, closes, opens-pieces, closes-pieces}

opens-append : (ls more : List Lexeme) → opens (ls ++ more) ≡ opens ls + opens more
opens-append [] more = omega arith
opens-append (l ∷ ls) more = let rest = opens-append ls more in omega arith

closes-append : (ls more : List Lexeme) → closes (ls ++ more) ≡ closes ls + closes more
closes-append [] more = omega arith
closes-append (l ∷ ls) more = let rest = closes-append ls more in omega arith

opens-gaps : (ls : List Lexeme) → opens (without_gaps ls) ≡ opens ls
opens-gaps [] = refl
opens-gaps (Gap ∷ ls) = let rest = opens-gaps ls in omega arith
opens-gaps (Opening ∷ ls) = ap (λ n. 1 + n) (opens-gaps ls)
opens-gaps (Closing ∷ ls) = ap (λ n. 0 + n) (opens-gaps ls)
opens-gaps (Atom r ∷ ls) = ap (λ n. 0 + n) (opens-gaps ls)

closes-gaps : (ls : List Lexeme) → closes (without_gaps ls) ≡ closes ls
closes-gaps [] = refl
closes-gaps (Gap ∷ ls) = let rest = closes-gaps ls in omega arith
closes-gaps (Opening ∷ ls) = ap (λ n. 0 + n) (closes-gaps ls)
closes-gaps (Closing ∷ ls) = ap (λ n. 1 + n) (closes-gaps ls)
closes-gaps (Atom r ∷ ls) = ap (λ n. 0 + n) (closes-gaps ls)

mutual
  even-tree : (t : Tree) → opens (written t) ≡ closes (written t)
  even-tree (atom t) = refl
  even-tree (branch ts) =
      let rest = even-trees ts in
      let a = opens-append (written_all ts) (Closing ∷ []) in
      let b = closes-append (written_all ts) (Closing ∷ []) in omega arith

  even-trees : (ts : Trees) → opens (written_all ts) ≡ closes (written_all ts)
  even-trees no_trees = refl
  even-trees (tree t ts) =
      let one = even-tree t in
      let rest = even-trees ts in
      let a = opens-append (written t) (written_all ts) in
      let b = closes-append (written t) (written_all ts) in omega arith

even-forms : (ts : List Tree) → opens (flat_map written ts) ≡ closes (flat_map written ts)
even-forms [] = refl
even-forms (t ∷ ts) =
    let one = even-tree t in
    let rest = even-forms ts in
    let a = opens-append (written t) (flat_map written ts) in
    let b = closes-append (written t) (flat_map written ts) in omega arith

-- a run without a fault has none in its front
fault-front : (n : ℕ) (ls more : List Lexeme) → first_fault n (ls ++ more) ≡ None → first_fault n ls ≡ None
fault-front n [] more = λ h. refl
fault-front n (Gap ∷ ls) more = fault-front n ls more
fault-front n (Opening ∷ ls) more = elim (nat_le 200 n) as (λ t. (if t then Some NestingTooDeep else first_fault (n + 1) (ls ++ more)) ≡ None → (if t then Some NestingTooDeep else first_fault (n + 1) ls) ≡ None) [
  | true ↦ λ h. h
  | false ↦ fault-front (n + 1) ls more
]
fault-front n (Closing ∷ ls) more = elim (nat_le n 1) as (λ t. (if t then None else first_fault (n - 1) (ls ++ more)) ≡ None → (if t then None else first_fault (n - 1) ls) ≡ None) [
  | true ↦ λ h. refl
  | false ↦ fault-front (n - 1) ls more
]
fault-front n (Atom (Ok t) ∷ ls) more = fault-front n ls more
fault-front n (Atom (Err f) ∷ ls) more = λ h. h

-- what is written in front is told by what is written
first-written : (t u : Tree) (ls more : List Lexeme) → written t ++ ls ≡ written u ++ more → t ≡ u
first-written t u ls more h =
    sym (first_tree-put_first t (levels_of ls)) ∙ (
    ap first_tree (sym (levels-written t ls) ∙ (ap levels_of h ∙ levels-written u more)) ∙ first_tree-put_first u (levels_of more))

-- the list at the front of a text that is forms as they are written, where the first form is a list
record IsListOf (cs : List ℕ) (us : Trees) (after more : List Lexeme) : Type 0 where
  pub says : readings_of (40 ∷ cs) ≡ Ok (branch us) ∷ []
  pub same : after ≡ more

front-list : (cs : List ℕ) (us : Trees) (after more : List Lexeme) → TakesAll part_takes (40 ∷ []) cs → is_open_list (40 ∷ cs) ≡ false → 1 + deepest us ≤ 200 → without_gaps (lexemes (40 ∷ cs)) ++ after ≡ written (branch us) ++ more → IsListOf cs us after more
front-list cs us after more takes shut low h =
    let ls = lexemes cs in
    let all : lexemes (40 ∷ cs) ≡ Opening ∷ ls = ap (map lexeme_of) (pieces-list cs) in
    let tail : without_gaps ls ++ after ≡ (written_all us ++ Closing ∷ []) ++ more = let whole : Opening ∷ (without_gaps ls ++ after) ≡ Opening ∷ ((written_all us ++ Closing ∷ []) ++ more) = sym (ap (λ it. without_gaps it ++ after) all) ∙ h in cc in
    let fine : first_fault 1 (without_gaps ls ++ after) ≡ None = ap (first_fault 1) (tail ∙ append_assoc (written_all us) (Closing ∷ []) more) ∙ fine-trees us 1 (Closing ∷ more) (omega arith) (omega arith) in
    let none : first_fault 0 (lexemes (40 ∷ cs)) ≡ None = ap (first_fault 0) all ∙ (sym (fault-gaps 1 ls) ∙ fault-front 1 (without_gaps ls) after fine) in
    let t : Tree = first_tree (levels_of (lexemes (40 ∷ cs))) in
    let says : list_reading (lexemes (40 ∷ cs)) ≡ Ok t = ap (λ f. fault_or f t) none in
    let spells : without_gaps (lexemes (40 ∷ cs)) ≡ written t = list-spelled t cs takes shut says in
    let same : t ≡ branch us = first-written t (branch us) after more (sym (ap (λ it. it ++ after) spells) ∙ h) in record {
      says = ap (λ it. (if it then Err FormNotClosed else list_reading (lexemes (40 ∷ cs))) ∷ []) shut ∙ ap (λ it. it ∷ []) (says ∙ ap Ok same);
      same = append_cancel_left (written (branch us)) after more (sym (ap (λ it. it ++ after) (spells ∙ ap written same)) ∙ h);
    }

-- an open list isn't the end of such a text
open-never : (cs : List ℕ) (ts : List Tree) → is_open_list (40 ∷ cs) ≡ true → without_gaps (lexemes (40 ∷ cs)) ≡ flat_map written ts → ⊥
unfolding is_open_list
open-never cs ts shut h =
    let w = 40 ∷ cs in
    let lt = ltb-true (closings (pieces w)) (openings (pieces w)) shut in
    let a = opens-pieces (pieces w) in
    let b = closes-pieces (pieces w) in
    let c : opens (lexemes w) ≡ opens (flat_map written ts) = sym (opens-gaps (lexemes w)) ∙ ap opens h in
    let d : closes (lexemes w) ≡ closes (flat_map written ts) = sym (closes-gaps (lexemes w)) ∙ ap closes h in
    let e = even-forms ts in omega arith

-- no tree nests too deep
abbrev AreFlat : List Tree → Type 0
AreFlat ts = All (λ t. depth_of t ≤ 200) ts

module _ (ws : List (List ℕ)) (more : (ts : List Tree) → AreFlat ts → spelled ws ≡ flat_map written ts → flat_map readings_of ws ≡ map Ok ts) where
  -- a part that is one piece
  reads-piece : (l : Lexeme) (ts : List Tree) → is_opening l ≡ false → AreFlat ts → without_gaps (l ∷ []) ++ spelled ws ≡ flat_map written ts → piece_readings l ++ flat_map readings_of ws ≡ map Ok ts
  reads-piece Gap ts e flat h = more ts flat h
  reads-piece Opening ts e flat h = cc
  reads-piece Closing [] e flat h = cc
  reads-piece Closing (atom a ∷ ts) e flat h = cc
  reads-piece Closing (branch us ∷ ts) e flat h = cc
  reads-piece (Atom (Ok a)) [] e flat h = cc
  reads-piece (Atom (Ok a)) (atom b ∷ ts) e flat h =
      let tail : spelled ws ≡ flat_map written ts = cc in
      let head : a ≡ b = cc in
      ap (λ it. Ok (atom a) ∷ it) (more ts (All-tail (λ t. depth_of t ≤ 200) (atom b) ts flat) tail) ∙ ap (λ it. Ok (atom it) ∷ map Ok ts) head
  reads-piece (Atom (Ok a)) (branch us ∷ ts) e flat h = cc
  reads-piece (Atom (Err f)) [] e flat h = cc
  reads-piece (Atom (Err f)) (atom a ∷ ts) e flat h = cc
  reads-piece (Atom (Err f)) (branch us ∷ ts) e flat h = cc

  -- a part that is a closed list
  reads-closed : (cs : List ℕ) (ts : List Tree) → TakesAll part_takes (40 ∷ []) cs → is_open_list (40 ∷ cs) ≡ false → AreFlat ts → without_gaps (lexemes (40 ∷ cs)) ++ spelled ws ≡ flat_map written ts → readings_of (40 ∷ cs) ++ flat_map readings_of ws ≡ map Ok ts
  reads-closed cs [] takes shut flat h =
      let all : without_gaps (lexemes (40 ∷ cs)) ≡ Opening ∷ without_gaps (lexemes cs) = ap (λ ps. without_gaps (map lexeme_of ps)) (pieces-list cs) in
      let begins : Opening ∷ (without_gaps (lexemes cs) ++ spelled ws) ≡ [] = sym (ap (λ it. it ++ spelled ws) all) ∙ h in cc
  reads-closed cs (atom a ∷ ts) takes shut flat h =
      let all : without_gaps (lexemes (40 ∷ cs)) ≡ Opening ∷ without_gaps (lexemes cs) = ap (λ ps. without_gaps (map lexeme_of ps)) (pieces-list cs) in
      let begins : Opening ∷ (without_gaps (lexemes cs) ++ spelled ws) ≡ Atom (Ok a) ∷ flat_map written ts = sym (ap (λ it. it ++ spelled ws) all) ∙ h in cc
  reads-closed cs (branch us ∷ ts) takes shut flat h =
      let is = front-list cs us (spelled ws) (flat_map written ts) takes shut (All-head (λ t. depth_of t ≤ 200) (branch us) ts flat) h in
      ap (λ it. it ++ flat_map readings_of ws) is.says ∙ ap (λ it. Ok (branch us) ∷ it) (more ts (All-tail (λ t. depth_of t ≤ 200) (branch us) ts flat) is.same)

-- an open list is the last part
open-last : (cs : List ℕ) (ws : List (List ℕ)) (ts : List Tree) → is_open_list (40 ∷ cs) ≡ true → EndsBefore part_takes (40 ∷ cs) ws → without_gaps (lexemes (40 ∷ cs)) ++ spelled ws ≡ flat_map written ts → ⊥
open-last cs [] ts shut ends h = open-never cs ts shut (sym (append-nil (without_gaps (lexemes (40 ∷ cs)))) ∙ h)
open-last cs ([] ∷ ws) ts shut ends h = absurd ends
open-last cs ((x ∷ xs) ∷ ws) ts shut ends h = absurd (false≢true (sym ends ∙ shut))

reads-list : (cs : List ℕ) (ws : List (List ℕ)) (ts : List Tree) → ((us : List Tree) → AreFlat us → spelled ws ≡ flat_map written us → flat_map readings_of ws ≡ map Ok us) → TakesAll part_takes (40 ∷ []) cs → EndsBefore part_takes (40 ∷ cs) ws → AreFlat ts → without_gaps (lexemes (40 ∷ cs)) ++ spelled ws ≡ flat_map written ts
    → readings_of (40 ∷ cs) ++ flat_map readings_of ws ≡ map Ok ts
reads-list cs ws ts more takes ends flat h = elim (cases_Bool (is_open_list (40 ∷ cs))) [
  | inl e ↦ absurd (open-last cs ws ts e ends h)
  | inr e ↦ reads-closed ws more cs ts takes e flat h
]

reads-parts : (ws : List (List ℕ)) → AreCut part_takes ws → (ts : List Tree) → AreFlat ts → spelled ws ≡ flat_map written ts → flat_map readings_of ws ≡ map Ok ts
reads-parts [] cut [] flat h = refl
reads-parts [] cut (atom a ∷ ts) flat h = cc
reads-parts [] cut (branch us ∷ ts) flat h = cc
reads-parts ([] ∷ ws) cut ts flat h = absurd cut
reads-parts ((c ∷ cs) ∷ ws) cut ts flat h =
    let w = c ∷ cs in
    let more : (us : List Tree) → AreFlat us → spelled ws ≡ flat_map written us → flat_map readings_of ws ≡ map Ok us = reads-parts ws cut.2 in
    let P : ℕ → Type 0 = λ it. TakesAll part_takes (it ∷ []) cs → EndsBefore part_takes (it ∷ cs) ws → AreFlat ts → without_gaps (lexemes (it ∷ cs)) ++ spelled ws ≡ flat_map written ts → readings_of (it ∷ cs) ++ flat_map readings_of ws ≡ map Ok ts in
    elim (cases_Bool (c == 40)) [
      | inl e ↦ subst P (sym (eqb-true c 40 e)) (reads-list cs ws ts more) cut.0 cut.1 flat h
      | inr e ↦
          let all : lexemes w ≡ lexeme_of w ∷ [] = ap (map lexeme_of) (one-piece c cs e cut.0) in
          let says : readings_of w ≡ piece_readings (lexeme_of w) = ap (λ t. if t then (if is_open_list w then Err FormNotClosed else list_reading (lexemes w)) ∷ [] else piece_readings (lexeme_of w)) e in
          ap (λ it. it ++ flat_map readings_of ws) says ∙ reads-piece ws more (lexeme_of w) ts (sym (opening-begins w) ∙ e) flat (sym (ap (λ it. without_gaps it ++ spelled ws) all) ∙ h)
    ]

-- a text that is forms as they are written, none of them too deep, reads as those forms
pub forms-read : (s : List ℕ) (ts : List Tree) → AreFlat ts → without_gaps (lexemes s) ≡ flat_map written ts → items s ≡ map Ok ts
unfolding items parts
forms-read s ts flat h = reads-parts (parts s) (are_cut-cut part_takes s) ts flat (sym (text-spelled s) ∙ h)
