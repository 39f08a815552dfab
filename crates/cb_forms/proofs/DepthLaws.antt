-- A tree as it is written has a fault where its lists nest too deep, and no other.
use Rattle.std.proofs.Common.{◌≡◌, ◌<◌, ◌≤◌, ℕ, ◌+◌, ◌-◌, List, [], ◌∷◌, ◌++◌, Some, None, Ok, Err, nat_le, max, refl, sym, ap, ◌∙◌, append_assoc, inl, inr, arith, if◌then◌else◌}
use Rattle.std.proofs.Math.Nat.{le-max_left, le-max_right, max-le}
use Rattle.std.proofs.lemmas.Bool.{cases_lt, lt-leb, le-leb}
use Rattle.cb_forms.specs.Laws.{without_gaps, depth_of, deepest}
use Rattle.cb_forms.specs.Lists.{first_fault, levels_of, first_tree, fault_or, list_reading, written, written_all}
use Rattle.cb_forms.specs.Trees.{Tree, atom, branch, Trees, no_trees, tree}
use Rattle.cb_forms.specs.declared.fault.Fault.TheVariants.{NestingTooDeep}
use Rattle.cb_forms.specs.declared.lexeme.Lexeme.{Lexeme}
use Rattle.cb_forms.specs.declared.lexeme.Lexeme.TheVariants.{Gap, Opening, Closing, Atom}
use Rattle.cb_forms.proofs.ReadingLaws.{tree-written}

-- a list is opened where n are open
opened : (n : ℕ) (ls : List Lexeme) → n < 200 → first_fault n (Opening ∷ ls) ≡ first_fault (n + 1) ls
opened n ls low = ap (λ t. if t then Some NestingTooDeep else first_fault (n + 1) ls) (lt-leb 200 n low)

-- and closed again
closed : (n : ℕ) (ls : List Lexeme) → 0 < n → first_fault (n + 1) (Closing ∷ ls) ≡ first_fault n ls
closed n ls some =
    let same : (n + 1) - 1 ≡ n = omega arith in
    ap (λ t. if t then None else first_fault ((n + 1) - 1) ls) (lt-leb (n + 1) 1 (omega arith)) ∙ ap (λ m. first_fault m ls) same

mutual
  -- a tree in n lists that isn't too deep has no fault
  fine-tree : (t : Tree) (n : ℕ) (ls : List Lexeme) → 0 < n → n + depth_of t ≤ 200 → first_fault n (written t ++ ls) ≡ first_fault n ls
  fine-tree (atom t) n ls some low = refl
  fine-tree (branch ts) n ls some low =
      opened n ((written_all ts ++ Closing ∷ []) ++ ls) (omega arith) ∙ (
      ap (first_fault (n + 1)) (append_assoc (written_all ts) (Closing ∷ []) ls) ∙ (fine-trees ts (n + 1) (Closing ∷ ls) (omega arith) (omega arith) ∙ closed n ls some))

  pub fine-trees : (ts : Trees) (n : ℕ) (ls : List Lexeme) → 0 < n → n + deepest ts ≤ 200 → first_fault n (written_all ts ++ ls) ≡ first_fault n ls
  fine-trees no_trees n ls some low = refl
  fine-trees (tree t ts) n ls some low =
      let left = le-max_left (depth_of t) (deepest ts) in
      let right = le-max_right (depth_of t) (deepest ts) in
      ap (first_fault n) (append_assoc (written t) (written_all ts) ls) ∙ (fine-tree t n (written_all ts ++ ls) some (omega arith) ∙ fine-trees ts n ls some (omega arith))

mutual
  -- one that is too deep has that fault
  deep-tree : (t : Tree) (n : ℕ) (ls : List Lexeme) → 0 < n → n ≤ 200 → 200 < n + depth_of t → first_fault n (written t ++ ls) ≡ Some NestingTooDeep
  deep-tree (atom t) n ls some fits deep = absurd (omega arith)
  deep-tree (branch ts) n ls some fits deep = elim (cases_lt n 200) [
    | inl low ↦
        opened n ((written_all ts ++ Closing ∷ []) ++ ls) low ∙ (
        ap (first_fault (n + 1)) (append_assoc (written_all ts) (Closing ∷ []) ls) ∙ deep-trees ts (n + 1) (Closing ∷ ls) (omega arith) (omega arith) (omega arith))
    | inr le ↦ ap (λ t. if t then Some NestingTooDeep else first_fault (n + 1) ((written_all ts ++ Closing ∷ []) ++ ls)) (le-leb 200 n le)
  ]

  deep-trees : (ts : Trees) (n : ℕ) (ls : List Lexeme) → 0 < n → n ≤ 200 → 200 < n + deepest ts → first_fault n (written_all ts ++ ls) ≡ Some NestingTooDeep
  deep-trees no_trees n ls some fits deep = absurd (omega arith)
  deep-trees (tree t ts) n ls some fits deep =
      ap (first_fault n) (append_assoc (written t) (written_all ts) ls) ∙ elim (cases_lt 200 (n + depth_of t)) [
        | inl first ↦ deep-tree t n (written_all ts ++ ls) some fits first
        | inr low ↦
            let more : 200 < n + deepest ts = elim (cases_lt 200 (n + deepest ts)) [
              | inl lt ↦ lt
              | inr le ↦
                  let a : depth_of t ≤ 200 - n = omega arith in
                  let b : deepest ts ≤ 200 - n = omega arith in
                  let both : max (depth_of t) (deepest ts) ≤ 200 - n = max-le a b in absurd (omega arith)
            ] in
            fine-tree t n (written_all ts ++ ls) some low ∙ deep-trees ts n ls some fits more
      ]

fine-whole : (t : Tree) → depth_of t ≤ 200 → first_fault 0 (written t) ≡ None
fine-whole (atom t) low = refl
fine-whole (branch ts) low = fine-trees ts 1 (Closing ∷ []) (omega arith) (omega arith)

deep-whole : (t : Tree) → 200 < depth_of t → first_fault 0 (written t) ≡ Some NestingTooDeep
deep-whole (atom t) deep = absurd (omega arith)
deep-whole (branch ts) deep = deep-trees ts 1 (Closing ∷ []) (omega arith) (omega arith) (omega arith)

pub fault-gaps : (n : ℕ) (ls : List Lexeme) → first_fault n (without_gaps ls) ≡ first_fault n ls
fault-gaps n [] = refl
fault-gaps n (Gap ∷ ls) = fault-gaps n ls
fault-gaps n (Opening ∷ ls) = ap (λ it. if nat_le 200 n then Some NestingTooDeep else it) (fault-gaps (n + 1) ls)
fault-gaps n (Closing ∷ ls) = ap (λ it. if nat_le n 1 then None else it) (fault-gaps (n - 1) ls)
fault-gaps n (Atom (Ok t) ∷ ls) = fault-gaps n ls
fault-gaps n (Atom (Err f) ∷ ls) = refl

fault-written : (ls : List Lexeme) (t : Tree) → without_gaps ls ≡ written t → first_fault 0 ls ≡ first_fault 0 (written t)
fault-written ls t h = sym (fault-gaps 0 ls) ∙ ap (first_fault 0) h

-- lexemes that are a tree as it is written read as that tree
pub reads-written : (ls : List Lexeme) (t : Tree) → without_gaps ls ≡ written t → depth_of t ≤ 200 → list_reading ls ≡ Ok t
reads-written ls t h low = ap (λ f. fault_or f (first_tree (levels_of ls))) (fault-written ls t h ∙ fine-whole t low) ∙ ap Ok (tree-written ls t h)

-- unless it is too deep
pub reads-deep : (ls : List Lexeme) (t : Tree) → without_gaps ls ≡ written t → 200 < depth_of t → list_reading ls ≡ Err NestingTooDeep
reads-deep ls t h deep = ap (λ f. fault_or f (first_tree (levels_of ls))) (fault-written ls t h ∙ deep-whole t deep)
