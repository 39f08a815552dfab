-- A closed list without a fault is a tree as it is written.
use Rattle.std.proofs.Common.{◌≡◌, ◌<◌, ◌≤◌, ℕ, ◌+◌, ◌-◌, cond, List, [], ◌∷◌, ◌++◌, Some, None, Ok, Err, length, map, nat_le, refl, sym, ap, ◌∙◌, append_assoc, inl, inr, arith, if◌then◌else◌}
use Rattle.std.proofs.lemmas.Bool.{cases_Bool, leb-true, leb-false}
use Rattle.std.proofs.lemmas.List.Sums.{sum_by-cons}
use Rattle.cb_forms.specs.Bytes.{begins_with}
use Rattle.cb_forms.specs.Items.{openings, closings}
use Rattle.cb_forms.specs.Laws.{without_gaps}
use Rattle.cb_forms.specs.Lists.{first_fault, written_all}
use Rattle.cb_forms.specs.Pieces.{lexeme_of}
use Rattle.cb_forms.specs.Trees.{atom, branch, Trees, no_trees, tree}
use Rattle.cb_forms.specs.declared.fault.Fault.{Fault}
use Rattle.cb_forms.specs.declared.fault.Fault.TheVariants.{NestingTooDeep}
use Rattle.cb_forms.specs.declared.lexeme.Lexeme.{Lexeme}
use Rattle.cb_forms.specs.declared.lexeme.Lexeme.TheVariants.{Gap, Opening, Closing, Atom}
use Rattle.cb_forms.specs.declared.token.Token.{Token}
use Rattle.cb_forms.proofs.ListLaws.{is_opening, is_closing, one_if, opening-begins, closing-begins}

-- how many lists are opened, and how many are closed
abbrev pub opens : List Lexeme → ℕ
opens [] = 0
opens (l ∷ ls) = one_if (is_opening l) + opens ls

abbrev pub closes : List Lexeme → ℕ
closes [] = 0
closes (l ∷ ls) = one_if (is_closing l) + closes ls

pub opens-pieces : (ps : List (List ℕ)) → openings ps ≡ opens (map lexeme_of ps)
opens-pieces [] = refl
opens-pieces (p ∷ ps) =
    let more = opens-pieces ps in
    let one = sum_by-cons (λ q. cond (begins_with 40 q) 1 0) p ps in
    let first : one_if (begins_with 40 p) ≡ one_if (is_opening (lexeme_of p)) = ap one_if (opening-begins p) in omega (arith, one)

pub closes-pieces : (ps : List (List ℕ)) → closings ps ≡ closes (map lexeme_of ps)
closes-pieces [] = refl
closes-pieces (p ∷ ps) =
    let more = closes-pieces ps in
    let one = sum_by-cons (λ q. cond (begins_with 41 q) 1 0) p ps in
    let first : one_if (begins_with 41 p) ≡ one_if (is_closing (lexeme_of p)) = ap one_if (closing-begins p) in omega (arith, one)

-- the rest of open lists as it is written, from the innermost on
abbrev pub written_rest : List Trees → List Lexeme
written_rest [] = []
written_rest (ts ∷ more) = written_all ts ++ Closing ∷ written_rest more

-- the run begins with the rest of n open lists, and these are the trees in it
pub record Closes (n : ℕ) (ls : List Lexeme) : Type 0 where
  pub front : List Lexeme
  pub back : List Lexeme
  pub lists : List Trees
  pub together : ls ≡ front ++ back
  pub depth : length lists ≡ n
  pub even : opens front + n ≡ closes front
  pub spells : without_gaps front ≡ written_rest lists

closes-gap : (n : ℕ) (ls : List Lexeme) → Closes n ls → Closes n (Gap ∷ ls)
closes-gap n ls h = record {
  front = Gap ∷ h.front;
  back = h.back;
  lists = h.lists;
  together = ap (λ it. Gap ∷ it) h.together;
  depth = h.depth;
  even = let even = h.even in omega arith;
  spells = h.spells;
}

closes-end : (ls : List Lexeme) → Closes 1 (Closing ∷ ls)
closes-end ls = record {
  front = Closing ∷ [];
  back = ls;
  lists = no_trees ∷ [];
  together = refl;
  depth = refl;
  even = refl;
  spells = refl;
}

closes-close : (n m : ℕ) (ls : List Lexeme) → n ≡ m + 1 → Closes m ls → Closes n (Closing ∷ ls)
closes-close n m ls e h = record {
  front = Closing ∷ h.front;
  back = h.back;
  lists = no_trees ∷ h.lists;
  together = ap (λ it. Closing ∷ it) h.together;
  depth = let depth = h.depth in omega arith;
  even = let even = h.even in omega arith;
  spells = ap (λ it. Closing ∷ it) h.spells;
}

closes-atom : (n : ℕ) (t : Token) (ls : List Lexeme) (lists : List Trees) → 0 < n → (front back : List Lexeme) → ls ≡ front ++ back → length lists ≡ n → opens front + n ≡ closes front → without_gaps front ≡ written_rest lists → Closes n (Atom (Ok t) ∷ ls)
closes-atom n t ls [] some front back together depth even spells = absurd (omega arith)
closes-atom n t ls (ts ∷ more) some front back together depth even spells = record {
  front = Atom (Ok t) ∷ front;
  back = back;
  lists = tree (atom t) ts ∷ more;
  together = ap (λ it. Atom (Ok t) ∷ it) together;
  depth = depth;
  even = omega arith;
  spells = ap (λ it. Atom (Ok t) ∷ it) spells;
}

regroup : {X : Type 0} (x : X) (a b c : List X) → a ++ x ∷ (b ++ c) ≡ ((a ++ x ∷ []) ++ b) ++ c
regroup x a b c = sym (append_assoc (a ++ x ∷ []) b c ∙ append_assoc a (x ∷ []) (b ++ c))

closes-open : (n : ℕ) (ls : List Lexeme) (lists : List Trees) → 0 < n → (front back : List Lexeme) → ls ≡ front ++ back → length lists ≡ n + 1 → opens front + (n + 1) ≡ closes front → without_gaps front ≡ written_rest lists → Closes n (Opening ∷ ls)
closes-open n ls [] some front back together depth even spells = absurd (omega arith)
closes-open n ls (ts ∷ []) some front back together depth even spells = absurd (omega arith)
closes-open n ls (ts ∷ us ∷ more) some front back together depth even spells = record {
  front = Opening ∷ front;
  back = back;
  lists = tree (branch ts) us ∷ more;
  together = ap (λ it. Opening ∷ it) together;
  depth = omega arith;
  even = omega arith;
  spells = ap (λ it. Opening ∷ it) (spells ∙ regroup Closing (written_all ts) (written_all us) (Closing ∷ written_rest more));
}

none≢some : (f : Fault) → Some f ≡ None → ⊥
none≢some f h = cc

-- where no fault stands before the end of n open lists, and there is an end
pub closes-run : (n : ℕ) (ls : List Lexeme) → 0 < n → first_fault n ls ≡ None → opens ls + n ≤ closes ls → Closes n ls
closes-run n [] some fine even = absurd (omega arith)
closes-run n (Gap ∷ ls) some fine even = closes-gap n ls (closes-run n ls some fine (omega arith))
closes-run n (Opening ∷ ls) some fine even = elim (cases_Bool (nat_le 200 n)) [
  | inl deep ↦ absurd (none≢some NestingTooDeep (sym (ap (λ t. if t then Some NestingTooDeep else first_fault (n + 1) ls) deep) ∙ fine))
  | inr low ↦
      let h = closes-run (n + 1) ls (omega arith) (sym (ap (λ t. if t then Some NestingTooDeep else first_fault (n + 1) ls) low) ∙ fine) (omega arith) in
      closes-open n ls h.lists some h.front h.back h.together h.depth h.even h.spells
]
closes-run n (Closing ∷ ls) some fine even = elim (cases_Bool (nat_le n 1)) [
  | inl last ↦ let le = leb-true n 1 last in let one : 1 ≡ n = omega arith in rw (← one) (closes-end ls)
  | inr low ↦
      let lt = leb-false n 1 low in
      closes-close n (n - 1) ls (omega arith) (closes-run (n - 1) ls (omega arith) (sym (ap (λ t. if t then None else first_fault (n - 1) ls) low) ∙ fine) (omega arith))
]
closes-run n (Atom (Ok t) ∷ ls) some fine even =
    let h = closes-run n ls some fine (omega arith) in closes-atom n t ls h.lists some h.front h.back h.together h.depth h.even h.spells
closes-run n (Atom (Err f) ∷ ls) some fine even = absurd (none≢some f fine)
