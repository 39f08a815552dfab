-- A form of a text is the tree that is written there.
use Rattle.std.proofs.Common.{◌≡◌, ◌==◌, ◌<◌, ℕ, ◌+◌, Bool, true, false, List, [], ◌∷◌, ◌++◌, Option, Some, None, Ok, Err, length, map, refl, sym, ap, ◌∙◌, append_assoc, subst, inl, inr, arith, if◌then◌else◌}
use Rattle.std.proofs.lemmas.Bool.{cases_Bool, eqb-true, ltb-true, ltb-false}
use Rattle.std.proofs.lemmas.List.{append-nil, length-map}
use Rattle.cb_forms.specs.Cutting.{cut, TakesAll, AreCut, joined}
use Rattle.cb_forms.specs.Items.{openings, closings, is_open_list, part_takes, piece_readings, readings_of}
use Rattle.cb_forms.specs.Laws.{without_gaps}
use Rattle.cb_forms.specs.Lists.{first_fault, levels_of, first_tree, fault_or, list_reading, written}
use Rattle.cb_forms.specs.Pieces.{piece_takes, pieces, lexeme_of, lexemes}
use Rattle.cb_forms.specs.Trees.{Tree, atom, branch, Trees}
use Rattle.cb_forms.specs.declared.fault.Fault.{Fault}
use Rattle.cb_forms.specs.declared.fault.Fault.TheVariants.{FormNotClosed}
use Rattle.cb_forms.specs.declared.lexeme.Lexeme.{Lexeme}
use Rattle.cb_forms.specs.declared.lexeme.Lexeme.TheVariants.{Gap, Opening, Closing, Atom}
use Rattle.cb_forms.proofs.CuttingLaws.{joined-cut, are_cut-cut, cut-joined, are_cut-front, are_cut-back}
use Rattle.cb_forms.proofs.ListLaws.{is_opening, opening-begins, pieces-list}
use Rattle.cb_forms.proofs.ListStackLaws.{first_tree-put_first}
use Rattle.cb_forms.proofs.ReadingLaws.{levels-written, levels-gaps}
use Rattle.cb_forms.proofs.WritingLaws.{opens, closes, opens-pieces, closes-pieces, written_rest, Closes, closes-run}

pub gaps-append : (ls more : List Lexeme) → without_gaps (ls ++ more) ≡ without_gaps ls ++ without_gaps more
gaps-append [] more = refl
gaps-append (Gap ∷ ls) more = gaps-append ls more
gaps-append (Opening ∷ ls) more = ap (λ it. Opening ∷ it) (gaps-append ls more)
gaps-append (Closing ∷ ls) more = ap (λ it. Closing ∷ it) (gaps-append ls more)
gaps-append (Atom r ∷ ls) more = ap (λ it. Atom r ∷ it) (gaps-append ls more)

fault_or-ok : (f : Option Fault) (u t : Tree) → fault_or f u ≡ Ok t → (f ≡ None) × (u ≡ t)
fault_or-ok None u t h = (refl, cc)
fault_or-ok (Some f) u t h = cc

-- the run begins with the tree as it is written
record Spells (t : Tree) (ls : List Lexeme) : Type 0 where
  pub front : List Lexeme
  pub back : List Lexeme
  pub together : ls ≡ front ++ back
  pub some : 0 < length front
  pub even : opens front ≡ closes front
  pub spells : without_gaps front ≡ written t

spells-list : (t : Tree) (ls : List Lexeme) (lists : List Trees) (front back : List Lexeme) → ls ≡ front ++ back → length lists ≡ 1 → opens front + 1 ≡ closes front → without_gaps front ≡ written_rest lists → first_tree (levels_of (Opening ∷ ls)) ≡ t → Spells t (Opening ∷ ls)
spells-list t ls [] front back together depth even spells is = absurd (omega arith)
spells-list t ls (ts ∷ us ∷ more) front back together depth even spells is = absurd (omega arith)
spells-list t ls (ts ∷ []) front back together depth even spells is =
    let all : without_gaps (Opening ∷ ls) ≡ written (branch ts) ++ without_gaps back = ap (λ it. without_gaps (Opening ∷ it)) together ∙ (gaps-append (Opening ∷ front) back ∙ ap (λ it. (Opening ∷ it) ++ without_gaps back) spells) in
    let tree_is : t ≡ branch ts = sym is ∙ (ap first_tree (sym (levels-gaps (Opening ∷ ls)) ∙ (ap levels_of all ∙ levels-written (branch ts) (without_gaps back))) ∙ first_tree-put_first (branch ts) (levels_of (without_gaps back))) in record {
      front = Opening ∷ front;
      back = back;
      together = ap (λ it. Opening ∷ it) together;
      some = omega arith;
      even = omega arith;
      spells = ap (λ it. Opening ∷ it) spells ∙ ap written (sym tree_is);
    }

spells-closed : (t : Tree) (cs : List ℕ) → is_open_list (40 ∷ cs) ≡ false → list_reading (lexemes (40 ∷ cs)) ≡ Ok t → Spells t (lexemes (40 ∷ cs))
unfolding is_open_list
spells-closed t cs shut says =
    let all : lexemes (40 ∷ cs) ≡ Opening ∷ lexemes cs = ap (map lexeme_of) (pieces-list cs) in
    let both = fault_or-ok (first_fault 0 (Opening ∷ lexemes cs)) (first_tree (levels_of (Opening ∷ lexemes cs))) t (ap list_reading (sym all) ∙ says) in
    let even = ltb-false (closings (pieces (40 ∷ cs))) (openings (pieces (40 ∷ cs))) shut in
    let opened : openings (pieces (40 ∷ cs)) ≡ 1 + opens (lexemes cs) = opens-pieces (pieces (40 ∷ cs)) ∙ ap opens all in
    let closed : closings (pieces (40 ∷ cs)) ≡ 0 + closes (lexemes cs) = closes-pieces (pieces (40 ∷ cs)) ∙ ap closes all in
    let h : Closes 1 (lexemes cs) = closes-run 1 (lexemes cs) (omega arith) both.0 (omega arith) in
    rw all (spells-list t (lexemes cs) h.lists h.front h.back h.together h.depth h.even h.spells both.1)

-- a list of images, split
record Splits {A B : Type 0} (f : A → B) (xs : List A) (front back : List B) : Type 0 where
  pub first : List A
  pub last : List A
  pub together : xs ≡ first ++ last
  pub first_is : map f first ≡ front
  pub last_is : map f last ≡ back

map-splits : {A B : Type 0} (f : A → B) (xs : List A) (front back : List B) → map f xs ≡ front ++ back → Splits f xs front back
map-splits f xs [] back h = record { first = []; last = xs; together = refl; first_is = refl; last_is = h }
map-splits f [] (y ∷ front) back h = cc
map-splits f (x ∷ xs) (y ∷ front) back h =
    let tail : map f xs ≡ front ++ back = cc in
    let head : f x ≡ y = cc in
    let more = map-splits f xs front back tail in record {
      first = x ∷ more.first;
      last = more.last;
      together = ap (λ it. x ∷ it) more.together;
      first_is = ap (λ it. f x ∷ it) more.first_is ∙ ap (λ it. it ∷ front) head;
      last_is = more.last_is;
    }

module _ (takes : List ℕ → ℕ → Bool) where
  takes_all-at : (part xs : List ℕ) (b : ℕ) (more : List ℕ) → TakesAll takes part (xs ++ b ∷ more) → takes (part ++ xs) b ≡ true
  takes_all-at part [] b more h = ap (λ w. takes w b) (append-nil part) ∙ h.0
  takes_all-at part (x ∷ xs) b more h = ap (λ w. takes w b) (sym (append_assoc part (x ∷ []) xs)) ∙ takes_all-at (part ++ x ∷ []) xs b more h.1

joined-append : (qs ps : List (List ℕ)) → joined (qs ++ ps) ≡ joined qs ++ joined ps
joined-append [] ps = refl
joined-append (q ∷ qs) ps = ap (λ it. q ++ it) (joined-append qs ps) ∙ sym (append_assoc q (joined qs) (joined ps))

joined-pieces : (w : List ℕ) → joined (pieces w) ≡ w
unfolding pieces
joined-pieces w = joined-cut piece_takes w

are_cut-pieces : (w : List ℕ) → AreCut piece_takes (pieces w)
unfolding pieces
are_cut-pieces w = are_cut-cut piece_takes w

pieces-joined : (qs : List (List ℕ)) → AreCut piece_takes qs → pieces (joined qs) ≡ qs
unfolding pieces
pieces-joined qs h = cut-joined piece_takes qs h

even-shut : (v : List ℕ) (qs : List (List ℕ)) → pieces v ≡ qs → opens (map lexeme_of qs) ≡ closes (map lexeme_of qs) → is_open_list v ≡ true → ⊥
unfolding is_open_list
even-shut v qs are even shut =
    let lt = ltb-true (closings (pieces v)) (openings (pieces v)) shut in
    let opened : openings (pieces v) ≡ opens (map lexeme_of qs) = ap openings are ∙ opens-pieces qs in
    let closed : closings (pieces v) ≡ closes (map lexeme_of qs) = ap closings are ∙ closes-pieces qs in omega arith

-- as many lists are closed as opened at the end of a list alone
inner-open : (c : ℕ) (cs inner : List ℕ) (b : ℕ) (more : List ℕ) → c ≡ 40 → TakesAll part_takes (c ∷ []) cs → cs ≡ inner ++ b ∷ more → is_open_list (c ∷ inner) ≡ true
inner-open c cs inner b more is takes cut =
    let P : List ℕ → Type 0 = λ it. TakesAll part_takes (c ∷ []) it in
    let goes : part_takes (c ∷ inner) b ≡ true = takes_all-at part_takes (c ∷ []) inner b more (subst P cut takes) in
    sym (ap (λ t. if t then is_open_list (c ∷ inner) else piece_takes (c ∷ inner) b) (ap (λ it. it == 40) is)) ∙ goes

even-all : (c : ℕ) (cs : List ℕ) (qs ps : List (List ℕ)) → c ≡ 40 → TakesAll part_takes (c ∷ []) cs → pieces (c ∷ cs) ≡ qs ++ ps → 0 < length qs → opens (map lexeme_of qs) ≡ closes (map lexeme_of qs) → AreCut piece_takes (qs ++ ps) → c ∷ cs ≡ joined qs ++ joined ps → ps ≡ []
even-all c cs qs [] is takes are some even cut all = refl
even-all c cs qs ([] ∷ ps) is takes are some even cut all = absurd (are_cut-back piece_takes qs ([] ∷ ps) cut)
even-all c cs [] ((b ∷ bs) ∷ ps) is takes are some even cut all = absurd (omega arith)
even-all c cs ([] ∷ qs) ((b ∷ bs) ∷ ps) is takes are some even cut all = absurd cut
even-all c cs ((x ∷ xs) ∷ qs) ((b ∷ bs) ∷ ps) is takes are some even cut all =
    let inner = xs ++ joined qs in
    let head : c ≡ x = cc in
    let tail : cs ≡ inner ++ b ∷ (bs ++ joined ps) = cc in
    let pieces_are : pieces (c ∷ inner) ≡ (x ∷ xs) ∷ qs = ap (λ it. pieces (it ∷ inner)) head ∙ pieces-joined ((x ∷ xs) ∷ qs) (are_cut-front piece_takes ((x ∷ xs) ∷ qs) ((b ∷ bs) ∷ ps) cut) in
    absurd (even-shut (c ∷ inner) ((x ∷ xs) ∷ qs) pieces_are even (inner-open c cs inner b (bs ++ joined ps) is takes tail))

-- a closed list that is one part
pub list-spelled : (t : Tree) (cs : List ℕ) → TakesAll part_takes (40 ∷ []) cs → is_open_list (40 ∷ cs) ≡ false → list_reading (lexemes (40 ∷ cs)) ≡ Ok t → without_gaps (lexemes (40 ∷ cs)) ≡ written t
list-spelled t cs takes shut says =
    let w = 40 ∷ cs in
    let h = spells-closed t cs shut says in
    let s = map-splits lexeme_of (pieces w) h.front h.back h.together in
    let P : List (List ℕ) → Type 0 = λ it. AreCut piece_takes it in
    let all : w ≡ joined s.first ++ joined s.last = sym (joined-pieces w) ∙ (ap joined s.together ∙ joined-append s.first s.last) in
    let some : 0 < length s.first = let same = length-map s.first lexeme_of in let is = ap length s.first_is in let front = h.some in omega arith in
    let even : opens (map lexeme_of s.first) ≡ closes (map lexeme_of s.first) = ap opens s.first_is ∙ (h.even ∙ ap closes (sym s.first_is)) in
    let none : s.last ≡ [] = even-all 40 cs s.first s.last refl takes s.together some even (subst P s.together (are_cut-pieces w)) all in
    let back : h.back ≡ [] = sym s.last_is ∙ ap (map lexeme_of) none in
    ap without_gaps (h.together ∙ (ap (λ it. h.front ++ it) back ∙ append-nil h.front)) ∙ h.spells

takes_all-plain : (c : ℕ) (xs ys : List ℕ) → (c == 40) ≡ false → TakesAll part_takes (c ∷ xs) ys → TakesAll piece_takes (c ∷ xs) ys
takes_all-plain c xs [] e h = tt
takes_all-plain c xs (y ∷ ys) e h = (sym (ap (λ t. if t then is_open_list (c ∷ xs) else piece_takes (c ∷ xs) y) e) ∙ h.0, takes_all-plain c (xs ++ y ∷ []) ys e h.1)

-- a part that is no list is one piece
pub one-piece : (c : ℕ) (cs : List ℕ) → (c == 40) ≡ false → TakesAll part_takes (c ∷ []) cs → pieces (c ∷ cs) ≡ (c ∷ cs) ∷ []
one-piece c cs e takes = ap pieces (sym (append-nil (c ∷ cs))) ∙ pieces-joined ((c ∷ cs) ∷ []) (takes_all-plain c [] cs e takes, tt, tt)

-- a piece outside every list says nothing, or is an atom as it is written, or is a fault
piece-spelled : (l : Lexeme) (t : Tree) → piece_readings l ≡ Ok t ∷ [] → without_gaps (l ∷ []) ≡ written t
piece-spelled Gap t h = cc
piece-spelled Opening t h = cc
piece-spelled Closing t h = cc
piece-spelled (Atom (Ok a)) t h = let is : atom a ≡ t = cc in ap written is
piece-spelled (Atom (Err f)) t h = cc

-- what a part says: nothing, where it is a gap, or a tree that is written there, or a fault
pub record SaysPart (w : List ℕ) : Type 0 where
  pub none : readings_of w ≡ [] → without_gaps (lexemes w) ≡ []
  pub form : (t : Tree) → readings_of w ≡ Ok t ∷ [] → without_gaps (lexemes w) ≡ written t

says-list : (cs : List ℕ) → TakesAll part_takes (40 ∷ []) cs → SaysPart (40 ∷ cs)
says-list cs takes = record {
  none = λ h. cc;
  form = λ t h. elim (cases_Bool (is_open_list (40 ∷ cs))) [
    | inl e ↦
        let says : Err FormNotClosed ∷ [] ≡ Ok t ∷ [] = sym (ap (λ it. (if it then Err FormNotClosed else list_reading (lexemes (40 ∷ cs))) ∷ []) e) ∙ h in cc
    | inr e ↦
        let says : list_reading (lexemes (40 ∷ cs)) ∷ [] ≡ Ok t ∷ [] = sym (ap (λ it. (if it then Err FormNotClosed else list_reading (lexemes (40 ∷ cs))) ∷ []) e) ∙ h in
        list-spelled t cs takes e cc
  ];
}

gap-spelled : (l : Lexeme) → is_opening l ≡ false → piece_readings l ≡ [] → without_gaps (l ∷ []) ≡ []
gap-spelled Gap e h = refl
gap-spelled Opening e h = cc
gap-spelled Closing e h = cc
gap-spelled (Atom (Ok t)) e h = cc
gap-spelled (Atom (Err f)) e h = cc

says-piece : (c : ℕ) (cs : List ℕ) → (c == 40) ≡ false → TakesAll part_takes (c ∷ []) cs → SaysPart (c ∷ cs)
says-piece c cs e takes =
    let w = c ∷ cs in
    let all : lexemes w ≡ lexeme_of w ∷ [] = ap (map lexeme_of) (one-piece c cs e takes) in
    let says : readings_of w ≡ piece_readings (lexeme_of w) = ap (λ t. if t then (if is_open_list w then Err FormNotClosed else list_reading (lexemes w)) ∷ [] else piece_readings (lexeme_of w)) e in record {
      none = λ h. ap without_gaps all ∙ gap-spelled (lexeme_of w) (sym (opening-begins w) ∙ e) (sym says ∙ h);
      form = λ t h. ap without_gaps all ∙ piece-spelled (lexeme_of w) t (sym says ∙ h);
    }

pub says-part : (c : ℕ) (cs : List ℕ) → TakesAll part_takes (c ∷ []) cs → SaysPart (c ∷ cs)
says-part c cs takes =
    let P : ℕ → Type 0 = λ it. TakesAll part_takes (it ∷ []) cs → SaysPart (it ∷ cs) in
    elim (cases_Bool (c == 40)) [ inl e ↦ subst P (sym (eqb-true c 40 e)) (says-list cs) takes | inr e ↦ says-piece c cs e takes ]
