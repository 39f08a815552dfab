-- Globals that are kept under their names: one is replaced at its place, and one is put after the others.
use Rattle.std.proofs.Common.{◌≡◌, ◌+◌, ◌<◌, ◌∙◌, ◌++◌, ℕ, suc, Bool, true, false, List, [], ◌∷◌, Option, Some, None, option_map, refl, sym, ap, subst, length, set, arith, if◌then◌else◌}
use Rattle.std.specs.BTreeMap as tree
use Rattle.std.specs.BTreeMap.{BTreeMap}
use Rattle.std.specs.Cmp.Lexicographic.{slice_cmp, texts_ties, bytes_decides}
use Rattle.std.specs.Ordering.{nat_cmp}
use Rattle.std.specs.Str.{bytes_eq}
use Rattle.cb_exprs.specs.GlobalTerms.{GlobalTerm}
use Rattle.cb_knowledge_base.specs.Globals.{with_initial}
use Rattle.cb_knowledge_base.specs.Internal.GlobalPlaces.{AreFound, place_of_global}

-- a global that is there
replaced_first : (g h : GlobalTerm) (hs : List GlobalTerm) (i : ℕ) (t : Bool) (o : Option ℕ) → (if t then Some 0 else option_map suc o) ≡ Some i
    → ((j : ℕ) → o ≡ Some j → with_initial g hs ≡ set hs j g) → (if t then g ∷ hs else h ∷ with_initial g hs) ≡ set (h ∷ hs) i g
replaced_first g h hs i true o e more = let is : 0 ≡ i = cc in subst (λ n. g ∷ hs ≡ set (h ∷ hs) n g) is refl
replaced_first g h hs i false None e more = absurd (cc)
replaced_first g h hs i false (Some j) e more = let is : suc j ≡ i = cc in subst (λ n. h ∷ with_initial g hs ≡ set (h ∷ hs) n g) is (ap (λ it. h ∷ it) (more j refl))

pub replaced : (g : GlobalTerm) (hs : List GlobalTerm) (i : ℕ) → place_of_global g.0 hs ≡ Some i → with_initial g hs ≡ set hs i g
replaced g [] i e = absurd (cc)
replaced g (h ∷ hs) i e = replaced_first g h hs i (bytes_eq h.0 g.0) (place_of_global g.0 hs) e (λ j f. replaced g hs j f)

within_first : (hs : List GlobalTerm) (i : ℕ) (t : Bool) (o : Option ℕ) → (if t then Some 0 else option_map suc o) ≡ Some i
    → ((j : ℕ) → o ≡ Some j → j < length hs) → i < length hs + 1
within_first hs i true o e more = let is : 0 ≡ i = cc in subst (λ n. n < length hs + 1) is (omega arith)
within_first hs i false None e more = absurd (cc)
within_first hs i false (Some j) e more = let is : suc j ≡ i = cc in let below = more j refl in subst (λ n. n < length hs + 1) is (omega (arith, below))

pub within : (name : List ℕ) (hs : List GlobalTerm) (i : ℕ) → place_of_global name hs ≡ Some i → i < length hs
within name [] i e = absurd (cc)
within name (h ∷ hs) i e = let all = within_first hs i (bytes_eq h.0 name) (place_of_global name hs) e (λ j f. within name hs j f) in omega (arith, all)

same_first : (g h : GlobalTerm) (hs : List GlobalTerm) (q : List ℕ) (i : ℕ) (t : Bool) (o : Option ℕ) → bytes_eq h.0 g.0 ≡ t → (if t then Some 0 else option_map suc o) ≡ Some i
    → ((j : ℕ) → o ≡ Some j → place_of_global q (with_initial g hs) ≡ place_of_global q hs) → place_of_global q (if t then g ∷ hs else h ∷ with_initial g hs) ≡ place_of_global q (h ∷ hs)
same_first g h hs q i true o is e more = ap (λ name. if bytes_eq name q then Some 0 else option_map suc (place_of_global q hs)) (sym ((bytes_decides h.0 g.0).0 is))
same_first g h hs q i false None is e more = absurd (cc)
same_first g h hs q i false (Some j) is e more = ap (λ it. if bytes_eq h.0 q then Some 0 else option_map suc it) (more j refl)

-- it keeps the places of all
same_places : (g : GlobalTerm) (hs : List GlobalTerm) (q : List ℕ) (i : ℕ) → place_of_global g.0 hs ≡ Some i → place_of_global q (with_initial g hs) ≡ place_of_global q hs
same_places g [] q i e = absurd (cc)
same_places g (h ∷ hs) q i e = same_first g h hs q i (bytes_eq h.0 g.0) (place_of_global g.0 hs) refl e (λ j f. same_places g hs q j f)

pub found_replaced : (places : BTreeMap (List ℕ) ℕ) (g : GlobalTerm) (hs : List GlobalTerm) (i : ℕ) → AreFound places hs → place_of_global g.0 hs ≡ Some i → AreFound places (set hs i g)
found_replaced places g hs i found e = λ q. found q ∙ (sym (same_places g hs q i e) ∙ ap (place_of_global q) (replaced g hs i e))

-- a global that isn't there
pushed_first : (g h : GlobalTerm) (hs : List GlobalTerm) (t : Bool) (o : Option ℕ) → (if t then Some 0 else option_map suc o) ≡ None
    → (o ≡ None → with_initial g hs ≡ hs ++ g ∷ []) → (if t then g ∷ hs else h ∷ with_initial g hs) ≡ h ∷ (hs ++ g ∷ [])
pushed_first g h hs true o e more = absurd (cc)
pushed_first g h hs false None e more = ap (λ it. h ∷ it) (more refl)
pushed_first g h hs false (Some j) e more = absurd (cc)

pub pushed : (g : GlobalTerm) (hs : List GlobalTerm) → place_of_global g.0 hs ≡ None → with_initial g hs ≡ hs ++ g ∷ []
pushed g [] e = refl
pushed g (h ∷ hs) e = pushed_first g h hs (bytes_eq h.0 g.0) (place_of_global g.0 hs) e (λ f. pushed g hs f)

here_first : (hs : List GlobalTerm) (t : Bool) (o p : Option ℕ) → (if t then Some 0 else option_map suc o) ≡ None → (o ≡ None → p ≡ Some (length hs))
    → (if t then Some 0 else option_map suc p) ≡ Some (suc (length hs))
here_first hs true o p e more = absurd (cc)
here_first hs false None p e more = ap (option_map suc) (more refl)
here_first hs false (Some j) p e more = absurd (cc)

here : (g : GlobalTerm) (hs : List GlobalTerm) → place_of_global g.0 hs ≡ None → place_of_global g.0 (hs ++ g ∷ []) ≡ Some (length hs)
here g [] e = ap (λ (t : Bool). if t then Some 0 else None) ((bytes_decides g.0 g.0).1 refl)
here g (h ∷ hs) e = here_first hs (bytes_eq h.0 g.0) (place_of_global g.0 hs) (place_of_global g.0 (hs ++ g ∷ [])) e (λ f. here g hs f)

others : (g : GlobalTerm) (hs : List GlobalTerm) (q : List ℕ) → bytes_eq g.0 q ≡ false → place_of_global q (hs ++ g ∷ []) ≡ place_of_global q hs
others g [] q e = ap (λ (t : Bool). if t then Some 0 else None) e
others g (h ∷ hs) q e = ap (λ it. if bytes_eq h.0 q then Some 0 else option_map suc it) (others g hs q e)

found_by : (old new : BTreeMap (List ℕ) ℕ) (g : GlobalTerm) (hs : List GlobalTerm) (q : List ℕ) (t : Bool) → bytes_eq g.0 q ≡ t → AreFound old hs → place_of_global g.0 hs ≡ None
    → tree.Updates (slice_cmp nat_cmp) old new g.0 (Some (length hs)) → tree.get (slice_cmp nat_cmp) new q ≡ place_of_global q (hs ++ g ∷ [])
found_by old new g hs q true is found none u =
    subst (λ name. tree.get (slice_cmp nat_cmp) new name ≡ place_of_global name (hs ++ g ∷ [])) ((bytes_decides g.0 q).0 is) (u.1 ∙ sym (here g hs none))
found_by old new g hs q false is found none u = u.2 q (sym (texts_ties g.0 q) ∙ is) ∙ (found q ∙ sym (others g hs q is))

pub found_pushed : (old new : BTreeMap (List ℕ) ℕ) (g : GlobalTerm) (name : List ℕ) (hs : List GlobalTerm) → name ≡ g.0 → AreFound old hs → place_of_global g.0 hs ≡ None
    → tree.Updates (slice_cmp nat_cmp) old new name (Some (length hs)) → AreFound new (hs ++ g ∷ [])
found_pushed old new g name hs same found none u =
    λ q. found_by old new g hs q (bytes_eq g.0 q) refl found none (subst (λ n. tree.Updates (slice_cmp nat_cmp) old new n (Some (length hs))) same u)
