-- A group by whether it is of one pattern that stands alone or is looked up: the nodes inside it, and its own.
use Rattle.std.proofs.Common.{◌≡◌, ◌||◌, ◌∷◌, ℕ, Bool, true, false, List, [], Option, Some, None, cond, is_some, length, map, refl, ap, subst, sym}
use Rattle.cb_constraints.specs.PatternValues.{PatternValue}
use Rattle.cb_fit.specs.Comparisons.{decision}
use Rattle.cb_fit.specs.StandsAlone.{stands_alone}
use Rattle.cb_nodes.specs.Flat.{FlatNode, count_inside, group_node, is_looked_up, lone_pattern, nodes_inside, node_width}
use Rattle.cb_matches.proofs.Lists.{by_test}
use Rattle.cb_rules.specs.Elements.{Element, pattern, test, group, Elements, elements, no_elements, element}

-- the elements of such a group
none_is_some : (p : PatternValue) → None ≡ Some p → ⊥
none_is_some p e = cc

pub lone_elements : (es : Elements) (p : PatternValue) → lone_pattern es ≡ Some p → es ≡ element (pattern None p) no_elements
lone_elements no_elements p e = absurd (none_is_some p e)
lone_elements (element (pattern (Some x) q) es) p e = absurd (none_is_some p e)
lone_elements (element (pattern None q) no_elements) p e =
    by_test (stands_alone q || is_looked_up (decision q.parts))
    (λ t. let same : Some q ≡ Some p = subst (λ b. cond b (Some q) None ≡ Some p) t e in let is : q ≡ p = cc in ap (λ it. element (pattern None it) no_elements) is)
    (λ t. absurd (none_is_some p (subst (λ b. cond b (Some q) None ≡ Some p) t e)))
lone_elements (element (pattern None q) (element f es)) p e = absurd (none_is_some p e)
lone_elements (element (test t) es) p e = absurd (none_is_some p e)
lone_elements (element (group positive inner) es) p e = absurd (none_is_some p e)

pub some_pattern : (o : Option PatternValue) → is_some o ≡ true → (p : PatternValue) × (o ≡ Some p)
some_pattern (Some p) e = (p, refl)
some_pattern None e = cc

pub no_pattern : (o : Option PatternValue) → is_some o ≡ false → o ≡ None
no_pattern (Some p) e = cc
no_pattern None e = refl

-- elements that are not one alone have no lone pattern
one_long : {X : Type 0} (of : X → Element) (xs : List X) → (length xs ≡ 1 → ⊥) → lone_pattern (elements (map of xs)) ≡ None
one_long of [] h = refl
one_long of (x ∷ []) h = absurd (h refl)
one_long of (x ∷ y ∷ xs) h = two (of x)
  where
    two : (e : Element) → lone_pattern (element e (element (of y) (elements (map of xs)))) ≡ None
    two (pattern (Some z) p) = refl
    two (pattern None p) = refl
    two (test t) = refl
    two (group positive inner) = refl

pub not_one : {X : Type 0} (of : X → Element) (xs : List X) → (length xs ≡ 1 → ⊥) → false ≡ is_some (lone_pattern (elements (map of xs)))
not_one of xs h = ap is_some (sym (one_long of xs h))

-- the nodes inside a group are as many as are counted, and its own has the width of the list before it
pub long_inside : (o : Option PatternValue) (ns : List FlatNode) (n : ℕ) → length ns ≡ n → length (nodes_inside o ns) ≡ count_inside o n
long_inside (Some p) ns n e = refl
long_inside None ns n e = e

pub group_width : (o : Option PatternValue) (from last : ℕ) (positive : Bool) (n : ℕ) (ws : ℕ → ℕ) → node_width (group_node o from last positive n) ws ≡ ws from
group_width (Some p) from last positive n ws = refl
group_width None from last positive n ws = refl
