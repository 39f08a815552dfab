-- The nodes of elements, made one element after another.
use Rattle.std.proofs.Common.{◌≡◌, ℕ, zero, suc, ◌+◌, Bool, true, false, List, [], ◌∷◌, ◌++◌, Option, Some, None, Global, Vec, length, map, set, refl, sym, ◌∙◌, ap, ap₂, subst, arith, cond, get_or}
use Rattle.std.proofs.lemmas.List.{append-nil, append_assoc, length-append, map-append}
use Rattle.cb_constraints.specs.PatternValues.{PatternValue}
use Rattle.cb_exprs.specs.Terms.{Term, term_of}
use Rattle.cb_exprs.specs.declared.expr.Expr.{Expr}
use Rattle.cb_flat.proofs.Named.{long_flat_all}
use Rattle.cb_nodes.specs.Flat.{FlatNode, alone, count_inside, flat_all, group_node, grouping, joining, last_list, lone_pattern, node_count, nodes_inside, testing, tests_first}
use Rattle.cb_branch.specs.Nodes.{flat_node, flat_nodes}
use Rattle.cb_branch.specs.Internal.Plans.{IsFurther, last_tested, last_with, node_with, nodes_with}
use Rattle.cb_branch.specs.declared.node.Node.{Node}
use Rattle.cb_branch.specs.declared.planning.End.{End}
use Rattle.cb_rules.specs.Elements.{Element, pattern, test, group, Elements, no_elements, element, element_of, element_step, elements}
use Rattle.cb_rules.specs.declared.ce.Ce.TheFolds.{fold-roll-Ce}
use Rattle.cb_rules.specs.declared.ce.Ce.TheOpen as program
use Rattle.cb_rules.specs.declared.ce.Ce.TheVariants as is
use Rattle.cb_rules.specs.declared.ce.Ce.TheViews as views
use Rattle.cb_rules.specs.declared.ce.Ce.{Ce}

-- tests that belong to a node
none_more : (n : FlatNode) → node_with [] n ≡ n
none_more (joining from x p ts) = ap (joining from x p) (append-nil ts)
none_more (testing from t) = refl
none_more (grouping from inner positive width) = refl
none_more (alone from p positive) = refl

more_twice : (us ts : List Term) (n : FlatNode) → node_with ts (node_with us n) ≡ node_with (us ++ ts) n
more_twice us ts (joining from x p ss) = ap (joining from x p) (append_assoc ss us ts)
more_twice us ts (testing from t) = refl
more_twice us ts (grouping from inner positive width) = refl
more_twice us ts (alone from p positive) = refl

-- and to the last one
none_last : (ns : List FlatNode) → last_tested [] ns ≡ ns
none_last [] = refl
none_last (n ∷ []) = ap (λ (it : FlatNode). it ∷ []) (none_more n)
none_last (n ∷ m ∷ ns) = ap (λ (it : List FlatNode). n ∷ it) (none_last (m ∷ ns))

last_twice : (us ts : List Term) (ns : List FlatNode) → last_tested ts (last_tested us ns) ≡ last_tested (us ++ ts) ns
last_twice us ts [] = refl
last_twice us ts (n ∷ []) = ap (λ (it : FlatNode). it ∷ []) (more_twice us ts n)
last_twice us ts (n ∷ m ∷ []) = ap (λ (it : FlatNode). n ∷ it ∷ []) (more_twice us ts m)
last_twice us ts (n ∷ m ∷ o ∷ ns) = ap (λ (it : List FlatNode). n ∷ it) (last_twice us ts (m ∷ o ∷ ns))

last_at_end : (ts : List Term) (ns : List FlatNode) (n : FlatNode) → last_tested ts (ns ++ n ∷ []) ≡ ns ++ node_with ts n ∷ []
last_at_end ts [] n = refl
last_at_end ts (m ∷ []) n = refl
last_at_end ts (m ∷ o ∷ ns) n = ap (λ (it : List FlatNode). m ∷ it) (last_at_end ts (o ∷ ns) n)

long_last : (ts : List Term) (ns : List FlatNode) → length (last_tested ts ns) ≡ length ns
long_last ts [] = refl
long_last ts (n ∷ []) = refl
long_last ts (n ∷ m ∷ ns) = ap suc (long_last ts (m ∷ ns))

-- in the list of nodes: a node behind the others, and another last one
pub nodes_pushed : {T : Type 0} (old new : List (Node T)) (node : Node T) (n : FlatNode) → new ≡ old ++ node ∷ [] → flat_node node ≡ n → flat_nodes new ≡ flat_nodes old ++ n ∷ []
nodes_pushed old new node n is e = ap flat_nodes is ∙ (map-append flat_node old (node ∷ []) ∙ ap (λ (it : FlatNode). flat_nodes old ++ it ∷ []) e)

pub last_set : {T : Type 0} (ts : List Term) (nodes : List (Node T)) (n n' : Node T) (k : ℕ) → suc k ≡ length nodes → n ≡ get_or nodes k n → flat_node n' ≡ node_with ts (flat_node n)
    → flat_nodes (set nodes k n') ≡ last_tested ts (flat_nodes nodes)
last_set ts [] n n' k l at is = absurd (omega (arith, l))
last_set ts (m ∷ []) n n' zero l at is = ap (λ (it : FlatNode). it ∷ []) (is ∙ ap (λ it. node_with ts (flat_node it)) at)
last_set ts (m ∷ []) n n' (suc k) l at is = absurd (omega (arith, l))
last_set ts (m ∷ o ∷ nodes) n n' zero l at is = absurd (omega (arith, l))
last_set ts (m ∷ o ∷ nodes) n n' (suc k) l at is = ap (λ (it : List FlatNode). flat_node m ∷ it) (last_set ts (o ∷ nodes) n n' k (omega (arith, l)) at is)

-- where no test follows, the nodes stay
stay : (b : Bool) (ns : List FlatNode) → cond b (last_tested [] ns) ns ≡ ns
stay true ns = none_last ns
stay false ns = refl

-- and where nothing follows, they are all
pub nothing_follows : (ns : List FlatNode) (end : End) → nodes_with ns end no_elements ≡ ns
nothing_follows ns end = append-nil (cond end.is_pattern (last_tested [] ns) ns) ∙ stay end.is_pattern ns

placed : (b : Bool) (es : Elements) (from from' k k' n n' : ℕ) → from ≡ from' → k ≡ k' → n ≡ n' → flat_all b es from k n ≡ flat_all b es from' k' n'
placed b es from from' k k' n n' e f g = ap (λ it. flat_all b es it k n) e ∙ (ap (λ it. flat_all b es from' it n) f ∙ ap (λ it. flat_all b es from' k' it) g)

placed_last : (b : Bool) (es : Elements) (from from' k k' : ℕ) → from ≡ from' → k ≡ k' → last_list b es from k ≡ last_list b es from' k'
placed_last b es from from' k k' e f = ap (λ it. last_list b es it k) e ∙ ap (λ it. last_list b es from' it) f

-- a pattern further
pub pattern_further : (ns ns' : List FlatNode) (end : End) (list : ℕ) (x : Option (List ℕ)) (p : PatternValue) → ns' ≡ ns ++ joining end.list x p [] ∷ [] → list ≡ length ns'
    → IsFurther ns ns' end (record { list = list; width = end.width + 1; is_pattern = true }) (pattern x p)
pattern_further ns ns' end list x p is l =
    let k : ℕ = length ns + 1 in
    let long : length ns' ≡ length ns + 1 = ap length is ∙ length-append ns (joining end.list x p [] ∷ []) in
    let at : list ≡ k = omega (arith, l, long) in
    let next_at : length ns' + 1 ≡ suc k = omega (arith, long) in
    let wider : end.width + 1 ≡ suc end.width = omega (arith) in
    record {
      nodes = λ es.
          let ts = tests_first es in
          let n = joining end.list x p ts in
          let rest = flat_all true es k (suc k) (suc end.width) in
          ap₂ (λ (a b : List FlatNode). a ++ b) (ap (last_tested ts) is ∙ last_at_end ts ns (joining end.list x p [])) (placed true es list k (length ns' + 1) (suc k) (end.width + 1) (suc end.width) at next_at wider)
          ∙ (append_assoc ns (n ∷ []) rest ∙ ap (λ it. it ++ n ∷ rest) (sym (stay end.is_pattern ns)));
      last = λ es. placed_last true es list k (length ns' + 1) (suc k) at next_at;
    }

-- a test further, directly behind a pattern
folded : (ns : List FlatNode) (list width : ℕ) (t : Term) → IsFurther ns (last_tested (t ∷ []) ns) (record { list = list; width = width; is_pattern = true }) (record { list = list; width = width; is_pattern = true }) (test t)
folded ns list width t =
    let at : length (last_tested (t ∷ []) ns) + 1 ≡ length ns + 1 = ap (λ it. it + 1) (long_last (t ∷ []) ns) in
    record {
      nodes = λ es. ap₂ (λ (a b : List FlatNode). a ++ b) (last_twice (t ∷ []) (tests_first es) ns) (ap (λ it. flat_all true es list it width) at);
      last = λ es. ap (λ it. last_list true es list it) at;
    }

pub folded_further : (ns ns' : List FlatNode) (end : End) (t : Term) → ns' ≡ last_tested (t ∷ []) ns → end.is_pattern ≡ true → IsFurther ns ns' end end (test t)
folded_further ns ns' end t is behind =
    subst (λ it. IsFurther ns it end end (test t)) (sym is)
    (subst (λ (it : Bool). IsFurther ns (last_tested (t ∷ []) ns) (record { list = end.list; width = end.width; is_pattern = it }) (record { list = end.list; width = end.width; is_pattern = it }) (test t)) (sym behind)
    (folded ns end.list end.width t))

-- a test further that is a node of its own
own : (ns ns' : List FlatNode) (list width list' : ℕ) (t : Term) → ns' ≡ ns ++ testing list t ∷ [] → list' ≡ length ns'
    → IsFurther ns ns' (record { list = list; width = width; is_pattern = false }) (record { list = list'; width = width; is_pattern = false }) (test t)
own ns ns' list width list' t is l =
    let k : ℕ = length ns + 1 in
    let long : length ns' ≡ length ns + 1 = ap length is ∙ length-append ns (testing list t ∷ []) in
    let at : list' ≡ k = omega (arith, l, long) in
    let next_at : length ns' + 1 ≡ suc k = omega (arith, long) in
    record {
      nodes = λ es. ap₂ (λ (a b : List FlatNode). a ++ b) is (placed false es list' k (length ns' + 1) (suc k) width width at next_at refl) ∙ append_assoc ns (testing list t ∷ []) (flat_all false es k (suc k) width);
      last = λ es. placed_last false es list' k (length ns' + 1) (suc k) at next_at;
    }

pub test_further : (ns ns' : List FlatNode) (end : End) (list : ℕ) (t : Term) → ns' ≡ ns ++ testing end.list t ∷ [] → list ≡ length ns' → end.is_pattern ≡ false
    → IsFurther ns ns' end (record { list = list; width = end.width; is_pattern = false }) (test t)
test_further ns ns' end list t is l behind =
    subst (λ (it : Bool). IsFurther ns ns' (record { list = end.list; width = end.width; is_pattern = it }) (record { list = list; width = end.width; is_pattern = false }) (test t)) (sym behind)
    (own ns ns' end.list end.width list t is l)

-- the nodes of a group and of what follows, by whether it is of a lone pattern
abbrev group_all : Option PatternValue → (positive : Bool) (inner es : Elements) (from k n : ℕ) → List FlatNode
group_all o positive inner es from k n =
    let j = k + count_inside o (node_count false inner) in
    nodes_inside o (flat_all false inner from k n) ++ group_node o from (last_list false inner from k) positive n ∷ flat_all false es j (suc j) n

abbrev group_last : Option PatternValue → (inner es : Elements) (k : ℕ) → ℕ
group_last o inner es k = let j = k + count_inside o (node_count false inner) in last_list false es j (suc j)

group_all_is : (b : Bool) (o : Option PatternValue) (positive : Bool) (inner es : Elements) (from k n : ℕ) → lone_pattern inner ≡ o
    → group_all o positive inner es from k n ≡ flat_all b (element (group positive inner) es) from k n
group_all_is b o positive inner es from k n e = ap (λ it. group_all it positive inner es from k n) (sym e)

group_last_is : (b : Bool) (o : Option PatternValue) (positive : Bool) (inner es : Elements) (from k : ℕ) → lone_pattern inner ≡ o
    → group_last o inner es k ≡ last_list b (element (group positive inner) es) from k
group_last_is b o positive inner es from k e = ap (λ it. group_last it inner es k) (sym e)

-- a group further
pub group_further : (ns mid ns' : List FlatNode) (end : End) (list last : ℕ) (positive : Bool) (inner : Elements) → lone_pattern inner ≡ None
    → mid ≡ nodes_with ns (record { list = end.list; width = end.width; is_pattern = false }) inner
    → last ≡ last_with ns (record { list = end.list; width = end.width; is_pattern = false }) inner
    → ns' ≡ mid ++ grouping end.list last positive end.width ∷ [] → list ≡ length ns'
    → IsFurther ns ns' end (record { list = list; width = end.width; is_pattern = false }) (group positive inner)
group_further ns mid ns' end list last positive inner none within ends is l =
    let k : ℕ = length ns + 1 in
    let inside = flat_all false inner end.list k end.width in
    let n : FlatNode = grouping end.list (last_list false inner end.list k) positive end.width in
    let j : ℕ = k + node_count false inner in
    let long : length ns' ≡ length mid + 1 = ap length is ∙ length-append mid (grouping end.list last positive end.width ∷ []) in
    let long_mid : length mid ≡ length ns + length inside = ap length within ∙ length-append ns inside in
    let count : length inside ≡ node_count false inner = long_flat_all false inner end.list k end.width in
    let at : list ≡ j = omega (arith, l, long, long_mid, count) in
    let next_at : length ns' + 1 ≡ suc j = omega (arith, long, long_mid, count) in
    record {
      nodes = λ es.
          let rest = flat_all false es j (suc j) end.width in
          ap₂ (λ (a b : List FlatNode). a ++ b) (is ∙ ap₂ (λ (a : List FlatNode) (b : ℕ). a ++ grouping end.list b positive end.width ∷ []) within ends)
          (placed false es list j (length ns' + 1) (suc j) end.width end.width at next_at refl)
          ∙ (append_assoc (ns ++ inside) (n ∷ []) rest
          ∙ (append_assoc ns inside (n ∷ rest)
          ∙ ap₂ (λ (a b : List FlatNode). a ++ b) (sym (stay end.is_pattern ns)) (group_all_is end.is_pattern None positive inner es end.list k end.width none)));
      last = λ es. placed_last false es list j (length ns' + 1) (suc j) at next_at ∙ group_last_is end.is_pattern None positive inner es end.list k none;
    }

-- one of a pattern that stands alone
pub alone_further : (ns ns' : List FlatNode) (end : End) (list : ℕ) (positive : Bool) (inner : Elements) (p : PatternValue) → lone_pattern inner ≡ Some p
    → ns' ≡ ns ++ alone end.list p positive ∷ [] → list ≡ length ns'
    → IsFurther ns ns' end (record { list = list; width = end.width; is_pattern = false }) (group positive inner)
alone_further ns ns' end list positive inner p lone is l =
    let k : ℕ = length ns + 1 in
    let j : ℕ = k + 0 in
    let n : FlatNode = alone end.list p positive in
    let long : length ns' ≡ length ns + 1 = ap length is ∙ length-append ns (n ∷ []) in
    let at : list ≡ j = omega (arith, l, long) in
    let next_at : length ns' + 1 ≡ suc j = omega (arith, long) in
    record {
      nodes = λ es.
          let rest = flat_all false es j (suc j) end.width in
          ap₂ (λ (a b : List FlatNode). a ++ b) is (placed false es list j (length ns' + 1) (suc j) end.width end.width at next_at refl)
          ∙ (append_assoc ns (n ∷ []) rest
          ∙ ap₂ (λ (a b : List FlatNode). a ++ b) (sym (stay end.is_pattern ns)) (group_all_is end.is_pattern (Some p) positive inner es end.list k end.width lone));
      last = λ es. placed_last false es list j (length ns' + 1) (suc j) at next_at ∙ group_last_is end.is_pattern (Some p) positive inner es end.list k lone;
    }

-- what the elements of the program are
module _ (T : Type 0) where
  pub of_pattern : (x : Option (List ℕ)) (p : PatternValue) → element_of {T = T} (is.Pattern x p) ≡ pattern x p
  of_pattern x p = ap element_of (sym (is.rolls-Pattern x p)) ∙ fold-roll-Ce T Element element_step (program.Pattern x p)

  pub of_test : (e : Expr) → element_of {T = T} (is.Test e) ≡ test (term_of e)
  of_test e = ap element_of (sym (is.rolls-Test e)) ∙ fold-roll-Ce T Element element_step (program.Test e)

  pub of_group : (positive : Bool) (inner : Vec (Ce T) Global) → element_of (views.Group positive inner) ≡ group positive (elements (map element_of inner.items))
  of_group positive inner = ap element_of (sym (is.rolls-Group positive inner)) ∙ fold-roll-Ce T Element element_step (program.Group positive inner)

  -- a group of one pattern without an address
  one_element : (xs : List (Ce T)) (x : Ce T) → length xs ≡ 1 → x ≡ get_or xs 0 x → xs ≡ x ∷ []
  one_element [] x l at = absurd (omega (arith, l))
  one_element (y ∷ []) x l at = ap (λ (it : Ce T). it ∷ []) (sym at)
  one_element (y ∷ z ∷ ys) x l at = absurd (omega (arith, l))

  pub only_one : (xs : List (Ce T)) (x : Ce T) (a : Option (List ℕ)) (p : PatternValue) → length xs ≡ 1 → x ≡ get_or xs 0 x → x ≡ is.Pattern a p → a ≡ None
      → elements (map element_of xs) ≡ element (pattern None p) no_elements
  only_one xs x a p l at same none =
      ap (λ (it : List (Ce T)). elements (map element_of it)) (one_element xs x l at)
      ∙ ap (λ (e : Element). element e no_elements) (ap element_of same ∙ (of_pattern a p ∙ ap (λ (b : Option (List ℕ)). pattern b p) none))
