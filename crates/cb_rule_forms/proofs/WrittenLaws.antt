-- Elements as they are written, one after another and by the word that a list begins with.
use Rattle.std.proofs.Common.{◌≡◌, ◌≢◌, ◌<◌, ◌≤◌, ◌+◌, ◌∙◌, ◌++◌, ℕ, Bool, List, [], ◌∷◌, Option, Some, None, false, true, Vec, Global, arith, drop, length, map, option_map, refl, sym, ap, take}
use Rattle.cb_expr_forms.specs.Internal.Sizes.{tree_size, trees_size}
use Rattle.cb_forms.specs.Members.{call_of, symbol_of}
use Rattle.cb_forms.specs.Trees.{Tree, atom, branch, Trees, no_trees, tree}
use Rattle.cb_forms.specs.declared.fault.Fault.{Fault}
use Rattle.cb_forms.specs.declared.fault.Fault.TheVariants.{MalformedForm}
use Rattle.cb_rule_forms.specs.Internal.{before, writtens, written_seen, written_step}
use Rattle.cb_rule_forms.specs.WrittenElements.{Written, wrong, all_of, one_of, written_group, Writtens, written, gathered, listed, negated, quantified, written_alone, written_in}
use Rattle.cb_rule_forms.specs.declared.written.Kind.TheVariants as kind
use Rattle.cb_rule_forms.specs.declared.written.Written as declared
use Rattle.cb_rule_forms.specs.declared.written.Written.TheFolds.{fold-roll-Written}
use Rattle.cb_rule_forms.specs.declared.written.Written.TheOpen as program
use Rattle.cb_rule_forms.specs.declared.written.Written.TheVariants as is
use Rattle.cb_rule_forms.specs.declared.written.Written.TheViews as views

-- one element more before the others
pub before_last : (xs : List Written) (x : Written) (ws : Writtens) → before (xs ++ x ∷ []) ws ≡ before xs (written x ws)
before_last [] x ws = refl
before_last (y ∷ xs) x ws = ap (written y) (before_last xs x ws)

none_listed : (inside : Bool) (ts : Trees) (members : Bool → Writtens) (o : Option (List ℕ)) → option_map {U = List ℕ × Trees} (λ name. (name, ts)) o ≡ None → listed inside o ts members ≡ wrong MalformedForm
none_listed inside ts members None h = refl
none_listed inside ts members (Some name) h = absurd (cc)

-- a form that is no list, or begins with no word
pub not_called : (inside : Bool) (t : Tree) → call_of t ≡ None → written_alone inside t ≡ wrong MalformedForm
not_called inside (atom k) h = refl
not_called inside (branch no_trees) h = refl
not_called inside (branch (tree t ts)) h = none_listed inside ts (λ g. written_in g ts) (symbol_of t) h

-- a list that begins with a word
abbrev parts_of : Option (List ℕ × Trees) → List ℕ × Trees
parts_of None = ([], no_trees)
parts_of (Some p) = p

some_listed : (inside : Bool) (ts : Trees) (word : List ℕ) (us : Trees) (o : Option (List ℕ)) → option_map {U = List ℕ × Trees} (λ name. (name, ts)) o ≡ Some (word, us)
    → listed inside o ts (λ g. written_in g ts) ≡ listed inside (Some word) us (λ g. written_in g us)
some_listed inside ts word us None h = absurd (cc)
some_listed inside ts word us (Some name) h = ap (λ o. listed inside (Some (parts_of o).0) (parts_of o).1 (λ g. written_in g (parts_of o).1)) h

pub called_so : (inside : Bool) (t : Tree) (word : List ℕ) (us : Trees) → call_of t ≡ Some (word, us) → written_alone inside t ≡ listed inside (Some word) us (λ g. written_in g us)
called_so inside (atom k) word us h = absurd (cc)
called_so inside (branch no_trees) word us h = absurd (cc)
called_so inside (branch (tree t ts)) word us h = some_listed inside ts word us (symbol_of t) h

rest_is : (ts : Trees) (word : List ℕ) (us : Trees) (o : Option (List ℕ)) → option_map {U = List ℕ × Trees} (λ name. (name, ts)) o ≡ Some (word, us) → trees_size ts ≡ trees_size us
rest_is ts word us None h = absurd (cc)
rest_is ts word us (Some name) h = ap (λ o. trees_size (parts_of o).1) h

pub smaller : (t : Tree) (word : List ℕ) (us : Trees) → call_of t ≡ Some (word, us) → trees_size us + 1 < tree_size t
smaller (atom k) word us h = absurd (cc)
smaller (branch no_trees) word us h = absurd (cc)
smaller (branch (tree (atom k) ts)) word us h = let e = rest_is ts word us (symbol_of (atom k)) h in omega arith
smaller (branch (tree (branch vs) ts)) word us h = absurd (cc)

-- what the program's `and` and `or` are
pub seen_all : (ws : Vec declared.Written Global) → written_seen (views.All ws) ≡ all_of (writtens (map written_seen ws.items))
seen_all ws = ap written_seen (sym (is.rolls-All ws)) ∙ fold-roll-Written Written written_step (program.All ws)

pub seen_one : (ws : Vec declared.Written Global) → written_seen (views.One ws) ≡ one_of (writtens (map written_seen ws.items))
seen_one ws = ap written_seen (sym (is.rolls-One ws)) ∙ fold-roll-Written Written written_step (program.One ws)

pub seen_wrong : (f : Fault) → written_seen (is.Wrong f) ≡ wrong f
unfolding declared.roll-Written denote.Hole.Carrier.roll
seen_wrong f = fold-roll-Written Written written_step (program.Wrong f)

pub seen_group : (positive : Bool) (ws : Vec declared.Written Global) → written_seen (views.Group positive ws) ≡ written_group positive (writtens (map written_seen ws.items))
seen_group positive ws = ap written_seen (sym (is.rolls-Group positive ws)) ∙ fold-roll-Written Written written_step (program.Group positive ws)

-- one or more members
pub all_gathered : {X : Type 0} (see : X → Written) (xs : List X) → length xs ≢ 0 → gathered kind.And (writtens (map see xs)) ≡ all_of (writtens (map see xs))
all_gathered see [] h = absurd (h refl)
all_gathered see (x ∷ xs) h = refl

pub one_gathered : {X : Type 0} (see : X → Written) (xs : List X) → length xs ≢ 0 → gathered kind.Or (writtens (map see xs)) ≡ one_of (writtens (map see xs))
one_gathered see [] h = absurd (h refl)
one_gathered see (x ∷ xs) h = refl

pub group_gathered : {X : Type 0} (see : X → Written) (xs : List X) → length xs ≢ 0 → gathered kind.Exists (writtens (map see xs)) ≡ written_group true (writtens (map see xs))
group_gathered see [] h = absurd (h refl)
group_gathered see (x ∷ xs) h = refl

pub not_gathered : {X : Type 0} (see : X → Written) (xs : List X) → length xs ≢ 0 → gathered kind.Not (writtens (map see xs)) ≡ negated (writtens (map see xs))
not_gathered see [] h = absurd (h refl)
not_gathered see (x ∷ xs) h = refl

-- one member, and another number of them
pub negated_one : {X : Type 0} (see : X → Written) (xs : List X) → length xs ≡ 1 → negated (writtens (map see xs)) ≡ written_group false (writtens (map see xs))
negated_one see [] h = absurd (cc)
negated_one see (x ∷ []) h = refl
negated_one see (x ∷ y ∷ xs) h = absurd (omega arith)

pub negated_other : {X : Type 0} (see : X → Written) (xs : List X) → length xs ≢ 1 → negated (writtens (map see xs)) ≡ wrong MalformedForm
negated_other see [] h = refl
negated_other see (x ∷ []) h = absurd (h refl)
negated_other see (x ∷ y ∷ xs) h = refl

-- two or more members of `forall`, and fewer
pub forall_gathered : {X : Type 0} (see : X → Written) (xs : List X) → length xs ≢ 0 → gathered kind.Forall (writtens (map see xs)) ≡ quantified (writtens (map see xs))
forall_gathered see [] h = absurd (h refl)
forall_gathered see (x ∷ xs) h = refl

pub quantified_few : {X : Type 0} (see : X → Written) (xs : List X) → length xs < 2 → quantified (writtens (map see xs)) ≡ wrong MalformedForm
quantified_few see [] h = refl
quantified_few see (x ∷ []) h = refl
quantified_few see (x ∷ y ∷ xs) h = absurd (omega arith)

pub quantified_two : {X : Type 0} (see : X → Written) (xs : List X) → 2 ≤ length xs
    → quantified (writtens (map see xs)) ≡ written_group false (writtens (map see (take 1 xs) ++ written_group false (writtens (map see (drop 1 xs))) ∷ []))
quantified_two see [] h = absurd (omega arith)
quantified_two see (x ∷ []) h = absurd (omega arith)
quantified_two see (x ∷ y ∷ xs) h = refl
