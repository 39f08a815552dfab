-- The levels outside, as forms are added and lists are opened and closed.
use Rattle.std.proofs.Common.{Vec, Global, ◌≡◌, ◌<◌, List, [], ◌∷◌, ◌++◌, map, refl, sym, ap, ◌∙◌, append_assoc, length, arith}
use Rattle.std.proofs.lemmas.List.{append-nil, map_push, length_push}
use Rattle.cb_forms.specs.Lists.{put_first, listed, first_tree}
use Rattle.cb_forms.specs.Internal.ListStacks.{closed_up}
use Rattle.cb_forms.specs.Trees.{Tree, branch, trees_of, tree_step, tree_of, trees_in}
use Rattle.cb_forms.specs.declared.form.Form.{Form}
use Rattle.cb_forms.specs.declared.form.Form.TheFolds.{fold-roll-Form}
use Rattle.cb_forms.specs.declared.form.Form.TheOpen as form
use Rattle.cb_forms.specs.declared.form.Form.TheVariants.{rolls-List}
use Rattle.cb_forms.specs.declared.form.Form.TheViews as TheViews

pub tree_of-List : (v : Vec Form Global) → tree_of (TheViews.List v) ≡ branch (trees_of (trees_in v.items))
tree_of-List v = ap tree_of (sym (rolls-List v)) ∙ fold-roll-Form Tree tree_step (form.List v)

pub closed_up-append : (fs gs levels : List (List Tree)) → closed_up (fs ++ gs) levels ≡ closed_up fs (closed_up gs levels)
closed_up-append [] gs levels = refl
closed_up-append (ts ∷ fs) gs levels = ap (listed ts) (closed_up-append fs gs levels)

-- a tree that stands first after those of a list is one of its trees
pub listed-put_first : (ts : List Tree) (t : Tree) (levels : List (List Tree)) → listed (ts ++ t ∷ []) levels ≡ listed ts (put_first t levels)
listed-put_first ts t [] = refl
listed-put_first ts t (us ∷ levels) = ap (λ all. put_first (branch (trees_of all)) levels) (append_assoc ts (t ∷ []) us)

pub first_tree-put_first : (t : Tree) (levels : List (List Tree)) → first_tree (put_first t levels) ≡ t
first_tree-put_first t [] = refl
first_tree-put_first t (us ∷ levels) = refl

-- a form more in the innermost list
pub closed_up-add : (fs : List (List Tree)) (old new : List Form) (f : Form) (levels : List (List Tree)) → new ≡ old ++ f ∷ [] → closed_up (fs ++ trees_in new ∷ []) levels ≡ closed_up (fs ++ trees_in old ∷ []) (put_first (tree_of f) levels)
closed_up-add fs old new f levels e =
    closed_up-append fs (trees_in new ∷ []) levels ∙ (
    ap (closed_up fs) (ap (λ it. listed (trees_in it) levels) e ∙ (ap (λ ts. listed ts levels) (map_push tree_of old f) ∙ listed-put_first (trees_in old) (tree_of f) levels))
    ∙ sym (closed_up-append fs (trees_in old ∷ []) (put_first (tree_of f) levels)))

-- a list that is opened
pub closed_up-open : (fs : List (List Tree)) (levels : List (List Tree)) → closed_up (fs ++ [] ∷ []) levels ≡ closed_up fs (listed [] levels)
closed_up-open fs levels = closed_up-append fs ([] ∷ []) levels

listed-closed : (v : Vec Form Global) (levels : List (List Tree)) → listed (trees_in v.items) ([] ∷ levels) ≡ put_first (tree_of (TheViews.List v)) levels
listed-closed v levels = ap (λ ts. put_first (branch (trees_of ts)) levels) (append-nil (trees_in v.items)) ∙ ap (λ t. put_first t levels) (sym (tree_of-List v))

abbrev pub frames_in : List (Vec Form Global) → List (List Tree)
frames_in vs = map (λ (v : Vec Form Global). trees_in v.items) vs

-- the innermost list is closed in the one around it
pub closed_up-close : (outer outer' : List (Vec Form Global)) (around inner : Vec Form Global) (new : List Form) (levels : List (List Tree)) → outer ≡ outer' ++ around ∷ [] → new ≡ around.items ++ TheViews.List inner ∷ []
    → closed_up (frames_in outer' ++ trees_in new ∷ []) levels ≡ closed_up (frames_in outer ++ trees_in inner.items ∷ []) ([] ∷ levels)
closed_up-close outer outer' around inner new levels is is_new =
    closed_up-add (frames_in outer') around.items new (TheViews.List inner) levels is_new ∙ (
    ap (λ fs. closed_up fs (put_first (tree_of (TheViews.List inner)) levels)) (sym (map_push (λ (v : Vec Form Global). trees_in v.items) outer' around)) ∙ (
    ap (closed_up (frames_in (outer' ++ around ∷ []))) (sym (listed-closed inner levels)) ∙ (
    sym (closed_up-append (frames_in (outer' ++ around ∷ [])) (trees_in inner.items ∷ []) ([] ∷ levels)) ∙ ap (λ vs. closed_up (frames_in vs ++ trees_in inner.items ∷ []) ([] ∷ levels)) (sym is))))

-- a list is open
pub frames-some : (fs : List (List Tree)) (ts : List Tree) → 0 < length (fs ++ ts ∷ [])
frames-some fs ts = let more = length_push fs ts in omega arith
