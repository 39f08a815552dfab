-- Nodes by their places, where one gets other numbers.
use Rattle.std.proofs.Common.{◌≡◌, ◌≢◌, ◌≤◌, ◌<◌, ◌+◌, ◌∙◌, ℕ, zero, suc, List, [], ◌∷◌, Some, add-one, ap, arith, get_or, length, refl, set, slice_get, subst, sym, take, inl, inr}
use Rattle.std.proofs.lemmas.Bool.{cases_eq}
use Rattle.cb_branch.proofs.LookupKind.{lookup_of_any, lookup_of_join}
use Rattle.cb_branch.specs.Entries.{AreRenumbered, IsRenumbered}
use Rattle.cb_flat.specs.Taking.{pattern_count, patterns_of}
use Rattle.cb_join_node.proofs.Staying.{ready_with_join}
use Rattle.cb_join_node.specs.declared.node.JoinNode.{JoinNode}
use Rattle.cb_lookup_node.proofs.Staying.{ready_with_join as lookup_with_join}
use Rattle.cb_lookup_node.specs.declared.node.LookupNode.{LookupNode}
use Rattle.cb_branch.specs.Nodes.{flat_node, flat_nodes, no_tokens}
use Rattle.cb_branch.specs.declared.node.Node.{Node}
use Rattle.cb_branch.specs.declared.node.Node.TheVariants as kept

-- what is at a place of a list
pub got : {A : Type 0} (xs : List A) (i : ℕ) (d : A) → i < length xs → slice_get xs i ≡ Some (get_or xs i d)
got [] i d l = absurd (omega (arith, l))
got (x ∷ xs) zero d l = refl
got (x ∷ xs) (suc i) d l = got xs i d (omega (arith, l))

pub got_is : {A : Type 0} (xs : List A) (i : ℕ) (x : A) → i < length xs → x ≡ get_or xs i x → slice_get xs i ≡ Some x
got_is xs i x l is = got xs i x l ∙ ap Some (sym is)

pub within_got : {A : Type 0} (xs : List A) (i : ℕ) (x : A) → slice_get xs i ≡ Some x → i < length xs
within_got [] i x e = cc
within_got (y ∷ xs) zero x e = omega (arith)
within_got (y ∷ xs) (suc i) x e = let l = within_got xs i x e in omega (arith, l)

got_set : {A : Type 0} (xs : List A) (i : ℕ) (y z : A) → slice_get (set xs i y) i ≡ Some z → z ≡ y
got_set [] i y z e = cc
got_set (x ∷ xs) zero y z e = cc
got_set (x ∷ xs) (suc i) y z e = got_set xs i y z e

got_other : {A : Type 0} (xs : List A) (i k : ℕ) (y : A) → k ≢ i → slice_get (set xs i y) k ≡ slice_get xs k
got_other [] i k y ne = refl
got_other (x ∷ xs) zero zero y ne = absurd (ne refl)
got_other (x ∷ xs) zero (suc k) y ne = refl
got_other (x ∷ xs) (suc i) zero y ne = refl
got_other (x ∷ xs) (suc i) (suc k) y ne = got_other xs i k y (omega (arith, ne))

pub left_set : {A : Type 0} (xs zs : List A) (i k : ℕ) (y : A) → ((j : ℕ) → i ≤ j → slice_get xs j ≡ slice_get zs j) → i + 1 ≤ k → slice_get (set xs i y) k ≡ slice_get zs k
left_set xs zs i k y left l = let ne : k ≢ i = omega (arith, l) in got_other xs i k y ne ∙ left k (omega (arith, l))

-- all but the one that is set, and that
pub set_either : {A : Type 0} (P : ℕ → A → Type 0) (xs : List A) (i : ℕ) (y : A) → P i y → (k : ℕ) (z : A) → (k ≢ i → slice_get xs k ≡ Some z → P k z) → slice_get (set xs i y) k ≡ Some z → P k z
set_either P xs i y here k z others e = elim (cases_eq k i) as (λ _. P k z) [
  | inl same ↦ subst (λ j. P j z) (sym same) (subst (P i) (sym (got_set xs i y z (subst (λ j. slice_get (set xs i y) j ≡ Some z) same e))) here)
  | inr ne ↦ others ne (sym (got_other xs i k y ne) ∙ e)
]

pub whole : {A : Type 0} (xs : List A) (i : ℕ) → length xs ≤ i → take i xs ≡ xs
whole [] zero l = refl
whole [] (suc i) l = refl
whole (x ∷ xs) zero l = absurd (omega (arith, l))
whole (x ∷ xs) (suc i) l = ap (λ ys. x ∷ ys) (whole xs i (omega (arith, l)))

module _ {T : Type 0} where
  -- the patterns of one node more
  count_next : (nodes : List (Node T)) (i : ℕ) (node : Node T) → slice_get nodes i ≡ Some node
      → pattern_count (flat_nodes (take (suc i) nodes)) ≡ pattern_count (flat_nodes (take i nodes)) + patterns_of (flat_node node)
  count_next [] i node e = cc
  count_next (n ∷ nodes) zero node e =
      let same : n ≡ node = cc in
      let is : patterns_of (flat_node n) ≡ patterns_of (flat_node node) = ap (λ it. patterns_of (flat_node it)) same in
      omega (arith, is)
  count_next (n ∷ nodes) (suc i) node e = let more = count_next nodes i node e in omega (arith, more)

  pub count_more : (nodes : List (Node T)) (i : ℕ) (node : Node T) → slice_get nodes i ≡ Some node
      → pattern_count (flat_nodes (take (i + 1) nodes)) ≡ pattern_count (flat_nodes (take i nodes)) + patterns_of (flat_node node)
  count_more nodes i node e = ap (λ j. pattern_count (flat_nodes (take j nodes))) (add-one i) ∙ count_next nodes i node e

  -- a node that gets other numbers
  pub renumbered_itself : (node : Node T) → IsRenumbered node node
  renumbered_itself node = record { flat = refl; prepared = λ scopes p. p; ready = λ r. r }

  renumbered_then : (n m o : Node T) → IsRenumbered n m → IsRenumbered m o → IsRenumbered n o
  renumbered_then n m o a b = record { flat = b.flat ∙ a.flat; prepared = λ scopes p. b.prepared scopes (a.prepared scopes p); ready = λ r. b.ready (a.ready r) }

  pub join_renumbered : (alpha alpha' : ℕ) (node node' : JoinNode T) → node' ≡ record node { join = node'.join } → IsRenumbered (kept.Join alpha node) (kept.Join alpha' node')
  join_renumbered alpha alpha' node node' e =
      subst (λ (it : JoinNode T). IsRenumbered (kept.Join alpha node) (kept.Join alpha' it)) (sym e) (record {
        flat = refl;
        prepared = λ scopes p. p;
        ready = λ r at facts. ready_with_join node node'.join at (λ number. ⊥) facts no_tokens (r at facts);
      })

  pub lookup_renumbered : (alpha alpha' : ℕ) (node node' : LookupNode T) → node' ≡ record node { join = node'.join } → IsRenumbered (kept.Lookup alpha node) (kept.Lookup alpha' node')
  lookup_renumbered alpha alpha' node node' e =
      subst (λ (it : LookupNode T). IsRenumbered (kept.Lookup alpha node) (kept.Lookup alpha' it)) (sym e) (record {
        flat = refl;
        prepared = λ scopes p. lookup_of_join (scopes node.from) node node'.join p;
        ready = λ r names at facts p. lookup_with_join node node'.join names at (λ number. ⊥) facts no_tokens (r names at facts (lookup_of_any names node node'.join p));
      })

  -- all nodes
  pub all_themselves : (nodes : List (Node T)) → AreRenumbered nodes nodes
  all_themselves nodes = record { flat = refl; each = λ k n e. (n, e, renumbered_itself n) }

  flat_set : (xs : List (Node T)) (i : ℕ) (x y : Node T) → slice_get xs i ≡ Some x → flat_node y ≡ flat_node x → flat_nodes (set xs i y) ≡ flat_nodes xs
  flat_set [] i x y e is = refl
  flat_set (n ∷ xs) zero x y e is = let same : n ≡ x = cc in ap (λ it. it ∷ flat_nodes xs) (is ∙ ap flat_node (sym same))
  flat_set (n ∷ xs) (suc i) x y e is = ap (λ it. flat_node n ∷ it) (flat_set xs i x y e is)

  pub one_renumbered : (olds xs : List (Node T)) (i : ℕ) (x y : Node T) → AreRenumbered olds xs → slice_get xs i ≡ Some x → IsRenumbered x y → AreRenumbered olds (set xs i y)
  one_renumbered olds xs i x y all at one = record {
    flat = flat_set xs i x y at one.flat ∙ all.flat;
    each = λ k z e. set_either (λ j (it : Node T). (n : Node T) × (slice_get olds j ≡ Some n) × IsRenumbered n it) xs i y
        (let o = all.each i x at in (o.0, o.1, renumbered_then o.0 x y o.2 one)) k z (λ ne h. all.each k z h) e;
  }
