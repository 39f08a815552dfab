use Rattle.std.proofs.Common.{◌≡◌, ◌∙◌, ◌∷◌, ◌++◌, [], ℕ, List, ap, nat_cmp, subst, true}
use Rattle.std.specs.BTreeSet.{contains}
use Rattle.std.specs.Cmp.Lexicographic.{slice_cmp}
use Rattle.cb_branch.proofs.BoundNames.{apart_before, removed}
use Rattle.cb_branch.proofs.bound.Bound.take_last.Goals as goal
use Rattle.cb_fit.specs.Plain.{are_apart, is_named}

pub invariant_of-self : goal.invariant_of-self
invariant_of-self c =
    let left = c.pop.new.self.items in
    let name = c.in-Some.name in
    let cut : c.self.inside.order.items ≡ left ++ name ∷ [] = c.in-Some.ensures.items in
    let once = apart_before left name (subst (λ (it : List (List ℕ)). are_apart it ≡ true) cut c.self.invariant.0) in (
      once.0,
      λ x. removed left x name (contains (slice_cmp nat_cmp) c.self.inside.names x) (contains (slice_cmp nat_cmp) c.remove.new.self x) once.1 (c.self.invariant.1 x ∙ ap (λ (it : List (List ℕ)). is_named x it) cut) (c.remove.ensures.updates.0 x),
    )
