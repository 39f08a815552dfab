use Rattle.std.proofs.Common.{◌≡◌, ◌∙◌, ◌∷◌, ◌++◌, [], ℕ, List, ap, false, is_err, nat_cmp, rules, subst, sym, true}
use Rattle.std.specs.BTreeSet.{contains}
use Rattle.std.specs.Cmp.Lexicographic.{slice_cmp}
use Rattle.cb_branch.proofs.BoundNames.{added, apart_with, on_ok}
use Rattle.cb_branch.proofs.bound.Bound.add.Goals as goal
use Rattle.cb_fit.specs.Plain.{are_apart, is_named}

pub invariant_of-self-else-is_err : goal.invariant_of-self-else-is_err
invariant_of-self-else-is_err c =
    let old = c.self.inside.order.items in
    let name = c.args.name in
    let no_err : is_err c.insert.result ≡ false = search rules in
    let updates = on_ok c.insert.result _ no_err c.insert.ensures.updates in
    let pushed : c.push.new.self.items ≡ old ++ name ∷ [] = search rules in
    let absent : is_named name old ≡ false = sym (c.self.invariant.1 name) ∙ (sym c.contains.ensures ∙ c.if-contains.false) in (
      subst (λ (it : List (List ℕ)). are_apart it ≡ true) (sym pushed) (apart_with old name c.self.invariant.0 absent),
      λ x. added old x name (contains (slice_cmp nat_cmp) c.self.inside.names x) (contains (slice_cmp nat_cmp) c.insert.new.self x) (c.self.invariant.1 x) (updates.0 x) ∙ ap (λ (it : List (List ℕ)). is_named x it) (sym pushed),
    )
