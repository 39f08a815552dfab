use Rattle.std.proofs.Common.{◌≡◌, ◌∙◌, ◌++◌, ◌∷◌, [], ap, arith, inl, inr, length, length-append, slice_get, sym}
use Rattle.cb_branch.proofs.Endings.{at_pushed}
use Rattle.cb_branch.proofs.clearing.empty_lists.Goals as goal
use Rattle.cb_branch.specs.Nodes.{no_tokens}

pub loop-list-preserved : goal.loop-list-preserved
loop-list-preserved c =
    let was = c.loop-list.lists.items in
    let inv = c.loop-list.invariant in
    let long = inv.long in
    let e : c.push.new.self.items ≡ was ++ c.new.result ∷ [] = c.in_ok-push.ensures.items in
    let count = length-append was (c.new.result ∷ []) in
    let same = ap length e in
    record {
      long = omega (arith, same, count, long);
      empty = λ j m at. elim (at_pushed was c.new.result j m (ap (λ xs. slice_get xs j) (sym e) ∙ at)) as (λ _. m ≡ no_tokens) [
        | inl k ↦ inv.empty j m k
        | inr k ↦ k ∙ c.new.ensures
      ];
    }
