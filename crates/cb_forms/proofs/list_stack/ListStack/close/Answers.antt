use Rattle.std.proofs.Common.{◌≡◌, ◌∙◌, ◌++◌, [], ◌∷◌, ap}
use Rattle.cb_forms.proofs.ListStackLaws.{closed_up-close, frames_in}
use Rattle.cb_forms.specs.Internal.ListStacks.{closed_up}
use Rattle.cb_forms.specs.Trees.{trees_in}
use Rattle.cb_forms.proofs.list_stack.ListStack.close.Goals as goal

pub returns-clause-inner : goal.returns-clause-inner
returns-clause-inner c =
    let stack = c.args.self.now in
    let members = c.in_ok-members.members in
    let same : members.items ≡ stack.inner.items = c.in_ok-members.ensures ∙ ap (λ v. v.items) c.replace-grown.ensures.value in
    λ _ levels. closed_up-close stack.outer.items c.pop.new.self.items c.in-Some.around members c.push.new.self.items levels c.in-Some.ensures.items c.in_ok-push.ensures.items
    ∙ ap (λ xs. closed_up (frames_in stack.outer.items ++ trees_in xs ∷ []) ([] ∷ levels)) same
