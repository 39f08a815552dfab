use Rattle.std.proofs.Common.{◌≡◌, ◌∙◌, ◌∷◌, ◌++◌, [], None, Some, length, sym, ap, subst, rules}
use Rattle.std.specs.BTreeMap as tree
use Rattle.std.specs.Cmp.Lexicographic.{slice_cmp}
use Rattle.std.specs.Ordering.{nat_cmp}
use Rattle.cb_knowledge_base.proofs.GlobalLaws.{found_pushed, pushed}
use Rattle.cb_knowledge_base.proofs.globals.GlobalTable.push.Goals as goal
use Rattle.cb_knowledge_base.specs.Globals.{with_initial}
use Rattle.cb_knowledge_base.specs.Internal.GlobalPlaces.{AreFound, place_of_global}

pub invariant_of-self-in_default : goal.invariant_of-self-in_default
invariant_of-self-in_default c =
    let items = c.self.inside.globals.items in
    let none : place_of_global c.args.global.0 items ≡ None = ap (place_of_global c.args.global.0) c.self.view_is ∙ c.requires in
    let all : c.push.new.self.items ≡ items ++ c.args.global ∷ [] = search rules in
    let name : c.in_ok-name.name ≡ c.args.global.0 = search rules in
    let place : c.len-place.result ≡ length items = search rules in
    let update = subst (λ n. tree.Updates (slice_cmp nat_cmp) c.self.inside.places c.insert.new.self c.in_ok-name.name (Some n)) place c.in_default.ensures.updates in
    subst (AreFound c.insert.new.self) (sym all) (found_pushed c.self.inside.places c.insert.new.self c.args.global c.in_ok-name.name items name c.self.invariant none update)

pub returns : goal.returns
returns c =
    let items = c.self.inside.globals.items in
    let none : place_of_global c.args.global.0 items ≡ None = ap (place_of_global c.args.global.0) c.self.view_is ∙ c.requires in
    let all : c.push.new.self.items ≡ items ++ c.args.global ∷ [] = search rules in
    all ∙ (sym (pushed c.args.global items none) ∙ ap (with_initial c.args.global) c.self.view_is)
