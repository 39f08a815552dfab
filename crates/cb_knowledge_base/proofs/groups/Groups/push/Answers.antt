use Rattle.std.proofs.Common.{◌≡◌, ◌∙◌, ◌++◌, ◌∷◌, [], None, ap, refl, rules, subst, sym}
use Rattle.std.specs.Map.{lookup, values_of}
use Rattle.std.specs.Str.{bytes_eq}
use Rattle.cb_knowledge_base.proofs.GroupLaws.{number_of, numbered-pushed, numbered-undone, values-push}
use Rattle.cb_knowledge_base.proofs.groups.Groups.push.Goals as goal
use Rattle.cb_knowledge_base.specs.Internal.Groups.{AreNumbered}

pub invariant_of-self-in-Ok : goal.invariant_of-self-in-Ok
invariant_of-self-in-Ok c =
    let same : c.in_ok-shared.shared ≡ c.args.name = search rules in
    let none : lookup (bytes_eq c.args.name) (values_of c.self.inside.groups.entries) ≡ None = search rules in
    numbered-pushed c.self.inside.groups c.insert-2.new.self c.self.inside.numbers c.insert.new.self c.in_ok-number.number (c.args.name, c.args.facts.items) c.args.name c.in_ok-shared.shared
    c.self.invariant same refl none c.in_ok-number.ensures c.in-Ok.ensures.updates c.in_ok-insert.ensures.updates c.insert-2.ensures.ordered

pub returns-in-Ok-clause-ok : goal.returns-in-Ok-clause-ok
returns-in-Ok-clause-ok c =
    ap values_of c.in-Ok.ensures.entries ∙ values-push c.self.inside.groups.entries c.in_ok-number.number (c.args.name, c.args.facts.items) c.in_ok-number.ensures
    ∙ ap (λ t. t ++ (c.args.name, c.args.facts.items) ∷ []) c.self.view_is

pub invariant_of-self-in-Err : goal.invariant_of-self-in-Err
invariant_of-self-in-Err c =
    let same : c.in_ok-shared.shared ≡ c.args.name = search rules in
    let none : lookup (bytes_eq c.args.name) (values_of c.self.inside.groups.entries) ≡ None = search rules in
    let back : c.group.inside.name ≡ c.args.name = ap (λ g. g.0) c.group.view_is ∙ ap (λ p. p.1.0) c.in-Err.ensures.value_returned in
    subst (λ es. AreNumbered es (number_of c.remove.new.self)) (sym c.in-Err.ensures.err)
    (numbered-undone c.self.inside.groups.entries c.self.inside.numbers c.insert.new.self c.remove.new.self c.in_ok-number.number c.args.name c.in_ok-shared.shared c.group.inside.name
    c.self.invariant same back none c.in_ok-insert.ensures.updates c.remove.ensures.updates)
