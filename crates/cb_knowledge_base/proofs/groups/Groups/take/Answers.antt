use Rattle.std.proofs.Common.{◌≡◌, ◌∙◌, ◌+◌, None, Some, ap, ap₂, option_map, sym}
use Rattle.std.proofs.lemmas.Map.Entries.{sum_by-remove_entry}
use Rattle.std.specs.BTreeMap.{is_at}
use Rattle.std.specs.List.{sum_by}
use Rattle.std.specs.Map.{lookup, remove_entry, values_of}
use Rattle.std.specs.Option.{unwrap_or}
use Rattle.std.specs.Ordering.{nat_cmp}
use Rattle.std.specs.Str.{bytes_eq}
use Rattle.cb_knowledge_base.proofs.GroupLaws.{missing-name, number_of, numbered-taken, taken-none, values-taken}
use Rattle.cb_knowledge_base.proofs.groups.Groups.take.Goals as goal

absent : (c : goal.After-from_residual) → lookup (bytes_eq c.args.name.now) (values_of c.self.inside.groups.entries) ≡ None
absent c =
    let none : number_of c.self.inside.numbers c.args.name.now ≡ None = sym c.in_err-number.ensures.value in
    missing-name c.self.inside.groups.entries (number_of c.self.inside.numbers) c.args.name.now c.self.invariant none

pub returns-in_err-number-clause-taken : goal.returns-in_err-number-clause-taken
returns-in_err-number-clause-taken c =
    sym (taken-none (values_of c.self.inside.groups.entries) (bytes_eq c.args.name.now) (absent c)) ∙ ap (remove_entry (bytes_eq c.args.name.now)) c.self.view_is

pub returns-in_err-number-clause-absent : goal.returns-in_err-number-clause-absent
returns-in_err-number-clause-absent c = absent c

found : (c : goal.After-remove-2) → number_of c.self.inside.numbers c.args.name.now ≡ Some c.in_ok-number.number
found c = sym c.in_ok-number.ensures.value

pub invariant_of-self-2 : goal.invariant_of-self-2
invariant_of-self-2 c =
    numbered-taken c.self.inside.groups c.remove-2.new.self c.self.inside.numbers c.remove.new.self c.in_ok-number.number c.args.name.now c.self.invariant (found c)
    c.remove-2.ensures.updates c.remove.ensures.updates c.remove-2.ensures.ordered

pub returns-clause-taken : goal.returns-clause-taken
returns-clause-taken c =
    ap values_of c.remove-2.ensures.entries
    ∙ values-taken c.self.inside.groups.entries (number_of c.self.inside.numbers) c.in_ok-number.number c.args.name.now c.self.invariant (found c)
    ∙ ap (remove_entry (bytes_eq c.args.name.now)) c.self.view_is

pub returns-clause-absent : goal.returns-clause-absent
returns-clause-absent c =
    missing-name c.remove-2.new.self.entries (number_of c.remove.new.self) c.args.name.now (invariant_of-self-2 c) c.remove.ensures.updates.1

pub returns-clause-sums : goal.returns-clause-sums
returns-clause-sums c =
    λ f. ap₂ (λ es o. sum_by f (values_of es) + unwrap_or (option_map f o) 0) c.remove-2.ensures.entries c.remove-2.ensures.value
    ∙ sum_by-remove_entry f (is_at (nat_cmp c.in_ok-number.number)) c.self.inside.groups.entries ∙ ap (sum_by f) c.self.view_is
