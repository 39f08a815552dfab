use Rattle.std.proofs.Common.{◌≡◌, ◌∙◌, None, Some, ap, rules, subst, sym}
use Rattle.std.proofs.lemmas.Result.{on_ok_weaker}
use Rattle.std.specs.BTreeMap as tree
use Rattle.cb_facts.proofs.FactListLaws.{noted_aside, noted_filed}
use Rattle.cb_facts.specs.Internal.FactOrder.{mix_of}
use Rattle.cb_facts.specs.Internal.FactOrder.{fact_cmp}
use Rattle.cb_number_map.specs.NumberMaps as numbers
use Rattle.cb_number_map.specs.NumberMaps.{number_at}
use Rattle.cb_facts.proofs.fact_list.file.Goals as goal

pub returns-in_ok-insert-in_default-clause-ok : goal.returns-in_ok-insert-in_default-clause-ok
returns-in_ok-insert-in_default-clause-ok c = λ keys more was absent free change.
    let updates : tree.Updates fact_cmp c.args.aside.now c.insert-in_default.new.self c.args.fact (Some c.args.ix) = search rules in
    noted_aside keys more c.args.ix c.args.fact absent free change c.args.filed.now c.args.aside.now c.insert-in_default.new.self was updates

pub returns-in-Ok-clause-ok : goal.returns-in-Ok-clause-ok
returns-in-Ok-clause-ok c =
    let old = c.args.filed.now in
    let new = c.insert.new.self in
    let short : c.in-Ok.short ≡ c.args.ix = search rules in
    let absent : number_at old c.mix-mix.result ≡ None = search rules in
    let none : number_at old (mix_of c.args.fact) ≡ None = ap (number_at old) (sym c.mix-mix.ensures) ∙ absent in
    on_ok_weaker c.insert.result
    (λ updates keys more was absent free change.
    let by_mix : numbers.Updates old new (mix_of c.args.fact) (Some c.in-Ok.short) = subst (λ it. numbers.Updates old new it (Some c.in-Ok.short)) c.mix-mix.ensures updates in
    noted_filed keys more c.args.ix c.args.fact absent free change old new c.args.aside.now was none (subst (λ it. numbers.Updates old new (mix_of c.args.fact) (Some it)) short by_mix))
    c.insert.ensures.ok
