use Rattle.std.proofs.Common.{rules, ◌≡◌, ◌<◌, ◌^◌, None, Some, refl}
use Rattle.std.specs.BTreeMap as tree
use Rattle.cb_alpha.proofs.Filings.{failed}
use Rattle.cb_alpha.proofs.NumberedBuckets.{aside_more, filed_more, numbered_alike}
use Rattle.cb_alpha.specs.Buckets.{values_cmp}
use Rattle.cb_alpha.specs.Internal.Numbered.{mix_in}
use Rattle.cb_alpha.specs.declared.numbering.Numbers.{Numbers}
use Rattle.cb_number_map.specs.NumberMaps.{number_at}
use Rattle.cb_alpha.proofs.numbering.Numbers.insert.Goals as goal

pub returns-in_err-insert-in-Some-clause-err : goal.returns-in_err-insert-in-Some-clause-err
returns-in_err-insert-in-Some-clause-err c =
    let ns = c.args.self.now in
    let ns' : Numbers = record { filed = c.insert.new.self; aside = ns.aside; is_ordered = ns.is_ordered } in
    failed c.from_residual.result (λ buckets was. numbered_alike ns ns' refl buckets c.in_err-insert-in-Some.ensures.err refl was)

pub returns-in_ok-insert-in-Some-clause-ok : goal.returns-in_ok-insert-in-Some-clause-ok
returns-in_ok-insert-in-Some-clause-ok c = λ old new was made.
    let ns = c.args.self.now in
    let ns' : Numbers = record { filed = c.insert.new.self; aside = ns.aside; is_ordered = ns.is_ordered } in
    let fits : c.args.number < 2 ^ 32 = search rules in
    let mix : mix_in ns c.args.values.now ≡ Some c.in-Some.mix = search rules in
    let free : number_at ns.filed c.in-Some.mix ≡ None = search rules in
    filed_more ns ns' refl old new c.args.number c.args.values.now was made fits c.in-Some.mix mix free c.in_ok-insert-in-Some.ensures.ok refl

pub returns-in_ok-insert-in-None-clause-ok : goal.returns-in_ok-insert-in-None-clause-ok
returns-in_ok-insert-in-None-clause-ok c = λ old new was made.
    let ns = c.args.self.now in
    let ns' : Numbers = record { filed = ns.filed; aside = c.insert-in-None.new.self; is_ordered = ns.is_ordered } in
    let fits : c.args.number < 2 ^ 32 = search rules in
    let updates : tree.Updates values_cmp ns.aside ns'.aside c.args.values.now (Some c.args.number) = search rules in
    aside_more ns ns' refl old new c.args.number c.args.values.now was made fits refl updates
