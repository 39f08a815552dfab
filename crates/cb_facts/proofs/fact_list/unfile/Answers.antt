use Rattle.std.proofs.Common.{◌≡◌, ◌≢◌, None, Some, rules}
use Rattle.cb_facts.proofs.FactListLaws.{forgot_aside, forgot_filed}
use Rattle.cb_facts.specs.Internal.FactOrder.{mix_of}
use Rattle.cb_number_map.specs.NumberMaps as numbers
use Rattle.cb_number_map.specs.NumberMaps.{AreSameNumbers, number_at}
use Rattle.cb_facts.proofs.fact_list.unfile.Goals as goal

pub returns-then-has_filed : goal.returns-then-has_filed
returns-then-has_filed c = λ keys less was there change.
    let filed : number_at c.args.filed.now (mix_of c.args.fact.now) ≡ Some c.args.ix = search rules in
    let updates : numbers.Updates c.args.filed.now c.remove.new.self (mix_of c.args.fact.now) None = search rules in
    forgot_filed keys less c.args.ix c.args.fact.now there change c.args.filed.now c.remove.new.self c.args.aside.now c.forget_aside.new.aside was filed updates c.forget_aside.ensures

pub returns-else-has_filed : goal.returns-else-has_filed
returns-else-has_filed c = λ keys less was there change.
    let other : number_at c.args.filed.now (mix_of c.args.fact.now) ≢ Some c.args.ix = search rules in
    forgot_aside keys less c.args.ix c.args.fact.now there change c.args.filed.now c.args.aside.now c.forget_aside.new.aside was other c.forget_aside.ensures
