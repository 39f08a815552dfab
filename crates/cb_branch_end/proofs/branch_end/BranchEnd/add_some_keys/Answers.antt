use Rattle.std.proofs.Common.{ℕ, List, subst}
use Rattle.std.proofs.lemmas.Result.{on_ok_weaker}
use Rattle.cb_branch_end.proofs.Pairs.{pairs_in_order}
use Rattle.cb_branch_end.specs.Internal.{AddsPairs, key_at}
use Rattle.cb_matches.specs.Keys.{KeyValue}
use Rattle.cb_branch_end.proofs.branch_end.BranchEnd.add_some_keys.Goals as goal

pub returns-in_ok-keys-in_default : goal.returns-in_ok-keys-in_default
returns-in_ok-keys-in_default c =
    let key : ℕ → KeyValue = key_at c.args.self.now in
    let old = c.args.told.now.items in
    let new = c.add_in_order.new.told.items in
    let was = c.args.told_numbers.now.items in
    let now = c.add_in_order.new.told_numbers.items in
    on_ok_weaker c.add_in_order.result
    (λ (adds : AddsPairs c.in_ok-keys-in_default.field-0.items old new was now).
    pairs_in_order key c.args.numbers.now old new was now (subst (λ (ps : List (KeyValue × ℕ)). AddsPairs ps old new was now) c.in_ok-keys-in_default.ensures adds))
    c.add_in_order.ensures
