use Rattle.std.proofs.Common.{◌≡◌, ℕ, List, Some, refl, slice_get, subst}
use Rattle.std.proofs.lemmas.Result.{on_ok_weaker}
use Rattle.cb_beta.specs.BetaMemories.{AreLiveNumbers, BetaMemoryValue}
use Rattle.cb_branch_end.proofs.AtEnd.{same_list}
use Rattle.cb_branch_end.proofs.Pairs.{adds_numbers}
use Rattle.cb_branch_end.proofs.ToldKeys.{adds_keys, all_told}
use Rattle.cb_branch_end.specs.Internal.{AddsInOrder, key_at}
use Rattle.cb_branch_end.specs.TellingKeys.{IsTokenOf, at_end}
use Rattle.cb_matches.specs.Keys.{KeyValue}
use Rattle.cb_token_lists.proofs.Down.{got}
use Rattle.cb_token_lists.specs.Turns.{IsThere}
use Rattle.cb_branch_end.proofs.branch_end.BranchEnd.tell_all.Goals as goal

pub returns-clause-keys : goal.returns-clause-keys
returns-clause-keys c =
    let end = c.args.self.now in
    let ls = end.lists.lists.now in
    let key : ℕ → KeyValue = key_at end in
    let ks = c.args.keys.now.items in
    let ns = c.args.told.now.items in
    let l = c.in-Some.ensures.lookup in
    let found : slice_get ls end.last ≡ Some c.in-Some.memory.now = got ls end.last c.in-Some.memory.now l.3.0 (l.3.1 c.in-Some.memory.now) in
    on_ok_weaker c.add_keys.result
    (λ (adds : AddsInOrder key c.as_slice.result.now ks c.add_keys.new.told.items ns c.add_keys.new.told_numbers.items) m ms is stand apart sorted.
    all_told end.rule end.branch (at_end end) m c.in_ok-numbers.numbers.items ms ks c.add_keys.new.told.items
    (subst (λ (it : BetaMemoryValue). AreLiveNumbers it c.in_ok-numbers.numbers.items) (same_list ls end.last c.in-Some.memory.now m found is) c.in_ok-numbers.ensures) stand apart sorted
    (adds_keys key c.in_ok-numbers.numbers.items ks c.add_keys.new.told.items ns c.add_keys.new.told_numbers.items
    (subst (λ (it : List ℕ). AddsInOrder key it ks c.add_keys.new.told.items ns c.add_keys.new.told_numbers.items) c.as_slice.ensures.value adds)))
    c.add_keys.ensures

pub returns-clause-numbers : goal.returns-clause-numbers
returns-clause-numbers c =
    let end = c.args.self.now in
    let ls = end.lists.lists.now in
    let key : ℕ → KeyValue = key_at end in
    let ks = c.args.keys.now.items in
    let ns = c.args.told.now.items in
    let l = c.in-Some.ensures.lookup in
    let found : slice_get ls end.last ≡ Some c.in-Some.memory.now = got ls end.last c.in-Some.memory.now l.3.0 (l.3.1 c.in-Some.memory.now) in
    on_ok_weaker c.add_keys.result
    (λ (adds : AddsInOrder key c.as_slice.result.now ks c.add_keys.new.told.items ns c.add_keys.new.told_numbers.items) m is.
    let live = subst (λ (it : BetaMemoryValue). AreLiveNumbers it c.in_ok-numbers.numbers.items) (same_list ls end.last c.in-Some.memory.now m found is) c.in_ok-numbers.ensures in
    (adds_numbers key (IsTokenOf end (IsThere m)) c.in_ok-numbers.numbers.items ks c.add_keys.new.told.items ns c.add_keys.new.told_numbers.items
    (subst (λ (it : List ℕ). AddsInOrder key it ks c.add_keys.new.told.items ns c.add_keys.new.told_numbers.items) c.as_slice.ensures.value adds)
    (λ n i. (live.are n i, refl))).0)
    c.add_keys.ensures
