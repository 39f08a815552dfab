use Rattle.std.proofs.Common.{◌≡◌, ◌≢◌, ◌∙◌, ◌-◌, ◌<◌, ℕ, [], Some, None, ap, arith, slice_get, sym}
use Rattle.std.specs.Option.{option_map_or}
use Rattle.cb_beta.proofs.Live.{some_none}
use Rattle.cb_beta.specs.BetaMemories.{BetaMemoryValue}
use Rattle.cb_beta.specs.Tokens.{TokenValue, token_at}
use Rattle.cb_group_node.proofs.Meeting.{found_below, found_here, found_none, found_past, no_list, no_place}
use Rattle.cb_group_node.proofs.descent.outer.Goals as goal
use Rattle.cb_token_lists.proofs.Down.{got, token_in}
use Rattle.cb_token_lists.specs.Partials.{SourceValue, tokens_in}

pub returns-in_default : goal.returns-in_default
returns-in_default c below =
    let ss = c.args.lists.now.sources.now in
    let ls = c.args.lists.now.lists.now in
    let list = c.loop-list.list in
    let apart : list ≢ c.args.from = λ e. absurd (omega (arith, c.loop-list-test.true, e)) in
    c.loop-list.invariant below None (found_none ss ls c.args.from list c.loop-list.current apart (λ s u n is there. no_place ss (list - 1) s c.in_default.ensures.lookup.3 is))

pub returns-in_default-get : goal.returns-in_default-get
returns-in_default-get c below =
    let ss = c.args.lists.now.sources.now in
    let ls = c.args.lists.now.lists.now in
    let list = c.loop-list.list in
    let apart : list ≢ c.args.from = λ e. absurd (omega (arith, c.loop-list-test.true, e)) in
    c.loop-list.invariant below None
    (found_none ss ls c.args.from list c.loop-list.current apart (λ s u n is there. no_list ls list c.loop-list.current u c.in_default-get.ensures.lookup.3 there))

pub returns-in_default-token : goal.returns-in_default-token
returns-in_default-token c below =
    let ss = c.args.lists.now.sources.now in
    let ls = c.args.lists.now.lists.now in
    let list = c.loop-list.list in
    let current = c.loop-list.current in
    let apart : list ≢ c.args.from = λ e. absurd (omega (arith, c.loop-list-test.true, e)) in
    c.loop-list.invariant below None
    (found_none ss ls c.args.from list current apart (λ s u n is there.
    let h = c.in-Some-get.ensures.lookup in
    let m = c.in-Some-get.memory.now in
    let e = got ls list m h.3.0 (h.3.1 m) in
    some_none (token_at (tokens_in ls list) current) there
    (ap (λ o. token_at (option_map_or (λ (it : BetaMemoryValue). it.tokens) o []) current) e ∙ sym c.in_default-token.ensures)))

pub returns-then-source-list : goal.returns-then-source-list
returns-then-source-list c below =
    let ss = c.args.lists.now.sources.now in
    let list = c.loop-list.list in
    let s : SourceValue = record { from = c.source.inside.from; address = c.source.inside.address } in
    let l = c.in-Some.ensures.lookup in
    let is : slice_get ss (list - 1) ≡ Some s = got ss (list - 1) c.in-Some.source.now l.3.0 (l.3.1 c.in-Some.source.now) ∙ ap Some (sym c.source.view_is) in
    let b = below (list - 1) s is in
    absurd (omega (arith, b, c.if-source-list.true, c.loop-list-test.true))

pub loop-list-preserved : goal.loop-list-preserved
loop-list-preserved c below found finds =
    let ss = c.args.lists.now.sources.now in
    let ls = c.args.lists.now.lists.now in
    let list = c.loop-list.list in
    let current = c.loop-list.current in
    let read = c.in-Some-token.token.now in
    let s : SourceValue = record { from = c.source.inside.from; address = c.source.inside.address } in
    let token : TokenValue = record { parent = c.parent-current.result; taken = read.taken } in
    let apart : list ≢ c.args.from = λ e. absurd (omega (arith, c.loop-list-test.true, e)) in
    let more : list ≢ 0 = λ e. absurd (omega (arith, c.loop-list-test.true, e)) in
    let l = c.in-Some.ensures.lookup in
    let is : slice_get ss (list - 1) ≡ Some s = got ss (list - 1) c.in-Some.source.now l.3.0 (l.3.1 c.in-Some.source.now) ∙ ap Some (sym c.source.view_is) in
    let h = c.in-Some-get.ensures.lookup in
    let there : token_at (tokens_in ls list) current ≡ Some token =
    token_in ls list current c.in-Some-get.memory.now c.in-Some-token.token.now (got ls list c.in-Some-get.memory.now h.3.0 (h.3.1 c.in-Some-get.memory.now)) c.in-Some-token.ensures
    ∙ ap (λ (parent : ℕ). Some (record { parent = parent; taken = read.taken })) (sym c.parent-current.ensures) in
    c.loop-list.invariant below found (found_below ss ls c.args.from list current s token found apart more is there finds)

pub returns-then-list-from : goal.returns-then-list-from
returns-then-list-from c below =
    c.loop-list.invariant below (Some c.loop-list.current)
    (found_here c.args.lists.now.sources.now c.args.lists.now.lists.now below c.args.from c.loop-list.list c.loop-list.current c.if-list-from.true)

pub returns-else-list-from : goal.returns-else-list-from
returns-else-list-from c below =
    let apart = c.if-list-from.false in
    let past : c.loop-list.list < c.args.from = omega (arith, c.loop-list-test.false, apart) in
    c.loop-list.invariant below None (found_past c.args.lists.now.sources.now c.args.lists.now.lists.now below c.args.from c.loop-list.list c.loop-list.current past)
