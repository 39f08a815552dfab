use Rattle.std.proofs.Common.{◌≡◌, ◌∙◌, ◌+◌, ◌-◌, ℕ, Option, Some, None, ap, ap₂, arith, refl, suc, sym}
use Rattle.std.specs.Option.{option_map, option_or}
use Rattle.cb_beta.specs.Tokens.{with_taken}
use Rattle.cb_exprs.specs.Bindings.{value_at}
use Rattle.cb_matches.specs.Matches.{Partial}
use Rattle.cb_token_lists.proofs.Values.{value_further}
use Rattle.cb_token_lists.specs.Internal.{giver_value}
use Rattle.cb_token_lists.specs.declared.giving.Giver.{Giver}
use Rattle.cb_token_lists.specs.Partials.{SourceValue, partial_at, partial_in}
use Rattle.cb_token_lists.proofs.reading.TokenLists.value.Goals as goal
use Rattle.cb_token_lists.proofs.reading.TokenLists.value.Goals.{else-loop-test, else-may_be_given, then-loop-test+in-Some+else-counter-list, then-may_be_given+in_default-given_by_token}

pub loop-init : goal.loop-init
loop-init c n e =
    let ss = c.args.self.now.sources.now in
    let ls = c.args.self.now.lists.now in
    let same : suc c.args.list ≡ n = omega (arith, e) in
    ap (λ k. value_at c.args.name.now (partial_in ss ls k c.args.list c.args.number).env.variables) same

pub returns-in_default : goal.returns-in_default
returns-in_default c =
    let left : (c.args.list - c.loop.counter + 1) + c.loop.counter ≡ suc c.args.list = omega (arith, c.loop-test.true) in
    sym
    (c.loop.invariant (c.args.list - c.loop.counter + 1) left
    ∙ ap (λ (it : Partial). value_at c.args.name.now it.env.variables) (c.in_default.ensures (c.args.list - c.loop.counter + 1)))

pub returns-in-Some-given_by_token : goal.returns-in-Some-given_by_token
returns-in-Some-given_by_token c =
    let ss = c.args.self.now.sources.now in
    let ls = c.args.self.now.lists.now in
    let name = c.args.name.now in
    let giver = c.in-Some-given_by_token.giver in
    let n = c.args.list - c.loop.counter in
    let left : suc n + c.loop.counter ≡ suc c.args.list = omega (arith, c.loop-test.true) in
    ap Some c.in_ok-to_value.ensures
    ∙ sym
    (value_further ss ls name (value_at name (partial_at ss ls c.args.list c.args.number).env.variables) n c.loop.reached c.loop.met c.in-Some.source.now c.in-Some.token.now (Some (giver_value giver))
    (c.loop.invariant (suc n) left) (c.in-Some.ensures n)
    (λ (m : Partial). c.given_by_token.ensures m ∙ ap (λ (o : Option Giver). option_or (option_map giver_value o) (value_at name m.env.variables)) c.in-Some-given_by_token.is))

pub loop-preserved : goal.loop-preserved
loop-preserved c n e =
    let ss = c.args.self.now.sources.now in
    let ls = c.args.self.now.lists.now in
    let name = c.args.name.now in
    let left : suc n + c.loop.counter ≡ suc c.args.list = omega (arith, e) in
    value_further ss ls name (value_at name (partial_at ss ls c.args.list c.args.number).env.variables) n c.loop.reached c.loop.met c.in-Some.source.now c.in-Some.token.now None
    (c.loop.invariant (suc n) left) (c.in-Some.ensures n)
    (elim c.if-may_be_given.branch as (λ _. (m : Partial) → value_at name (with_taken c.in-Some.source.now.address c.in-Some.token.now.taken m).env.variables ≡ value_at name m.env.variables) [
      | then-may_be_given+in_default-given_by_token w ↦ λ m. w.given_by_token.ensures m ∙ ap (λ (o : Option Giver). option_or (option_map giver_value o) (value_at name m.env.variables)) w.in_default-given_by_token.is
      | else-may_be_given w ↦ w.if-may_be_given.ensures refl
    ])
    ∙ ap₂ (λ (s : SourceValue) (p : ℕ). value_at name (partial_in ss ls n s.from p).env.variables) (sym c.source.view_is) (sym c.parent-met.ensures)

pub returns : goal.returns
returns c =
    let ss = c.args.self.now.sources.now in
    let ls = c.args.self.now.lists.now in
    let name = c.args.name.now in
    elim c.loop-test.branch [
      | else-loop-test w ↦
          let left : 0 + c.loop.counter ≡ suc c.args.list = omega (arith, w.loop-test.false) in
          sym (c.loop.invariant 0 left)
      | then-loop-test+in-Some+else-counter-list w ↦
          let left : suc 0 + c.loop.counter ≡ suc c.args.list = omega (arith, w) in
          sym
          (value_further ss ls name (value_at name (partial_at ss ls c.args.list c.args.number).env.variables) 0 c.loop.reached c.loop.met w.in-Some.source.now w.in-Some.token.now None
          (c.loop.invariant (suc 0) left) (w.in-Some.ensures 0)
          (elim w.if-may_be_given.branch as (λ _. (m : Partial) → value_at name (with_taken w.in-Some.source.now.address w.in-Some.token.now.taken m).env.variables ≡ value_at name m.env.variables) [
            | then-may_be_given+in_default-given_by_token v ↦ λ m. v.given_by_token.ensures m ∙ ap (λ (o : Option Giver). option_or (option_map giver_value o) (value_at name m.env.variables)) v.in_default-given_by_token.is
            | else-may_be_given v ↦ v.if-may_be_given.ensures refl
          ]))
    ]
