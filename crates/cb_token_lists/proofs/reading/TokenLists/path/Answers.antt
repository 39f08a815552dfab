use Rattle.std.proofs.Common.{◌≡◌, ◌∙◌, ◌+◌, ◌-◌, ℕ, ap, ap₂, arith, suc, sym}
use Rattle.cb_matches.specs.Matches.{no_parts}
use Rattle.cb_token_lists.proofs.Paths.{one_further}
use Rattle.cb_token_lists.specs.Internal.{with_path}
use Rattle.cb_token_lists.specs.Partials.{SourceValue, partial_at, partial_in}
use Rattle.cb_token_lists.proofs.reading.TokenLists.path.Goals as goal
use Rattle.cb_token_lists.proofs.reading.TokenLists.path.Goals.{else-loop-test, then-loop-test+in-Some+in_ok-add_step+else-counter-list}

pub loop-init : goal.loop-init
loop-init c n e =
    let ss = c.args.self.now.sources.now in
    let ls = c.args.self.now.lists.now in
    let same : suc c.args.list ≡ n = omega (arith, e) in
    ap (λ k. partial_in ss ls k c.args.list c.args.number) same ∙ ap (λ it. with_path it (partial_in ss ls n c.args.list c.args.number)) (sym c.new-path.ensures.items)

pub returns-in_default : goal.returns-in_default
returns-in_default c =
    let left : (c.args.list - c.loop.counter + 1) + c.loop.counter ≡ suc c.args.list = omega (arith, c.loop-test.true) in
    c.loop.invariant (c.args.list - c.loop.counter + 1) left ∙ ap (with_path c.loop.path.items) (c.in_default.ensures (c.args.list - c.loop.counter + 1))

pub loop-preserved : goal.loop-preserved
loop-preserved c n e =
    let ss = c.args.self.now.sources.now in
    let ls = c.args.self.now.lists.now in
    let before : suc n + c.loop.counter ≡ suc c.args.list = omega (arith, e) in
    one_further ss ls c.loop.path.items c.add_step.new.path.items (partial_at ss ls c.args.list c.args.number) n c.loop.reached c.loop.met c.in-Some.source.now c.in-Some.token.now
    (c.loop.invariant (suc n) before) (c.in-Some.ensures n) c.in_ok-add_step.ensures
    ∙ ap₂ (λ (s : SourceValue) (p : ℕ). with_path c.add_step.new.path.items (partial_in ss ls n s.from p)) (sym c.source.view_is) (sym c.parent-met.ensures)

pub returns : goal.returns
returns c =
    let ss = c.args.self.now.sources.now in
    let ls = c.args.self.now.lists.now in
    elim c.loop-test.branch [
      | else-loop-test w ↦
          let left : 0 + c.loop.counter ≡ suc c.args.list = omega (arith, w.loop-test.false) in
          c.loop.invariant 0 left ∙ ap (λ it. with_path it.items no_parts) (sym w.path-is)
      | then-loop-test+in-Some+in_ok-add_step+else-counter-list w ↦
          let before : suc 0 + c.loop.counter ≡ suc c.args.list = omega (arith, w) in
          one_further ss ls c.loop.path.items w.add_step.new.path.items (partial_at ss ls c.args.list c.args.number) 0 c.loop.reached c.loop.met w.in-Some.source.now w.in-Some.token.now
          (c.loop.invariant (suc 0) before) (w.in-Some.ensures 0) w.in_ok-add_step.ensures
          ∙ ap (λ it. with_path it.items no_parts) (sym w.path-is)
    ]
