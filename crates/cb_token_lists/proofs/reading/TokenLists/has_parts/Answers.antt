use Rattle.std.proofs.Common.{◌≡◌, ◌↔◌, ◌∙◌, ◌==◌, ◌+◌, ◌-◌, ℕ, ap, arith, length, refl, subst, suc, sym}
use Rattle.cb_beta.specs.Tokens.{TokenValue, with_taken}
use Rattle.cb_matches.specs.Matches.{Partial}
use Rattle.cb_token_lists.proofs.SameParts.{none_left, parts_further}
use Rattle.cb_token_lists.specs.Partials.{SourceValue, partial_at, partial_in}
use Rattle.cb_token_lists.proofs.reading.TokenLists.has_parts.Goals as goal
use Rattle.cb_token_lists.proofs.reading.TokenLists.has_parts.Goals.{else-loop-test, then-loop-test+in-Some+in-Some-before_taken+else-counter-list}

pub loop-init : goal.loop-init
loop-init c n e =
    let ss = c.args.self.now.sources.now in
    let ls = c.args.self.now.lists.now in
    let same : suc c.args.list ≡ n = omega (arith, e) in
    let at : partial_at ss ls c.args.list c.args.number ≡ partial_in ss ls n c.args.list c.args.number = ap (λ k. partial_in ss ls k c.args.list c.args.number) same in (
      λ h. ap (λ (it : Partial). it.parts) (sym at) ∙ h,
      λ h. ap (λ (it : Partial). it.parts) at ∙ h,
    )

pub returns-in_default : goal.returns-in_default
returns-in_default c =
    let ss = c.args.self.now.sources.now in
    let ls = c.args.self.now.lists.now in
    let n = c.args.list - c.loop.counter + 1 in
    let left : n + c.loop.counter ≡ suc c.args.list = omega (arith, c.loop-test.true) in
    none_left ((partial_at ss ls c.args.list c.args.number).parts ≡ c.args.parts.now) (partial_in ss ls n c.loop.reached c.loop.met) c.loop.left.now c.is_empty.result
    (ap (λ (it : Partial). it.parts) (c.in_default.ensures n)) c.is_empty.ensures (c.loop.invariant n left)

pub returns-in_default-before_taken : goal.returns-in_default-before_taken
returns-in_default-before_taken c =
    let ss = c.args.self.now.sources.now in
    let ls = c.args.self.now.lists.now in
    let n = c.args.list - c.loop.counter in
    let left : suc n + c.loop.counter ≡ suc c.args.list = omega (arith, c.loop-test.true) in
    let s = c.in-Some.source.now in
    let m = partial_in ss ls n s.from c.in-Some.token.now.parent in (
      λ e. absurd (cc),
      λ h. absurd
          (c.in_default-before_taken.ensures s.address m
          (ap (λ k. (with_taken s.address k m).parts) c.taken.ensures
          ∙ (ap (λ (it : Partial). it.parts) (sym (c.in-Some.ensures n)) ∙ (c.loop.invariant (suc n) left).0 h))),
    )

pub loop-preserved : goal.loop-preserved
loop-preserved c n e =
    let ss = c.args.self.now.sources.now in
    let ls = c.args.self.now.lists.now in
    let before : suc n + c.loop.counter ≡ suc c.args.list = omega (arith, e) in
    let s : SourceValue = record { from = c.source.inside.from; address = c.source.inside.address } in
    let t : TokenValue = c.in-Some.token.now in
    let P : Type 0 = (partial_at ss ls c.args.list c.args.number).parts ≡ c.args.parts.now in
    let left = c.in-Some-before_taken.before.now in
    let m = partial_in ss ls n s.from t.parent in
    subst (λ (p : ℕ). P ↔ ((partial_in ss ls n s.from p).parts ≡ left)) (sym c.parent-met.ensures)
    (parts_further ss ls P n c.loop.reached c.loop.met s t c.loop.left.now left
    (c.loop.invariant (suc n) before)
    (c.in-Some.ensures n ∙ ap (λ (s : SourceValue). with_taken s.address t.taken (partial_in ss ls n s.from t.parent)) (sym c.source.view_is))
    (subst (λ k. ((with_taken s.address k m).parts ≡ c.loop.left.now) ↔ (m.parts ≡ left)) c.taken.ensures (c.in-Some-before_taken.ensures s.address m)))

pub returns : goal.returns
returns c =
    let ss = c.args.self.now.sources.now in
    let ls = c.args.self.now.lists.now in
    let P : Type 0 = (partial_at ss ls c.args.list c.args.number).parts ≡ c.args.parts.now in
    elim c.loop-test.branch [
      | else-loop-test w ↦
          let before : 0 + c.loop.counter ≡ suc c.args.list = omega (arith, w.loop-test.false) in
          none_left P (partial_in ss ls 0 c.loop.reached c.loop.met) c.loop.left.now c.is_empty-2.result refl
          (c.is_empty-2.ensures ∙ ap (λ it. length it.now == 0) w.left-is) (c.loop.invariant 0 before)
      | then-loop-test+in-Some+in-Some-before_taken+else-counter-list w ↦
          let before : suc 0 + c.loop.counter ≡ suc c.args.list = omega (arith, w) in
          let s : SourceValue = record { from = w.source.inside.from; address = w.source.inside.address } in
          let t : TokenValue = w.in-Some.token.now in
          let m = partial_in ss ls 0 s.from t.parent in
          none_left P m w.in-Some-before_taken.before.now c.is_empty-2.result refl
          (c.is_empty-2.ensures ∙ ap (λ it. length it.now == 0) w.left-is)
          (parts_further ss ls P 0 c.loop.reached c.loop.met s t c.loop.left.now w.in-Some-before_taken.before.now
          (c.loop.invariant (suc 0) before)
          (w.in-Some.ensures 0 ∙ ap (λ (s : SourceValue). with_taken s.address t.taken (partial_in ss ls 0 s.from t.parent)) (sym w.source.view_is))
          (subst (λ k. ((with_taken s.address k m).parts ≡ c.loop.left.now) ↔ (m.parts ≡ w.in-Some-before_taken.before.now)) w.taken.ensures
          (w.in-Some-before_taken.ensures s.address m)))
    ]
