use Rattle.std.proofs.Common.{◌≡◌, ◌∙◌, ◌-◌, ℕ, ap, ap₂, arith, suc, sym}
use Rattle.std.specs.Option.{option_map}
use Rattle.cb_beta.specs.Tokens.{taken_value}
use Rattle.cb_token_lists.proofs.Paths.{none_taken}
use Rattle.cb_token_lists.specs.Partials.{SourceValue, partial_in}
use Rattle.cb_token_lists.proofs.reading.TokenLists.last_taken.Goals as goal

pub loop-left-preserved : goal.loop-left-preserved
loop-left-preserved c =
    let ss = c.args.self.now.sources.now in
    let ls = c.args.self.now.lists.now in
    let n = c.loop-left.left - 1 in
    let before : c.loop-left.left ≡ suc n = omega (arith, c.loop-left-test.true) in
    record {
      same =
          none_taken ss ls (partial_in ss ls c.args.left c.args.list c.args.number).parts n c.loop-left.list c.loop-left.number c.in_ok-source.source.now c.in_ok-source.token.now
          (c.loop-left.invariant.same ∙ ap (λ k. (partial_in ss ls k c.loop-left.list c.loop-left.number).parts) before)
          (c.in_ok-source.ensures n)
          (ap (option_map taken_value) (sym c.in_default.is) ∙ c.taken.ensures)
          ∙ ap₂ (λ (s : SourceValue) (p : ℕ). (partial_in ss ls n s.from p).parts) (sym c.source.view_is) (sym c.parent-number.ensures);
      left = omega (arith, c.loop-left.invariant.left);
    }

pub returns-in-Some-clause-left : goal.returns-in-Some-clause-left
returns-in-Some-clause-left c = omega (arith, c.loop-left.invariant.left, c.loop-left-test.true)
