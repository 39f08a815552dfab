use Rattle.std.proofs.Common.{◌+◌, [], ◌∷◌, get_or, take, ℕ, sym, subst, arith}
use Rattle.std.proofs.lemmas.List.{take_more}
use Rattle.cb_forms.specs.Internal.OpenParts.{HasPassed}
use Rattle.cb_forms.specs.declared.open_part.OpenPart.{OpenPart}
use Rattle.cb_forms.proofs.RunLaws.{passed-both, passed-one}
use Rattle.cb_forms.proofs.open_part.OpenPart.pass_gaps.Goals as goal

pub loop-end-preserved : goal.loop-end-preserved
loop-end-preserved c =
    let s = c.args.bytes.now in
    let i = c.loop-end.end in
    let passed = λ (limit : ℕ). passed-one limit c.loop-end.self.spelled.items (get_or s i 0) c.pass_gap.new.self ((c.pass_gap.ensures.passed limit).taken c.if-pass_gap.true) in record {
      within = omega arith;
      kept = (passed 0).kept;
      none = c.pass_gap.ensures.none;
      passed = λ limit. passed-both limit c.args.self.now.spelled.items (take i s) (get_or s i 0 ∷ []) (take (i + 1) s) c.loop-end.self c.pass_gap.new.self (c.loop-end.invariant.passed limit) (passed limit) (take_more s i 0 c.loop-end-test.true);
    }

pub returns-else-pass_gap-clause-passed : goal.returns-else-pass_gap-clause-passed
returns-else-pass_gap-clause-passed c =
    let P : OpenPart → Type 0 = λ part. (limit : ℕ) → HasPassed limit c.args.self.now.spelled.items (take c.loop-end.end c.args.bytes.now) part in
    subst P (sym ((c.pass_gap.ensures.passed 0).untouched c.if-pass_gap.false)) c.loop-end.invariant.passed
