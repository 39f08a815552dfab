use Rattle.std.proofs.Common.{◌≡◌, ◌∙◌, ◌<◌, true, false, arith, inl, inr, length, subst, sym}
use Rattle.cb_beta.proofs.Members.{more_in}
use Rattle.cb_branch_end.specs.Internal.{IsMatch}
use Rattle.cb_branch_end.specs.TellingKeys.{at_end}
use Rattle.cb_branch_end.proofs.branch_end.BranchEnd.search.Goals as goal

pub loop-number-preserved : goal.loop-number-preserved
loop-number-preserved c n h match =
    let ns = c.deref-number-items.result.now in
    let i = c.loop-number.number-index in
    let l : i < length ns = omega arith in
    elim (more_in ns i n l h) as (λ _. ⊥) [
      | inl k ↦ c.loop-number.invariant n k match
      | inr e ↦
          let found : c.is_match.result ≡ true = c.is_match.ensures.1 (subst (IsMatch (at_end c.args.self.now) c.args.memory.now c.args.parts.now) e match) in
          absurd (let no : true ≡ false = sym found ∙ c.if-is_match.false in cc)
    ]
