use Rattle.std.proofs.Common.{◌≡◌, ◌≢◌, ◌∙◌, true, false, Some, ap, arith, nat_eq, sym}
use Rattle.std.proofs.lemmas.Bool.Decides.{Decides-eqb}
use Rattle.std.specs.Option.{option_map}
use Rattle.std.specs.Cmp.Lexicographic.{pointwise, pointwise_decides}
use Rattle.cb_beta.specs.Tokens.{taken_value, with_taken}
use Rattle.cb_matches.specs.Keys.{PartValue}
use Rattle.cb_nodes.proofs.Grown.{and_both}
use Rattle.cb_token_lists.proofs.SameParts.{other_last, part_Decides, same_before}
use Rattle.cb_token_lists.proofs.comparing.before_taken.Goals as goal
use Rattle.cb_token_lists.proofs.comparing.before_taken.Goals.{else-last-taken-via-then-last-taken+else-eq, else-last-taken-via-else-last-taken}

pub returns-then-eq : goal.returns-then-eq
returns-then-eq c x m =
    let p : PartValue = record { index = c.last.inside.index; cuts = c.last.inside.cuts } in
    let q : PartValue = record { index = c.in-Some.taken.index; cuts = c.in-Some.taken.cuts.now } in
    let same : p ≡ q = (part_Decides p q).0 (and_both (nat_eq p.index q.index) (pointwise nat_eq p.cuts q.cuts) ((Decides-eqb p.index q.index).1 (omega (arith, c.if-last-taken.true))) (sym c.eq.ensures ∙ c.if-eq.true)) in
    let taken : (with_taken x (option_map taken_value c.args.taken) m).parts ≡ (with_taken x (Some (taken_value c.in-Some.taken)) m).parts = ap (λ o. (with_taken x (option_map taken_value o) m).parts) c.in-Some.is in
    let both = same_before x (taken_value c.in-Some.taken) c.args.parts.now c.in_ok-last.before.now c.in_ok-last.last.now c.in_ok-last.ensures.cases m
    (sym same ∙ c.last.view_is) in (
      λ h. both.0 (sym taken ∙ h),
      λ h. taken ∙ both.1 h,
    )

pub returns-else-last-taken : goal.returns-else-last-taken
returns-else-last-taken c x m h =
    let p : PartValue = record { index = c.last.inside.index; cuts = c.last.inside.cuts } in
    let q : PartValue = record { index = c.in-Some.taken.index; cuts = c.in-Some.taken.cuts.now } in
    let other : p ≢ q = elim c.else-last-taken.branch [
      | else-last-taken-via-then-last-taken+else-eq w ↦ (λ same.
          let cuts : pointwise nat_eq p.cuts q.cuts ≡ true = (pointwise_decides Decides-eqb p.cuts q.cuts).1 (ap (λ (it : PartValue). it.cuts) same) in
          absurd (let no : true ≡ false = sym cuts ∙ (sym w.eq.ensures ∙ w.if-eq.false) in cc))
      | else-last-taken-via-else-last-taken w ↦ (λ same.
          let index : p.index ≡ q.index = ap (λ (it : PartValue). it.index) same in
          absurd (omega (arith, w.if-last-taken.false, index)))
    ] in
    other_last x (taken_value c.in-Some.taken) c.args.parts.now c.in_ok-last.before.now c.in_ok-last.last.now c.in_ok-last.ensures.cases m
    (λ e. other (c.last.view_is ∙ sym e))
    (ap (λ o. (with_taken x (option_map taken_value o) m).parts) (sym c.in-Some.is) ∙ h)
