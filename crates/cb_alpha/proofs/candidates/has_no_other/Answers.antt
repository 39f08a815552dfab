use Rattle.std.proofs.Common.{rules, ◌≡◌, ◌≢◌, ◌∙◌, ◌↔◌, ℕ, None, Option, Some, count_by, is_some, nat_eq, subst, sym, true}
use Rattle.std.proofs.lemmas.Bool.{eq-eqb, eqb-true}
use Rattle.cb_alpha.proofs.LiveNumbers.{counted_none, live_none, none_counted, none_live}
use Rattle.cb_alpha.specs.AlphaMemories.{candidate_in, live_in}
use Rattle.cb_alpha.proofs.candidates.has_no_other.Goals as goal

pub returns-in-Some : goal.returns-in-Some
returns-in-Some c =
    let cs = c.args.candidates.now.slots in
    let k : ℕ = c.in-Some.field-0 in
    let is : c.args.number ≡ Some k = search rules in
    let there : candidate_in cs k ≢ None = c.requires k is in
    subst (λ (it : Option ℕ). (nat_eq c.len.result 1 ≡ true) ↔ ((n : ℕ) → live_in cs it n ≡ None)) (sym is) (
      λ t. none_live cs k there (sym c.len.ensures ∙ eqb-true c.len.result 1 t),
      λ none. eq-eqb c.len.result 1 (c.len.ensures ∙ live_none cs k there none),
    )

pub returns-in-None : goal.returns-in-None
returns-in-None c =
    let cs = c.args.candidates.now.slots in
    let is : c.args.number ≡ None = search rules in
    subst (λ (it : Option ℕ). (c.is_empty.result ≡ true) ↔ ((n : ℕ) → live_in cs it n ≡ None)) (sym is) (
      λ t. none_counted cs (eqb-true (count_by is_some cs) 0 (sym c.is_empty.ensures ∙ t)),
      λ none. c.is_empty.ensures ∙ eq-eqb (count_by is_some cs) 0 (counted_none cs none),
    )
