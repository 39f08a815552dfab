use Rattle.std.proofs.Common.{◌≡◌, ◌∙◌, ◌++◌, ◌+◌, List, Some, ap, arith, suc, sym}
use Rattle.cb_beta.specs.Tokens.{taken_value}
use Rattle.cb_beta.specs.declared.token.Taken.{Taken}
use Rattle.cb_matches.specs.Keys.{PartValue}
use Rattle.cb_token_lists.proofs.Paths.{if_ok}
use Rattle.cb_token_lists.specs.Internal.{parts_taken}
use Rattle.cb_token_lists.specs.Partials.{partial_at, partial_in}
use Rattle.cb_token_lists.proofs.reading.TokenLists.parts.Goals as goal

-- parts, and then what was taken
abbrev then_taken : List PartValue → Taken → List PartValue
then_taken parts t = parts ++ parts_taken (Some (taken_value t))

pub returns-in-None : goal.returns-in-None
returns-in-None c =
    let d = c.in-Some.d.taken in
    let near = c.in-Some-last_taken.c.taken in
    let b = c.in-Some-last_taken-2.b.taken in
    let a = c.in-Some-last_taken-3.a.taken in
    let all = (partial_at c.args.self.now.sources.now c.args.self.now.lists.now c.args.list c.args.number).parts in
    let from : suc c.args.list ≡ c.args.list + 1 = omega arith in
    let whole : all ≡ parts_taken (Some (taken_value a)) ++ parts_taken (Some (taken_value b)) ++ parts_taken (Some (taken_value near)) ++ parts_taken (Some (taken_value d)) =
    ap (λ k. (partial_in c.args.self.now.sources.now c.args.self.now.lists.now k c.args.list c.args.number).parts) from
    ∙ c.in-Some.ensures.last
    ∙ ap (λ it. then_taken it d) (c.in-Some-last_taken.ensures.last
    ∙ ap (λ it. then_taken it near) (c.in-Some-last_taken-2.ensures.last
    ∙ ap (λ it. then_taken it b) (c.in-Some-last_taken-3.ensures.last
    ∙ ap (λ it. then_taken it a) c.in-None.ensures.last)))
    in
    if_ok (λ parts. parts ≡ parts_taken (Some (taken_value a)) ++ parts_taken (Some (taken_value b)) ++ parts_taken (Some (taken_value near)) ++ parts_taken (Some (taken_value d))) (λ parts. parts ≡ all) c.four_parts.result (λ parts is. is ∙ sym whole) c.four_parts.ensures
