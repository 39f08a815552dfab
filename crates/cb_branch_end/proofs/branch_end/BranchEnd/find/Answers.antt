use Rattle.std.proofs.Common.{◌≡◌, List, Some, slice_get, subst}
use Rattle.std.proofs.lemmas.Result.{IfOk-weaker}
use Rattle.cb_beta.specs.BetaMemories.{BetaMemoryValue}
use Rattle.cb_branch_end.proofs.AtEnd.{same_list}
use Rattle.cb_branch_end.proofs.LookedUp.{looked_up}
use Rattle.cb_branch_end.specs.Internal.{IsFound, IsMatch}
use Rattle.cb_branch_end.specs.TellingKeys.{at_end}
use Rattle.cb_matches.specs.Keys.{PartValue}
use Rattle.cb_token_lists.proofs.Down.{got}
use Rattle.cb_branch_end.proofs.branch_end.BranchEnd.find.Goals as goal

pub returns-then-is_match : goal.returns-then-is_match
returns-then-is_match c m ms is stand apart of_rule of_branch =
    let end = c.args.self.now in
    let ls = end.lists.lists.now in
    let hint = c.hint-hint.result in
    let l = c.in-Some.ensures.lookup in
    let there : slice_get ls end.last ≡ Some c.in-Some.memory.now = got ls end.last c.in-Some.memory.now l.3.0 (l.3.1 c.in-Some.memory.now) in
    looked_up end.rule end.branch (at_end end) m ms stand apart c.args.key.now of_rule of_branch (Some hint)
    (subst (λ (it : BetaMemoryValue). IsMatch (at_end end) it c.args.key.now.parts hint) (same_list ls end.last c.in-Some.memory.now m there is)
    (subst (λ (ps : List PartValue). IsMatch (at_end end) c.in-Some.memory.now ps hint) c.parts.ensures (c.is_match.ensures.0 c.if-is_match.true)))

pub returns : goal.returns
returns c =
    let end = c.args.self.now in
    let ls = end.lists.lists.now in
    let l = c.in-Some.ensures.lookup in
    let there : slice_get ls end.last ≡ Some c.in-Some.memory.now = got ls end.last c.in-Some.memory.now l.3.0 (l.3.1 c.in-Some.memory.now) in
    IfOk-weaker c.search.result (IsFound (at_end end) c.in-Some.memory.now c.parts-2.result.now) _
    (λ found own m ms is stand apart of_rule of_branch.
    looked_up end.rule end.branch (at_end end) m ms stand apart c.args.key.now of_rule of_branch found
    (subst (λ (it : BetaMemoryValue). IsFound (at_end end) it c.args.key.now.parts found) (same_list ls end.last c.in-Some.memory.now m there is)
    (subst (λ (ps : List PartValue). IsFound (at_end end) c.in-Some.memory.now ps found) c.parts-2.ensures own)))
    c.search.ensures
