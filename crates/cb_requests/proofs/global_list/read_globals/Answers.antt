use Rattle.std.proofs.Common.{◌∙◌, ◌++◌, ◌∷◌, [], sym, ap, ap₂}
use Rattle.cb_facts.specs.Internal.{after_those}
use Rattle.cb_forms.specs.Members.{members}
use Rattle.cb_requests.proofs.Globals.{one_more}
use Rattle.cb_requests.specs.Reads.{globals_in}
use Rattle.cb_requests.proofs.global_list.read_globals.Goals as goal

pub loop-first-preserved : goal.loop-first-preserved
loop-first-preserved c =
    let templates = c.args.relations.now in
    let env = c.args.env.now in
    let those = c.loop-first.read.globals.items in
    let given = c.loop-first.read.given in
    let others = members c.in_ok-global.others.now in
    let global = c.in_ok-global.global in
    ap₂ (λ gs ns. after_those gs (globals_in templates env ns others)) c.in_ok-push.ensures.globals c.in_ok-push.ensures.given
    ∙ (sym (one_more those global (globals_in templates env (given ++ global.0 ∷ []) others))
    ∙ (ap (after_those those) (sym c.in_ok-global.ensures.parts)
    ∙ (ap (λ fs. after_those those (globals_in templates env given (members fs))) (sym c.in-Some.ensures.cases.0) ∙ c.loop-first.invariant)))
