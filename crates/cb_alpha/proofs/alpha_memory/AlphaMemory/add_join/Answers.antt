use Rattle.std.proofs.Common.{rules, ◌≡◌, List, ap, length, map, refl, subst, sym}
use Rattle.cb_alpha.proofs.Joins.{join_more}
use Rattle.cb_alpha.specs.AlphaMemories.{AlphaMemoryValue, GainsJoin}
use Rattle.cb_alpha.specs.Internal.Joined.{JoinIndexValue, fields_of}
use Rattle.cb_fit.specs.declared.join_fields.JoinField.{JoinField}
use Rattle.cb_alpha.proofs.alpha_memory.AlphaMemory.add_join.Goals as goal

pub returns-clause-ok : goal.returns-clause-ok
returns-clause-ok c =
    let m = c.self.inside in
    let xs : List JoinIndexValue = m.joins.items in
    let j : JoinIndexValue = c.fill.new.join in
    let fields : List JoinField = c.args.fields.items in
    let old : AlphaMemoryValue = record { candidates = m.candidates.slots; gone = m.gone; come = m.come; joins = map fields_of xs } in
    let new : AlphaMemoryValue = record { candidates = m.candidates.slots; gone = m.gone; come = m.come; joins = map fields_of c.push_join.new.joins.items } in
    let len : c.len-number.result ≡ length xs = search rules in
    let same : j.fields ≡ fields = search rules in
    let more : GainsJoin old new (length xs) j.fields = join_more old new xs j refl (ap (map fields_of) c.in_ok-push_join.ensures.ok) refl refl refl in
    subst (λ (it : AlphaMemoryValue). GainsJoin it new c.len-number.result fields) c.self.view_is
    (subst (λ n. GainsJoin old new n fields) (sym len) (subst (GainsJoin old new (length xs)) same more))
