use Rattle.std.proofs.Common.{rules, ◌≡◌, ◌∙◌, ℕ, List, None, Some, length, refl, subst, sym}
use Rattle.cb_alpha.proofs.FoundFacts.{found_less, gone_is, others_live}
use Rattle.cb_alpha.proofs.Joins.{written}
use Rattle.cb_alpha.proofs.LiveNumbers.{listed_then, no_group}
use Rattle.cb_alpha.specs.AlphaMemories.{candidate_in, index_of, live_in}
use Rattle.cb_alpha.specs.Internal.FactNumbers.{number_by}
use Rattle.cb_alpha.specs.Internal.Joined.{AreListed, IsFound, JoinIndexValue}
use Rattle.cb_alpha.proofs.alpha_memory.AlphaMemory.remove.Goals as goal

pub invariant_of-self-2 : goal.invariant_of-self-2
invariant_of-self-2 c =
    let m = c.self.inside in
    let number : ℕ = c.in_ok-number.number in
    let joins' : List JoinIndexValue = c.remove_from_all.new.joins in
    let was : IsFound m.candidates.slots None (number_by m.numbers) m.joins.items = search rules in
    let listed : AreListed m.all (live_in m.candidates.slots None) = search rules in
    let got : number_by m.numbers c.args.index ≡ Some number = search rules in
    let there : index_of (candidate_in m.candidates.slots number) ≡ Some c.args.index = (was.by_index c.args.index number).0 got in
    let long : m.joins.len ≡ length joins' = search rules in (
      subst (IsFound m.candidates.slots (Some number) (number_by c.remove.new.self)) (sym (written m.joins.len joins' m.joins.items long))
          (found_less m.candidates.slots (number_by m.numbers) m.joins.items was number c.args.index there (number_by c.remove.new.self) joins' (search rules) (search rules)),
      c.self.invariant.1,
      listed_then m.all (live_in m.candidates.slots None) listed (live_in m.candidates.slots (Some number)) c.remove-2.new.self number c.remove-2.ensures.others
          (others_live m.candidates.slots number)
          (c.remove-2.ensures.changed ∙ sym (no_group (live_in m.candidates.slots (Some number) number) (gone_is m.candidates.slots number number refl))),
    )
