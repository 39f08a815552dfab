use Rattle.std.proofs.Common.{◌≡◌, ◌∙◌, count_by, is_some, None, subst, sym}
use Rattle.std.proofs.lemmas.Bool.{eqb-true}
use Rattle.cb_alpha.proofs.Filings.{none_filed}
use Rattle.cb_alpha.proofs.LiveNumbers.{none_counted}
use Rattle.cb_alpha.specs.Buckets.{Filing, values_at}
use Rattle.cb_alpha.proofs.buckets.Buckets.is_empty.Goals as goal

pub returns : goal.returns
returns c = λ t member.
    let b = c.self.inside in
    let slots = b.buckets.slots in
    subst (λ (it : Filing). values_at it member ≡ None) c.self.view_is
    (none_filed slots b.members (none_counted slots (eqb-true (count_by is_some slots) 0 (sym c.is_empty.ensures ∙ t))) member)
