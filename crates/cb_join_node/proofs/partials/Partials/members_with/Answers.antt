use Rattle.std.proofs.Common.{◌≡◌, ◌∙◌, [], Some, None, ap, arith, nat_eq, subst, sym}
use Rattle.std.proofs.lemmas.Map.Keys.{IsDistinct-from_apart}
use Rattle.cb_alpha.specs.Buckets.{AreWithValues, Filing}
use Rattle.cb_beta.proofs.Members.{contains_in}
use Rattle.cb_join_node.proofs.partials.Partials.members_with.Goals as goal
use Rattle.cb_join_node.specs.Filings.{filing_in}

pub returns-in-None : goal.returns-in-None
returns-in-None c =
    let nothing : c.args.self.now ≡ [] = sym c.self.view_is ∙ ap filing_in c.in-None.is in
    subst (λ (it : Filing). AreWithValues it c.args.values.now []) (sym nothing) (record {
      are = λ n. (λ h. absurd (contains_in [] n h), λ e. let no : None ≡ Some c.args.values.now = e in absurd (cc));
      once = IsDistinct-from_apart nat_eq [] (λ i j d l w. absurd (omega (arith, w)));
    })
