use Rattle.std.proofs.Common.{◌≡◌, ◌∙◌, ap, sym}
use Rattle.std.proofs.lemmas.Bool.{false≢true}
use Rattle.cb_branch.specs.Alphas.{live_facts}
use Rattle.cb_facts.specs.FactLists.{IndexedFacts}
use Rattle.cb_matches.specs.Networks.{bindings_of}
use Rattle.cb_nodes.proofs.Facts.{rising_base}
use Rattle.cb_rete.proofs.Results.{if_one}
use Rattle.cb_rete.proofs.joins.JoinsMatcher.bindings.Goals as goal
use Rattle.cb_rete.specs.Rules.{IsKeeping}

pub returns-in-Some : goal.returns-in-Some
returns-in-Some g c =
    let key = c.args.key.now in
    let fs : IndexedFacts = c.self.inside.facts in
    let keeping : IsKeeping c.self.inside.alphas fs c.self.inside.rules = c.self.invariant c.if-self.false in
    let failed : c.self.inside.failed ≡ c.args.self.now.is_failed = ap (λ v. v.is_failed) c.self.view_is in
    record {
      env = if_one c.find_env.result c.find_env.ensures
          (λ env is. is (live_facts c.self.inside.alphas.memories) fs (rising_base fs c.len-facts.ensures.base) keeping.named keeping.over ∙ ap (λ v. bindings_of v.network key) c.self.view_is);
      once = λ is. absurd (false≢true (sym c.if-self.false ∙ (failed ∙ is)));
    }

pub returns-in_ok-new-in-None : goal.returns-in_ok-new-in-None
returns-in_ok-new-in-None g c =
    let key = c.args.key.now in
    let fs : IndexedFacts = c.self.inside.facts in
    let keeping : IsKeeping c.self.inside.alphas fs c.self.inside.rules = c.self.invariant c.if-self.false in
    let failed : c.self.inside.failed ≡ c.args.self.now.is_failed = ap (λ v. v.is_failed) c.self.view_is in
    record {
      env = if_one c.find_env-in-None-2.result c.find_env-in-None-2.ensures
          (λ env is. is (live_facts c.self.inside.alphas.memories) fs (rising_base fs c.len-facts.ensures.base) keeping.named keeping.over ∙ ap (λ v. bindings_of v.network key) c.self.view_is);
      once = λ is. absurd (false≢true (sym c.if-self.false ∙ (failed ∙ is)));
    }
