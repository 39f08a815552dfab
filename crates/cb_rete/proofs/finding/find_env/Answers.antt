use Rattle.std.proofs.Common.{◌≡◌, ◌≢◌, ◌∙◌, ℕ, List, Some, None, ap, nat_cmp, subst, sym}
use Rattle.std.specs.BTreeMap.{is_at, values}
use Rattle.std.specs.List.{slice_get}
use Rattle.std.specs.Map.{lookup, values_of}
use Rattle.std.specs.Option.{option_copied}
use Rattle.cb_branch.specs.Branches.{IsBranchOver, branch_elements}
use Rattle.cb_branch.specs.declared.branch.Branch.{Branch}
use Rattle.cb_matches.proofs.Lists.{map_in}
use Rattle.cb_matches.specs.Chains.{In}
use Rattle.cb_matches.specs.Networks.{Conditions}
use Rattle.cb_rete.proofs.Lists.{copied_is}
use Rattle.cb_rete.proofs.Results.{if_one}
use Rattle.cb_rete.proofs.finding.find_env.Goals as goal
use Rattle.cb_rete.specs.Rules.{kept_branches, kept_rule, kept_rules}
use Rattle.cb_rete.specs.declared.rule.Rule.{Rule}
use Rattle.cb_rule_keys.proofs.Branches.{got_mapped, none_mapped}
use Rattle.cb_rule_keys.proofs.Found.{env_found, no_branch, no_rule}
use Rattle.cb_rule_keys.proofs.Numbered.{found_in, in_value, kept_in, none_in, numbers_own, numbers_rise}
use Rattle.cb_rule_keys.specs.Numbers.{AreNamed, Kept}

-- the rule that is kept under a number
module _ {T : Type 0} (es : List (ℕ × Rule T)) (id number : ℕ) (same : id ≡ number) (named : AreNamed kept_rule es) where
  kept_under : (r : Rule T) → lookup (is_at (nat_cmp id)) es ≡ Some r → In (number, kept_branches r.branches.items) (kept_rules (values_of es))
  kept_under r there =
      let i = found_in id es r there in
      let own : r.id ≡ number = sym (named (id, r) i) ∙ same in
      subst (λ n. In (n, kept_branches r.branches.items) (kept_rules (values_of es))) own (map_in kept_rule (values_of es) r (in_value es (id, r) i))

  none_under : lookup (is_at (nat_cmp id)) es ≡ None → (q : Kept) → In q (kept_rules (values_of es)) → number ≢ q.0
  none_under absent q i e =
      let k = kept_in kept_rule es named q i in
      none_in id es absent k.0 k.1 (named k.0 k.1 ∙ (sym (ap (λ (it : Kept). it.0) k.2) ∙ (sym e ∙ sym same)))

pub returns-in_default : goal.returns-in_default
returns-in_default g c =
    λ facts fs rising named over.
    let key = c.args.key.now in
    let rules = c.args.rules.now in
    let absent : lookup (is_at (nat_cmp c.rule.result)) rules.entries ≡ None = sym c.get.ensures.value ∙ ap option_copied c.in_default.is in
    c.new.ensures ∙ sym (no_rule key fs (kept_rules (values rules)) (none_under rules.entries c.rule.result key.rule c.rule.ensures named absent))

pub returns-in_default-get : goal.returns-in_default-get
returns-in_default-get g c =
    λ facts fs rising named over.
    let key = c.args.key.now in
    let rules = c.args.rules.now in
    let rs : Conditions = kept_rules (values rules) in
    let rule : Rule g.row.T.Denot = c.in-Some.rule.now in
    let there : lookup (is_at (nat_cmp c.rule.result)) rules.entries ≡ Some rule = sym c.get.ensures.value ∙ ap option_copied c.in-Some.is in
    let own = numbers_own rs (numbers_rise kept_rule rules.entries named c.len-count.ensures.ordered) in
    let got : option_copied c.get-2.result ≡ slice_get c.deref.result.now c.branch-key.result = copied_is c.deref.result.now c.branch-key.result c.get-2.result c.get-2.ensures.lookup.3 in
    let none : slice_get rule.branches.items key.branch ≡ None =
    subst (λ n. slice_get rule.branches.items n ≡ None) c.branch-key.ensures
    (subst (λ (bs : List (Branch g.row.T.Denot)). slice_get bs c.branch-key.result ≡ None) c.deref.ensures.value (sym got ∙ ap option_copied c.in_default-get.is)) in
    c.new-in_default-get.ensures
    ∙ sym (no_branch key fs rs (kept_branches rule.branches.items) own (kept_under rules.entries c.rule.result key.rule c.rule.ensures named rule there) (none_mapped branch_elements rule.branches.items key.branch none))

pub returns : goal.returns
returns g c =
    let key = c.args.key.now in
    let rules = c.args.rules.now in
    let rs : Conditions = kept_rules (values rules) in
    let rule : Rule g.row.T.Denot = c.in-Some.rule.now in
    let b : Branch g.row.T.Denot = c.in-Some-get.branch.now in
    let there : lookup (is_at (nat_cmp c.rule.result)) rules.entries ≡ Some rule = sym c.get.ensures.value ∙ ap option_copied c.in-Some.is in
    let got : option_copied c.get-2.result ≡ slice_get c.deref.result.now c.branch-key.result = copied_is c.deref.result.now c.branch-key.result c.get-2.result c.get-2.ensures.lookup.3 in
    let at : slice_get rule.branches.items key.branch ≡ Some b =
    subst (λ n. slice_get rule.branches.items n ≡ Some b) c.branch-key.ensures
    (subst (λ (bs : List (Branch g.row.T.Denot)). slice_get bs c.branch-key.result ≡ Some b) c.deref.ensures.value (sym got ∙ ap option_copied c.in-Some-get.is)) in
    if_one c.env.result c.env.ensures
    (λ env is facts fs rising named over.
    let own = numbers_own rs (numbers_rise kept_rule rules.entries named c.len-count.ensures.ordered) in
    is facts fs rising (over (c.rule.result, rule) (found_in c.rule.result rules.entries rule there) key.branch b at)
    ∙ sym (env_found key fs rs (kept_branches rule.branches.items) (branch_elements b) own (kept_under rules.entries c.rule.result key.rule c.rule.ensures named rule there)
    (got_mapped branch_elements rule.branches.items key.branch b at)))
