use Rattle.std.proofs.Common.{◌≡◌, ◌≤◌, ◌∙◌, ◌+◌, ◌++◌, ℕ, Bool, List, [], ◌∷◌, ap, drop, filter, get_or, length, map, refl, rules, sym}
use Rattle.std.proofs.lemmas.List.{at_drop_more, drop_all}
use Rattle.std.specs.List.{flat_map, list_all}
use Rattle.cb_expr_forms.specs.Scopes.{is_known}
use Rattle.cb_forms.specs.declared.fault.Fault.{Fault}
use Rattle.cb_rule_forms.specs.Internal.{branches_read, form_value}
use Rattle.cb_rule_forms.specs.Mentions.{known_by_all, known_in, variables_faults}
use Rattle.cb_rules.specs.Elements.{Elements, elements}
use Rattle.cb_rule_forms.proofs.NameLaws.{filter_both}
use Rattle.cb_rule_forms.proofs.mentions.bind_branches.Goals as goal

abbrev known_to : List Elements → List ℕ → Bool
known_to bs x = list_all (λ c. is_known (known_in [] c) x) bs

pub loop-branch-preserved : goal.loop-branch-preserved
loop-branch-preserved c =
    let all = c.in-Some.others.now in
    let i = c.loop-branch.branch-index in
    let item = c.branch-item.result in
    let b = elements (map form_value item.items) in
    let rest = branches_read (drop (i + 1) all) in
    let common = c.loop-branch.common in
    let same : get_or all i item ≡ item = search rules in
    let is : branches_read (drop i all) ≡ b ∷ rest =
    at_drop_more branches_read all i item c.loop-branch-test.true ∙ ap (λ it. elements (map form_value it.items) ∷ rest) same
    in
    let right : variables_faults [] b ≡ [] = search rules in
    let known : c.in_ok-known.known ≡ known_in [] b = search rules in
    let kept : c.in_ok-common-2.common ≡ filter (is_known c.in_ok-known.known) common = search rules in (
      sym (ap (λ (fs : List Fault). fs ++ flat_map (variables_faults []) rest) right)
          ∙ (ap (flat_map (variables_faults [])) (sym is) ∙ c.loop-branch.invariant.0),
      ap (filter (known_to rest)) (kept ∙ ap (λ k. filter (is_known k) common) known)
          ∙ (filter_both (known_to rest) (is_known (known_in [] b)) (known_to (b ∷ rest)) (λ y. refl) common
          ∙ (ap (λ bs. filter (known_to bs) common) (sym is) ∙ c.loop-branch.invariant.1)),
    )

keep_all : (xs : List (List ℕ)) → filter (known_to []) xs ≡ xs
keep_all [] = refl
keep_all (x ∷ xs) = ap (λ (l : List (List ℕ)). x ∷ l) (keep_all xs)

pub returns : goal.returns
returns c =
    let others = c.in-Some.others.now in
    let b = elements (map form_value c.in-Some.first.now.items) in
    let cut : c.args.branches.now ≡ c.in-Some.first.now ∷ others = search rules in
    let right : variables_faults [] b ≡ [] = search rules in
    let known : c.in_ok-common.common ≡ known_in [] b = search rules in
    let beyond : length others ≤ c.loop-branch.branch-index = search rules in
    let done = drop_all c.loop-branch.branch-index others beyond in
    let none : [] ≡ flat_map (variables_faults []) (branches_read others) =
    ap (λ bs. flat_map (variables_faults []) (branches_read bs)) (sym done) ∙ c.loop-branch.invariant.0
    in
    let kept : c.loop-branch.common ≡ filter (known_to (branches_read others)) c.in_ok-common.common =
    sym (keep_all c.loop-branch.common)
    ∙ (ap (λ bs. filter (known_to (branches_read bs)) c.loop-branch.common) (sym done) ∙ c.loop-branch.invariant.1)
    in (
      ap (λ bs. flat_map (variables_faults []) (branches_read bs)) cut
          ∙ (ap (λ (fs : List Fault). fs ++ flat_map (variables_faults []) (branches_read others)) right ∙ sym none),
      kept ∙ (ap (filter (known_to (branches_read others))) known ∙ ap (λ bs. known_by_all (branches_read bs)) (sym cut)),
    )
