use Rattle.std.proofs.Common.{◌≡◌, ◌∙◌, ℕ, List, Some, None, ap, option_copied, rules, subst, sym}
use Rattle.cb_alpha.proofs.ReadFacts.{came_live, found_values}
use Rattle.cb_alpha.specs.AlphaMemories.{candidate_in, values_in}
use Rattle.cb_lookup_node.proofs.Witnessed.{gained_so, no_values_gained}
use Rattle.cb_lookup_node.proofs.witnesses.Witnesses.gain.Goals as goal
use Rattle.cb_lookup_node.specs.Internal.{AreReplaced, HasGained, HasWitness}
use Rattle.cb_token_lists.specs.Partials.{partial_at}

pub returns : goal.returns
returns c js has apart =
    let cs = c.args.compared.now in
    let alpha = c.args.alpha.now in
    let at = partial_at c.args.lists.now.sources.now c.args.lists.now.lists.now c.args.from in
    let w = c.args.self.now in
    let w' = c.give.new.self in
    let come = c.in-Some.come in
    let vs = c.in-Some-values_of.values.now in
    let gained = c.in_ok-gained.gained.items in
    let is : c.come-came.result ≡ Some come = search rules in
    let came = sym c.come-came.ensures ∙ is in
    let found : option_copied c.values_of.result ≡ Some vs = search rules in
    let have : values_in js (candidate_in alpha.candidates come) ≡ Some vs =
    ap (values_in js) (sym (came_live alpha come came apart)) ∙ (sym (found_values alpha c.args.join come js has (option_copied c.values_of.result) c.values_of.ensures) ∙ found) in
    let given : AreReplaced w w' gained (HasWitness come) = subst (λ (it : List ℕ). AreReplaced w w' it (HasWitness come)) c.as_slice.ensures.value c.in_ok-give.ensures in
    gained_so cs js alpha at w w' come vs c.members_with-alike.result.now gained came have c.members_with-alike.ensures c.in_ok-gained.ensures given

pub returns-in_default-values_of : goal.returns-in_default-values_of
returns-in_default-values_of c js has apart =
    let cs = c.args.compared.now in
    let alpha = c.args.alpha.now in
    let at = partial_at c.args.lists.now.sources.now c.args.lists.now.lists.now c.args.from in
    let w = c.args.self.now in
    let come = c.in-Some.come in
    let is : c.come-came.result ≡ Some come = search rules in
    let came = sym c.come-came.ensures ∙ is in
    let found : option_copied c.values_of.result ≡ None = search rules in
    let have : values_in js (candidate_in alpha.candidates come) ≡ None =
    ap (values_in js) (sym (came_live alpha come came apart)) ∙ (sym (found_values alpha c.args.join come js has (option_copied c.values_of.result) c.values_of.ensures) ∙ found) in
    subst (λ (it : List ℕ). HasGained cs js alpha at w w it) (sym c.new-in_default-values_of.ensures.items) (no_values_gained cs js alpha at w come came have)
