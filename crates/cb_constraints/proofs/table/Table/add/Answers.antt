use Rattle.std.proofs.Common.{◌≡◌, ◌∙◌, ◌++◌, ◌∷◌, [], true, false, ap, is_some, map, rules, sym}
use Rattle.std.proofs.lemmas.List.{append-nil}
use Rattle.cb_constraints.proofs.PlaceLaws.{named_too, placed}
use Rattle.cb_constraints.proofs.table.Table.add.Goals as goal

pub returns-then-is_some : goal.returns-then-is_some
returns-then-is_some c = record {
  named = c.requires;
  variables =
      sym (placed c.args.name.now c.args.place c.args.self.now.names c.args.self.now.variables.items true c.requires
      (ap is_some (sym c.find.ensures) ∙ (sym c.is_some.ensures ∙ c.if-is_some.true)));
  sites = sym (append-nil c.args.self.now.sites.items);
}

pub returns : goal.returns
returns c =
    let same : c.in_ok-clone.field-0 ≡ c.args.name.now = search rules in
    let more : c.push-2.new.self.items ≡ c.args.self.now.variables.items ++ (c.args.name.now, c.args.place) ∷ [] =
    c.in_ok-push-2.ensures.items ∙ ap (λ x. c.args.self.now.variables.items ++ (x, c.args.place) ∷ []) same in
    record {
      named =
          c.in_ok-push.ensures.ok
          ∙ (named_too c.args.name.now c.args.place c.args.self.now.names c.args.self.now.variables.items c.requires ∙ ap (map (λ e. e.0)) (sym more));
      variables =
          more
          ∙ sym (placed c.args.name.now c.args.place c.args.self.now.names c.args.self.now.variables.items false c.requires
          (ap is_some (sym c.find.ensures) ∙ (sym c.is_some.ensures ∙ c.if-is_some.false)));
      sites = sym (append-nil c.args.self.now.sites.items);
    }
