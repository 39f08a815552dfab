use Rattle.std.proofs.Common.{◌≡◌, ◌++◌, ◌∷◌, [], length, rules, subst, sym}
use Rattle.cb_facts.specs.Internal.NamePlaces.{HasPlaces, NotesPlace}
use Rattle.cb_expr_forms.proofs.PlaceLaws.{has_places-noted}
use Rattle.cb_expr_forms.proofs.name_list.NameList.push.Goals as goal

pub invariant_of-self-2 : goal.invariant_of-self-2
invariant_of-self-2 c =
    let names = c.self.inside.names.items in
    let noted : NotesPlace c.self.inside.firsts c.note.new.firsts c.args.name.now (length names) = search rules in
    let more : c.push.new.self.items ≡ names ++ c.args.name.now ∷ [] = search rules in
    subst (HasPlaces c.note.new.firsts) (sym more) (has_places-noted c.self.inside.firsts c.note.new.firsts names c.args.name.now c.self.invariant noted)
