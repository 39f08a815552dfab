use Rattle.std.proofs.Common.{◌≡◌, ◌∙◌, [], refl, rules, sym}
use Rattle.std.proofs.lemmas.List.{nil_from_length}
use Rattle.cb_number_map.proofs.Maps.{nothing_at}
use Rattle.cb_number_map.proofs.number_map.NumberMap.release.Goals as goal

pub returns-then-is_free : goal.returns-then-is_free
returns-then-is_free c = λ key.
    let old = c.args.self.now in
    let none : old.aside.entries ≡ [] = nil_from_length old.aside.entries (search rules) in
    c.new.ensures key ∙ sym (nothing_at old old key (c.if-is_free.ensures refl key) none)
