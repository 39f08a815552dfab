use Rattle.std.proofs.Common.{◌≡◌, ◌++◌, ◌∙◌, ℕ, List, append_assoc, codes}
use Rattle.std.specs.Fmt.{decimal}
use Rattle.cb_command_line.specs.PlaceTexts.{fault_noun, listed_places, more_mark}
use Rattle.cb_command_line.proofs.places.add_some_faults.Goals as goal

five : (l a b d f m : List ℕ) → ((((l ++ a) ++ b) ++ d) ++ f) ++ m ≡ l ++ (a ++ (b ++ (d ++ (f ++ m))))
five l a b d f m =
    append_assoc (((l ++ a) ++ b) ++ d) f m ∙ (append_assoc ((l ++ a) ++ b) d (f ++ m) ∙ (append_assoc (l ++ a) b (d ++ (f ++ m)) ∙ append_assoc l a (b ++ (d ++ (f ++ m)))))

pub returns : goal.returns
returns c =
    rw (c.in_ok-extend_from_slice-3.ensures.items, c.in_ok-add_places.ensures, c.in_ok-extend_from_slice-2.ensures.items, c.in_ok-add_number.ensures, c.in_ok-extend_from_slice.ensures.items, c.fault_noun.ensures, c.more_mark.ensures)
    (five c.args.line.now.items (codes "clipsbatch: ") (decimal c.args.count) (fault_noun c.args.count) (listed_places (codes ": ") c.args.first.now) (more_mark c.args.count))
