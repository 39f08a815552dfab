use Rattle.std.proofs.Common.{◌≡◌, drop, map}
use Rattle.std.specs.List.{list_all}
use Rattle.cb_fit.specs.Comparisons.{is_other}
use Rattle.cb_fit.specs.Decisions.{choice_field_of}
use Rattle.cb_fit.specs.Comparisons.{ChoiceFieldValue}
use Rattle.cb_fit.proofs.apart.are_others_chosen.Given as goal

abbrev pub invariant-loop-field : goal.invariant-loop-field
invariant-loop-field l =
    list_all (λ (c : ChoiceFieldValue). list_all (is_other l.names) c.variables) (map choice_field_of (drop l.field-index l.fields))
    ≡ list_all (λ (c : ChoiceFieldValue). list_all (is_other l.names) c.variables) (map choice_field_of l.fields)
