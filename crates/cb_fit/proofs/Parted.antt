-- What is left of a row: its first constraint, those for one field that follow it, and the others.
use Rattle.std.proofs.Common.{◌≡◌, ◌∙◌, ◌++◌, ◌+◌, ◌∷◌, List, ap, length, map, sym}
use Rattle.std.proofs.lemmas.List.{length-map, map-append}
use Rattle.cb_constraints.specs.Constraints.{constraint_of}
use Rattle.cb_constraints.specs.Rows.{before_segments, fields_wanted, segments_wanted}
use Rattle.cb_constraints.specs.declared.constraint.Constraint.{Constraint}
use Rattle.cb_fit.proofs.Splits.{group-wants, ones-want}
use Rattle.cb_fit.specs.Internal.Choices.{IsRest}
use Rattle.cb_fit.specs.declared.rest.Rest.{Rest}

pub record Parted (rest : Rest) (first : Constraint) (ones after : List Constraint) : Type 0 where
  pub row : map constraint_of rest.constraints.now ≡ constraint_of first ∷ (map constraint_of ones ++ map constraint_of after)
  pub wants : rest.wanted ≡ length ones + fields_wanted (map constraint_of after)
  pub wants_both : rest.wanted ≡ fields_wanted (map constraint_of ones ++ map constraint_of after)

pub parted : (rest : Rest) (first : Constraint) (following ones after : List Constraint) → IsRest rest → rest.constraints.now ≡ first ∷ following → ones ++ after ≡ following
    → segments_wanted (map constraint_of ones) ≡ 0 → Parted rest first ones after
parted rest first following ones after is split all alone =
    let wants : rest.wanted ≡ length ones + fields_wanted (map constraint_of after) =
    group-wants first following ones after rest.wanted (sym all) (ap (λ cs. before_segments (map constraint_of cs)) (sym split) ∙ is.0) (is.1 ∙ ap (λ cs. fields_wanted (map constraint_of cs)) split) alone in
    record {
      row = ap (map constraint_of) split ∙ ap (λ cs. constraint_of first ∷ cs) (ap (map constraint_of) (sym all) ∙ map-append constraint_of ones after);
      wants = wants;
      wants_both = wants ∙ sym (ones-want (map constraint_of ones) (map constraint_of after) alone ∙ ap (λ n. n + fields_wanted (map constraint_of after)) (length-map ones constraint_of));
    }
