-- What was added to an empty table is all that it has.
use Rattle.std.proofs.Common.{◌≡◌, ◌∙◌, ◌++◌, ℕ, List, [], ap, length}
use Rattle.cb_constraints.proofs.PlaceLaws.{all_added}
use Rattle.cb_constraints.specs.Binders.{constraints_in}
use Rattle.cb_constraints.specs.Internal.Places.{places, sites_from, sites_in, sites_of}
use Rattle.cb_constraints.specs.Constraints.{Constraint}
use Rattle.cb_constraints.specs.Internal.{HasTable}
use Rattle.cb_constraints.specs.Internal.Tables.{Grows, with_places}
use Rattle.cb_constraints.specs.PatternValues.{PatternParts, fields, slots, SlotValue}
use Rattle.cb_constraints.specs.declared.place.Place.{Place}
use Rattle.cb_constraints.specs.declared.site.Site.{Site}
use Rattle.cb_constraints.specs.declared.table.Table.{Table}

has : (old new : Table) (found : List (List ℕ × Place)) (more : List Site) (parts : PatternParts) → old.variables.items ≡ [] → old.sites.items ≡ [] → Grows old new found more
    → found ≡ places 0 (constraints_in parts) → more ≡ sites_in parts → HasTable new parts
has old new found more parts v s g f m = (
  g.named,
  g.variables ∙ (ap (λ es. with_places es found) v ∙ (ap (with_places []) f ∙ all_added (places 0 (constraints_in parts)))),
  g.sites ∙ (ap (λ xs. xs ++ more) s ∙ m),
)

pub has_row : (old new : Table) (cs ds : List Constraint) → old.variables.items ≡ [] → old.sites.items ≡ [] → ds ≡ cs
    → Grows old new (places (length old.sites.items) ds) (sites_of 0 (length old.sites.items) ds) → HasTable new (fields cs)
has_row old new cs ds v s e g =
    has old new (places (length old.sites.items) ds) (sites_of 0 (length old.sites.items) ds) (fields cs) v s g
    (ap (λ xs. places (length xs) ds) s ∙ ap (places 0) e) (ap (λ xs. sites_of 0 (length xs) ds) s ∙ ap (sites_of 0 0) e)

pub has_rows : (old new : Table) (ss : List SlotValue) → old.variables.items ≡ [] → old.sites.items ≡ []
    → Grows old new (places (length old.sites.items) (constraints_in (slots ss))) (sites_from 0 (length old.sites.items) ss) → HasTable new (slots ss)
has_rows old new ss v s g =
    has old new (places (length old.sites.items) (constraints_in (slots ss))) (sites_from 0 (length old.sites.items) ss) (slots ss) v s g
    (ap (λ xs. places (length xs) (constraints_in (slots ss))) s) (ap (λ xs. sites_from 0 (length xs) ss) s)
