-- The template with a name, by equality of names and by their order.
use Rattle.std.proofs.Common.{◌≡◌, ℕ, List, sym}
use Rattle.std.specs.BTreeMap.{is_at}
use Rattle.std.specs.Cmp.Lexicographic.{slice_cmp, texts_ties}
use Rattle.std.specs.Map.{lookup}
use Rattle.std.specs.Ordering.{nat_cmp}
use Rattle.cb_templates.specs.Templates.{Templates, slots_of}

pub slots_by_order : (templates : Templates) (name : List ℕ) → lookup (is_at (slice_cmp nat_cmp name)) templates ≡ slots_of templates name
slots_by_order templates name = λ i. lookup (λ k. sym (texts_ties name k) i) templates
