use Rattle.std.proofs.Common.{rules, ◌≡◌, ◌∙◌, List, ℕ, Option, Some, None, ap, cond, nat_cmp}
use Rattle.std.proofs.lemmas.Map.Text.{is_eq-slice_cmp}
use Rattle.std.specs.BTreeMap.{get}
use Rattle.std.specs.Cmp.Lexicographic.{slice_cmp}
use Rattle.std.specs.Str.{bytes_eq}
use Rattle.cb_fit.proofs.VariableFields.{known_more}
use Rattle.cb_fit.proofs.variable_fields.note.Goals as goal
use Rattle.cb_fit.specs.JoinFields.{place_of}
use Rattle.cb_fit.specs.declared.field_place.FieldPlace.{FieldPlace}

pub returns : goal.returns
returns c =
    let o : List ℕ → Option FieldPlace = λ x. get (slice_cmp nat_cmp) c.args.first.now x in
    let n : List ℕ → Option FieldPlace = λ x. get (slice_cmp nat_cmp) c.insert.new.self x in
    let own : c.in_ok-variable.variable ≡ c.args.field.now.variable = search rules in
    let place : c.place.result ≡ place_of c.args.field.now = search rules in
    let none : o c.args.field.now.variable ≡ None = search rules in
    known_more o n c.args.field.now none (λ q.
    c.in_ok-insert.ensures.updates.0 q
    ∙ (ap (λ b. cond b (Some c.place.result) (o q)) (is_eq-slice_cmp c.in_ok-variable.variable q)
    ∙ (ap (λ (k : List ℕ). cond (bytes_eq k q) (Some c.place.result) (o q)) own
    ∙ ap (λ p. cond (bytes_eq c.args.field.now.variable q) (Some p) (o q)) place)))
