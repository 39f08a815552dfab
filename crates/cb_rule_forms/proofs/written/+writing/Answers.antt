use Rattle.std.proofs.Common.{◌≡◌, ◌≤◌, ◌+◌, ◌∙◌, ◌++◌, [], ◌∷◌, ap, arith, map, rules, sym}
use Rattle.std.proofs.lemmas.List.{map-append}
use Rattle.cb_expr_forms.specs.Internal.Sizes.{trees_size}
use Rattle.cb_forms.specs.Members.{members}
use Rattle.cb_rule_forms.specs.Internal.{before, next_seen, next_size, written_seen}
use Rattle.cb_rule_forms.specs.WrittenElements.{written, written_in}
use Rattle.cb_rule_forms.proofs.WrittenLaws.{before_last}
use Rattle.cb_rule_forms.proofs.written.+writing.Goals as goal

pub write_elements-loop-next-preserved : goal.write_elements-loop-next-preserved
write_elements-loop-next-preserved t c =
    let inside = c.args.inside in
    let rest = written_in inside (members c.in-Some.others.now) in
    let done = map written_seen c.loop-next.elements.items in
    let read = c.in_ok-write_next.field-0 in
    let pushed : map written_seen c.push.new.self.items ≡ done ++ written_seen read ∷ [] =
    ap (map written_seen) c.in_ok-push.ensures.items ∙ map-append written_seen c.loop-next.elements.items (read ∷ [])
    in
    let parts : written_in inside (members c.loop-next.rest.now) ≡ written (next_seen inside c.in-Some.next) rest = c.in-Some.ensures.parts inside in
    let seen : written_seen read ≡ next_seen inside c.in-Some.next = search rules in
    let less : next_size c.in-Some.next + trees_size (members c.in-Some.others.now) ≤ trees_size (members c.loop-next.rest.now) = search rules in
    let so_far = c.loop-next.invariant.1 in (
      ap (λ it. before it rest) pushed
          ∙ (before_last done (written_seen read) rest ∙ (ap (λ it. before done (written it rest)) seen ∙ (ap (before done) (sym parts) ∙ c.loop-next.invariant.0))),
      omega arith,
    )
