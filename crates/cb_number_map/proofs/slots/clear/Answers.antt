use Rattle.std.proofs.Common.{◌≡◌, ◌∙◌, None, ap, arith, get_or, length, refl, subst, sym}
use Rattle.std.specs.Option.{is_some}
use Rattle.cb_number_map.proofs.Windows.{cleared_more, freed_end, key_there, none_ended, none_more, none_of, none_table, same_table, slot_free, slot_other}
use Rattle.cb_number_map.specs.Slots.{IsFreed, WindowsEndAtUnused, first_slot, number_for, number_in, unused}
use Rattle.cb_number_map.proofs.slots.clear.Goals as goal
use Rattle.cb_number_map.proofs.slots.clear.Goals.{then-is_some, else-is_some}

pub loop-index-preserved : goal.loop-index-preserved
loop-index-preserved c =
    let key = c.args.key in
    let xs = c.loop-index.slots in
    let i = c.loop-index.index in
    let from = first_slot key (length c.args.slots.now) in
    elim c.if-is_some.branch [
      | then-is_some w ↦
          let v = w.freed.result in
          let freed : IsFreed xs i v = w.freed.ensures in
          let is : (get_or xs i unused).key ≡ key = key_there key (get_or xs i unused) (ap is_some (sym c.number_for.ensures) ∙ sym w.if-is_some.ensures) in
          record {
            end = subst WindowsEndAtUnused (sym w.slots-is) (freed_end xs i v (omega arith) c.loop-index.invariant.end freed);
            others = λ other d.
                ap (λ it. number_in it other) w.slots-is
                ∙ (same_table other v (slot_free other v freed.free) xs i (slot_other other (get_or xs i unused) (λ e. d (sym e ∙ is)))
                ∙ c.loop-index.invariant.others other d);
            cleared = λ j f l. ap (λ it. number_for key (get_or it j unused)) w.slots-is ∙ cleared_more key from i xs c.loop-index.invariant.cleared v freed.free (omega arith) j f l;
          }
      | else-is_some w ↦
          let none : number_for key (get_or xs i unused) ≡ None = sym c.number_for.ensures ∙ none_of c.number_for.result (sym w.if-is_some.ensures) in
          record {
            end = subst WindowsEndAtUnused (sym w.slots-is) c.loop-index.invariant.end;
            others = λ other d. ap (λ it. number_in it other) w.slots-is ∙ c.loop-index.invariant.others other d;
            cleared = λ j f l. ap (λ it. number_for key (get_or it j unused)) w.slots-is ∙ none_more key from i xs c.loop-index.invariant.cleared none j f l;
          }
    ]

pub returns-then-is_unused-clause-cleared : goal.returns-then-is_unused-clause-cleared
returns-then-is_unused-clause-cleared c =
    let n = length c.args.slots.now in
    record {
      changed = none_ended c.args.key c.loop-index.index n c.loop-index.slots c.loop-index.auto.slots c.loop-index.invariant.end (omega (arith, c.window-from.ensures.from, c.loop-index.auto.index)) (c.if-is_unused.ensures.0 refl) c.loop-index.invariant.cleared;
      others = c.loop-index.invariant.others;
    }

pub returns-clause-cleared : goal.returns-clause-cleared
returns-clause-cleared c =
    let n = length c.args.slots.now in
    record {
      changed = none_table c.args.key n c.loop-index.slots c.loop-index.auto.slots (λ j f l. c.loop-index.invariant.cleared j f (omega arith));
      others = c.loop-index.invariant.others;
    }
