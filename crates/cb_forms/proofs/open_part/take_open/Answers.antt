use Rattle.std.proofs.Common.{◌≡◌, ◌||◌, true, false, [], nat_lt, sym, ap, ◌∙◌, if◌then◌else◌}
use Rattle.cb_forms.specs.Cuts.{item_readings}
use Rattle.cb_forms.specs.Items.{readings_of}
use Rattle.cb_forms.specs.Internal.ScanStates.{mode_is_open}
use Rattle.cb_forms.proofs.OpenPartLaws.{deep-list}
use Rattle.cb_forms.proofs.open_part.take_open.Goals as goal
use Rattle.cb_forms.proofs.open_part.take_open.Goals.{then-not-is_open, else-not-is_open+then-state-gt0, else-not-is_open+else-state-gt0+in_ok-item}

pub returns-clause-item : goal.returns-clause-item
returns-clause-item c =
    let is_open = nat_lt 0 c.args.state.depth || mode_is_open c.args.state.mode in
    let bytes = c.args.bytes.now in
    elim c.if-not-is_open.branch [
      | then-not-is_open w ↦
          let shut : is_open ≡ false = sym c.is_open.ensures ∙ w.if-not-is_open.true in
          ap item_readings w.item-is ∙ sym (ap (λ t. if t then readings_of bytes else []) shut)
      | else-not-is_open+then-state-gt0 w ↦
          let opened : is_open ≡ true = sym c.is_open.ensures ∙ w.if-not-is_open.false in
          ap item_readings w.item-is ∙ (sym (deep-list bytes c.args.state.mode c.args.state.depth (c.requires opened) w.if-state-gt0.true) ∙ sym (ap (λ t. if t then readings_of bytes else []) opened))
      | else-not-is_open+else-state-gt0+in_ok-item w ↦
          let opened : is_open ≡ true = sym c.is_open.ensures ∙ w.if-not-is_open.false in
          ap item_readings w.item-is ∙ (w.in_ok-item.ensures ∙ (ap readings_of w.as_slice.ensures ∙ sym (ap (λ t. if t then readings_of bytes else []) opened)))
    ]
