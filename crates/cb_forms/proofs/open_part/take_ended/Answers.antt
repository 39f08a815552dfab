use Rattle.std.proofs.Common.{◌≡◌, true, false, [], sym, ap, ◌∙◌, if◌then◌else◌}
use Rattle.cb_forms.specs.Items.{is_open, readings_of}
use Rattle.cb_forms.proofs.OpenPartLaws.{ended-list, open_bytes-open, open_bytes-ended}
use Rattle.cb_forms.proofs.ScanStateLaws.{state-open}
use Rattle.cb_forms.proofs.open_part.take_ended.Goals as goal

pub returns-then-is_open-clause-item : goal.returns-then-is_open-clause-item
returns-then-is_open-clause-item c =
    let w = c.args.bytes.now in
    let open_is : is_open w ≡ true = state-open w c.args.state.mode c.args.state.depth c.requires ∙ (sym c.is_open.ensures ∙ c.if-is_open.true) in
    sym (ap (λ t. if t then [] else readings_of w) open_is)

pub returns-then-is_open-clause-bytes : goal.returns-then-is_open-clause-bytes
returns-then-is_open-clause-bytes c =
    let w = c.args.bytes.now in
    sym (open_bytes-open w (state-open w c.args.state.mode c.args.state.depth c.requires ∙ (sym c.is_open.ensures ∙ c.if-is_open.true)))

pub read_part-requires : goal.read_part-requires
read_part-requires c =
    let w = c.args.bytes.now in
    let open_is : is_open w ≡ false = state-open w c.args.state.mode c.args.state.depth c.requires ∙ (sym c.is_open.ensures ∙ c.if-is_open.false) in
    rw c.as_slice.ensures (ended-list w open_is)

pub returns-clause-item : goal.returns-clause-item
returns-clause-item c =
    let w = c.args.bytes.now in
    let open_is : is_open w ≡ false = state-open w c.args.state.mode c.args.state.depth c.requires ∙ (sym c.is_open.ensures ∙ c.if-is_open.false) in
    c.in_ok-item.ensures ∙ (ap readings_of c.as_slice.ensures ∙ sym (ap (λ t. if t then [] else readings_of w) open_is))

pub returns-clause-bytes : goal.returns-clause-bytes
returns-clause-bytes c =
    let w = c.args.bytes.now in
    let open_is : is_open w ≡ false = state-open w c.args.state.mode c.args.state.depth c.requires ∙ (sym c.is_open.ensures ∙ c.if-is_open.false) in
    c.clear.ensures ∙ sym (open_bytes-ended w open_is)
