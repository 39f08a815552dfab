use Rattle.std.proofs.Common.{◌≡◌, take}
use Rattle.cb_forms.specs.Lines.{line_feeds}
use Rattle.cb_forms.proofs.item_bytes.count_line_feeds.Given as goal

abbrev pub invariant-loop-byte : goal.invariant-loop-byte
invariant-loop-byte l = l.count ≡ line_feeds (take l.byte-index l.bytes)
