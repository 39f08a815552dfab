use Rattle.std.proofs.Common.{◌≡◌, ◌++◌, drop, if◌then◌else◌}
use Rattle.cb_forms.specs.Strings.{string_content, escaped_content_of}
use Rattle.cb_forms.proofs.string.read_content.Given as goal

abbrev pub invariant-loop-byte : goal.invariant-loop-byte
invariant-loop-byte l =
    l.content.items ++ (if l.is_escaped then escaped_content_of (drop l.byte-index l.body) else string_content (drop l.byte-index l.body)) ≡ string_content l.body
