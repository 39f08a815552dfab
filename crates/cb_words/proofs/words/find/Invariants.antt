use Rattle.std.proofs.Common.{◌≡◌, map, drop}
use Rattle.std.specs.Map.{lookup}
use Rattle.std.specs.Str.{bytes_eq}
use Rattle.cb_words.proofs.words.find.Given as goal

abbrev pub invariant-loop-known : goal.invariant-loop-known
invariant-loop-known l =
    lookup (bytes_eq l.word) (map (λ row. (row.0.now, row.1)) (drop l.known-index l.rows)) ≡ lookup (bytes_eq l.word) (map (λ row. (row.0.now, row.1)) l.rows)
