-- Histories after single reads and writes.
use Rattle.std.proofs.Common.{◌≡◌, [], ◌∷◌, refl}
use Rattle.cb_io.specs.Histories.{after_read, after_write, no_reads, no_writes}

-- a read into no room gives no byte, and that isn't the end
no_room : after_read no_reads 0 0 [] ≡ no_reads
no_room = refl

-- no byte where there is room for one
the_end : after_read no_reads 1 0 [] ≡ record { bytes = []; ends = 1; failures = 0 }
the_end = refl

-- one byte of two that there was room for
some_bytes : after_read no_reads 2 1 (65 ∷ []) ≡ record { bytes = 65 ∷ []; ends = 0; failures = 0 }
some_bytes = refl

-- nothing was offered, and none was taken where one was offered
nothing_offered : after_write no_writes 0 0 [] ≡ no_writes
nothing_offered = refl

nothing_taken : after_write no_writes 1 0 [] ≡ record { bytes = []; failures = 1 }
nothing_taken = refl
