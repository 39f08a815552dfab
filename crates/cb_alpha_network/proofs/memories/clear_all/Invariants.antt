use Rattle.std.proofs.Common.{◌≡◌, ◌<◌, ◌≤◌, ℕ, length}
use Rattle.cb_alpha_network.specs.Networks.{memory_in, no_memory}
use Rattle.cb_alpha_network.proofs.memories.clear_all.Given as goal

abbrev pub invariant-loop-memory : goal.invariant-loop-memory
invariant-loop-memory l = record {
  done : (n : ℕ) → n < l.memory-index → memory_in l.memory-items n ≡ record no_memory { joins = (memory_in l.initial.memory-items n).joins };
  ahead : (n : ℕ) → l.memory-index ≤ n → memory_in l.memory-items n ≡ memory_in l.initial.memory-items n;
  long : length l.memory-items ≡ length l.initial.memory-items;
}
