-- Bytes that came and went in several steps.
use Rattle.std.proofs.Common.{◌≡◌, ◌<◌, ℕ, List, [], ◌++◌, Option, Some, None, refl, sym, ap, ◌∙◌, subst}
use Rattle.std.proofs.lemmas.List.{append_assoc, append-nil}
use Rattle.cb_io.specs.Histories.{PastWrites}
use Rattle.cb_io.specs.Moved.{Gave, IsAtEnd}
use Rattle.cb_io.specs.Output.{OutState, Puts, all_put, extent_at}
use Rattle.cb_io.specs.declared.stop.Stop.{Stop}
use Rattle.cb_io.specs.declared.stop.Stop.TheVariants as stop

-- one read after another
pub gave_then : (a b c : Option (List ℕ)) (xs ys : List ℕ) → Gave a b xs → Gave b c ys → Gave a c (xs ++ ys)
gave_then None b c xs ys first second = tt
gave_then (Some had) b c xs ys first second =
    let P : Option (List ℕ) → Type 0 = λ it. Gave it c ys in
    let next = subst P first.2 second in
    (next.0, first.1 ∙ (ap (λ it. xs ++ it) next.1 ∙ sym (append_assoc xs ys next.0)), next.2)

pub gave_none : (a : Option (List ℕ)) → Gave a a []
gave_none None = tt
gave_none (Some had) = (had, refl, refl)

-- all was read
pub read_all : (s p : List ℕ) (from' : Option (List ℕ)) → Gave (Some s) from' p → IsAtEnd from' → s ≡ p
read_all s p from' read end =
    let nothing : read.0 ≡ [] = subst IsAtEnd read.2 end in
    read.1 ∙ (ap (λ it. p ++ it) nothing ∙ append-nil p)

-- all of the bytes were written
pub record WroteAll (bytes : List ℕ) (writes writes' : PastWrites) : Type 0 where
  pub bytes_are : writes'.bytes ≡ writes.bytes ++ bytes
  pub failures : writes'.failures ≡ writes.failures

-- a beginning of the bytes was written, before a stop
pub record WroteBegun (bytes : List ℕ) (writes writes' : PastWrites) (s : Stop) : Type 0 where
  pub written : List ℕ
  pub unwritten : List ℕ
  pub is : bytes ≡ written ++ unwritten
  pub bytes_are : writes'.bytes ≡ writes.bytes ++ written
  pub no_memory : s ≡ stop.NoMemory → writes'.failures ≡ writes.failures
  pub write_fault : s ≡ stop.WriteFault → writes.failures < writes'.failures

module _ {K : Type 0} (writes : K → PastWrites) (o o1 : OutState K) (bytes : List ℕ) (none : o.pending ≡ []) where
  pub wrote-all : o1.pending ≡ [] → Puts writes o o1 all_put bytes → WroteAll bytes (writes o.sink) (writes o1.sink)
  unfolding Puts
  wrote-all flushed h = record {
    bytes_are =
        let moved : h.passed.0 ≡ bytes = sym (append-nil h.passed.0) ∙ (ap (λ it. h.passed.0 ++ it) (sym flushed) ∙ (h.passed.2 ∙ ap (λ it. it ++ bytes) none)) in
        h.passed.1 ∙ ap (λ it. (writes o.sink).bytes ++ it) moved;
    failures = h.counts;
  }

  pub wrote-begun : (s : Stop) → (s ≡ stop.NoMemory → o1.pending ≡ []) → Puts writes o o1 (extent_at s) bytes → WroteBegun bytes (writes o.sink) (writes o1.sink) s
  unfolding Puts
  wrote-begun stop.NoMemory flushed h =
      let all = h.all in
      let moved : all.passed.0 ≡ h.put = sym (append-nil all.passed.0) ∙ (ap (λ it. all.passed.0 ++ it) (sym (flushed refl)) ∙ (all.passed.2 ∙ ap (λ it. it ++ h.put) none)) in
      record {
        written = h.put;
        unwritten = h.unput;
        is = h.is;
        bytes_are = all.passed.1 ∙ ap (λ it. (writes o.sink).bytes ++ it) moved;
        no_memory = λ _. all.counts;
        write_fault = λ e. cc;
      }
  wrote-begun stop.WriteFault flushed h = record {
    written = h.passed.1.0;
    unwritten = h.passed.0;
    is = sym (h.passed.1.2 ∙ ap (λ it. it ++ bytes) none);
    bytes_are = h.passed.1.1;
    no_memory = λ e. cc;
    write_fault = λ _. h.counts;
  }
