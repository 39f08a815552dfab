-- Calls that put bytes, one after another.
use Rattle.std.proofs.Common.{◌≡◌, ◌<◌, ℕ, false, List, [], ◌++◌, refl, sym, ap, ◌∙◌, subst, append_assoc}
use Rattle.std.proofs.lemmas.List.{append-nil}
use Rattle.cb_io.specs.Histories.{PastWrites}
use Rattle.cb_io.specs.Output.{OutState, PassedSome, Extent, all_put, out_of_memory, write_failed, PutAll, Puts}
use Rattle.cb_io.proofs.Passing.{passed_none, passed_two, passed_some_two, passed_some_more}

module _ {K : Type 0} (writes : K → PastWrites) where
  all_then : (o o1 o2 : OutState K) (w v : List ℕ) → PutAll writes o o1 w → PutAll writes o1 o2 v → PutAll writes o o2 (w ++ v)
  all_then o o1 o2 w v first now = record {
    passed = passed_two _ _ _ _ _ _ _ _ first.passed now.passed;
    fine = now.fine;
    counts = now.counts ∙ first.counts;
  }

  -- nothing is put
  pub puts_none : (o : OutState K) → o.fault ≡ false → Puts writes o o all_put []
  unfolding Puts
  puts_none o fine = record { passed = passed_none (writes o.sink).bytes o.pending; fine = fine; counts = refl }

  -- a call after one that put all
  pub puts_then : (o o1 o2 : OutState K) (e : Extent) (w v : List ℕ) → Puts writes o o1 all_put w → Puts writes o1 o2 e v → Puts writes o o2 e (w ++ v)
  unfolding Puts
  puts_then o o1 o2 all_put w v first now = all_then o o1 o2 w v first now
  puts_then o o1 o2 out_of_memory w v first now = record {
    put = w ++ now.put;
    unput = now.unput;
    is = ap (λ it. w ++ it) now.is ∙ sym (append_assoc w now.put now.unput);
    all = all_then o o1 o2 w now.put first now.all;
  }
  puts_then o o1 o2 write_failed w v first now = record {
    passed = passed_some_two _ _ _ _ _ _ _ first.passed now.passed;
    counts = rw (← first.counts) now.counts;
  }

  -- more was to be put, and memory was refused before
  pub puts_refused : (o o1 : OutState K) (w v : List ℕ) → Puts writes o o1 all_put w → Puts writes o o1 out_of_memory (w ++ v)
  unfolding Puts
  puts_refused o o1 w v h = record { put = w; unput = v; is = refl; all = h }

  -- nothing was put, and memory was refused
  pub puts_nothing : (o : OutState K) (v : List ℕ) → o.fault ≡ false → Puts writes o o out_of_memory v
  puts_nothing o v fine = puts_refused o o [] v (puts_none o fine)

  -- more was to be put after a call that broke off
  pub puts_less : (o o1 : OutState K) (w v : List ℕ) → Puts writes o o1 out_of_memory w → Puts writes o o1 out_of_memory (w ++ v)
  unfolding Puts
  puts_less o o1 w v h = record {
    put = h.put;
    unput = h.unput ++ v;
    is = ap (λ it. it ++ v) h.is ∙ append_assoc h.put h.unput v;
    all = h.all;
  }

  pub puts_failed : (o o1 : OutState K) (w v : List ℕ) → Puts writes o o1 write_failed w → Puts writes o o1 write_failed (w ++ v)
  unfolding Puts
  puts_failed o o1 w v h =
      let P : List ℕ → Type 0 = λ it. PassedSome (writes o.sink).bytes (writes o1.sink).bytes it in
      record {
        passed = subst P (append_assoc o.pending w v) (passed_some_more _ _ (o.pending ++ w) v h.passed);
        counts = h.counts;
      }

  -- what was put before memory was refused is written, or a write fails
  pub puts_part_then : (o o1 o2 : OutState K) (w : List ℕ) → Puts writes o o1 out_of_memory w → Puts writes o1 o2 all_put [] → Puts writes o o2 out_of_memory w
  unfolding Puts
  puts_part_then o o1 o2 w h now =
      let all : PutAll writes o o2 (h.put ++ []) = all_then o o1 o2 h.put [] h.all now in
      record { put = h.put; unput = h.unput; is = h.is; all = subst (λ (it : List ℕ). PutAll writes o o2 it) (append-nil h.put) all }

  pub puts_part_failed : (o o1 o2 : OutState K) (w : List ℕ) → Puts writes o o1 out_of_memory w → Puts writes o1 o2 write_failed [] → Puts writes o o2 write_failed w
  unfolding Puts
  puts_part_failed o o1 o2 w h now =
      let some : PassedSome (writes o.sink).bytes (writes o2.sink).bytes (o.pending ++ (h.put ++ [])) = passed_some_two _ _ _ _ _ h.put [] h.all.passed now.passed in
      let put : PassedSome (writes o.sink).bytes (writes o2.sink).bytes (o.pending ++ h.put) = subst (λ (it : List ℕ). PassedSome (writes o.sink).bytes (writes o2.sink).bytes (o.pending ++ it)) (append-nil h.put) some in
      record {
        passed = subst (λ (it : List ℕ). PassedSome (writes o.sink).bytes (writes o2.sink).bytes it) (append_assoc o.pending h.put h.unput ∙ ap (λ it. o.pending ++ it) (sym h.is)) (passed_some_more _ _ (o.pending ++ h.put) h.unput put);
        counts = rw (← h.all.counts) now.counts;
      }

  -- the extent and the bytes under other names
  pub puts_as : (o o1 : OutState K) (e e' : Extent) (w w' : List ℕ) → e' ≡ e → w' ≡ w → Puts writes o o1 e w → Puts writes o o1 e' w'
  puts_as o o1 e e' w w' same is h =
      let P : Extent → Type 0 = λ it. Puts writes o o1 it w' in
      let Q : List ℕ → Type 0 = λ it. Puts writes o o1 e it in
      subst P (sym same) (subst Q (sym is) h)

  -- the output is as it should be
  pub puts_fine : (o o1 : OutState K) (w : List ℕ) → Puts writes o o1 all_put w → o1.fault ≡ false
  unfolding Puts
  puts_fine o o1 w h = h.fine

  pub puts_fine_part : (o o1 : OutState K) (w : List ℕ) → Puts writes o o1 out_of_memory w → o1.fault ≡ false
  unfolding Puts
  puts_fine_part o o1 w h = h.all.fine

-- what one call of `Out` does
module _ {K : Type 0} (writes : K → PastWrites) (o o1 : OutState K) (bytes : List ℕ) where
  -- the bytes wait
  pub puts_kept : o1.sink ≡ o.sink → o1.pending ≡ o.pending ++ bytes → o1.fault ≡ false → Puts writes o o1 all_put bytes
  unfolding Puts
  puts_kept same kept fine = record {
    passed = ([], ap (λ s. (writes s).bytes) same ∙ sym (append-nil (writes o.sink).bytes), kept);
    fine = fine;
    counts = ap (λ s. (writes s).failures) same;
  }

  -- all is written
  pub puts_written : (writes o1.sink).bytes ≡ (writes o.sink).bytes ++ (o.pending ++ bytes) → (writes o1.sink).failures ≡ (writes o.sink).failures → o1.pending ≡ [] → o1.fault ≡ false
      → Puts writes o o1 all_put bytes
  unfolding Puts
  puts_written took counts none fine = record {
    passed = (o.pending ++ bytes, took, ap (λ it. (o.pending ++ bytes) ++ it) none ∙ append-nil (o.pending ++ bytes));
    fine = fine;
    counts = counts;
  }

  -- a write fails
  pub puts_unwritten : PassedSome (writes o.sink).bytes (writes o1.sink).bytes (o.pending ++ bytes) → (writes o.sink).failures < (writes o1.sink).failures → Puts writes o o1 write_failed bytes
  unfolding Puts
  puts_unwritten passed counts = record { passed = passed; counts = counts }
