-- Lists that are put line by line.
use Rattle.std.proofs.Common.{◌≡◌, ◌<◌, ◌+◌, ◌∙◌, ◌++◌, ◌∷◌, [], ℕ, List, Err, Result, add-one, ap, append_assoc, drop, drop-cons, false, get_or, length, refl, suc, sym}
use Rattle.std.proofs.lemmas.List.{append-nil}
use Rattle.std.specs.List.{flat_map}
use Rattle.cb_actions.proofs.ActLaws.{stopped-more}
use Rattle.cb_io.specs.declared.stop.Stop.{Stop}
use Rattle.cb_io.specs.Histories.{PastWrites}
use Rattle.cb_io.specs.Output.{OutState, Puts, all_put, extent_at, stop_extent}
use Rattle.cb_io.proofs.PutLaws.{puts_as, puts_none, puts_then}
use Rattle.cb_lines.specs.Lines.{total_line}
use Rattle.cb_lines.specs.declared.totals.Noun.{Noun}
use Rattle.cb_session.specs.Listings.{listing}

-- the next of a list, and the rest
pub next_item : {X : Type 0} (xs : List X) (i : ℕ) (x : X) → i < length xs → x ≡ get_or xs i x → drop i xs ≡ x ∷ drop (i + 1) xs
next_item xs i x below is = rw (add-one, drop-cons xs i x) (ap (λ it. it ∷ drop (suc i) xs) (sym is))

-- the lines of those before the rest were put
pub record AreBegun {K X : Type 0} (writes : K → PastWrites) (line : X → List ℕ) (o o1 : OutState K) (xs rest : List X) : Type 0 where
  pub done : List ℕ
  pub all : done ++ flat_map line rest ≡ flat_map line xs
  pub puts : Puts writes o o1 all_put done

module _ {K X : Type 0} (writes : K → PastWrites) (line : X → List ℕ) where
  pub none_begun : (o : OutState K) (xs : List X) → o.fault ≡ false → AreBegun writes line o o xs xs
  none_begun o xs fine = record { done = []; all = refl; puts = puts_none writes o fine }

  -- one more
  split : (done : List ℕ) (xs rest more : List X) (x : X) → rest ≡ x ∷ more → done ++ flat_map line rest ≡ flat_map line xs → flat_map line xs ≡ done ++ (line x ++ flat_map line more)
  split done xs rest more x cut all = sym all ∙ ap (λ it. done ++ flat_map line it) cut

  pub one_more : (o o1 o2 : OutState K) (xs rest more : List X) (x : X) → rest ≡ x ∷ more → AreBegun writes line o o1 xs rest → Puts writes o1 o2 all_put (line x) → AreBegun writes line o o2 xs more
  one_more o o1 o2 xs rest more x cut begun put = record {
    done = begun.done ++ line x;
    all = append_assoc begun.done (line x) (flat_map line more) ∙ sym (split begun.done xs rest more x cut begun.all);
    puts = puts_then writes o o1 o2 all_put begun.done (line x) begun.puts put;
  }

  -- or it stopped there
  pub one_off : (o o1 o2 : OutState K) (xs rest more : List X) (x : X) (e : Stop) (r : Result (Unit {0}) Stop) → rest ≡ x ∷ more → r ≡ Err e → AreBegun writes line o o1 xs rest → Puts writes o1 o2 (extent_at e) (line x)
      → Puts writes o o2 (stop_extent r) (flat_map line xs)
  one_off o o1 o2 xs rest more x e r cut stopped begun put =
      puts_as writes o o2 _ _ _ _ (ap stop_extent stopped) (split begun.done xs rest more x cut begun.all)
      (puts_then writes o o1 o2 (extent_at e) begun.done (line x ++ flat_map line more) begun.puts (stopped-more writes o1 o2 e (line x) (flat_map line more) put))

  pub all_begun : (o o1 : OutState K) (xs rest : List X) → rest ≡ [] → AreBegun writes line o o1 xs rest → Puts writes o o1 all_put (flat_map line xs)
  all_begun o o1 xs rest none begun =
      puts_as writes o o1 _ _ _ _ refl (sym begun.all ∙ (ap (λ it. begun.done ++ flat_map line it) none ∙ append-nil begun.done)) begun.puts

module _ {K X : Type 0} (writes : K → PastWrites) (line : X → List ℕ) (noun : Noun) (xs : List X) where
  -- the lines, and then the total
  pub listed_off : (o o1 : OutState K) (e : Stop) (r : Result (Unit {0}) Stop) → r ≡ Err e → Puts writes o o1 (extent_at e) (flat_map line xs) → Puts writes o o1 (stop_extent r) (listing line noun xs)
  listed_off o o1 e r stopped put =
      puts_as writes o o1 _ _ _ _ (ap stop_extent stopped) refl (stopped-more writes o o1 e (flat_map line xs) (total_line (length xs) noun) put)

  pub listed_all : (o o1 o2 : OutState K) (r : Result (Unit {0}) Stop) → Puts writes o o1 all_put (flat_map line xs) → Puts writes o1 o2 (stop_extent r) (total_line (length xs) noun)
      → Puts writes o o2 (stop_extent r) (listing line noun xs)
  listed_all o o1 o2 r lines total = puts_then writes o o1 o2 (stop_extent r) (flat_map line xs) (total_line (length xs) noun) lines total
