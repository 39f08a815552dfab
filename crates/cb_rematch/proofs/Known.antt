-- A set of keys that gets one key more.
use Rattle.std.proofs.Common.{◌≡◌, ◌||◌, ◌+◌, ◌<◌, ℕ, Bool, true, false, List, ◌∷◌, length, get_or, drop, drop-cons, add-one, cond, refl, sym, ap, ◌∙◌}
use Rattle.std.specs.BTreeMap.{is_at}
use Rattle.std.specs.Map.{keys_of}
use Rattle.cb_exprs.specs.Bindings.{Bindings}
use Rattle.cb_matches.specs.Internal.KeyLaws.{key_equiv, key_tied}
use Rattle.cb_matches.specs.Keys.{KeyValue, key_cmp, key_eq}

at_key : (k x : KeyValue) → is_at (key_cmp x) k ≡ key_eq k x
at_key k x = sym (key_tied x k) ∙ key_equiv.symm x k

or_later : (here before later : Bool) → (cond here true before || later) ≡ (before || (here || later))
or_later true true later = refl
or_later true false later = refl
or_later false true later = refl
or_later false false later = refl

-- what is known of a key with the key x more, and what is left
pub one_more : (k x : KeyValue) (before after later : Bool) → after ≡ cond (is_at (key_cmp x) k) true before → (after || later) ≡ (before || (key_eq k x || later))
one_more k x before after later h = ap (λ b. b || later) (h ∙ ap (λ here. cond here true before) (at_key k x)) ∙ or_later (key_eq k x) before later

-- the next key of those that are left
pub next_key : (ms : List (KeyValue × Bindings)) (i : ℕ) (m : KeyValue × Bindings) → m ≡ get_or ms i m → i < length ms → (k : KeyValue) → k ≡ m.0 → keys_of (drop i ms) ≡ k ∷ keys_of (drop (i + 1) ms)
next_key ms i m is h k same =
    let cut : drop i ms ≡ get_or ms i m ∷ drop (i + 1) ms = rw (add-one, drop-cons ms i m) refl in
    ap keys_of cut ∙ ap (λ it. it ∷ keys_of (drop (i + 1) ms)) (ap (λ it. it.0) (sym is) ∙ sym same)
