-- The first fault of a list, where some lists are open before it.
use Rattle.std.proofs.Common.{◌≡◌, ◌≤◌, ◌<◌, ◌+◌, ◌-◌, ◌⊎◌, inl, inr, ◌++◌, ℕ, Bool, true, false, List, [], ◌∷◌, Option, Some, None, Ok, Err, refl, sym, ap, ◌∙◌, arith, if◌then◌else◌, nat_le, subst}
use Rattle.std.proofs.lemmas.Bool.{leb-true, leb-false}
use Rattle.std.specs.List.{flat_map}
use Rattle.cb_forms.specs.Bytes.{begins_with, opening}
use Rattle.cb_forms.specs.Items.{is_open_list, items, parts, piece_readings, readings_of}
use Rattle.cb_forms.specs.Lists.{first_fault, first_tree, levels_of, fault_or, list_reading}
use Rattle.cb_forms.specs.Pieces.{lexeme_of, lexemes}
use Rattle.cb_forms.specs.Trees.{Tree}
use Rattle.cb_forms.specs.declared.fault.Fault.{Fault}
use Rattle.cb_forms.specs.declared.fault.Fault.TheVariants.{FormNotClosed, NestingTooDeep}
use Rattle.cb_forms.specs.declared.lexeme.Lexeme.{Lexeme}
use Rattle.cb_forms.specs.declared.lexeme.Lexeme.TheVariants.{Gap, Opening, Closing, Atom}
use Rattle.cb_forms.specs.declared.token.Token.{Token}
use Rattle.cb_forms.specs.FirstFaults.{opened, closed, IsFault, FirstFault}

-- the same as `IsFault`, where n lists are open before
abbrev IsFaultIn : ℕ → List Lexeme → Lexeme → Fault → Type 0
IsFaultIn n before l f = (l ≡ Atom (Err f)) ⊎ ((l ≡ Opening) × (f ≡ NestingTooDeep) × (200 + closed before ≤ n + opened before))

record FirstIn (n : ℕ) (ls : List Lexeme) (f : Fault) : Type 0 where
  before : List Lexeme
  lexeme : Lexeme
  after : List Lexeme
  split : ls ≡ before ++ lexeme ∷ after
  fault : IsFaultIn n before lexeme f
  inside : (bs cs : List Lexeme) → before ≡ bs ++ Closing ∷ cs → closed bs + 2 ≤ n + opened bs
  first : (bs : List Lexeme) (l : Lexeme) (cs : List Lexeme) (g : Fault) → before ≡ bs ++ l ∷ cs → IsFaultIn n bs l g → ⊥

none_in_nothing : (bs : List Lexeme) (l : Lexeme) (cs : List Lexeme) → [] ≡ bs ++ l ∷ cs → ⊥
none_in_nothing [] l cs e = absurd (cc)
none_in_nothing (b ∷ bs) l cs e = absurd (cc)

-- a lexeme after which m lists are open where n were
abbrev Moves : ℕ → Lexeme → ℕ → Type 0
Moves n l m = (bs : List Lexeme) → (n + opened (l ∷ bs)) + closed bs ≡ (m + opened bs) + closed (l ∷ bs)

module _ (n m : ℕ) (l : Lexeme) (ls : List Lexeme) (f : Fault) (moves : Moves n l m) where
  fault_after : (bs : List Lexeme) (x : Lexeme) (g : Fault) → IsFaultIn m bs x g → IsFaultIn n (l ∷ bs) x g
  fault_after bs x g (inl is) = inl is
  fault_after bs x g (inr (opens, deep, low)) = inr (opens, deep, (let e = moves bs in omega arith))

  fault_before : (bs : List Lexeme) (x : Lexeme) (g : Fault) → IsFaultIn n (l ∷ bs) x g → IsFaultIn m bs x g
  fault_before bs x g (inl is) = inl is
  fault_before bs x g (inr (opens, deep, low)) = inr (opens, deep, (let e = moves bs in omega arith))

  -- the first fault after a lexeme without one
  later : ((g : Fault) → IsFaultIn n [] l g → ⊥) → (l ≡ Closing → 2 ≤ n) → FirstIn m ls f → FirstIn n (l ∷ ls) f
  later clear closes r = record {
    before = l ∷ r.before;
    lexeme = r.lexeme;
    after = r.after;
    split = ap (λ it. l ∷ it) r.split;
    fault = fault_after r.before r.lexeme f r.fault;
    inside = inside_by;
    first = first_by;
  }
    where
      inside_by : (bs cs : List Lexeme) → l ∷ r.before ≡ bs ++ Closing ∷ cs → closed bs + 2 ≤ n + opened bs
      inside_by [] cs e =
          let is : l ≡ Closing = cc in
          let two = closes is in omega arith
      inside_by (b ∷ bs) cs e =
          let is : l ≡ b = cc in
          let rest : r.before ≡ bs ++ Closing ∷ cs = cc in
          let was = r.inside bs cs rest in
          let moved = moves bs in
          subst (λ it. closed (it ∷ bs) + 2 ≤ n + opened (it ∷ bs)) is (omega arith)

      first_by : (bs : List Lexeme) (x : Lexeme) (cs : List Lexeme) (g : Fault) → l ∷ r.before ≡ bs ++ x ∷ cs → IsFaultIn n bs x g → ⊥
      first_by [] x cs g e is =
          let same : x ≡ l = cc in
          clear g (subst (λ it. IsFaultIn n [] it g) same is)
      first_by (b ∷ bs) x cs g e is =
          let same : b ≡ l = cc in
          let rest : r.before ≡ bs ++ x ∷ cs = cc in
          r.first bs x cs g rest (fault_before bs x g (subst (λ it. IsFaultIn n (it ∷ bs) x g) same is))

  -- the same, taken apart
  earlier : (IsFaultIn n [] l f → ⊥) → FirstIn n (l ∷ ls) f → FirstIn m ls f
  earlier clear r = by r.before r.lexeme r.after r.split r.fault r.inside r.first
    where
      by : (before : List Lexeme) (x : Lexeme) (after : List Lexeme) → l ∷ ls ≡ before ++ x ∷ after → IsFaultIn n before x f → ((bs cs : List Lexeme) → before ≡ bs ++ Closing ∷ cs → closed bs + 2 ≤ n + opened bs) → ((bs : List Lexeme) (y : Lexeme) (cs : List Lexeme) (g : Fault) → before ≡ bs ++ y ∷ cs → IsFaultIn n bs y g → ⊥) → FirstIn m ls f
      by [] x after e is inside first =
          let same : x ≡ l = cc in
          absurd (clear (subst (λ it. IsFaultIn n [] it f) same is))
      by (b ∷ before) x after e is inside first =
          let same : b ≡ l = cc in
          let rest : ls ≡ before ++ x ∷ after = cc in
          record {
            before = before;
            lexeme = x;
            after = after;
            split = rest;
            fault = fault_before before x f (subst (λ it. IsFaultIn n (it ∷ before) x f) same is);
            inside = λ bs cs it.
                let was = subst (λ y. closed (y ∷ bs) + 2 ≤ n + opened (y ∷ bs)) same (inside (b ∷ bs) cs (ap (λ z. b ∷ z) it)) in
                let moved = moves bs in omega arith;
            first = λ bs y cs g it at. first (b ∷ bs) y cs g (ap (λ z. b ∷ z) it) (subst (λ z. IsFaultIn n (z ∷ bs) y g) (sym same) (fault_after bs y g at));
          }

-- The first lexeme is the fault, or it is none, and closes no outermost list.
front : (n : ℕ) (l : Lexeme) (ls : List Lexeme) (f : Fault) → FirstIn n (l ∷ ls) f → IsFaultIn n [] l f ⊎ (((g : Fault) → IsFaultIn n [] l g → ⊥) × (l ≡ Closing → 2 ≤ n))
front n l ls f r = by r.before r.lexeme r.after r.split r.fault r.inside r.first
  where
    by : (before : List Lexeme) (x : Lexeme) (after : List Lexeme) → l ∷ ls ≡ before ++ x ∷ after → IsFaultIn n before x f → ((bs cs : List Lexeme) → before ≡ bs ++ Closing ∷ cs → closed bs + 2 ≤ n + opened bs) → ((bs : List Lexeme) (y : Lexeme) (cs : List Lexeme) (g : Fault) → before ≡ bs ++ y ∷ cs → IsFaultIn n bs y g → ⊥) → IsFaultIn n [] l f ⊎ (((g : Fault) → IsFaultIn n [] l g → ⊥) × (l ≡ Closing → 2 ≤ n))
    by [] x after e is inside first =
        let same : x ≡ l = cc in
        inl (subst (λ it. IsFaultIn n [] it f) same is)
    by (b ∷ before) x after e is inside first =
        let same : b ≡ l = cc in
        inr (
          (λ g at. first [] b before g refl (subst (λ it. IsFaultIn n [] it g) (sym same) at)),
          (λ closes.
              let is_closing : b ≡ Closing = same ∙ closes in
              let two = inside [] before (ap (λ it. it ∷ before) is_closing) in omega arith),
        )

no_gap_is_at_fault : (n : ℕ) (g : Fault) → IsFaultIn n [] Gap g → ⊥
no_gap_is_at_fault n g (inl is) = absurd (cc)
no_gap_is_at_fault n g (inr (is, deep, low)) = absurd (cc)

no_closing_is_at_fault : (n : ℕ) (g : Fault) → IsFaultIn n [] Closing g → ⊥
no_closing_is_at_fault n g (inl is) = absurd (cc)
no_closing_is_at_fault n g (inr (is, deep, low)) = absurd (cc)

no_token_is_at_fault : (n : ℕ) (t : Token) (g : Fault) → IsFaultIn n [] (Atom (Ok t)) g → ⊥
no_token_is_at_fault n t g (inl is) = absurd (cc)
no_token_is_at_fault n t g (inr (is, deep, low)) = absurd (cc)

no_opening_is_at_fault : (n : ℕ) → n < 200 → (g : Fault) → IsFaultIn n [] Opening g → ⊥
no_opening_is_at_fault n high g (inl is) = absurd (cc)
no_opening_is_at_fault n high g (inr (is, deep, low)) = omega arith

moves_by_gap : (n : ℕ) → Moves n Gap n
moves_by_gap n bs = refl

moves_by_token : (n : ℕ) (t : Token) → Moves n (Atom (Ok t)) n
moves_by_token n t bs = refl

moves_by_opening : (n : ℕ) → Moves n Opening (n + 1)
moves_by_opening n bs = omega arith

moves_by_closing : (n : ℕ) → 1 < n → Moves n Closing (n - 1)
moves_by_closing n high bs = omega arith

-- the first lexeme is the fault
here : (n : ℕ) (l : Lexeme) (ls : List Lexeme) (f : Fault) → IsFaultIn n [] l f → FirstIn n (l ∷ ls) f
here n l ls f is = record {
  before = [];
  lexeme = l;
  after = ls;
  split = refl;
  fault = is;
  inside = λ bs cs e. absurd (none_in_nothing bs Closing cs e);
  first = λ bs x cs g e at. none_in_nothing bs x cs e;
}

sound : (n : ℕ) (ls : List Lexeme) (f : Fault) → first_fault n ls ≡ Some f → FirstIn n ls f
sound n [] f h = absurd (cc)
sound n (Gap ∷ ls) f h = later n n Gap ls f (moves_by_gap n) (no_gap_is_at_fault n) (λ e. absurd (cc)) (sound n ls f h)
sound n (Opening ∷ ls) f h = by (nat_le 200 n) refl h (sound (n + 1) ls f)
  where
    by : (t : Bool) → nat_le 200 n ≡ t → (if t then Some NestingTooDeep else first_fault (n + 1) ls) ≡ Some f → (first_fault (n + 1) ls ≡ Some f → FirstIn (n + 1) ls f) → FirstIn n (Opening ∷ ls) f
    by true e is more =
        let deep : f ≡ NestingTooDeep = cc in
        let low = leb-true 200 n e in
        here n Opening ls f (inr (refl, deep, omega arith))
    by false e is more = later n (n + 1) Opening ls f (moves_by_opening n) (no_opening_is_at_fault n (leb-false 200 n e)) (λ e'. absurd (cc)) (more is)
sound n (Closing ∷ ls) f h = by (nat_le n 1) refl h (sound (n - 1) ls f)
  where
    by : (t : Bool) → nat_le n 1 ≡ t → (if t then None else first_fault (n - 1) ls) ≡ Some f → (first_fault (n - 1) ls ≡ Some f → FirstIn (n - 1) ls f) → FirstIn n (Closing ∷ ls) f
    by true e is more = absurd (cc)
    by false e is more =
        let high = leb-false n 1 e in
        later n (n - 1) Closing ls f (moves_by_closing n high) (no_closing_is_at_fault n) (λ e'. omega arith) (more is)
sound n (Atom (Ok t) ∷ ls) f h = later n n (Atom (Ok t)) ls f (moves_by_token n t) (no_token_is_at_fault n t) (λ e. absurd (cc)) (sound n ls f h)
sound n (Atom (Err g) ∷ ls) f h =
    let same : g ≡ f = cc in
    here n (Atom (Err g)) ls f (inl (ap (λ it. Atom (Err it)) same))

complete : (n : ℕ) (ls : List Lexeme) (f : Fault) → FirstIn n ls f → first_fault n ls ≡ Some f
complete n [] f r = absurd (none_in_nothing r.before r.lexeme r.after r.split)
complete n (Gap ∷ ls) f r = complete n ls f (earlier n n Gap ls f (moves_by_gap n) (no_gap_is_at_fault n f) r)
complete n (Opening ∷ ls) f r = by (nat_le 200 n) refl (complete (n + 1) ls f)
  where
    deep : IsFaultIn n [] Opening f ⊎ (((g : Fault) → IsFaultIn n [] Opening g → ⊥) × (Opening ≡ Closing → 2 ≤ n)) → 200 ≤ n → Some NestingTooDeep ≡ Some f
    deep (inl (inl is)) low = absurd (cc)
    deep (inl (inr (is, same, high))) low = ap Some (sym same)
    deep (inr (clear, closes)) low = absurd (clear NestingTooDeep (inr (refl, refl, omega arith)))

    by : (t : Bool) → nat_le 200 n ≡ t → (FirstIn (n + 1) ls f → first_fault (n + 1) ls ≡ Some f) → (if t then Some NestingTooDeep else first_fault (n + 1) ls) ≡ Some f
    by true e more = deep (front n Opening ls f r) (leb-true 200 n e)
    by false e more = more (earlier n (n + 1) Opening ls f (moves_by_opening n) (no_opening_is_at_fault n (leb-false 200 n e) f) r)
complete n (Closing ∷ ls) f r = by (nat_le n 1) refl (complete (n - 1) ls f)
  where
    low : IsFaultIn n [] Closing f ⊎ (((g : Fault) → IsFaultIn n [] Closing g → ⊥) × (Closing ≡ Closing → 2 ≤ n)) → 2 ≤ n
    low (inl is) = absurd (no_closing_is_at_fault n f is)
    low (inr (clear, closes)) = closes refl

    by : (t : Bool) → nat_le n 1 ≡ t → (FirstIn (n - 1) ls f → first_fault (n - 1) ls ≡ Some f) → (if t then None else first_fault (n - 1) ls) ≡ Some f
    by true e more =
        let few = leb-true n 1 e in
        let many = low (front n Closing ls f r) in
        absurd (omega arith)
    by false e more = more (earlier n (n - 1) Closing ls f (moves_by_closing n (leb-false n 1 e)) (no_closing_is_at_fault n f) r)
complete n (Atom (Ok t) ∷ ls) f r = complete n ls f (earlier n n (Atom (Ok t)) ls f (moves_by_token n t) (no_token_is_at_fault n t f) r)
complete n (Atom (Err g) ∷ ls) f r = by (front n (Atom (Err g)) ls f r)
  where
    by : IsFaultIn n [] (Atom (Err g)) f ⊎ (((h : Fault) → IsFaultIn n [] (Atom (Err g)) h → ⊥) × (Atom (Err g) ≡ Closing → 2 ≤ n)) → Some g ≡ Some f
    by (inl (inl is)) = cc
    by (inl (inr (is, deep, low))) = absurd (cc)
    by (inr (clear, closes)) = absurd (clear g (inl refl))

counted : (before : List Lexeme) (l : Lexeme) (f : Fault) → IsFaultIn 0 before l f → IsFault before l f
counted before l f (inl is) = inl is
counted before l f (inr (opens, deep, low)) = inr (opens, deep, omega arith)

uncounted : (before : List Lexeme) (l : Lexeme) (f : Fault) → IsFault before l f → IsFaultIn 0 before l f
uncounted before l f (inl is) = inl is
uncounted before l f (inr (opens, deep, low)) = inr (opens, deep, omega arith)

fault_of : (o : Option Fault) (t : Tree) (f : Fault) → fault_or o t ≡ Err f → o ≡ Some f
fault_of None t f h = absurd (cc)
fault_of (Some g) t f h = cc

pub first_is_found : (s : List ℕ) (f : Fault) → list_reading (lexemes s) ≡ Err f → FirstFault s f
first_is_found s f h =
    let r = sound 0 (lexemes s) f (fault_of (first_fault 0 (lexemes s)) (first_tree (levels_of (lexemes s))) f h) in
    record {
      before = r.before;
      lexeme = r.lexeme;
      after = r.after;
      split = r.split;
      fault = counted r.before r.lexeme f r.fault;
      inside = λ bs cs e. let was = r.inside bs cs e in omega arith;
      first = λ bs l cs g e at. r.first bs l cs g e (uncounted bs l g at);
    }

pub found_is_first : (s : List ℕ) (f : Fault) → FirstFault s f → list_reading (lexemes s) ≡ Err f
found_is_first s f r =
    let is = complete 0 (lexemes s) f (record {
      before = r.before;
      lexeme = r.lexeme;
      after = r.after;
      split = r.split;
      fault = uncounted r.before r.lexeme f r.fault;
      inside = λ bs cs e. let was = r.inside bs cs e in omega arith;
      first = λ bs l cs g e at. r.first bs l cs g e (counted bs l g at);
    }) in
    ap (λ o. fault_or o (first_tree (levels_of (lexemes s)))) is

-- the one item of a text that is one closed list
pub faulty_item : (s : List ℕ) (f : Fault) → parts s ≡ s ∷ [] → begins_with opening s ≡ true → is_open_list s ≡ false → FirstFault s f → items s ≡ Err f ∷ []
unfolding items
faulty_item s f alone begins shut first =
    ap (flat_map readings_of) alone
    ∙ (ap (λ b. (if b then (if is_open_list s then Err FormNotClosed else list_reading (lexemes s)) ∷ [] else piece_readings (lexeme_of s)) ++ []) begins
    ∙ (ap (λ b. (if b then Err FormNotClosed else list_reading (lexemes s)) ∷ []) shut
    ∙ ap (λ r. r ∷ []) (found_is_first s f first)))
