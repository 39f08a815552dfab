-- Parts that are compared from the last on.
use Rattle.std.proofs.Common.{◌≡◌, ◌≢◌, ◌∙◌, ◌==◌, ◌↔◌, ◌++◌, ℕ, suc, Bool, true, List, [], ◌∷◌, Option, Some, ap, ap₂, length, nat_eq, sym}
use Rattle.std.proofs.lemmas.Bool.Decides.{Decides-eqb}
use Rattle.std.proofs.lemmas.List.{nil_from_length, same_from_push}
use Rattle.std.specs.Bool.{Decides}
use Rattle.std.specs.Cmp.Lexicographic.{pointwise, pointwise_decides}
use Rattle.std.specs.List.{IsLastAndRest}
use Rattle.cb_beta.specs.BetaMemories.{BetaMemoryValue}
use Rattle.cb_beta.specs.Tokens.{TakenValue, TokenValue, with_taken}
use Rattle.cb_matches.specs.Keys.{PartValue, part_eq}
use Rattle.cb_matches.specs.Matches.{Partial}
use Rattle.cb_nodes.proofs.Grown.{and_both, and_first, and_second}
use Rattle.cb_token_lists.specs.Partials.{SourceValue, partial_in}

make_part : ℕ → List ℕ → PartValue
make_part ix cuts = record { index = ix; cuts = cuts }

-- `==` of parts is equality
pub part_Decides : (p q : PartValue) → Decides (part_eq p q) (p ≡ q)
unfolding make_part
part_Decides p q = (
  λ h. ap₂ make_part ((Decides-eqb _ _).0 (and_first (nat_eq p.index q.index) _ h)) ((pointwise_decides Decides-eqb p.cuts q.cuts).0 (and_second (nat_eq p.index q.index) _ h)),
  λ e. and_both (nat_eq p.index q.index) (pointwise nat_eq p.cuts q.cuts) ((Decides-eqb _ _).1 (ap (λ it. it.index) e)) ((pointwise_decides Decides-eqb p.cuts q.cuts).1 (ap (λ it. it.cuts) e)),
)

-- the part of what a token took
abbrev pub part_of : TakenValue → PartValue
part_of t = record { index = t.index; cuts = t.way.cuts }

module _ (x : Option (List ℕ)) (t : TakenValue) (all before : List PartValue) (last : PartValue) (is : IsLastAndRest all last before) (m : Partial) where
  pub same_before : part_of t ≡ last → ((with_taken x (Some t) m).parts ≡ all) ↔ (m.parts ≡ before)
  same_before e = (
    λ h. (same_from_push m.parts before (part_of t) last (h ∙ is.0)).0,
    λ h. ap₂ (λ (ps : List PartValue) (p : PartValue). ps ++ p ∷ []) h e ∙ sym is.0,
  )

  pub other_last : part_of t ≢ last → (with_taken x (Some t) m).parts ≢ all
  other_last d h = d (same_from_push m.parts before (part_of t) last (h ∙ is.0)).1

-- one list further down
pub parts_further : (sources : List SourceValue) (lists : List BetaMemoryValue) (P : Type 0) (n list i : ℕ) (s : SourceValue) (t : TokenValue) (left before : List PartValue)
    → (P ↔ ((partial_in sources lists (suc n) list i).parts ≡ left)) → partial_in sources lists (suc n) list i ≡ with_taken s.address t.taken (partial_in sources lists n s.from t.parent)
    → (((with_taken s.address t.taken (partial_in sources lists n s.from t.parent)).parts ≡ left) ↔ ((partial_in sources lists n s.from t.parent).parts ≡ before))
    → (P ↔ ((partial_in sources lists n s.from t.parent).parts ≡ before))
parts_further sources lists P n list i s t left before was goes less = (
  λ h. less.0 (ap (λ (it : Partial). it.parts) (sym goes) ∙ was.0 h),
  λ h. was.1 (ap (λ (it : Partial). it.parts) goes ∙ less.1 h),
)

-- no part is left
pub none_left : (P : Type 0) (z : Partial) (left : List PartValue) (b : Bool) → z.parts ≡ [] → b ≡ (length left == 0) → (P ↔ (z.parts ≡ left)) → ((b ≡ true) ↔ P)
none_left P z left b none is was = (
  λ e. was.1 (none ∙ sym (nil_from_length left ((Decides-eqb (length left) 0).0 (sym is ∙ e)))),
  λ h. is ∙ (Decides-eqb (length left) 0).1 (ap length (sym (was.0 h) ∙ none)),
)
