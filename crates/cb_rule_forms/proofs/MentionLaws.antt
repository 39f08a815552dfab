-- Mentions, one part after another.
use Rattle.std.proofs.Common.{◌≡◌, ◌<◌, ◌+◌, ◌∙◌, ◌++◌, ◌&&◌, ℕ, Bool, true, false, List, [], ◌∷◌, Option, Some, None, Result, Err, drop, get_or, length, map, refl, subst, sym, ap, append_assoc}
use Rattle.std.proofs.lemmas.List.{at_drop_more}
use Rattle.std.proofs.lemmas.List.Folds.{flat_map-map}
use Rattle.std.specs.List.{flat_map, list_all}
use Rattle.cb_facts.specs.FaultLists.{first_of, unless}
use Rattle.cb_facts.specs.declared.refused.Refused.{Refused}
use Rattle.cb_facts.specs.declared.refused.Refused.TheVariants as refused
use Rattle.cb_expr_forms.specs.Scopes.{is_known}
use Rattle.cb_forms.specs.declared.fault.Fault.{Fault}
use Rattle.cb_forms.specs.declared.fault.Fault.TheVariants.{UnboundVariable}
use Rattle.cb_rule_forms.specs.Internal.{Knows}
use Rattle.cb_rule_forms.specs.Mentions.{Mention, after_mention, apart_mentions, known_after, mention_fault, mention_faults, needed, with_name}
use Rattle.cb_facts.proofs.FirstFaults.{first_append}

-- the mentions that are left, with the variables known so far, are what the others were at first
abbrev pub Same : List (List ℕ) → List Mention → List (List ℕ) → List Mention → Type 0
Same known ms first all = (mention_faults known ms ≡ mention_faults first all) × (known_after known ms ≡ known_after first all)

pub faults_append : (known : List (List ℕ)) (ms ns : List Mention) → mention_faults known (ms ++ ns) ≡ mention_faults known ms ++ mention_faults (known_after known ms) ns
faults_append known [] ns = refl
faults_append known (m ∷ ms) ns =
    ap (λ fs. mention_fault known m ++ fs) (faults_append (after_mention known m) ms ns)
    ∙ sym (append_assoc (mention_fault known m) (mention_faults (after_mention known m) ms) (mention_faults (known_after (after_mention known m) ms) ns))

pub known_append : (known : List (List ℕ)) (ms ns : List Mention) → known_after known (ms ++ ns) ≡ known_after (known_after known ms) ns
known_append known [] ns = refl
known_append known (m ∷ ms) ns = known_append (after_mention known m) ms ns

-- the variables that are needed give no value
pub needed_after : (known names : List (List ℕ)) → known_after known (map needed names) ≡ known
needed_after known [] = refl
needed_after known (x ∷ names) = needed_after known names

first_all : (t : Bool) (known names : List (List ℕ)) → (t && list_all (is_known known) names) ≡ true → (list_all (is_known known) names ≡ true → mention_faults known (map needed names) ≡ [])
    → unless t UnboundVariable ++ mention_faults known (map needed names) ≡ []
first_all true known names h next = next h
first_all false known names h next = absurd (cc)

pub needed_all : (known names : List (List ℕ)) → list_all (is_known known) names ≡ true → mention_faults known (map needed names) ≡ []
needed_all known [] h = refl
needed_all known (x ∷ names) h = first_all (is_known known x) known names h (λ e. needed_all known names e)

first_some : (t : Bool) (known names : List (List ℕ)) → (t && list_all (is_known known) names) ≡ false
    → (list_all (is_known known) names ≡ false → first_of (mention_faults known (map needed names)) ≡ Some UnboundVariable)
    → first_of (unless t UnboundVariable ++ mention_faults known (map needed names)) ≡ Some UnboundVariable
first_some true known names h next = next h
first_some false known names h next = refl

pub needed_some : (known names : List (List ℕ)) → list_all (is_known known) names ≡ false → first_of (mention_faults known (map needed names)) ≡ Some UnboundVariable
needed_some known [] h = absurd (cc)
needed_some known (x ∷ names) h = first_some (is_known known x) known names h (λ e. needed_some known names e)

-- a variable that is set apart, and then those that are needed
pub either_right : (old new : List (List ℕ)) (o : Option (List ℕ)) (names : List (List ℕ)) → new ≡ known_after old (apart_mentions o) → list_all (is_known new) names ≡ true
    → (mention_faults old (apart_mentions o ++ map needed names) ≡ []) × (new ≡ known_after old (apart_mentions o ++ map needed names))
either_right old new None names is all =
    (ap (λ k. mention_faults k (map needed names)) (sym is) ∙ needed_all new names all, is ∙ sym (needed_after old names))
either_right old new (Some x) names is all =
    (ap (λ k. mention_faults k (map needed names)) (sym is) ∙ needed_all new names all, is ∙ sym (needed_after (with_name old x) names))

pub either_wrong : (old new : List (List ℕ)) (o : Option (List ℕ)) (names : List (List ℕ)) → new ≡ known_after old (apart_mentions o) → list_all (is_known new) names ≡ false
    → first_of (mention_faults old (apart_mentions o ++ map needed names)) ≡ Some UnboundVariable
either_wrong old new None names is all = ap (λ k. first_of (mention_faults k (map needed names))) (sym is) ∙ needed_some new names all
either_wrong old new (Some x) names is all = ap (λ k. first_of (mention_faults k (map needed names))) (sym is) ∙ needed_some new names all

-- parts, each seen as another
pub knows_seen : {X Y : Type 0} (f : Y → List Mention) (see : X → Y) (old : List (List ℕ)) (xs ys : List X) (new : List (List ℕ)) (r : Result (Unit {0}) Refused)
    → ys ≡ xs → Knows old (flat_map (λ x. f (see x)) ys) new r → Knows old (flat_map f (map see xs)) new r
knows_seen f see old xs ys new r same h = subst (λ ms. Knows old ms new r) (ap (flat_map (λ x. f (see x))) same ∙ sym (flat_map-map f see xs)) h

-- the next of several parts
module _ {X : Type 0} (f : X → List Mention) (first : List (List ℕ)) (xs : List X) where
  abbrev left_from : ℕ → List Mention
  left_from i = flat_map f (drop i xs)

  next_split : (i : ℕ) (x : X) → i < length xs → get_or xs i x ≡ x → left_from i ≡ f x ++ left_from (i + 1)
  next_split i x within is = at_drop_more (flat_map f) xs i x within ∙ ap (λ it. f it ++ left_from (i + 1)) is

  pub next_known : (known new : List (List ℕ)) (i : ℕ) (x : X) → i < length xs → get_or xs i x ≡ x → Same known (left_from i) first (flat_map f xs)
      → (mention_faults known (f x) ≡ []) × (new ≡ known_after known (f x)) → Same new (left_from (i + 1)) first (flat_map f xs)
  next_known known new i x within is so went =
      let parts = next_split i x within is in
      let rest = left_from (i + 1) in (
        ap (λ k. mention_faults k rest) went.1
            ∙ (ap (λ fs. fs ++ mention_faults (known_after known (f x)) rest) (sym went.0)
            ∙ (sym (faults_append known (f x) rest) ∙ (ap (mention_faults known) (sym parts) ∙ so.0))),
        ap (λ k. known_after k rest) went.1 ∙ (sym (known_append known (f x) rest) ∙ (ap (known_after known) (sym parts) ∙ so.1)),
      )

  first_there : (known : List (List ℕ)) (i : ℕ) (x : X) (e : Fault) → i < length xs → get_or xs i x ≡ x → Same known (left_from i) first (flat_map f xs)
      → first_of (mention_faults known (f x)) ≡ Some e → first_of (mention_faults first (flat_map f xs)) ≡ Some e
  first_there known i x e within is so h =
      let rest = left_from (i + 1) in
      ap first_of (sym so.0 ∙ (ap (mention_faults known) (next_split i x within is) ∙ faults_append known (f x) rest))
      ∙ first_append (mention_faults known (f x)) (mention_faults (known_after known (f x)) rest) e h

  -- its fault is the fault of all
  pub next_fault : (new known : List (List ℕ)) (i : ℕ) (x : X) (r : Refused) (res : Result (Unit {0}) Refused) → i < length xs → get_or xs i x ≡ x
      → Same known (left_from i) first (flat_map f xs) → res ≡ Err r → Knows known (f x) new (Err r) → Knows first (flat_map f xs) new res
  next_fault new known i x (refused.Fault e) res within is so same h =
      subst (Knows first (flat_map f xs) new) (sym same) (first_there known i x e within is so h)
  next_fault new known i x refused.NoMemory res within is so same h = subst (Knows first (flat_map f xs) new) (sym same) tt
