-- The actions of an `if`, cut at the first `else`.
use Rattle.std.proofs.Common.{◌≡◌, ◌∙◌, ◌||◌, ◌++◌, ℕ, ◌+◌, arith, Bool, true, false, List, [], ◌∷◌, codes, length, take, refl, sym, ap, ap₂, append_assoc, if◌then◌else◌}
use Rattle.std.proofs.Math.Seq.{take-append_seam}
use Rattle.std.proofs.lemmas.List.{append-nil}
use Rattle.std.proofs.lemmas.List.Folds.{list_any-append}
use Rattle.std.specs.List.{list_any}
use Rattle.cb_expr_forms.specs.Actions.{before_else, after_else, is_else}
use Rattle.cb_expr_forms.specs.ExprFaults.{all_faults, faults_of, is_this_symbol}
use Rattle.cb_expr_forms.specs.ExprForms.{expr_of, exprs_of}
use Rattle.cb_expr_forms.specs.Scopes.{Scope}
use Rattle.cb_expr_forms.specs.Internal.Sizes.{tree_size, trees_size}
use Rattle.cb_expr_forms.specs.Internal.{IsCutAtElse}
use Rattle.cb_expr_forms.proofs.Heads.{word_symbol}
use Rattle.cb_exprs.specs.Terms.{Term}
use Rattle.cb_forms.specs.Members.{members}
use Rattle.cb_forms.specs.Trees.{Tree, atom, branch, tree_of}
use Rattle.cb_forms.specs.declared.form.Form.{Form}
use Rattle.cb_forms.specs.declared.token.Token.TheVariants as token
use Rattle.cb_templates.specs.Templates.{Templates}

-- a word has no fault
pub symbol_fine : (s : Scope) (word : List ℕ) (t : Tree) → is_this_symbol word t ≡ true → faults_of s t ≡ []
symbol_fine s word (branch ts) h = absurd (cc)
symbol_fine s word (atom (token.Symbol bytes)) h = refl
symbol_fine s word (atom (token.Str bytes)) h = refl
symbol_fine s word (atom (token.Int n)) h = refl
symbol_fine s word (atom (token.Var x)) h = absurd (cc)
symbol_fine s word (atom (token.MultiVar x)) h = absurd (cc)
symbol_fine s word (atom token.Any) h = absurd (cc)
symbol_fine s word (atom token.MultiAny) h = absurd (cc)
symbol_fine s word (atom (token.Global x)) h = absurd (cc)
symbol_fine s word (atom token.And) h = absurd (cc)
symbol_fine s word (atom token.Or) h = absurd (cc)
symbol_fine s word (atom token.Not) h = absurd (cc)

pub exprs_append : (t : Templates) (xs ys : List Form) → exprs_of t (members (xs ++ ys)) ≡ exprs_of t (members xs) ++ exprs_of t (members ys)
exprs_append t [] ys = refl
exprs_append t (x ∷ xs) ys = ap (λ es. expr_of t (tree_of x) ∷ es) (exprs_append t xs ys)

pub faults_append : (s : Scope) (xs ys : List Form) → all_faults s (members (xs ++ ys)) ≡ all_faults s (members xs) ++ all_faults s (members ys)
faults_append s [] ys = refl
faults_append s (x ∷ xs) ys =
    ap (λ fs. faults_of s (tree_of x) ++ fs) (faults_append s xs ys) ∙ sym (append_assoc (faults_of s (tree_of x)) (all_faults s (members xs)) (all_faults s (members ys)))

-- the rest of a list whose first is no `else`
past : {X : Type 0} (b : Bool) (rest : Bool) (x y z : X) → (b || rest) ≡ false → (rest ≡ false → y ≡ z) → (if b then x else y) ≡ z
past true rest x y z none next = absurd (cc)
past false rest x y z none next = next none

pub sizes_append : (xs ys : List Form) → trees_size (members (xs ++ ys)) ≡ trees_size (members xs) + trees_size (members ys)
sizes_append [] ys = omega arith
sizes_append (x ∷ xs) ys = let rest = sizes_append xs ys in omega arith

-- where the first `else` stands between these
pub before_found : (xs : List Term) (e : Term) (ys : List Term) → list_any is_else xs ≡ false → is_else e ≡ true → before_else (xs ++ e ∷ ys) ≡ xs
before_found [] e ys none found = ap (λ b. if b then [] else e ∷ before_else ys) found
before_found (x ∷ xs) e ys none found =
    past (is_else x) (list_any is_else xs) [] (x ∷ before_else (xs ++ e ∷ ys)) (x ∷ xs) none (λ h. ap (λ ts. x ∷ ts) (before_found xs e ys h found))

pub after_found : (xs : List Term) (e : Term) (ys : List Term) → list_any is_else xs ≡ false → is_else e ≡ true → after_else (xs ++ e ∷ ys) ≡ ys
after_found [] e ys none found = ap (λ b. if b then ys else after_else ys) found
after_found (x ∷ xs) e ys none found =
    past (is_else x) (list_any is_else xs) (xs ++ e ∷ ys) (after_else (xs ++ e ∷ ys)) ys none (λ h. after_found xs e ys h found)

-- where there is none
pub before_all : (xs : List Term) → list_any is_else xs ≡ false → before_else xs ≡ xs
before_all [] none = refl
before_all (x ∷ xs) none = past (is_else x) (list_any is_else xs) [] (x ∷ before_else xs) (x ∷ xs) none (λ h. ap (λ ts. x ∷ ts) (before_all xs h))

pub after_all : (xs : List Term) → list_any is_else xs ≡ false → after_else xs ≡ []
after_all [] none = refl
after_all (x ∷ xs) none = past (is_else x) (list_any is_else xs) xs (after_else xs) [] none (λ h. after_all xs h)

-- a form that is `else`, and one that isn't
pub else_is : (t : Templates) (form : Tree) (b : Bool) → is_this_symbol (codes "else") form ≡ b → is_else (expr_of t form) ≡ b
else_is t form b h = word_symbol t (codes "else") form ∙ h

-- There is no `else` among the forms.
abbrev pub HasNoElse : List Form → Type 0
HasNoElse xs = (t : Templates) → list_any is_else (exprs_of t (members xs)) ≡ false

pub no_else_more : (xs : List Form) (x : Form) → HasNoElse xs → is_this_symbol (codes "else") (tree_of x) ≡ false → HasNoElse (xs ++ x ∷ [])
no_else_more xs x none h =
    λ t. ap (list_any is_else) (exprs_append t xs (x ∷ [])) ∙ list_any-append is_else (exprs_of t (members xs)) (exprs_of t (members (x ∷ [])))
    ∙ ap₂ (λ a b. a || (b || false)) (none t) (else_is t (tree_of x) false h)

taken : (n : ℕ) (all done rest : List Form) → all ≡ done ++ rest → length done ≡ n → take n all ≡ done
taken n all done rest e h = ap (take n) e ∙ ap (λ k. take k (done ++ rest)) (sym h) ∙ take-append_seam done rest

-- forms cut at their first `else`
module _ (all done following : List Form) (found : Form) (n : ℕ) (e : all ≡ done ++ found ∷ following) (count : length done ≡ n) (none : HasNoElse done)
    (h : is_this_symbol (codes "else") (tree_of found) ≡ true) where
  exprs_are : (t : Templates) → exprs_of t (members all) ≡ exprs_of t (members done) ++ expr_of t (tree_of found) ∷ exprs_of t (members following)
  exprs_are t = ap (λ fs. exprs_of t (members fs)) e ∙ exprs_append t done (found ∷ following)

  front_is : take n all ≡ done
  front_is = taken n all done (found ∷ following) e count

  pub cut : IsCutAtElse (members all) (members (take n all)) (members following)
  cut =
      record {
        before_is = λ t.
            ap (λ fs. exprs_of t (members fs)) front_is
            ∙ sym (ap before_else (exprs_are t) ∙ before_found (exprs_of t (members done)) (expr_of t (tree_of found)) (exprs_of t (members following)) (none t) (else_is t (tree_of found) true h));
        after_is = λ t.
            sym (ap after_else (exprs_are t) ∙ after_found (exprs_of t (members done)) (expr_of t (tree_of found)) (exprs_of t (members following)) (none t) (else_is t (tree_of found) true h));
        faults_are = λ s.
            ap (λ fs. all_faults s (members fs)) e ∙ faults_append s done (found ∷ following)
            ∙ ap₂ (λ a b. a ++ (b ++ all_faults s (members following))) (ap (λ fs. all_faults s (members fs)) (sym front_is)) (symbol_fine s (codes "else") (tree_of found) h);
        no_larger =
            let front : trees_size (members (take n all)) ≡ trees_size (members done) = ap (λ fs. trees_size (members fs)) front_is in
            let whole : trees_size (members all) ≡ trees_size (members done) + trees_size (members (found ∷ following)) = ap (λ fs. trees_size (members fs)) e ∙ sizes_append done (found ∷ following) in
            let back : trees_size (members (found ∷ following)) ≡ tree_size (tree_of found) + trees_size (members following) = refl in
            omega arith;
      }

-- forms without one, before no others
pub uncut : (all rest : List Form) → HasNoElse all → rest ≡ [] → IsCutAtElse (members all) (members all) (members rest)
uncut all rest none e =
    let nothing : trees_size (members rest) ≡ 0 = ap (λ fs. trees_size (members fs)) e in
    record {
      before_is = λ t. sym (before_all (exprs_of t (members all)) (none t));
      after_is = λ t. ap (λ fs. exprs_of t (members fs)) e ∙ sym (after_all (exprs_of t (members all)) (none t));
      faults_are = λ s. sym (ap (λ fs. all_faults s (members all) ++ all_faults s (members fs)) e ∙ append-nil (all_faults s (members all)));
      no_larger = omega arith;
    }
