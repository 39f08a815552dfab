use Rattle.std.proofs.Common.{ℕ, List, [], ◌∷◌, length, get_or, drop, refl, sym, ◌∙◌, subst, arith}
use Rattle.std.proofs.lemmas.Bool.{eqb-true, eqb-false}
use Rattle.cb_forms.specs.Internal.ListStacks.{frames_of}
use Rattle.cb_forms.specs.Trees.{Tree, trees_in}
use Rattle.cb_forms.proofs.ListLaws.{IsListSoFar, list-begin, list-gap, list-open, list-close, list-never}
use Rattle.cb_forms.proofs.PieceLaws.{blank-first}
use Rattle.cb_forms.proofs.ListStackLaws.{frames_in, frames-some}
use Rattle.cb_forms.proofs.list.read_list.Goals as goal

pub loop-rest-init : goal.loop-rest-init
loop-rest-init c =
    let P : List (List Tree) → Type 0 = λ frames. IsListSoFar c.args.list.now frames c.split_at.result.1.now in
    let Q : List ℕ → Type 0 = λ rest. IsListSoFar c.args.list.now ([] ∷ []) rest in
    subst P (sym c.new-stack.ensures) (subst Q (sym c.split_at.ensures.back) (list-begin c.args.list.now c.requires.opened c.requires.closed))

pub loop-rest-preserved-then-is_blank : goal.loop-rest-preserved-then-is_blank
loop-rest-preserved-then-is_blank c =
    let s = c.loop-rest.rest.now in
    let P : List ℕ → Type 0 = λ more. IsListSoFar c.args.list.now (frames_of c.loop-rest.stack) more in
    let some = eqb-false (length s) 0 (sym c.is_empty.ensures ∙ c.loop-rest-test.true) in
    let first = blank-first s (omega (arith, some)) (sym c.is_blank.ensures ∙ c.if-is_blank.true) in
    subst P (sym c.after_first-rest.ensures) (list-gap c.args.list.now (frames_of c.loop-rest.stack) s (get_or s 0 0 ∷ []) (drop 1 s) c.loop-rest.invariant first.0 first.1)

pub loop-rest-preserved-in-Continue-branch-3 : goal.loop-rest-preserved-in-Continue-branch-3
loop-rest-preserved-in-Continue-branch-3 c =
    let P : List (List Tree) → Type 0 = λ frames. IsListSoFar c.args.list.now frames c.split_piece.result.1.now in
    let lexeme_is = sym c.in-Opening-2.is ∙ c.in_ok-read_piece.ensures in
    subst P (sym c.in_ok-open-in-Opening-2.ensures) (list-open c.args.list.now (frames_of c.loop-rest.stack) c.loop-rest.rest.now c.split_piece.result.0.now c.split_piece.result.1.now c.loop-rest.invariant c.split_piece.ensures.cut lexeme_is (omega arith))

pub loop-rest-preserved-in_default : goal.loop-rest-preserved-in_default
loop-rest-preserved-in_default c =
    let lexeme_is = sym c.in-Closing.is ∙ c.in_ok-read_piece.ensures in
    let closed = c.in_ok-form-in-Closing.ensures in
    let inner = (rw c.in_default.is at closed.inner) refl in
    let depth = rw c.in_default.is at closed.depth in
    let some = frames-some (frames_in c.close.new.self.outer.items) (trees_in c.close.new.self.inner.items) in
    list-close c.args.list.now (frames_of c.loop-rest.stack) c.loop-rest.rest.now c.split_piece.result.0.now c.split_piece.result.1.now c.loop-rest.invariant c.split_piece.ensures.cut (frames_of c.close.new.self) lexeme_is inner depth some

pub returns : goal.returns
returns c =
    let none = eqb-true (length c.loop-rest.rest.now) 0 (sym c.is_empty.ensures ∙ c.loop-rest-test.false) in
    absurd (list-never c.args.list.now (frames_of c.loop-rest.stack) c.loop-rest.rest.now c.loop-rest.invariant none (frames-some (frames_in c.loop-rest.stack.outer.items) (trees_in c.loop-rest.stack.inner.items)))
