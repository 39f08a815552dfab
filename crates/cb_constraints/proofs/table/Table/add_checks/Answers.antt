use Rattle.std.proofs.Common.{arith, ◌≡◌, ◌∙◌, ◌+◌, ◌∷◌, [], refl, suc, ap, drop, map, rules, subst, sym}
use Rattle.std.proofs.lemmas.List.{drop_more}
use Rattle.cb_constraints.proofs.TableLaws.{going_begun, going_more}
use Rattle.cb_constraints.specs.Binders.{binder}
use Rattle.cb_constraints.specs.Internal.Places.{places_of}
use Rattle.cb_constraints.specs.Constraints.{check_of}
use Rattle.cb_constraints.specs.Internal.Tables.{Going, Grows}
use Rattle.cb_constraints.proofs.table.Table.add_checks.Goals as goal

pub loop-check-init : goal.loop-check-init
loop-check-init c = (refl, going_begun c.args.self.now (places_of c.args.constraint 0 (map check_of c.args.checks.now)) [] c.requires)

pub loop-check-preserved : goal.loop-check-preserved
loop-check-preserved c =
    let i = c.loop-check.check-index in
    let rest = drop (c.loop-check.check-index + 1) c.args.checks.now in
    let all = places_of c.args.constraint 0 (map check_of c.args.checks.now) in
    let next : c.check-item.result ∷ drop (c.loop-check.check-index + 1) c.args.checks.now ≡ drop c.loop-check.check-index c.args.checks.now =
    sym (drop_more c.args.checks.now c.loop-check.check-index c.check-item.result c.loop-check-test.true ∙ ap (λ r. r ∷ drop (c.loop-check.check-index + 1) c.args.checks.now) (search rules)) in
    let on : suc c.loop-check.check-index ≡ c.loop-check.check-index + 1 = omega arith in (
      ap (λ k. k + 1) c.loop-check.invariant.0,
      subst (λ k. Going c.args.self.now c.add_check.new.self (places_of c.args.constraint k (map check_of rest)) all [] []) on
          (going_more c.args.self.now c.loop-check.self c.add_check.new.self
          (map (λ y. (y, record { constraint = c.args.constraint; check = i })) (binder (check_of c.check-item.result).negated (check_of c.check-item.result).test))
          (places_of c.args.constraint (suc i) (map check_of rest)) all [] [] []
          (subst (λ ys. Going c.args.self.now c.loop-check.self (places_of c.args.constraint i (map check_of ys)) all [] []) (sym next) c.loop-check.invariant.1)
          (subst
          (λ k. Grows c.loop-check.self c.add_check.new.self (map (λ y. (y, record { constraint = c.args.constraint; check = k })) (binder (check_of c.check-item.result).negated (check_of c.check-item.result).test)) [])
          c.loop-check.invariant.0 c.in_ok-add_check.ensures)),
    )
