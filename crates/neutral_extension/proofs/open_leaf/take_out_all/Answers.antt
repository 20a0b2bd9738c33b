use Rattle.std.proofs.Common.{◌≡◌, ◌==◌, ℕ, true, false, ◌||◌, List, [], ◌∷◌, ◌++◌, refl, sym, ap}
use Rattle.std.proofs.Common.{◌∙◌, subst, arith, eq-eqb, ne_eqb}
use Rattle.std.proofs.lemmas.Bool.{both_ways, or_from, or_left, or_right}
use Rattle.pgraph.specs.number_sets.Sets.{has, IsSet}
use Rattle.pgraph.proofs.number_sets.Cited.{below_not_had, has-append}
use Rattle.neutral_extension.specs.Candidates.{Candidates}
use Rattle.neutral_extension.proofs.open_leaf.take_out_all.Goals as goal

group : (xs : List ℕ) (u : ℕ) (ys : List ℕ) → (xs ++ u ∷ []) ++ ys ≡ xs ++ u ∷ ys
group [] u ys = refl
group (x ∷ xs) u ys = ap (λ zs. x ∷ zs) (group xs u ys)

pub take_out-requires-clause-unit : goal.take_out-requires-clause-unit
take_out-requires-clause-unit c =
    (subst (IsSet 128) c.in-Some.ensures.steps c.loop-u.invariant.is_set).below.0

pub take_out-requires-clause-fresh : goal.take_out-requires-clause-fresh
take_out-requires-clause-fresh c =
    let u = c.in-Some.u in
    c.loop-u.invariant.fresh u
    (ap (λ (xs : List ℕ). has xs u) c.in-Some.ensures.steps
    ∙ or_left (u == u) (has c.next.new.self u) (eq-eqb u u refl))

pub loop-u-preserved : goal.loop-u-preserved
loop-u-preserved c =
    let u = c.in-Some.u in
    let left = c.next.new.self in
    let inv = c.loop-u.invariant in
    let is = c.take_out.ensures in
    let head = c.in-Some.ensures.steps in
    let before = subst (IsSet 128) head inv.is_set in
    record {
      makers = ap (λ (k : Candidates). k.makers) is ∙ inv.makers;
      taken = ap (λ (k : Candidates). k.taken ++ left) is
          ∙ (group c.loop-u.makers.taken u left
          ∙ (ap (λ (ys : List ℕ). c.loop-u.makers.taken ++ ys) (sym head) ∙ inv.taken));
      is_set = record { rising = before.rising.1; below = before.below.1 };
      fresh = λ v h.
          let apart =
          ne_eqb u v
          (λ e. both_ways (has left u) (below_not_had u u left (omega arith) before.rising.0)
          (subst (λ w. has left w ≡ true) (sym e) h)) in
          ap (λ (k : Candidates). has k.taken v) is
          ∙ (has-append c.loop-u.makers.taken (u ∷ []) v
          ∙ or_from (has c.loop-u.makers.taken v) ((u == v) || false)
          (inv.fresh v (ap (λ (xs : List ℕ). has xs v) head ∙ or_right (u == v) (has left v) h))
          (or_from (u == v) false apart refl));
    }
