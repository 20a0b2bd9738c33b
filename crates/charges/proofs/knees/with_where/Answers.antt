use Rattle.std.proofs.Common.{◌≡◌, ◌==◌, ◌∙◌, Bool, true, false, refl, sym, ap, subst, List, ℕ}
use Rattle.std.specs.Prelude.{◌&&◌, ◌||◌}
use Rattle.structure_list.specs.number_sets.Sets.{has}
use Rattle.structure_list.proofs.number_sets.Cited.{has-with_number}
use Rattle.charges.proofs.knees.with_where.Goals as goal

swapped : (a b : Bool) → (a || b) ≡ (b || a)
swapped true true = refl
swapped true false = refl
swapped false true = refl
swapped false false = refl

pub returns-then-is_in : goal.returns-then-is_in
returns-then-is_in c = λ v.
    subst (λ (b : Bool). has c.with.result v ≡ (has c.args.set v || (b && c.args.j == v)))
    (sym c.if-is_in.true)
    (ap (λ (xs : List ℕ). has xs v) c.with.ensures ∙ has-with_number c.args.j c.args.set v
    ∙ swapped (c.args.j == v) (has c.args.set v))
