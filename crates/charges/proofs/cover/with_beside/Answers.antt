use Rattle.std.proofs.Common.{refl, ap, ◌∙◌, ℕ, List}
use Rattle.structure_list.specs.number_sets.Sets.{has}
use Rattle.structure_list.proofs.number_sets.Cited.{has-with_number}
use Rattle.charges.proofs.cover.with_beside.Goals as goal

pub returns-in-Some : goal.returns-in-Some
returns-in-Some c =
    λ v. rw c.in-Some.is
    (ap (λ (xs : List ℕ). has xs v) c.with.ensures ∙ has-with_number c.in-Some.u c.args.set v)

pub returns-in-None : goal.returns-in-None
returns-in-None c = λ v. rw c.in-None.is refl
