use Rattle.std.proofs.Common.{◌≡◌, true, false, Bool, refl}
use Rattle.std.specs.Prelude.{not}
use Rattle.std.proofs.lemmas.Bool.{both_ways}
use Rattle.structure_list.specs.pgraph.Tables.{shape}
use Rattle.structure_list.specs.pns_rules.Structure.{mats}
use Rattle.charges.proofs.cover.none_between.Goals as goal

clash : (b : Bool) → not b ≡ true → b ≡ true → ⊥
clash true e f = both_ways false refl e
clash false e f = both_ways false refl f

is_not : (b : Bool) → (b ≡ true → ⊥) → not b ≡ true
is_not true h = absurd (h refl)
is_not false h = refl

pub returns-in-Some : goal.returns-in-Some
returns-in-Some c =
    let structure = c.in-Some.ensures.structure in
    let union = c.in-Some.ensures.union in (
      λ e. λ o between. clash c.within.result e
          (c.within.ensures.1
          (λ u h. (union.unit_in u).1 (
            mats (shape c.args.graph.now) o,
            o,
            between.meets,
            between.avoids,
            between.contains u h,
          ))),
      λ none. is_not c.within.result
          (λ h. none _
          (record {
            meets = structure.meets;
            contains = c.within.ensures.0 h;
            avoids =
                structure.avoids;
          })),
    )

pub returns-in-None : goal.returns-in-None
returns-in-None c = (
  λ e. λ o between. c.in-None.ensures.none (mats (shape c.args.graph.now) o) o between.meets
      between.avoids,
  λ none. refl,
)
