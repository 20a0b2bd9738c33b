use Rattle.std.proofs.Common.{false, refl}
use Rattle.std.proofs.lemmas.Bool.{both_ways}
use Rattle.pgraph.specs.number_sets.Sets.{has}
use Rattle.pgraph.specs.Tables.{shape}
use Rattle.pgraph.specs.pns_rules.Structure.{mats}
use Rattle.structure_list.proofs.union.viable.Goals as goal

pub returns-in-Some-clause-viable : goal.returns-in-Some-clause-viable
returns-in-Some-clause-viable bounds c =
    let structure = c.in-Some.ensures.structure in
    let union = c.in-Some.ensures.union in (
      λ e. (
        has c.in-Some.set,
        record {
          meets = structure.meets;
          contains = c.within.ensures.0 e;
          avoids =
              structure.avoids;
        },
      ),
      λ some. c.within.ensures.1
          (λ u e. (union.unit_in u).1 (
            mats (shape c.args.graph.now) some.0,
            some.0,
            some.1.meets,
            some.1.avoids,
            some.1.contains u e,
          )),
    )

pub returns-in-None-clause-viable : goal.returns-in-None-clause-viable
returns-in-None-clause-viable bounds c = (
  λ e. absurd (both_ways false refl e),
  λ some. absurd
      (c.in-None.ensures.none (mats (shape c.args.graph.now) some.0) some.0 some.1.meets
      some.1.avoids),
)
