use Rattle.pgraph.specs.Tables.{shape}
use Rattle.pgraph.specs.number_sets.Sets.{has}
use Rattle.neutral_extension.proofs.LeafLemmas.{needed_is}
use Rattle.neutral_extension.proofs.intake.intake_with.Goals as goal

pub returns : goal.returns
returns c = record {
  needed =
      needed_is (shape c.args.graph.now) (has c.args.units) c.union-needed.result c.products.result
      c.minus.result c.args.used c.raws.result c.union-needed.ensures c.minus.ensures
      c.products.ensures c.requires.used c.raws.ensures;
  used = c.requires.used;
  made = c.requires.made;
  rivals = c.rivals-rivals.ensures;
  clash = c.clash-clash.ensures;
}
