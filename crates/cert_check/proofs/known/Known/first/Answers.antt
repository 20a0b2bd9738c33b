use Rattle.tree_text_rules.specs.number_sets.Sets.{has}
use Rattle.cert_check.proofs.known.Known.first.Goals as goal

pub returns : goal.returns
returns c = λ i. record {
  node = record {
    inside = has (c.empty-inside.ensures i);
    outside = has (c.empty-outside.ensures i);
  };
  facts = c.own-facts.ensures i;
}
