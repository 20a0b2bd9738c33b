-- What the code knows at the place of a line, as the rules speak of it.
use Rattle.charges.specs.pgraph.View.{node_of}
use Rattle.charges.specs.Known.{facts_of}
use Rattle.tree_text_rules.specs.tree_rules.Head as rules
use Rattle.cert_check.specs.declared.known.Known.{Known}

abbrev pub known_of : Known → rules.Known
known_of k = record { node = node_of k.node; facts = facts_of k.facts }
