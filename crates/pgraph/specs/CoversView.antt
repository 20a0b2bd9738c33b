-- Covers of the code, as the rules speak of them.
use Rattle.std.specs.Prelude.{List, map}
use Rattle.flow_rules.specs.Cover as rules
use Rattle.pgraph.specs.declared.cover.Cover.{Cover}

abbrev pub cover_of : Cover → rules.Cover
cover_of c = record { weight = c.weight; beside = c.beside; units = c.units }

abbrev pub covers_of : List Cover → List rules.Cover
covers_of cs = map cover_of cs
