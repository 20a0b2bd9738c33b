-- Marks of the code, as the rules speak of them.
use Rattle.std.specs.Prelude.{Some, None}
use Rattle.rank_check.specs.declared.mark.Mark.{Mark}
use Rattle.rank_check.specs.declared.mark.Mark.TheVariants.{Open, Named}
use Rattle.rank_check.specs.declared.mark.Name.{Name}
use Rattle.rank_laws.specs.rank_rules.Marked as specs

abbrev pub name_of : Name → specs.Name
name_of n = record { way = n.way; network = n.network; d = n.scaled.d; ys = n.scaled.ys }

abbrev pub mark_of : Mark → specs.Mark
mark_of Open = None
mark_of (Named n) = Some (name_of n)
