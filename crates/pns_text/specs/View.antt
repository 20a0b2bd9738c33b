-- Lines, and what was seen, as the definitions have them.
use Rattle.text_lines.specs.text_rules.Line as line
use Rattle.text_lines.specs.text_rules.Fault as fault
use Rattle.text_lines.specs.View.{texts}
use Rattle.pns_text.specs.Walk as walk
use Rattle.pns_text.specs.declared.seen.Placed.{Placed}
use Rattle.pns_text.specs.declared.seen.Seen.{Seen}
use Rattle.pns_text.specs.declared.walk.Walk.{Walk}

abbrev pub placed_view : Placed → line.Placed
placed_view p =
    record { number = p.number; section = p.section; header = p.header; text = p.text.now }

abbrev pub seen_view : Seen → fault.Seen
seen_view s = record {
  headers = texts s.headers.items;
  keys = texts s.keys.items;
  materials = s.names.materials;
  units = s.names.units;
  rates = s.names.rates;
  exclusions = s.exclusions;
  unit_names = s.unit_names;
}

abbrev pub walk_view : Walk → walk.Walk
walk_view w = record { seen = seen_view w.seen; kept = w.kept.items; section = w.section }
