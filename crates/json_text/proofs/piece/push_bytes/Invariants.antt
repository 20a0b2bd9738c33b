use Rattle.std.proofs.Common.{◌≡◌, ◌++◌, drop}
use Rattle.std.specs.Prelude.{flat_map}
use Rattle.report_rules.specs.Json.{escaped}
use Rattle.json_text.proofs.piece.push_bytes.Given as goal

-- the text so far and the bytes that are left give the whole text
abbrev pub invariant-escaping : goal.invariant-escaping
invariant-escaping l = l.text.items ++ flat_map escaped (drop l.byte-index
    l.bytes) ≡ l.fn.text.items ++ flat_map escaped l.bytes
