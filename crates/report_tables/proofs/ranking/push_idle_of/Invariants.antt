use Rattle.std.proofs.Common.{◌≡◌, string_bytes}
use Rattle.report_amounts.specs.report_rules.Ranked.{idle_names}
use Rattle.report_tables.proofs.ranking.push_idle_of.Given as goal

-- the text so far and the units that are left give the whole text
abbrev pub invariant-loop-u : goal.invariant-loop-u
invariant-loop-u l = idle_names l.fn.problem l.fn.network (string_bytes l.text) l.u-iterator
    ≡ idle_names l.fn.problem l.fn.network (string_bytes l.fn.text) l.fn.units
