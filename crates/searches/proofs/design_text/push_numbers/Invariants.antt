use Rattle.std.proofs.Common.{◌≡◌, ◌++◌, drop, string_bytes}
use Rattle.command_files.specs.studio_rules.DesignText.{spaced_numbers}
use Rattle.searches.proofs.design_text.push_numbers.Given as goal

abbrev pub invariant-printing : goal.invariant-printing
invariant-printing l = string_bytes l.line ++ spaced_numbers (drop l.number-index
    l.numbers) ≡ string_bytes l.fn.line ++ spaced_numbers l.numbers
