use Rattle.std.proofs.Common.{◌||◌, ◌∙◌, ap, sym, ℕ, List, Bool, length}
use Rattle.text_lines.specs.number_sets.Sets.{has}
use Rattle.text_lines.proofs.number_sets.Cited.{has-with_number}
use Rattle.command_files.specs.studio_rules.Axioms.{is_unit}
use Rattle.structure_commands.proofs.Named.{named_known, with_known}
use Rattle.structure_commands.proofs.axioms.with_named.Goals as goal

pub returns-in-Some-clause-named : goal.returns-in-Some-clause-named
returns-in-Some-clause-named c u =
    ap (λ (s : List ℕ). has s u) c.with.ensures
    ∙ has-with_number c.in-Some.unit c.args.set u
    ∙ ap (λ (b : Bool). b || has c.args.set u) (ap (is_unit u) c.in-Some.ensures)

pub returns-in-Some-clause-known : goal.returns-in-Some-clause-known
returns-in-Some-clause-known c all u h =
    with_known (length c.args.problem.now.units) c.in-Some.unit c.args.set
    (named_known c.args.problem.now c.args.name.now c.in-Some.unit c.in-Some.ensures) all u
    (sym (ap (λ (s : List ℕ). has s u) c.with.ensures) ∙ h)
