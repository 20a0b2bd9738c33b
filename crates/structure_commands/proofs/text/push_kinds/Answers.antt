use Rattle.std.proofs.Common.{◌++◌, get_or, string_bytes}
use Rattle.std.proofs.lemmas.List.{get_or_default}
use Rattle.std.specs.Prelude.{flat_map, filter}
use Rattle.text_lines.specs.number_sets.Sets.{has}
use Rattle.cert_check.specs.pns_problem.Printing.{printed}
use Rattle.command_files.specs.report_rules.declared.warning.Warning.TheVariants.{NoNetwork}
use Rattle.command_files.specs.report_rules.Item.{name_of, stands}
use Rattle.command_files.specs.report_rules.Lint.{warning_lines}
use Rattle.structure_commands.proofs.Texts.{next_filtered}
use Rattle.structure_commands.proofs.text.push_kinds.Goals as goal

pub trying-preserved : goal.trying-preserved
trying-preserved c =
    let p = c.args.plant.now.problem in
    let s = has c.args.plant.now.units in
    let item = c.args.item in
    let kinds = c.args.kinds.now in
    let i = c.trying.kind-index in
    let f = warning_lines c.args.number (name_of p item) in
    next_filtered f (stands p s item) kinds i (get_or kinds i NoNetwork)
    (string_bytes c.trying.text) (string_bytes c.push_kind.new.text)
    (string_bytes c.args.text.now ++ printed (flat_map f (filter (stands p s item) kinds)))
    c.trying-test.true
    (get_or_default kinds i NoNetwork (get_or kinds i NoNetwork) c.trying-test.true)
    c.in_ok-push_kind.ensures c.trying.invariant
