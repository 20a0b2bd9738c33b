use Rattle.std.proofs.Common.{sym, subst}
use Rattle.std.proofs.lemmas.Bool.{both_ways}
use Rattle.network_commands.specs.number_sets.Sets.{has}
use Rattle.network_commands.specs.pns_rules.Shape.{Shape}
use Rattle.network_commands.specs.pns_rules.Ends.{IsSound}
use Rattle.part_commands.proofs.Starts.{not_sound}
use Rattle.part_commands.proofs.start.start_of.Goals as goal

pub returns-else-is_sound-clause-none : goal.returns-else-is_sound-clause-none
returns-else-is_sound-clause-none c =
    let taken = c.in-Some.taken in
    let left = c.in-Some-units_named.left in
    let one = c.in-Some.ensures.some in
    let other = c.in-Some-units_named.ensures.some in
    not_sound c.args.problem.now c.args.inside.now c.args.outside.now
    c.is_valid.ensures.well_formed.few_units taken left one.0 other.0 one.1 other.1
    (λ sound. both_ways c.is_sound.result c.if-is_sound.false
    (c.is_sound.ensures.1
    (subst (λ (g : Shape). IsSound g (record { inside = has taken; outside = has left }))
    (sym c.requires) sound)))
