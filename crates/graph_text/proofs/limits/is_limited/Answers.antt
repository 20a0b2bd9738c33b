use Rattle.std.proofs.Common.{◌≡◌, false, SFits, rules}
use Rattle.std.specs.Int.{w128}
use Rattle.std.specs.Ordering.{int_eq}
use Rattle.std.proofs.lemmas.Int.{to_z-of_z}
use Rattle.graph_text.proofs.Tests.{unless}
use Rattle.graph_text.proofs.limits.is_limited.Goals as goal

pub returns-else-lower-upper : goal.returns-else-lower-upper
returns-else-lower-upper c =
    let f1 : SFits w128 c.args.lower = search rules in
    let f2 : SFits w128 c.args.upper = search rules in
    let f3 : SFits w128 c.args.z = search rules in
    let f4 : SFits w128 c.args.d = search rules in
    let apart : int_eq c.args.lower c.args.upper ≡ false = search rules in
    let told = simp to_z-of_z at c.is_at_some.ensures in
    unless (int_eq c.args.lower c.args.upper) _ _ apart told
