use Rattle.std.proofs.Common.{sym, ◌∙◌}
use Rattle.abb_search.proofs.ReadyLemmas.{first_has}
use Rattle.abb_search.proofs.watching.least_value.Goals as goal

pub value-requires : goal.value-requires
value-requires c =
    c.is_pool.ensures.leaves c.in-Some.leaf
    (first_has c.args.growing.now.pool.leaves c.in-Some.leaf (sym c.least.ensures ∙ c.in-Some.is))
