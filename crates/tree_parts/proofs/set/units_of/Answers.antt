use Rattle.tree_parts.proofs.Tokens.{token_utf8}
use Rattle.tree_parts.proofs.set.units_of.Goals as goal

pub returns-in-Err-clause-none : goal.returns-in-Err-clause-none
returns-in-Err-clause-none c =
    λ units is e. c.in-Err.ensures.cases.0 (token_utf8 c.args.token.now units e)
