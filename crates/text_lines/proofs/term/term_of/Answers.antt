use Rattle.std.proofs.Common.{arith}
use Rattle.text_lines.proofs.Sides.{no_token, one_token, two_tokens, more_tokens}
use Rattle.text_lines.proofs.term.term_of.Goals as goal

pub returns-in-len1 : goal.returns-in-len1
returns-in-len1 c =
    one_token c.args.tokens.now _ c.as_slice.result.now (omega arith) c.as_slice.ensures

pub returns-in-len2 : goal.returns-in-len2
returns-in-len2 c = two_tokens c.args.tokens.now _ _ (omega arith)

pub returns-in-empty : goal.returns-in-empty
returns-in-empty c = no_token c.args.tokens.now (omega arith)

pub returns-in_default : goal.returns-in_default
returns-in_default c = more_tokens c.args.tokens.now (omega arith)
