use Rattle.std.proofs.Common.{◌≤◌, ◌+◌, arith, rules}
use Rattle.exact_numbers.proofs.ShareLemmas.{added, carried}
use Rattle.exact_numbers.proofs.multiples.plus.Goals as goal

pub returns-then-rest-den-clause-sum : goal.returns-then-rest-den-clause-sum
returns-then-rest-den-clause-sum c =
    added c.args.left.whole c.args.right.whole c.args.left.rest c.args.right.rest
    c.in_ok-whole.whole c.args.den (search rules)

pub returns-clause-sum : goal.returns-clause-sum
returns-clause-sum c =
    let l : c.args.den ≤ c.args.left.rest + c.args.right.rest = let h =
    c.if-rest-den.false in omega arith in
    carried c.args.left.whole c.args.right.whole c.args.left.rest c.args.right.rest
    c.in_ok-whole.whole c.in_ok-more.more c.args.den l (search rules) (search rules)
