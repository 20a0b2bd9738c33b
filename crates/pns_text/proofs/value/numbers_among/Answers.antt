use Rattle.std.proofs.Common.{arith}
use Rattle.pns_text.proofs.value.numbers_among.Goals as goal

pub overflow_cast-number : goal.overflow_cast-number
overflow_cast-number c = let lt = c.loop-number-test.true in let few =
    c.requires in omega (arith, lt, few)
