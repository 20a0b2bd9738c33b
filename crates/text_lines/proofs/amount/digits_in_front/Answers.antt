use Rattle.std.proofs.Common.{arith}
use Rattle.text_lines.proofs.Tens.{short_room, below_room}
use Rattle.text_lines.proofs.amount.digits_in_front.Goals as goal

pub overflow_cast-start : goal.overflow_cast-start
overflow_cast-start c = let below =
    below_room c.args.start _ _
    (short_room c.args.start c.args.most c.if-most-gt-LONG.true c.requires) in omega (arith, below)
