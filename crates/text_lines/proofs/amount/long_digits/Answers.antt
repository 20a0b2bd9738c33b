use Rattle.std.proofs.Common.{◌≡◌, ◌-◌, ◌*◌, ◌+◌, true, get_or, sym, ◌∙◌, arith}
use Rattle.std.specs.Char.{is_ascii_digit, IsAsciiDigit}
use Rattle.text_lines.proofs.Fronts.{none_read, one_read}
use Rattle.text_lines.proofs.Tens.{below_room}
use Rattle.text_lines.proofs.amount.long_digits.Goals as goal

pub loop-i-init : goal.loop-i-init
loop-i-init c =
    record {
      read = none_read c.args.start c.args.most c.args.text.now;
      bound =
          below_room c.args.start c.args.most _ c.requires;
    }

pub loop-i-preserved : goal.loop-i-preserved
loop-i-preserved c =
    let text = c.args.text.now in
    let i = c.loop-i.i in
    let digit : is_ascii_digit (get_or text i 0) ≡ true =
    sym c.is_ascii_digit.ensures.value ∙ c.if-not-is_ascii_digit.false in
    let small : IsAsciiDigit (get_or text i 0) = c.if-not-is_ascii_digit.ensures.cases in
    let few = c.loop-i.invariant.read.few in
    let other = c.if-i-most.false in
    let read =
    one_read c.args.start c.args.most text i c.loop-i.number c.loop-i.invariant.read
    c.loop-i-test.true digit (omega arith) (omega (arith, few, other)) in
    let below = below_room (10 * c.loop-i.number + (get_or text i 0 - 48)) _ _ read.room in
    record { read = read; bound = omega (arith, below) }
