use Rattle.std.proofs.Common.{◌≡◌, ◌++◌, false, string_bytes, arith, sym, ap, ◌∙◌, w64}
use Rattle.std.proofs.lemmas.Int.{to_z-of_z}
use Rattle.std.proofs.lemmas.Bool.{ne_eqb}
use Rattle.std.specs.Prelude.{unsigned_abs, ◌==◌, decimal}
use Rattle.pns_problem.proofs.PrintingLemmas.{payout_text}
use Rattle.pns_problem.proofs.canonical.push_payout.Goals as goal

pub returns : goal.returns
returns c =
    let same = c.unsigned_abs-years.ensures.value
    ∙ ap (λ z. unsigned_abs z) (to_z-of_z w64 c.args.payout c.ranges.payout) in
    let not_one : (unsigned_abs c.args.payout == 1) ≡ false =
    ap (λ n. n == 1) (sym same) ∙ ne_eqb c.unsigned_abs-years.result 1 c.if-years-eq1.false in
    payout_text c.args.payout (string_bytes c.args.text.now) (string_bytes c.push_str.new.self)
    (string_bytes c.write.new.self) (string_bytes c.push.new.self)
    not_one c.in_ok-push_str.ensures.bytes
    (c.in_ok-write.ensures.bytes ∙ ap (λ n. string_bytes c.push_str.new.self ++ decimal n) same)
    (c.in_ok-push.ensures.bytes
    ∙ ap (λ l. string_bytes c.write.new.self ++ l) (c.in_ok-push.ensures.ascii (omega arith)))
