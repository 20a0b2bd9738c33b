use Rattle.std.proofs.Common.{◌≡◌, sym, ◌∙◌}
use Rattle.std.specs.Ordering.{int_cmp}
use Rattle.std.specs.Cmp.{int_ranked}
use Rattle.std.specs.declared.cmp.Ordering.TheVariants.{Equal}
use Rattle.exact_numbers.proofs.NumberLemmas.{rest_decides, whole_decides}
use Rattle.exact_numbers.proofs.order.compare.Goals as goal

pub returns-in-Equal : goal.returns-in-Equal
returns-in-Equal c =
    let l = c.args.left.now in
    let r = c.args.right.now in
    let told : c.cmp.result ≡ int_cmp l.whole r.whole = c.cmp.ensures in
    c.compare_fractions.ensures
    ∙ rest_decides l.whole r.whole l.rest l.den r.rest r.den
    (int_ranked l.whole r.whole Equal (sym (sym told ∙ c.in-Equal.is)))

pub returns-in_default : goal.returns-in_default
returns-in_default c =
    let l = c.args.left.now in
    let r = c.args.right.now in
    let told : c.cmp.result ≡ int_cmp l.whole r.whole = c.cmp.ensures in
    told ∙ whole_decides l.whole r.whole l.rest l.den r.rest r.den l.below r.below
    (λ e. c.in_default.not-Equal (told ∙ e))
