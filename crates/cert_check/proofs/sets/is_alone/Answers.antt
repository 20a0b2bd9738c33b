use Rattle.std.proofs.Common.{ℕ, List, ◌≡◌, [], ◌∷◌, sym, ap, ◌∙◌}
use Rattle.std.specs.Cmp.Lexicographic.{bytes_decides}
use Rattle.tree_text_rules.specs.number_sets.Sets.{with_number}
use Rattle.cert_check.proofs.SetLemmas.{alone_is}
use Rattle.cert_check.proofs.sets.is_alone.Goals as goal

pub returns : goal.returns
returns c =
    let k = alone_is c.args.set c.args.u c.rises.ensures.rising in
    let d = bytes_decides c.args.set c.with.result in
    let e : c.with.result ≡ c.args.u ∷ [] =
    c.with.ensures ∙ ap (λ (xs : List ℕ). with_number c.args.u xs) c.empty.ensures in (
      (λ h. k.0 (d.0 (sym c.eq.ensures ∙ h) ∙ e)),
      (λ h. c.eq.ensures ∙ d.1 (k.1 h ∙ sym e)),
    )
