use Rattle.std.proofs.Common.{◌≡◌, ◌∙◌, ◌↔◌, not, true, false, sym, ap, subst}
use Rattle.std.proofs.lemmas.Bool.{both_ways}
use Rattle.pgraph.specs.number_sets.Sets.{has}
use Rattle.pgraph.specs.Tables.{shape}
use Rattle.pgraph.specs.pns_rules.Breaks.{BreaksS2}
use Rattle.structure_list.proofs.BalanceLemmas.{broken_if_raw, broken_if_unmade, unbroken_if_made}
use Rattle.structure_list.proofs.balance.is_broken.Goals as goal

pub returns-then-has : goal.returns-then-has
returns-then-has c =
    let g = shape c.args.graph.now in
    let raw : g.raw c.args.x ≡ true = sym (ap (λ t. t c.args.x) c.raws.ensures)
    ∙ (sym c.has.ensures ∙ c.if-has.true) in
    subst (λ b. (b ≡ true) ↔ BreaksS2 g (has c.args.set) c.args.x) (sym c.is_made-is_made.ensures)
    (broken_if_raw g (has c.args.set) c.args.x raw)

pub returns-then-not-is_made : goal.returns-then-not-is_made
returns-then-not-is_made c =
    let g = shape c.args.graph.now in
    let other : g.raw c.args.x ≡ false =
    sym (ap (λ t. t c.args.x) c.raws.ensures) ∙ (sym c.has.ensures ∙ c.if-has.false) in
    let unmade = sym c.is_made-is_made.ensures ∙ c.if-not-is_made.true in
    subst (λ b. (b ≡ true) ↔ BreaksS2 g (has c.args.set) c.args.x) (sym c.is_used.ensures)
    (broken_if_unmade g (has c.args.set) c.args.x other unmade)

pub returns-else-not-is_made : goal.returns-else-not-is_made
returns-else-not-is_made c =
    let g = shape c.args.graph.now in
    let other : g.raw c.args.x ≡ false =
    sym (ap (λ t. t c.args.x) c.raws.ensures) ∙ (sym c.has.ensures ∙ c.if-has.false) in
    let made = sym c.is_made-is_made.ensures ∙ c.if-not-is_made.false in (
      λ e. absurd (both_ways (not c.is_made-is_made.result) (ap not c.if-not-is_made.false) e),
      λ b. absurd (unbroken_if_made g (has c.args.set) c.args.x other made b),
    )
