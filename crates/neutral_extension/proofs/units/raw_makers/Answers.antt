use Rattle.std.proofs.Common.{◌≡◌, ◌↔◌, ◌+◌, ℕ, Bool, true, List, sym, ap, ◌∙◌, subst}
use Rattle.pgraph.specs.number_sets.Sets.{has}
use Rattle.pgraph.specs.Tables.{shape}
use Rattle.neutral_extension.proofs.FindLemmas.{MakesRawBelow, raw_same, raw_more}
use Rattle.neutral_extension.proofs.units.raw_makers.Goals.{then-has, else-has}
use Rattle.neutral_extension.proofs.units.raw_makers.Goals as goal

pub loop-x-preserved : goal.loop-x-preserved
loop-x-preserved c = λ u.
    let g = shape c.args.graph.now in
    let x = c.loop-x.x in
    let is_raw = c.has.ensures ∙ ap (λ (f : ℕ → Bool). f x) c.raws-raws.ensures in
    elim c.if-has.branch [
      | then-has w
          ↦ subst (λ (xs : List ℕ). (has xs u ≡ true) ↔ MakesRawBelow g (x + 1) u) (sym w.found-is)
          (raw_more g x u c.loop-x.found w.producers.result w.union-found.result
          w.union-found.ensures w.producers.ensures (sym is_raw ∙ w.if-has.true)
          (c.loop-x.invariant u))
      | else-has w
          ↦ subst (λ (xs : List ℕ). (has xs u ≡ true) ↔ MakesRawBelow g (x + 1) u) (sym w.found-is)
          (raw_same g x u c.loop-x.found (sym is_raw ∙ w.if-has.false) (c.loop-x.invariant u))
    ]
