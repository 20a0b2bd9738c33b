-- Materials whose use a line may bound.
use Rattle.std.proofs.Common.{◌≡◌, ℕ, ◌<◌, ◌≤◌, ◌∙◌, ◌&&◌, Bool, true, false, List, sym, ap, arith}
use Rattle.std.specs.Prelude.{ℤ, Option, Some, None, IsTrue, IfSome, ◌↔◌}
use Rattle.std.proofs.lemmas.Bool.{both_ways, lt-ltb}
use Rattle.tree_text_rules.specs.number_sets.Sets.{has, listed}
use Rattle.tree_text_rules.proofs.number_sets.Cited.{has-listed}
use Rattle.tree_text_rules.specs.pns_rules.Shape.{Shape, IsProper}
use Rattle.tree_text_rules.specs.pns_rules.Structure.{mats}
use Rattle.tree_text_rules.specs.pns_rules.Nodes.{Node}
use Rattle.tree_text_rules.specs.flow_rules.Relaxed.{stays}
use Rattle.charges.proofs.flow_program.Cited.{listed_had, mats_known}
use Rattle.cert_check.specs.Uses.{IsInner}

pub if_some : (r : Option ℤ) (P : Type 0) → P → IfSome r (λ v. P)
if_some None P h = tt
if_some (Some v) P h = h

module _ (g : Shape) (n : Node) (j : ℕ) where
  pub none_beyond : IsProper g → g.materials ≤ j → IsTrue false ↔ IsInner g n j
  none_beyond proper le = (
    (λ e. let no : false ≡ true = e in cc),
    (λ is. let lt = mats_known g proper (stays n) j is.0 in absurd (omega (arith, le, lt))),
  )

  pub raw_is_not : g.raw j ≡ true → IsTrue false ↔ IsInner g n j
  raw_is_not raw = (
    (λ e. let no : false ≡ true = e in cc),
    (λ is. absurd (both_ways (g.raw j) is.1 raw)),
  )

  pub row_is : (rows : List ℕ) → rows ≡ listed g.materials (mats g (stays n)) → j < g.materials
      → g.raw j ≡ false → (b : Bool) → b ≡ has rows j → IsTrue b ↔ IsInner g n j
  row_is rows e lt not_raw b is_row = (
    (λ h.
        ((listed_had g.materials (mats g (stays n)) rows j e (sym is_row ∙ h)).1, not_raw)),
    (λ is.
        is_row ∙ ap (λ (xs : List ℕ). has xs j) e
        ∙ has-listed g.materials (mats g (stays n)) j
        ∙ (λ i. lt-ltb j g.materials lt i && is.0 i)),
  )
