use Rattle.std.proofs.Common.{◌≡◌, sym, true, subst, ◌↔◌, ℕ, List}
use Rattle.flow_rules.specs.number_sets.Sets.{has}
use Rattle.pgraph.specs.Rivals.{IsRival}
use Rattle.pgraph.specs.Tables.{shape}
use Rattle.pgraph.proofs.ExclusionLemmas.{rival_is}
use Rattle.pgraph.proofs.graph.Graph.rivals.Goals as goal

pub returns : goal.returns
returns c =
    subst (λ (xs : List ℕ). (u : ℕ) → (has xs u ≡ true)
    ↔ IsRival (shape c.args.self.now) (has c.args.set) u) (sym c.minus.ensures)
    (rival_is (shape c.args.self.now) c.args.set c.sharing.result c.sharing.ensures)
