-- From the node of a turn to that of the position before it.
use Rattle.std.proofs.Common.{◌≡◌, ℕ, ◌<◌, Bool, true, false, sym, ap, ◌∙◌, subst}
use Rattle.pgraph.specs.pns_rules.Shape.{Shape}
use Rattle.pgraph.specs.pns_rules.Trace.{IsBefore}
use Rattle.pgraph.specs.unit_sets.declared.node.Node.{Node}
use Rattle.structure_list.specs.declared.turn.Turn.{Turn}
use Rattle.structure_list.specs.Position.{IsWithinNode, with_unit, without_unit, IsTurn, free_count}
use Rattle.structure_list.proofs.NodeLemmas.{narrow_in, narrow_out}

module _ (g : Shape) (n before : Node) (same : n ≡ before) (u : ℕ) (after : Node) where
  pub taken_node : after ≡ with_unit u n → after ≡ with_unit u before
  taken_node is = is ∙ ap (with_unit u) same

  pub left_node : after ≡ without_unit u n → after ≡ without_unit u before
  left_node is = is ∙ ap (without_unit u) same

  pub fewer_before : free_count g after < free_count g n → free_count g after < free_count g before
  fewer_before less = subst (λ m. free_count g after < free_count g m) same less

  module _ (s : ℕ → Bool) (within : IsWithinNode g before s) where
    pub within_taken : after ≡ with_unit u n → s u ≡ true → IsWithinNode g after s
    within_taken is e =
        subst (λ m. IsWithinNode g m s) (sym (taken_node is)) (narrow_in g before u s within e)

    pub within_left : after ≡ without_unit u n → s u ≡ false → IsWithinNode g after s
    within_left is e =
        subst (λ m. IsWithinNode g m s) (sym (left_node is)) (narrow_out g before u s within e)

pub turn_apart : (g : Shape) (t : Turn) → IsTurn g t → (before : Node)
    → t.position.decided.node ≡ before → (s o : ℕ → Bool) → IsWithinNode g before s
    → IsWithinNode g before o → s t.unit ≡ false → o t.unit ≡ true → IsBefore g s o
turn_apart g t is before same s o a b =
    is.apart s o (subst (λ m. IsWithinNode g m s) (sym same) a)
    (subst (λ m. IsWithinNode g m o) (sym same) b)
