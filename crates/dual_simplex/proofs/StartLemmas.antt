-- The start of the path.
use Rattle.std.proofs.Common.{◌≡◌, ℕ, sym, ◌∙◌, arith}
use Rattle.std.specs.Prelude.{ℤ}
use Rattle.flow_program.specs.flow_rules.LinearProgram.{LinearProgram}
use Rattle.flow_program.specs.flow_rules.Columns.{Basis, start, s_at, t_at, w_at, x_at}
use Rattle.flow_program.specs.flow_rules.Tableau.{IsTableau}
use Rattle.flow_program.specs.flow_rules.Start.{IsStart}
use Rattle.path_laws.specs.Phases.{IsFirstPhase, IsOut}
use Rattle.path_laws.proofs.Cited.{start_is_first_phase, start_is_tableau}
use Rattle.dual_simplex.specs.Rows.{Rows, table, basis}
use Rattle.dual_simplex.specs.Choice.{IsOfSize}
use Rattle.dual_simplex.specs.Walk.{IsInFirst}

module _ (p : LinearProgram) (b c : Basis) (T : ℕ → ℕ → ℤ) (same : (k : ℕ) → b k ≡ c k) where
  same_tableau : IsTableau p c T → IsTableau p b T
  same_tableau t k h =
      let r = t k (sym (same k) ∙ h) in
      record {
        combination = r.combination;
        own = r.own;
        others =
            λ i g ne. r.others i (sym (same i) ∙ g) ne;
        primitive = r.primitive;
      }

  same_out : (i : ℕ) → IsOut p c T i → IsOut p b T i
  same_out i o =
      record {
        free = same (x_at p i) ∙ o.free;
        basic = same (s_at p i) ∙ o.basic;
        row =
            o.row;
        cost_x = o.cost_x;
        cost_s = o.cost_s;
      }

  same_phase : IsFirstPhase p c T 0 → IsFirstPhase p b T 0
  same_phase f = record {
    done = λ i h l. absurd (omega arith);
    left = λ i h l. same_out i (f.left i h l);
    has_t = λ j h. same (t_at p j) ∙ f.has_t j h;
    has_w = λ j h. same (w_at p j) ∙ f.has_w j h;
    scale_own = f.scale_own;
  }

pub starts : (p : LinearProgram) (r : Rows) → IsOfSize p r → IsStart p (table r)
    → ((k : ℕ) → basis r k ≡ start p k) → IsInFirst p r 0
starts p r size s same = record {
  on_path =
      record {
        size = size;
        pivots = 0;
        reached = same;
        is_tableau =
            same_tableau p (basis r) (start p) (table r) same (start_is_tableau p (table r) s);
      };
  phase = same_phase p (basis r) (start p) (table r) same (start_is_first_phase p (table r) s);
}
