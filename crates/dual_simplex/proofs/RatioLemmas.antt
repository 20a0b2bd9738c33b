-- Fractions compared by their lowest terms, and the vector of a column at a place.
use Rattle.std.proofs.Common.{◌≡◌, ℕ, suc, true, ℤ, pos, ◌*ℤ◌, ◌<ℤ◌, neg_ℤ, sym, ap, ◌∙◌, arith}
use Rattle.std.specs.Ordering.{int_cmp}
use Rattle.std.specs.Cmp.{int_ranked}
use Rattle.std.specs.declared.cmp.Ordering.TheVariants.{Equal}
use Rattle.flow_program.proofs.integer_laws.Cited.{mul_pos, int_cmp-mul, V, ◌⊗◌, ring}
use Rattle.flow_program.specs.integer_laws.Lowest.{IsLowest}
use Rattle.flow_program.proofs.exact_numbers.Cited.{common_positive}
use Rattle.path_laws.proofs.Cited.{gain-basic}
use Rattle.dual_simplex.specs.Rows.{Rows, table, basis}
use Rattle.dual_simplex.specs.Choice.{scale_of}
use Rattle.dual_simplex.specs.Candidates.{vector}

crossed : (g h n e : ℤ) → (g *ℤ h) *ℤ (n *ℤ e) ≡ (h *ℤ e) *ℤ (g *ℤ n)
crossed g h n e = ring ((V g ⊗ V h) ⊗ (V n ⊗ V e)) ((V h ⊗ V e) ⊗ (V g ⊗ V n)) (omega arith)

crossed_back : (g h m d : ℤ) → (g *ℤ h) *ℤ (m *ℤ d) ≡ (g *ℤ d) *ℤ (h *ℤ m)
crossed_back g h m d = ring ((V g ⊗ V h) ⊗ (V m ⊗ V d)) ((V g ⊗ V d) ⊗ (V h ⊗ V m)) (omega arith)

-- fractions compare as their lowest terms do
pub compared_lowest : (x a y b n d m e : ℤ) → pos 0 <ℤ a → pos 0 <ℤ b → IsLowest x a n d
    → IsLowest y b m e → int_cmp (n *ℤ e) (m *ℤ d) ≡ int_cmp (b *ℤ x) (a *ℤ y)
compared_lowest x a y b n d m e pa pb l k =
    let g = pos l.common in
    let h = pos k.common in
    let p : pos 0 <ℤ (g *ℤ h) = mul_pos g h (common_positive pa l) (common_positive pb k) in
    let left : (g *ℤ h) *ℤ (n *ℤ e) ≡ b *ℤ x =
    crossed g h n e
    ∙ (ap (λ (z : ℤ). z *ℤ (g *ℤ n)) (sym k.y-is) ∙ ap (λ (z : ℤ). b *ℤ z) (sym l.x-is)) in
    let right : (g *ℤ h) *ℤ (m *ℤ d) ≡ a *ℤ y =
    crossed_back g h m d
    ∙ (ap (λ (z : ℤ). z *ℤ (h *ℤ m)) (sym l.y-is) ∙ ap (λ (z : ℤ). a *ℤ z) (sym k.x-is)) in
    sym (int_cmp-mul (g *ℤ h) (n *ℤ e) (m *ℤ d) p)
    ∙ (ap (λ (z : ℤ). int_cmp z ((g *ℤ h) *ℤ (m *ℤ d))) left
    ∙ ap (λ (z : ℤ). int_cmp (b *ℤ x) z) right)

-- at the place after that of a column of the basis: minus the entry of its row
pub vector_basic : (r : Rows) (j k place : ℕ) → suc k ≡ place → basis r k ≡ true
    → neg_ℤ (table r k j) ≡ vector r j place
vector_basic r j k place e h = sym (gain-basic (basis r) (table r) (scale_of r) j k h)
    ∙ ap (λ (q : ℕ). vector r j q) e

-- what is neither less nor greater is level
pub level : (x y : ℤ) → Equal ≡ int_cmp x y → x ≡ y
level x y e = int_ranked x y Equal e
