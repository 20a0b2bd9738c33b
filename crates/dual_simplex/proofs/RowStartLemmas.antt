-- The entries of the rows at the start, and that rows with these entries are start rows.
use Rattle.std.proofs.Common.{◌≡◌, ◌≢◌, ℕ, suc, ◌+◌, ◌-◌, ◌*◌, ◌<◌, ◌≤◌, inl, inr, Bool, true}
use Rattle.std.proofs.Common.{false, cond, arith, refl, sym, ap, ◌∙◌, subst, List, length, get_or}
use Rattle.std.proofs.Common.{set}
use Rattle.std.specs.Prelude.{ℤ, pos, nat_lt, nat_eq, nat_le}
use Rattle.std.proofs.lemmas.Bool.Decides.{eqb_tells, leb_tells}
use Rattle.flow_program.specs.flow_rules.LinearProgram.{LinearProgram}
use Rattle.flow_program.specs.flow_rules.Columns.{Has, x_at, s_at, t_at, w_at, right_at, scale_at}
use Rattle.flow_program.specs.flow_rules.Columns.{start}
use Rattle.flow_program.specs.flow_rules.Start.{one_at, IsStart}
use Rattle.path_laws.proofs.Cited.{start_rows, x_entry, right_entry, start_exists, start-has}
use Rattle.std.specs.List.{AllWithin}
use Rattle.std.proofs.lemmas.Bool.{cases_eq}
use Rattle.std.proofs.lemmas.List.{get_or-set_same, get_or-set_other, length-set}
use Rattle.std.proofs.lemmas.List.Elements.{AllWithin-more_set}
use Rattle.std.proofs.Math.Nat.{mul-le-mul}
use Rattle.flow_program.specs.integer_laws.Range.{InRange, AllInRange}
use Rattle.dual_simplex.specs.Rows.{row_at, width_of, AreRows}
use Rattle.dual_simplex.specs.Start.{start_at_x, start_at_right, start_entry}

pub entry_right : (p : LinearProgram) (c k : ℕ) → p.units ≤ k → k ≡ right_at p
    → start_entry p c k ≡ start_at_right p c
entry_right p c k h e =
    elim (leb_tells (suc k) p.units) [
      | inl (_, q) ↦ absurd (omega arith)
      | inr (f, _)
          ↦ elim (eqb_tells k (right_at p))
          [ inl (g, _) ↦ rw (f, g) refl | inr (_, n) ↦ absurd (n e) ]
    ]

same_start : (p : LinearProgram) (c k : ℕ) → start_rows p c k ≡ start_entry p c k
unfolding start_rows x_entry right_entry
same_start p c k = refl

start_within : (p : LinearProgram) (c : ℕ) → Has (start p) c → (p.units ≤ c) × (c ≤ scale_at p)
start_within p c h =
    elim (leb_tells (suc c) p.units) [
      | inl (e, _) ↦ absurd (clash (rw e at h))
      | inr (e, l) ↦ elim (eqb_tells c (right_at p)) [
        | inl (f, _) ↦ absurd (clash (rw (e, f) at h))
        | inr (f, _) ↦ elim (leb_tells c (scale_at p)) [
          | inl (_, m) ↦ (omega arith, m)
          | inr (g, _) ↦ absurd (clash (rw (e, f, g) at h))
        ]
      ]
    ]
  where
    clash : false ≡ true → ⊥
    clash e = cc

pub rows_are_start : (p : LinearProgram) (T : ℕ → ℕ → ℤ)
    → ((c k : ℕ) → p.units ≤ c → c ≤ scale_at p → k ≤ scale_at p → T c k ≡ start_entry p c k)
    → IsStart p T
rows_are_start p T h = record {
  own = λ c k b l m n. let i = start_within p c b in same c k i.0 i.1 m ∙ s.own c k b l m n;
  s_x = λ i k b l. same (s_at p i) (x_at p k) (omega arith) (omega arith) (omega arith)
      ∙ s.s_x i k b l;
  s_right = λ i b. same (s_at p i) (right_at p) (omega arith) (omega arith) (omega arith)
      ∙ s.s_right i b;
  t_x = λ j k b l. same (t_at p j) (x_at p k) (omega arith) (omega arith) (omega arith)
      ∙ s.t_x j k b l;
  t_right = λ j b. same (t_at p j) (right_at p) (omega arith) (omega arith) (omega arith)
      ∙ s.t_right j b;
  w_x = λ j k b l. same (w_at p j) (x_at p k) (omega arith) (omega arith) (omega arith)
      ∙ s.w_x j k b l;
  w_right = λ j b. same (w_at p j) (right_at p) (omega arith) (omega arith) (omega arith)
      ∙ s.w_right j b;
  scale_x = λ k b. same (scale_at p) (x_at p k) (omega arith) (omega arith) (omega arith)
      ∙ s.scale_x k b;
  scale_right = same (scale_at p) (right_at p) (omega arith) (omega arith) (omega arith)
      ∙ s.scale_right;
}
  where
    s : IsStart p (start_rows p)
    s = start_exists p

    same : (c k : ℕ) → p.units ≤ c → c ≤ scale_at p → k ≤ scale_at p → T c k ≡ start_rows p c k
    same c k a b l = h c k a b l ∙ sym (same_start p c k)

-- ---- the rows are written one after the other, and each entry after entry

-- the entries before j are written
pub record IsWritten (p : LinearProgram) (c : ℕ) (old new : List ℤ) (j : ℕ) : Type 0 where
  pub size : length new ≡ length old
  pub done : (k : ℕ) → k < j → get_or new k (pos 0) ≡ start_entry p c k
  pub in_range : AllWithin InRange new 0 j

pub written_more : (p : LinearProgram) (c : ℕ) (old row : List ℤ) (j : ℕ) (z : ℤ)
    → IsWritten p c old row j → j < length row → z ≡ start_entry p c j → InRange z
    → IsWritten p c old (set row j z) (j + 1)
written_more p c old row j z h b e r = record {
  size = length-set row j z ∙ h.size;
  done = λ k l. elim (cases_eq k j) [
    | inl s ↦ subst (λ x. get_or (set row j z) x (pos 0) ≡ start_entry p c x) (sym s)
        (get_or-set_same row j z (pos 0) b ∙ e)
    | inr n ↦ get_or-set_other row j k z (pos 0) n ∙ h.done k (omega (arith, n))
  ];
  in_range = AllWithin-more_set row j z b InRange h.in_range r;
}

-- the rows from that of the first column up to that of c are written
pub record AreWritten (p : LinearProgram) (w first : ℕ) (old new : List ℤ) (c : ℕ) : Type 0 where
  pub size : length new ≡ length old
  pub done : (d k : ℕ) → first ≤ d → d < c → k < w
      → get_or (row_at w new d) k (pos 0) ≡ start_entry p d k
  pub in_range : AllInRange new

pub row_more : (p : LinearProgram) (w first : ℕ) (old es new : List ℤ) (c : ℕ)
    → AreWritten p w first old es c → length new ≡ length es
    → ((k : ℕ) → k < w → get_or (row_at w new c) k (pos 0) ≡ start_entry p c k)
    → ((d : ℕ) → d ≢ c → row_at w new d ≡ row_at w es d) → AllInRange new
    → AreWritten p w first old new (c + 1)
row_more p w first old es new c h size row others r = record {
  size = size ∙ h.size;
  done = λ d k f l b. elim (cases_eq d c) [
    | inl s ↦ subst (λ x. get_or (row_at w new x) k (pos 0) ≡ start_entry p x k) (sym s) (row k b)
    | inr n ↦ ap (λ r. get_or r k (pos 0)) (others d n) ∙ h.done d k f (omega (arith, n)) b
  ];
  in_range = r;
}

-- ---- the room of the greatest program does for each

pub rows_fit : (u r U R : ℕ) (flags : List Bool) (entries : List ℤ) → U ≤ 128 → R ≤ 256 → u ≤ U
    → r ≤ R → length flags ≡ width_of U R → length entries ≡ suc (width_of U R) * width_of U R
    → AllInRange entries
    → AreRows
    (record {
      units = u;
      rows = r;
      most_units = U;
      most_rows = R;
      basic = flags;
      entries =
          entries;
    })
rows_fit u r U R flags entries a b c d e f g = record {
  units_few = a;
  rows_few = b;
  units_fit = c;
  rows_fit = d;
  flags = omega (arith, e);
  flags_room = e;
  room = let m : suc (width_of u r) * width_of u r ≤ suc (width_of U R) * width_of U R =
      mul-le-mul (omega arith) (omega arith) in
      subst (λ n. suc (width_of u r) * width_of u r ≤ n) (sym f) m;
  entries_room = f;
  in_range = g;
}
