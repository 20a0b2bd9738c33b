-- Pivots of the first kind along the path.
use Rattle.std.proofs.Common.{◌≡◌, ℕ, suc, ◌+◌, ◌<◌, inl, inr, Bool, false, arith, refl, sym, ◌∙◌}
use Rattle.std.proofs.Common.{subst, List, length, get_or, None, Some}
use Rattle.std.specs.Prelude.{ℤ, pos, ◌<ℤ◌}
use Rattle.std.proofs.lemmas.Bool.{cases_eq}
use Rattle.flow_program.specs.integer_laws.declared.which.Which.{Which}
use Rattle.flow_program.specs.flow_rules.Program.{Program, IsProgram}
use Rattle.flow_program.specs.flow_rules.LinearProgram.{LinearProgram, linear_of}
use Rattle.flow_program.specs.flow_rules.Columns.{scale_at, s_at}
use Rattle.flow_program.specs.flow_rules.Tableau.{IsTableau}
use Rattle.flow_program.specs.flow_rules.Pivots.{IsFirstKind, first_kind}
use Rattle.flow_program.specs.flow_rules.Path.{Fits, IsPastEntry, Reaches}
use Rattle.flow_program.specs.flow_rules.Places.{IsPastPivot, at_first}
use Rattle.path_laws.specs.Phases.{IsFirstPhase, IsExchange}
use Rattle.path_laws.proofs.Cited.{basis_is_of_columns, first_phase_pivots, first_phase_goes_on}
use Rattle.path_laws.proofs.Cited.{first_phase_ends, exchange_goes_on, program_fits}
use Rattle.dual_simplex.specs.Rows.{Rows, width, row_of, table, basis, AreRows}
use Rattle.dual_simplex.specs.Exchange.{IsExchanged, IsPastRow, IsSameSize}
use Rattle.dual_simplex.specs.Choice.{IsOfSize, scale_of}
use Rattle.dual_simplex.specs.Walk.{IsOnPath, IsInFirst, IsInSecond, EndsPast}
use Rattle.dual_simplex.proofs.ExchangeLemmas.{row_long, exchange_is, past_is}

pub same_size : (p : LinearProgram) (old new : Rows) → IsOfSize p old → IsSameSize old new
    → IsOfSize p new
same_size p old new s e =
    record { units = s.units ∙ sym e.program_units; rows = s.rows ∙ sym e.program_rows }

pub same_width : (old new : Rows) → IsSameSize old new → width new ≡ width old
same_width old new e = let u = e.program_units in let r = e.program_rows in omega (arith, u, r)

pub scale_is : (p : LinearProgram) (r : Rows) → IsOfSize p r → scale_of r ≡ scale_at p
scale_is p r s = let u = s.units in let w = s.rows in omega (arith, u, w)

pub wide : (p : LinearProgram) (r : Rows) → IsOfSize p r → suc (scale_at p) ≡ width r
wide p r s = let u = s.units in let w = s.rows in omega (arith, u, w)

-- facts at a unit with an entry below 0 in the cost row
module _ (p : LinearProgram) (old : Rows) (unit : ℕ) (h : unit < p.units)
    (first : IsInFirst p old unit) (negative : table old (scale_at p) unit <ℤ pos 0) where
  pub kind : IsFirstKind p (basis old) (table old) unit
  kind = first_phase_pivots p (basis old) (table old) unit h first.phase negative

  pub unit_free : basis old unit ≡ false
  unit_free = (first.phase.left unit (omega arith) h).free

  exchanged_first : (new : Rows) → AreRows old → AreRows new → IsSameSize old new
      → IsExchanged old new (s_at p unit) unit (row_of old (s_at p unit))
      → IsExchange p (basis old) (basis new) (table old) (table new) (s_at p unit) unit
      (table old (s_at p unit))
  exchanged_first new a b s x =
      let on = first.on_path in
      let w = wide p old on.size in
      exchange_is p old new (s_at p unit) unit (row_of old (s_at p unit))
      (table old (s_at p unit))
      (λ k. refl) kind.positive on.size a b (same_width old new s) on.is_tableau
      (basis_is_of_columns p on.pivots (basis old) on.reached).2 (first_kind unit kind) kind.basic
      unit_free (row_long old a (s_at p unit) (omega (arith, h, w)))
      (λ c k ne. (on.is_tableau (s_at p unit) kind.basic).others c k ne) x

  pub first_done : (new : Rows) → AreRows old → AreRows new → IsSameSize old new → (l : ℕ)
      → l ≡ s_at p unit → IsExchanged old new l unit (row_of old l) → IsInFirst p new (unit + 1)
  first_done new a b s l e x =
      let on = first.on_path in
      let y =
      exchanged_first new a b s (subst (λ i. IsExchanged old new i unit (row_of old i)) e x) in
      let next =
      exchange_goes_on p on.pivots (basis old) (basis new) (table old) (table new) (s_at p unit)
      unit (table old (s_at p unit)) on.reached on.is_tableau y in
      record {
        on_path =
            record {
              size = same_size p old new on.size s;
              pivots = suc on.pivots;
              reached =
                  next.0;
              is_tableau = next.1;
            };
        phase =
            first_phase_goes_on p (basis old) (basis new) (table old) (table new) unit h
            (basis_is_of_columns p on.pivots (basis old) on.reached).0 on.is_tableau first.phase
            negative y.pivoted y.primitive;
      }

-- a refused pivot leaves the basis
pub past_kept : (p : LinearProgram) (old new : Rows) (l e row j : ℕ) (which : Which)
    → IsSameSize old new → new.basic ≡ old.basic → IsOnPath p old
    → IsPastPivot p (basis old) (table old) l e row j which → EndsPast p new l e row j which
past_kept p old new l e row j which s b on past = record {
  size = same_size p old new on.size s;
  pivots = on.pivots;
  reached =
      subst (λ (f : List Bool). Reaches p on.pivots (λ k. get_or f k false)) (sym b) on.reached;
  tableau = table old;
  is_tableau =
      subst (λ (f : List Bool). IsTableau p (λ k. get_or f k false) (table old)) (sym b)
      on.is_tableau;
  past =
      subst (λ (f : List Bool). IsPastPivot p (λ k. get_or f k false) (table old) l e row j which)
      (sym b) past;
}

never_past : (last : ℕ) (pivot row : ℕ → ℤ) (e j : ℕ) (which : Which) → Fits last pivot row e
    → IsPastEntry last pivot row e j which → ⊥
never_past last pivot row e j which f h = let both : None ≡ Some which =
    sym (f h.counts h.left h.right h.lowest j h.place) ∙ h.past in cc

-- if a row overflows at a pivot of the first kind, it is the cost row
module _ (q : Program) (valid : IsProgram q) (old new : Rows) (unit : ℕ)
    (h : unit < length q.units)
    (first : IsInFirst (linear_of q) old unit)
    (negative : table old (scale_at (linear_of q)) unit <ℤ pos 0) where
  abbrev pub p : LinearProgram
  p = linear_of q

  pub first_past : AreRows old → IsSameSize old new → new.basic ≡ old.basic → (l : ℕ)
      → l ≡ s_at p unit → (row j : ℕ) (which : Which)
      → IsPastRow old l unit (row_of old l) row j which → EndsPast p new l unit row j which
  first_past a s b l e row j which x =
      let on = first.on_path in
      let k = kind p old unit h first negative in
      let w = wide p old on.size in
      let y : IsPastRow old (s_at p unit) unit (row_of old (s_at p unit)) row j which =
      subst (λ i. IsPastRow old i unit (row_of old i) row j which) e x in
      let past : IsPastEntry (scale_at p) (table old (s_at p unit)) (table old row) unit j which =
      past_is p old new (s_at p unit) unit (row_of old (s_at p unit)) (table old (s_at p unit))
      (λ i. refl) k.positive (row_of old row) (scale_at p) j which
      (row_long old a row y.there ∙ sym w) y.past in
      let is : row ≡ scale_at p = elim (cases_eq row (scale_at p)) [
        | inl r ↦ r
        | inr n
            ↦ absurd
            (never_past (scale_at p) (table old (s_at p unit)) (table old row) unit j which
            (program_fits q valid on.pivots (basis old) on.reached (table old) on.is_tableau unit
            k
            row y.basic y.other n) past)
      ] in
      subst (λ i. EndsPast p new i unit row j which) (sym e)
      (subst (λ r. EndsPast p new (s_at p unit) unit r j which) (sym is)
      (past_kept p old new (s_at p unit) unit (scale_at p) j which s b on
      (at_first unit j which k
      (subst
      (λ r. IsPastEntry (scale_at p) (table old (s_at p unit)) (table old r) unit j which) is
      past))))

pub first_ends : (p : LinearProgram) (r : Rows) (unit : ℕ) → IsInFirst p r unit → unit ≡ p.units
    → IsInSecond p r
first_ends p r unit h e =
    record {
      on_path = h.on_path;
      rising =
          first_phase_ends p (basis r) (table r)
          (subst (IsFirstPhase p (basis r) (table r)) e h.phase);
    }
