-- The places at which what a bench keeps overflows.
use Rattle.std.proofs.Common.{◌≡◌, ℕ, zero, suc, ◌+◌, ◌<◌, ◌≤◌, Bool, true, false, cond, arith}
use Rattle.std.proofs.Common.{refl, sym, ap, subst, List, [], ◌∷◌, ◌++◌, map, get_or, ℤ}
use Rattle.std.specs.List.{range_with_len}
use Rattle.flow_program.specs.pns_rules.Nodes.{Node}
use Rattle.flow_program.specs.flow_rules.declared.place.Column.{Column}
use Rattle.flow_program.specs.flow_rules.declared.place.Place.{Place}
use Rattle.flow_program.specs.flow_rules.declared.place.Place.TheVariants as places
use Rattle.flow_program.specs.flow_rules.Net.{Net}
use Rattle.flow_program.specs.flow_rules.Program.{Program, program_of}
use Rattle.flow_program.specs.flow_rules.Steps.{IsFirstPast}
use Rattle.flow_program.specs.flow_rules.LinearProgram.{LinearProgram}
use Rattle.flow_program.specs.flow_rules.Columns.{Basis}
use Rattle.flow_program.specs.flow_rules.ReadFlows.{Formed, FlowStep, Lcm, lcms, sizes, rounds}
use Rattle.flow_program.specs.flow_rules.ReadFlows.{formed}
use Rattle.flow_program.specs.flow_rules.ReadFlows.{IsPastFlow}
use Rattle.flow_program.specs.flow_rules.Places as path
use Rattle.dual_simplex.specs.Rows.{table, basis}
use Rattle.dual_simplex.specs.Bench.{Bench, IsLeastOf, IsNoneOf, AreFlowsOf}
use Rattle.flow_program.specs.flow_rules.Named.{place_named}
use Rattle.dual_simplex.specs.PastPlace.{IsPastOf, IsPastFlowOf}
use Rattle.dual_simplex.specs.PastLaws.{IsPastHere, EntryIsPast, FlowIsPast, BoundIsPast}
use Rattle.dual_simplex.specs.PastLaws.{RefutationIsPast, CostIsPast, BalanceIsPast}
use Rattle.dual_simplex.proofs.LawLemmas.{feasible_is_last, refuting_is_last, past_is_last}

-- ---- the unit of a flow that overflows is one of the program

abbrev AreOf : ℕ → List Formed → Type 0
AreOf n [] = Unit {0}
AreOf n (f ∷ fs) = (f.unit < n) × AreOf n fs

both_of : (n : ℕ) (fs gs : List Formed) → AreOf n fs → AreOf n gs → AreOf n (fs ++ gs)
both_of n [] gs h k = k
both_of n (f ∷ fs) gs h k = (h.0, both_of n fs gs h.1 k)

lcms_of : (n a m : ℕ) (b : Basis) → a + m ≤ n → AreOf n (lcms b (range_with_len a m))
lcms_of n a zero b h = tt
lcms_of n a (suc m) b h = one_more (b a) (lcms_of n (a + 1) m b (omega arith))
  where
    one_more : (c : Bool) → AreOf n (lcms b (range_with_len (a + 1) m))
        → AreOf n
        (cond c (record { unit = a; step = Lcm } ∷ lcms b (range_with_len (a + 1) m))
        (lcms b (range_with_len (a + 1) m)))
    one_more true rest = (omega arith, rest)
    one_more false rest = rest

sizes_of : (n a m : ℕ) → a + m ≤ n → AreOf n (sizes (range_with_len a m))
sizes_of n a zero h = tt
sizes_of n a (suc m) h = let l : a < n =
    omega arith in (l, (l, (l, sizes_of n (a + 1) m (omega arith))))

at_of : (n : ℕ) (number : Formed → ℤ) (fs : List Formed) (at : ℕ) (f : Formed) → AreOf n fs
    → IsFirstPast (map number fs) at → get_or fs at f ≡ f → f.unit < n
at_of n number [] at f h p e = absurd p
at_of n number (g ∷ fs) zero f h p e = subst (λ (x : Formed). x.unit < n) e h.0
at_of n number (g ∷ fs) (suc at) f h p e = at_of n number fs at f h.1 p.1 e

pub past_unit : (p : LinearProgram) (b : Basis) (T : ℕ → ℕ → ℤ) (unit : ℕ) (step : FlowStep)
    → IsPastFlow p b T unit step → unit < p.units
past_unit p b T unit step h =
    at_of p.units (λ f. formed p h.own h.right h.den f.unit f.step) (rounds p b) h.at
    (record { unit = unit; step = step })
    (both_of p.units (lcms b (range_with_len 0 p.units)) (sizes (range_with_len 0 p.units))
    (lcms_of p.units 0 p.units b (omega arith)) (sizes_of p.units 0 p.units (omega arith)))
    h.past h.is

-- ---- the laws: first for the program of the node itself

module _ (net : Net) (n : Node) where
  abbrev q : Program
  q = program_of net n

  entry_here : (b : Bench) (place : Place) → IsPastOf q b place → IsPastHere net n b place
  entry_here b place h = record {
    last = basis b.rows;
    at = path.Entry h.leaves h.enters h.row h.column h.which;
    nonbasic_are = h.nonbasic_are;
    named = h.named;
    past =
        record {
          last = past_is_last _ b.rows h.leaves h.enters h.row h.column h.which h.ends;
          tableau = h.ends.tableau;
          is_tableau = h.ends.is_tableau;
          here = h.ends.past;
        };
  }

  least_here : (b : Bench) (at : path.Place) (place : Place) → place ≡ place_named q at
      → IsLeastOf q b → path.IsPastAt net n (basis b.rows) (table b.rows) at
      → IsPastHere net n b place
  least_here b at place e h here = record {
    last = basis b.rows;
    at = at;
    nonbasic_are = h.nonbasic_are;
    named = e;
    past =
        record {
          last = feasible_is_last _ b.rows h.feasible;
          tableau = table b.rows;
          is_tableau =
              h.feasible.on_path.is_tableau;
          here = here;
        };
  }

  none_here : (b : Bench) (at : path.Place) (place : Place) → place ≡ place_named q at
      → IsNoneOf q b → path.IsPastAt net n (basis b.rows) (table b.rows) at
      → IsPastHere net n b place
  none_here b at place e h here = record {
    last = basis b.rows;
    at = at;
    nonbasic_are = h.nonbasic_are;
    named = e;
    past =
        record {
          last = refuting_is_last _ b.rows h.place h.refuting;
          tableau =
              table b.rows;
          is_tableau = h.refuting.on_path.is_tableau;
          here = here;
        };
  }

pub entry_is_past : EntryIsPast
entry_is_past net n q b place e =
    subst (λ (r : Program). IsPastOf r b place → IsPastHere net n b place) (sym e)
    (entry_here net n b place)

pub flow_is_past : FlowIsPast
flow_is_past net n q b place e =
    subst (λ (r : Program). IsLeastOf r b → path.IsDecided net n → IsPastFlowOf r b place
    → IsPastHere net n b place) (sym e)
    (λ h decided f. least_here net n b (path.Flow f.unit f.step) place f.named h
    (decided, h.feasible.feasible, f.past))

pub bound_is_past : BoundIsPast
bound_is_past net n q b at e h past =
    let k : IsLeastOf (program_of net n) b = subst (λ (r : Program). IsLeastOf r b) e h in
    least_here net n b (path.Bound at) (places.Bound at) refl k
    (record { feasible = k.feasible.feasible; d = b.d; ys = b.ys; are = k.are; past = past })

pub refutation_is_past : RefutationIsPast
refutation_is_past net n q b at e h past =
    let k : IsNoneOf (program_of net n) b = subst (λ (r : Program). IsNoneOf r b) e h in
    none_here net n b (path.Refute k.place at) (places.Refute b.row at)
    (ap (λ (row : Column). places.Refute row at) k.row_is) k
    (record { refuting = k.refuting.refuting; ys = b.ys; are = k.are; past = past })

pub cost_is_past : CostIsPast
cost_is_past net n q b at e h f decided past =
    let k : IsLeastOf (program_of net n) b = subst (λ (r : Program). IsLeastOf r b) e h in
    let g : AreFlowsOf (program_of net n) b = subst (λ (r : Program). AreFlowsOf r b) e f in
    least_here net n b (path.Cost at) (places.Cost at) refl k
    (record {
      decided = decided;
      feasible = k.feasible.feasible;
      zs = b.flows;
      d =
          b.flow_den;
      read = g.read;
      of = past;
    })

pub balance_is_past : BalanceIsPast
balance_is_past net n q b at e h f decided past =
    let k : IsLeastOf (program_of net n) b = subst (λ (r : Program). IsLeastOf r b) e h in
    let g : AreFlowsOf (program_of net n) b = subst (λ (r : Program). AreFlowsOf r b) e f in
    least_here net n b (path.FlowSum at) (places.FlowSum at) refl k
    (record {
      decided = decided;
      feasible = k.feasible.feasible;
      zs = b.flows;
      d =
          b.flow_den;
      read = g.read;
      of = past;
    })
