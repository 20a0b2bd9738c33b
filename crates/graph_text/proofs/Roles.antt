-- The look of an arc by the part of its unit.
use Rattle.std.proofs.Common.{◌≡◌, ℕ, ℤ, pos, Bool, true, false, List, refl}
use Rattle.std.specs.Ordering.{int_eq}
use Rattle.std.specs.Prelude.{if◌then◌else◌, Some, codes}
use Rattle.report_amounts.specs.number_sets.Sets.{has}
use Rattle.report_amounts.specs.problem_rules.Problem.{Problem}
use Rattle.report_amounts.specs.tree_rules.Claim.{Network, size_in}
use Rattle.report_amounts.specs.report_rules.declared.role.Role.{Role}
use Rattle.report_amounts.specs.report_rules.declared.role.Role.TheVariants.{Running, AtLimit, Idle}
use Rattle.report_amounts.specs.report_rules.declared.role.Role.TheVariants.{LeftOut}
use Rattle.report_amounts.specs.report_rules.Drawn.{built_role, is_unit_limited, role_of}
use Rattle.report_amounts.specs.report_rules.Graph.{look_in}

idle_at : (zero limited : Bool) (flow : List ℕ) → zero ≡ true
    → codes ", weight=4, style=dashed"
    ≡ look_in (if zero then Idle else if limited then AtLimit else Running) flow
idle_at true limited flow e = refl
idle_at false limited flow e = let f : false ≡ true = e in cc

pub idle_look : (size : ℤ) (limited : Bool) (flow : List ℕ) → int_eq size (pos 0) ≡ true
    → codes ", weight=4, style=dashed" ≡ look_in (built_role size limited) flow
idle_look size limited flow e = idle_at (int_eq size (pos 0)) limited flow e

running_at : (zero limited : Bool) (flow : List ℕ) → zero ≡ false
    → flow ≡ look_in (if zero then Idle else if limited then AtLimit else Running) flow
running_at false true flow e = refl
running_at false false flow e = refl
running_at true limited flow e = let f : true ≡ false = e in cc

pub running_look : (size : ℤ) (limited : Bool) (flow : List ℕ) → int_eq size (pos 0) ≡ false
    → flow ≡ look_in (built_role size limited) flow
running_look size limited flow e = running_at (int_eq size (pos 0)) limited flow e

at_in : (b : Bool) (role : Role) (flow : List ℕ) → b ≡ true
    → look_in role flow ≡ look_in (if b then role else LeftOut) flow
at_in true role flow e = refl
at_in false role flow e = let f : false ≡ true = e in cc

at_out : (b : Bool) (role : Role) (flow : List ℕ) → b ≡ false
    → codes ", color=gray75" ≡ look_in (if b then role else LeftOut) flow
at_out false role flow e = refl
at_out true role flow e = let f : true ≡ false = e in cc

pub look_inside : (p : Problem) (w : Network) (i : ℕ) (flow : List ℕ) → has w.units i ≡ true
    → look_in (built_role (size_in w i) (is_unit_limited p w i)) flow
    ≡ look_in (role_of p (Some w) i) flow
look_inside p w i flow e =
    at_in (has w.units i) (built_role (size_in w i) (is_unit_limited p w i)) flow e

pub look_outside : (p : Problem) (w : Network) (i : ℕ) (flow : List ℕ) → has w.units i ≡ false
    → codes ", color=gray75" ≡ look_in (role_of p (Some w) i) flow
look_outside p w i flow e =
    at_out (has w.units i) (built_role (size_in w i) (is_unit_limited p w i)) flow e
