-- A name of the problem has a spot of it.
use Rattle.std.proofs.Common.{◌≡◌, ◌<◌, ℕ, List, [], Option, Some, None, IfSome, length, refl}
use Rattle.std.proofs.Common.{subst}
use Rattle.std.specs.List.{position}
use Rattle.std.specs.Str.{bytes_eq}
use Rattle.std.specs.Prelude.{option_map}
use Rattle.std.proofs.lemmas.List.{length-map}
use Rattle.std.proofs.lemmas.List.Quantifiers.{position-Some}
use Rattle.stability.specs.problem_rules.Problem.{Problem, Material, OperatingUnit, material_names}
use Rattle.stability.specs.problem_rules.Problem.{unit_names}
use Rattle.stability.specs.report_rules.declared.spot.Spot.{Spot}
use Rattle.stability.specs.report_rules.declared.spot.Spot.TheVariants as spots
use Rattle.stability.specs.report_rules.declared.spot.SpotKind.{SpotKind}
use Rattle.stability.specs.report_rules.declared.spot.SpotKind.TheVariants.{Price, Fix}
use Rattle.stability.specs.report_rules.declared.spot.SpotKind.TheVariants.{Proportional}
use Rattle.stability.specs.report_rules.Spot.{KnowsSpot}
use Rattle.network_commands.specs.studio_rules.Stable.{spot_named}

option_known : (P : Spot → Type 0) (make : ℕ → Spot) (o : Option ℕ)
    → ((x : ℕ) → o ≡ Some x → P (make x)) → IfSome (option_map make o) P
option_known P make None h = tt
option_known P make (Some x) h = h x refl

inside : (names : List (List ℕ)) (name : List ℕ) (n x : ℕ) → length names ≡ n
    → position (λ word. bytes_eq word name) names ≡ Some x → x < n
inside names name n x long e =
    subst (λ k. x < k) long (position-Some (λ (word : List ℕ). bytes_eq word name) names x [] e).0

pub spot_known : (p : Problem) (kind : SpotKind) (name : List ℕ)
    → IfSome (spot_named p kind name) (KnowsSpot p)
spot_known p Price name =
    option_known (KnowsSpot p) spots.Price
    (position (λ (word : List ℕ). bytes_eq word name) (material_names p.materials))
    (λ x e. inside (material_names p.materials) name (length p.materials) x
    (length-map p.materials (λ (m : Material). m.name)) e)
spot_known p Fix name =
    option_known (KnowsSpot p) spots.Fix
    (position (λ (word : List ℕ). bytes_eq word name) (unit_names p.units))
    (λ u e. inside (unit_names p.units) name (length p.units) u
    (length-map p.units (λ (o : OperatingUnit). o.name)) e)
spot_known p Proportional name =
    option_known (KnowsSpot p) spots.Proportional
    (position (λ (word : List ℕ). bytes_eq word name) (unit_names p.units))
    (λ u e. inside (unit_names p.units) name (length p.units) u
    (length-map p.units (λ (o : OperatingUnit). o.name)) e)
