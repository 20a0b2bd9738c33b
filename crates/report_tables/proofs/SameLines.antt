-- Multipliers that agree on the rows of a node have the same lines.
use Rattle.std.proofs.Common.{◌≡◌, ℕ, List, [], ◌∷◌, ◌++◌, refl, ap, ◌∙◌, ℤ, pos}
use Rattle.std.specs.Prelude.{flat_map}
use Rattle.std.specs.List.{AllByRecursion}
use Rattle.text_lines.specs.problem_rules.Problem.{Problem}
use Rattle.cert_check.specs.pns_rules.Nodes.{Node}
use Rattle.cert_check.specs.flow_rules.Net.{net_of}
use Rattle.cert_check.specs.flow_rules.Relaxed.{rows, units, lower_at, unit_low, reduced_cost}
use Rattle.cert_check.proofs.flow_rules.Cited.{Agree, all_had}
use Rattle.report_amounts.specs.report_rules.Clash.{material_here, material_lines, unit_here}
use Rattle.report_amounts.specs.report_rules.Clash.{unit_lines}
use Rattle.report_tables.proofs.Lefts.{reduced_by}

same_pieces : (f g : ℕ → List (List ℕ)) (xs : List ℕ) → AllByRecursion (λ x. f x ≡ g x) xs
    → flat_map f xs ≡ flat_map g xs
same_pieces f g [] h = refl
same_pieces f g (x ∷ xs) h = λ i. h.0 i ++ same_pieces f g xs h.1 i

pub same_lines : (p : Problem) (n : Node) (y y' : ℕ → ℤ) → Agree y y' (rows (net_of p) n)
    → material_lines p n y ++ unit_lines p n y ≡ material_lines p n y' ++ unit_lines p n y'
same_lines p n y y' agree =
    ap (λ (ls : List (List ℕ)). ls ++ unit_lines p n y) materials
    ∙ ap (λ (ls : List (List ℕ)). material_lines p n y' ++ ls) bounds
  where
    here : (ℕ → ℤ) → ℕ → List (List ℕ)
    here w j = material_here p j (lower_at (net_of p) n j) (w j)

    size : (ℕ → ℤ) → ℕ → List (List ℕ)
    size w i = unit_here p i (unit_low (net_of p) n i) (reduced_cost (net_of p) n (pos 0) w i)

    materials : material_lines p n y ≡ material_lines p n y'
    materials = same_pieces (here y) (here y') (rows (net_of p) n)
        (all_had (λ j. here y j ≡ here y' j) (rows (net_of p) n)
        (λ j e. ap (λ z. material_here p j (lower_at (net_of p) n j) z) (agree j e)))

    bounds : unit_lines p n y ≡ unit_lines p n y'
    bounds = same_pieces (size y) (size y') (units (net_of p) n)
        (all_had (λ i. size y i ≡ size y' i) (units (net_of p) n)
        (λ i e. ap (λ z. unit_here p i (unit_low (net_of p) n i) z)
        (reduced_by (net_of p) n y y' agree (pos 0) i)))
