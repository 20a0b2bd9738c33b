-- The bytes of a graph are those of its lines.
use Rattle.std.proofs.Common.{◌≡◌, refl, sym, subst, inl, inr, ℕ, Bool, List}
use Rattle.std.specs.Prelude.{Option, Some, Result, Ok, Err, IfOk}
use Rattle.verdicts.specs.number_sets.Sets.{has}
use Rattle.verdicts.specs.problem_rules.Problem.{Problem}
use Rattle.verdicts.specs.pns_problem.Printing.{printed}
use Rattle.verdicts.specs.pns_rules.Shape.{shape_of}
use Rattle.verdicts.specs.tree_rules.Claim.{Network}
use Rattle.command_files.specs.studio_rules.Max.{IsMaximal, HasNoStructure}
use Rattle.verdicts.specs.report_rules.Graph.{graph_lines, empty_lines}
use Rattle.command_files.specs.studio_rules.Lines.{text_of}
use Rattle.command_files.specs.studio_rules.Graph.{AreGraphLines, AreSceneLines}
use Rattle.command_files.specs.studio_rules.declared.scene.Scene.{Scene}
use Rattle.command_files.specs.studio_rules.declared.scene.Scene.TheVariants as scenes

pub graph_told : {V E : Type 0} (items : V → List ℕ) (p : Problem) (w : Option Network)
    (ws : List Network) (t : ℕ → Bool) (r : Result V E) → IsMaximal (shape_of p) t
    → IfOk r (λ bytes. items bytes ≡ printed (graph_lines p w ws t))
    → IfOk r (λ bytes. (lines : List (List ℕ)) × AreGraphLines p w ws lines
    × (items bytes ≡ text_of lines))
graph_told items p w ws t (Ok bytes) is h = (graph_lines p w ws t, inr (t, is, refl), h)
graph_told items p w ws t (Err e) is h = tt

pub empty_told : {V E : Type 0} (items : V → List ℕ) (p : Problem) (w : Option Network)
    (ws : List Network) (r : Result V E) → HasNoStructure (shape_of p)
    → IfOk r (λ bytes. items bytes ≡ printed empty_lines)
    → IfOk r (λ bytes. (lines : List (List ℕ)) × AreGraphLines p w ws lines
    × (items bytes ≡ text_of lines))
empty_told items p w ws (Ok bytes) none h = (empty_lines, inl (none, refl), h)
empty_told items p w ws (Err e) none h = tt

pub alone_told : {V E : Type 0} (items : V → List ℕ) (p : Problem) (w : Network)
    (ws : List Network) (units : List ℕ) (r : Result V E) → units ≡ w.units
    → IfOk r (λ bytes. items bytes ≡ printed (graph_lines p (Some w) ws (has units)))
    → IfOk r (λ bytes. items bytes ≡ text_of (graph_lines p (Some w) ws (has w.units)))
alone_told items p w ws units (Ok bytes) is h =
    subst (λ (t : List ℕ). items bytes ≡ text_of (graph_lines p (Some w) ws (has t))) is h
alone_told items p w ws units (Err e) is h = tt

pub plant_scene : {V E : Type 0} (items : V → List ℕ) (scene : Scene) (p : Problem) (w : Network)
    (ws : List Network) (r : Result V E) → scene ≡ scenes.Plant
    → IfOk r (λ bytes. (lines : List (List ℕ)) × AreGraphLines p (Some w) ws lines
    × (items bytes ≡ text_of lines))
    → IfOk r (λ bytes. (lines : List (List ℕ)) × AreSceneLines scene p w ws lines
    × (items bytes ≡ text_of lines))
plant_scene items scene p w ws r is h =
    subst (λ (s : Scene). IfOk r (λ bytes. (lines : List (List ℕ)) × AreSceneLines s p w ws lines
    × (items bytes ≡ text_of lines))) (sym is) h

network_told : {V E : Type 0} (items : V → List ℕ) (p : Problem) (w : Network)
    (ws : List Network) (r : Result V E)
    → IfOk r (λ bytes. items bytes ≡ text_of (graph_lines p (Some w) ws (has w.units)))
    → IfOk r (λ bytes. (lines : List (List ℕ)) × AreSceneLines scenes.Network p w ws lines
    × (items bytes ≡ text_of lines))
network_told items p w ws (Ok bytes) h = (graph_lines p (Some w) ws (has w.units), refl, h)
network_told items p w ws (Err e) h = tt

pub network_scene : {V E : Type 0} (items : V → List ℕ) (scene : Scene) (p : Problem)
    (w : Network) (ws : List Network) (r : Result V E) → scene ≡ scenes.Network
    → IfOk r (λ bytes. items bytes ≡ text_of (graph_lines p (Some w) ws (has w.units)))
    → IfOk r (λ bytes. (lines : List (List ℕ)) × AreSceneLines scene p w ws lines
    × (items bytes ≡ text_of lines))
network_scene items scene p w ws r is h =
    subst (λ (s : Scene). IfOk r (λ bytes. (lines : List (List ℕ)) × AreSceneLines s p w ws lines
    × (items bytes ≡ text_of lines))) (sym is) (network_told items p w ws r h)
