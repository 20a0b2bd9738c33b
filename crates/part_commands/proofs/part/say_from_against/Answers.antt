use Rattle.std.proofs.Common.{◌≡◌, [], ◌∷◌, refl, inl, inr, ℕ, List, codes}
use Rattle.network_commands.specs.studio_rules.TreeFile.{OnTree}
use Rattle.network_commands.specs.studio_rules.Part.{ClaimSays, AgainstWork}
use Rattle.network_commands.specs.studio_rules.Ending.{Says}
use Rattle.network_commands.specs.studio_rules.declared.status.Status.{Status}
use Rattle.network_commands.specs.studio_rules.declared.status.Status.TheVariants.{Memory, BadNode}
use Rattle.network_commands.proofs.command_files.Cited.{Ends-map, Says-map, Tells-memory, only_in}
use Rattle.network_commands.proofs.command_files.Cited.{keeps_same}
use Rattle.part_commands.proofs.part.say_from_against.Goals as goal

pub returns-in_default-clause-ends : goal.returns-in_default-clause-ends
returns-in_default-clause-ends g c =
    let shelf = g.F.Shelf.state c.args.shelf.now in
    let work =
    AgainstWork c.args.effort.budget shelf.held c.args.tree.now c.args.inside.now
    c.args.outside.now c.args.problem.now in
    let Q : Status → List ℕ → Type 0 = Says work (λ other. other ≡ c.args.tree.now) shelf shelf in
    Ends-map _ Q c.args.out.now _ _ (only_in Q Memory _ (Tells-memory work)) c.say_memory.ensures

pub returns-in-Some-clause-ends : goal.returns-in-Some-clause-ends
returns-in-Some-clause-ends g c =
    let old = g.F.Shelf.state c.args.shelf.now in
    let new = g.F.Shelf.state c.say_tree.new.shelf in
    let p = c.args.problem.now in
    let s = c.in-Some.start in
    let name = c.args.tree.now in
    let work =
    AgainstWork c.args.effort.budget old.held name c.args.inside.now c.args.outside.now p in
    Ends-map _ _ c.args.out.now _ _
    (Says-map (OnTree (ClaimSays c.args.effort.budget s.inside s.outside) old.held name p) work
    (λ other. other ≡ name) (λ other. other ≡ name) old new
    (λ status lines h. inr (s.inside, s.outside, c.in-Some.ensures.some, h)) (λ other e. e))
    c.say_tree.ensures.ends

pub returns-in-None-clause-ends : goal.returns-in-None-clause-ends
returns-in-None-clause-ends g c =
    let shelf = g.F.Shelf.state c.args.shelf.now in
    let work =
    AgainstWork c.args.effort.budget shelf.held c.args.tree.now c.args.inside.now
    c.args.outside.now c.args.problem.now in
    let Q : Status → List ℕ → Type 0 = Says work (λ other. other ≡ c.args.tree.now) shelf shelf in
    Ends-map _ Q c.args.out.now _ _
    (only_in Q BadNode _ (
      codes "bad node" ∷ [],
      inl (refl, c.in-None.ensures.none, refl),
      refl,
    )) c.tell.ensures

pub returns-in_default-clause-keeps : goal.returns-in_default-clause-keeps
returns-in_default-clause-keeps g c = keeps_same _

pub returns-in-None-clause-keeps : goal.returns-in-None-clause-keeps
returns-in-None-clause-keeps g c = keeps_same _
