use Rattle.std.proofs.Common.{None, [], ◌∷◌, refl, inl, inr, ℕ, List, codes}
use Rattle.network_commands.specs.studio_rules.Part.{PartSays, PartWork}
use Rattle.network_commands.specs.studio_rules.Ending.{Tells}
use Rattle.network_commands.specs.studio_rules.declared.status.Status.{Status}
use Rattle.network_commands.specs.studio_rules.declared.status.Status.TheVariants.{Memory, BadNode}
use Rattle.network_commands.proofs.command_files.Cited.{Ends-map, Tells-map, Tells-memory, only_in}
use Rattle.part_commands.proofs.part.say_from.Goals as goal

pub returns-in_default : goal.returns-in_default
returns-in_default g c =
    let says =
    PartWork c.args.effort.budget c.args.inside.now c.args.outside.now c.args.problem.now in
    Ends-map _ _ c.args.out.now _ _ (only_in (Tells says) Memory _ (Tells-memory says))
    c.say_memory.ensures

pub returns-in-Some : goal.returns-in-Some
returns-in-Some g c =
    let p = c.args.problem.now in
    let s = c.in-Some.start in
    Ends-map _ _ c.args.out.now _ _
    (Tells-map (PartSays c.args.effort.budget None s.inside s.outside p)
    (PartWork c.args.effort.budget c.args.inside.now c.args.outside.now p)
    (λ status lines h. inr (s.inside, s.outside, c.in-Some.ensures.some, h)))
    c.say_searched.ensures

pub returns-in-None : goal.returns-in-None
returns-in-None g c =
    let Q : Status → List ℕ → Type 0 =
    Tells
    (PartWork c.args.effort.budget c.args.inside.now c.args.outside.now c.args.problem.now) in
    Ends-map _ Q c.args.out.now _ _
    (only_in Q BadNode _ (
      codes "bad node" ∷ [],
      inl (refl, c.in-None.ensures.none, refl),
      refl,
    )) c.tell.ensures
