use Rattle.std.proofs.Common.{◌≡◌, ◌∷◌, [], Some, None, IfSome, IsSomeAnd, map, refl, inl, List, ℕ}
use Rattle.std.proofs.Common.{Option, codes, string_bytes, subst, ap, sym, ◌∙◌, option_map}
use Rattle.structure_commands.specs.studio_rules.Lines.{line}
use Rattle.structure_commands.specs.studio_rules.Command.{Command, command_of, AreWithin, IsFileOf}
use Rattle.structure_commands.specs.studio_rules.Command.{IsFileWord}
use Rattle.structure_commands.specs.studio_words.View.{command_view}
use Rattle.structure_commands.specs.studio_rules.Answers.{Answers, AnswersTo, CommandAnswers}
use Rattle.structure_commands.specs.studio_rules.Answers.{CommandSays, WordsSay}
use Rattle.structure_commands.specs.studio_rules.declared.status.Status.{Status}
use Rattle.structure_commands.specs.studio_rules.declared.status.Status.TheVariants.{Usage, Memory}
use Rattle.structure_commands.proofs.command_files.Cited.{Ends-map, Says-map, only_in, keeps_same}
use Rattle.structure_commands.proofs.studio_words.Cited.{words_within}
use Rattle.studio.proofs.call.run.Goals as goal

pub perform-requires : goal.perform-requires
perform-requires g c =
    let words = map string_bytes c.args.words.now in
    let found : Some (command_view c.in-Some.command) ≡ command_of words =
    ap (option_map command_view) (sym c.in-Some.is) ∙ c.in-Ok.ensures in
    subst (λ (f : Option Command). IfSome f AreWithin) (sym found) (words_within words)

pub returns-in_default-clause-ends : goal.returns-in_default-clause-ends
returns-in_default-clause-ends g c =
    let words = map string_bytes c.args.words.now in
    let shelf = g.F.Shelf.state c.args.shelf.now in
    let Q : Status → List ℕ → Type 0 = WordsSay shelf shelf words in
    Ends-map _ Q c.args.out.now _ _ (only_in Q Memory (line (codes "memory")) ([], inl refl, refl))
    c.say_memory.ensures

pub returns-in-Some-clause-ends : goal.returns-in-Some-clause-ends
returns-in-Some-clause-ends g c =
    let words = map string_bytes c.args.words.now in
    let old = g.F.Shelf.state c.args.shelf.now in
    let new = g.F.Shelf.state c.perform.new.shelf in
    let Q : Status → List ℕ → Type 0 = WordsSay old new words in
    let command = command_view c.in-Some.command in
    let found : Some command ≡ command_of words =
    ap (option_map command_view) (sym c.in-Some.is) ∙ c.in-Ok.ensures in
    Ends-map (CommandSays old new command) Q c.args.out.now _ _
    (Says-map (CommandAnswers old.held command) (Answers old.held words) (IsFileOf command)
    (IsFileWord words) old new
    (λ s lines h. subst (λ (f : Option Command). AnswersTo old.held f s lines) found h)
    (λ name h. subst (λ (f : Option Command). IsSomeAnd f (λ command. IsFileOf command name)) found
    h))
    c.perform.ensures.ends

pub returns-in-None-clause-ends : goal.returns-in-None-clause-ends
returns-in-None-clause-ends g c =
    let words = map string_bytes c.args.words.now in
    let shelf = g.F.Shelf.state c.args.shelf.now in
    let Q : Status → List ℕ → Type 0 = WordsSay shelf shelf words in
    let found : None ≡ command_of words =
    ap (option_map command_view) (sym c.in-None.is) ∙ c.in-Ok.ensures in
    Ends-map _ Q c.args.out.now _ _
    (only_in Q Usage (line (codes "usage")) (
      codes "usage" ∷ [],
      subst (λ (f : Option Command). AnswersTo shelf.held f Usage (codes "usage" ∷ [])) found
          (refl, refl),
      refl,
    ))
    c.tell_usage.ensures

pub returns-in_default-clause-keeps : goal.returns-in_default-clause-keeps
returns-in_default-clause-keeps g c = keeps_same _

pub returns-in-None-clause-keeps : goal.returns-in-None-clause-keeps
returns-in-None-clause-keeps g c = keeps_same _
