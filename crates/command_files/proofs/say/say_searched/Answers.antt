use Rattle.std.proofs.Common.{◌∙◌, ap, sym, subst, Result, Err, refl, inl, inr}
use Rattle.tree_text.specs.declared.fault.PrintFault.{PrintFault}
use Rattle.tree_text.specs.Prints.{Prints}
use Rattle.studio_words.specs.studio_rules.Printed.{OneAnswer}
use Rattle.studio_words.specs.studio_rules.Ending.{Ends, Tells}
use Rattle.studio_words.specs.studio_rules.declared.status.Status.{Status}
use Rattle.studio_words.specs.studio_rules.declared.status.Status.TheVariants.{Past, Spent}
use Rattle.command_files.proofs.Printing.{printed_whole, printed_front, printed_first}
use Rattle.command_files.proofs.Printing.{printed_unfinished}
use Rattle.command_files.proofs.Printing.{printing_text, tells_all}
use Rattle.command_files.proofs.say.say_searched.Goals as goal

pub returns-in-Past : goal.returns-in-Past
returns-in-Past g c = λ lines old quiet le out.
    subst
    (λ (s : Status). Ends (Tells (OneAnswer s lines)) old c.say_unfinished.new.out
    c.say_unfinished.result) (sym c.in-Past.is)
    (printed_unfinished lines old c.args.out.now c.say_unfinished.new.out Past
    c.say_unfinished.result tt quiet le (tells_all Past lines (inr (inl refl)))
    (subst (λ (r : Result (Unit {0}) PrintFault). Prints lines old.out c.args.out.now.out r)
    c.in-Ok.is out) c.say_unfinished.ensures)

pub returns-in-Spent : goal.returns-in-Spent
returns-in-Spent g c = λ lines old quiet le out.
    subst
    (λ (s : Status). Ends (Tells (OneAnswer s lines)) old c.say_unfinished-in-Spent.new.out
    c.say_unfinished-in-Spent.result) (sym c.in-Spent.is)
    (printed_unfinished lines old c.args.out.now c.say_unfinished-in-Spent.new.out Spent
    c.say_unfinished-in-Spent.result tt quiet le (tells_all Spent lines (inr (inr (inl refl))))
    (subst (λ (r : Result (Unit {0}) PrintFault). Prints lines old.out c.args.out.now.out r)
    c.in-Ok.is out) c.say_unfinished-in-Spent.ensures)

pub returns-in_default : goal.returns-in_default
returns-in_default g c = λ lines old quiet le out.
    printed_whole lines old c.args.out.now c.args.status
    (printing_text c.args.status c.requires.printing) quiet
    (tells_all c.args.status lines c.requires.printing)
    (subst (λ (r : Result (Unit {0}) PrintFault). Prints lines old.out c.args.out.now.out r)
    c.in-Ok.is out)

pub returns-in-WriteFault : goal.returns-in-WriteFault
returns-in-WriteFault g c = λ lines old quiet le out.
    printed_front lines old c.args.out.now c.args.status
    (printing_text c.args.status c.requires.printing) quiet
    (tells_all c.args.status lines c.requires.printing)
    (subst (λ (r : Result (Unit {0}) PrintFault). Prints lines old.out c.args.out.now.out r)
    (c.in-Err.is ∙ ap (λ (f : PrintFault). Err f) c.in-WriteFault.is) out)

pub returns-in-Memory : goal.returns-in-Memory
returns-in-Memory g c = λ lines old quiet le out.
    printed_first c.args.status lines old c.args.out.now _ _ quiet le
    (subst (λ (r : Result (Unit {0}) PrintFault). Prints lines old.out c.args.out.now.out r)
    (c.in-Err.is ∙ ap (λ (f : PrintFault). Err f) c.in-Memory.is) out)
    c.say_memory.ensures
