use Rattle.std.proofs.Common.{◌∙◌, List, ap, subst, refl}
use Rattle.tree_text.specs.tree_text_rules.Read.{Certificate}
use Rattle.tree_text.specs.tree_text_rules.Line.{Token}
use Rattle.tree_text.specs.tree_text_rules.Spelling.{tree_text_lines}
use Rattle.tree_text.specs.Prints.{Prints}
use Rattle.command_files.specs.studio_rules.Printed.{OneAnswer}
use Rattle.command_files.proofs.Cited.{Tells-map, Ends-from}
use Rattle.command_files.specs.studio_rules.Solve.{status_of}
use Rattle.searches.specs.Found.{CertificateSays}
use Rattle.searches.proofs.FoundTexts.{says, is_printing}
use Rattle.searches.proofs.certificate.Certificate.say.Goals as goal

pub say_searched-requires-clause-printing : goal.say_searched-requires-clause-printing
say_searched-requires-clause-printing g c =
    is_printing c.args.self.now.tail c.status_of.result
    (c.status_of.ensures ∙ ap (λ (d : Certificate). status_of d.tail) c.self.view_is)

pub returns : goal.returns
returns g c =
    let p = c.args.problem.now in
    let q : Certificate = c.args.self.now in
    let lines : List (List Token) = tree_text_lines p q.claim q.tree q.tail in
    let out = c.print_tree-printed in
    let new = g.K.Sink.state out.new.out in
    let prints : Prints lines (g.K.Sink.state c.out.inside.out) new out.result =
    subst
    (λ (d : Certificate). Prints (tree_text_lines p d.claim d.tree d.tail)
    (g.K.Sink.state c.out.inside.out) new out.result) c.self.view_is out.ensures.prints in
    Ends-from _ _ c.args.out.now _ c.say_searched.new.out _ c.out.view_is
    (Tells-map (OneAnswer c.status_of.result lines) (CertificateSays p q)
    (says p q c.status_of.result
    (c.status_of.ensures ∙ ap (λ (d : Certificate). status_of d.tail) c.self.view_is)
    c.reads_back.ensures))
    (c.say_searched.ensures lines _ refl out.ensures.later prints)
