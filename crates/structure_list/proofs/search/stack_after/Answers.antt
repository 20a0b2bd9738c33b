use Rattle.std.proofs.Common.{◌≡◌, ◌∙◌, ◌++◌, ◌∷◌, [], List, None, sym, ap, subst}
use Rattle.pgraph.specs.Tables.{shape}
use Rattle.structure_list.specs.declared.position.Position.{Position}
use Rattle.structure_list.specs.Rest.{IsUnderWay}
use Rattle.structure_list.proofs.StartLemmas.{begins, nothing}
use Rattle.structure_list.proofs.search.stack_after.Goals as goal

pub returns-in_default : goal.returns-in_default
returns-in_default c =
    subst (λ ps. IsUnderWay (shape c.args.graph.now) ps c.args.after.now) (sym c.new.ensures)
    (nothing (shape c.args.graph.now) c.args.after.now c.in_default.ensures)

pub returns-in-None : goal.returns-in-None
returns-in-None c =
    let P = λ (ps : List Position). IsUnderWay (shape c.args.graph.now) ps None in
    let all : c.push.new.self ≡ c.in-Some.position ∷ [] =
    c.push.ensures
    ∙ ap (λ (ps : List Position). ps ++ c.in-Some.position ∷ []) c.new-stack.ensures in
    subst (λ after. IsUnderWay (shape c.args.graph.now) c.push.new.self after) (sym c.in-None.is)
    (subst P (sym all) (begins (shape c.args.graph.now) c.in-Some.position c.in-Some.ensures))
