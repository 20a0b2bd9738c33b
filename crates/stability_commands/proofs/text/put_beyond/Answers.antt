use Rattle.std.proofs.Common.{◌∷◌, [], codes, sym, subst, Option}
use Rattle.stability.specs.tree_rules.Claim.{Network}
use Rattle.network_commands.specs.tree_text.Prints.{Prints}
use Rattle.network_commands.specs.studio_rules.Stable.{side_word, beyond_lines}
use Rattle.stability_commands.proofs.text.put_beyond.Goals as goal

pub returns-in-Some-clause-prints : goal.returns-in-Some-clause-prints
returns-in-Some-clause-prints g c =
    let out = c.put_headed in
    subst
    (λ (far : Option Network). Prints
    (beyond_lines c.args.problem.now (side_word c.args.side) far)
    (g.K.Sink.state c.args.out.now) (g.K.Sink.state out.new.out) out.result) (sym c.in-Some.is)
    (out.ensures.prints (side_word c.args.side ∷ []) c.beyond_line.ensures)

pub returns-in-None-clause-prints : goal.returns-in-None-clause-prints
returns-in-None-clause-prints g c =
    let out = c.put in
    subst
    (λ (far : Option Network). Prints
    (beyond_lines c.args.problem.now (side_word c.args.side) far)
    (g.K.Sink.state c.args.out.now) (g.K.Sink.state out.new.out) out.result) (sym c.in-None.is)
    (out.ensures.prints (side_word c.args.side ∷ codes "limit" ∷ []) c.limit_line.ensures)
