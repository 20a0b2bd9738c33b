use Rattle.std.proofs.Common.{sym, ◌∙◌, arith}
use Rattle.pgraph.specs.number_sets.Sets.{has}
use Rattle.pgraph.specs.Tables.{shape}
use Rattle.structure_list.proofs.TurnLemmas.{within_taken, within_left, fewer_before}
use Rattle.structure_list.proofs.compare.+compare_from.Goals as goal

pub returns-in_default-clause-equal : goal.returns-in_default-clause-equal
returns-in_default-clause-equal t c = λ e u.
    let d = c.in_default.ensures.settled in
    d (has c.args.a) c.requires.a u ∙ sym (d (has c.args.b) c.requires.b u)

pub compare_from-requires : goal.compare_from-requires
compare_from-requires t c =
    let g = shape c.args.graph.now in
    let before = c.args.position.decided.node in
    let turn = c.in-Some.turn in
    let n = turn.position.decided.node in
    let after = c.taking.result.decided.node in
    let less =
    fewer_before g n before c.in-Some.ensures.node turn.unit after c.taking.ensures.fewer in
    let measure = c.decreases in (
      omega arith,
      (
        c.taking.ensures.position,
        (
          within_taken g n before c.in-Some.ensures.node turn.unit after (has c.args.a) c.requires.a
              c.taking.ensures.node (sym c.has.ensures ∙ c.if-has.true),
          within_taken g n before c.in-Some.ensures.node turn.unit after (has c.args.b) c.requires.b
              c.taking.ensures.node (sym c.has-then-has.ensures ∙ c.if-has-2.true),
        ),
      ),
    )

pub compare_from-requires-else-has-3 : goal.compare_from-requires-else-has-3
compare_from-requires-else-has-3 t c =
    let g = shape c.args.graph.now in
    let before = c.args.position.decided.node in
    let turn = c.in-Some.turn in
    let n = turn.position.decided.node in
    let after = c.leaving.result.decided.node in
    let less =
    fewer_before g n before c.in-Some.ensures.node turn.unit after c.leaving.ensures.fewer in
    let measure = c.decreases in (
      omega arith,
      (
        c.leaving.ensures.position,
        (
          within_left g n before c.in-Some.ensures.node turn.unit after (has c.args.a) c.requires.a
              c.leaving.ensures.node (sym c.has.ensures ∙ c.if-has.false),
          within_left g n before c.in-Some.ensures.node turn.unit after (has c.args.b) c.requires.b
              c.leaving.ensures.node (sym c.has-else-has.ensures ∙ c.if-has-3.false),
        ),
      ),
    )
