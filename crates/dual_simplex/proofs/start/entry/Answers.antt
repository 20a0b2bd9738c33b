use Rattle.std.proofs.Common.{SFits, rules, ◌≡◌, ◌≤◌, ◌+◌, arith, sym, ap, subst, ◌∙◌, ℕ, ℤ, length}
use Rattle.std.specs.Int.{w128}
use Rattle.std.proofs.lemmas.Int.{to_z-of_z}
use Rattle.flow_program.specs.flow_rules.LinearProgram.{linear_of}
use Rattle.flow_program.specs.flow_rules.Columns.{right_at}
use Rattle.dual_simplex.proofs.RowStartLemmas.{entry_right}
use Rattle.dual_simplex.proofs.start.entry.Goals as goal

pub returns-then-k-size-2-clause-value : goal.returns-then-k-size-2-clause-value
returns-then-k-size-2-clause-value c =
    let p = linear_of c.args.program.now in
    let r : SFits w128 c.entry_at_right.result = search rules in
    let past : p.units ≤ c.args.k = let e = c.requires.units in let f =
    c.if-k-size.false in omega arith in
    let at : c.args.k ≡ right_at p = let e = c.requires.units in let f = c.requires.rows in let g =
    c.if-k-size-2.true in omega arith in
    simp to_z-of_z (c.entry_at_right.ensures.value ∙ sym (entry_right p c.args.c c.args.k past at))
