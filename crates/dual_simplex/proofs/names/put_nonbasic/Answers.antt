use Rattle.std.proofs.Common.{◌++◌, ◌∙◌, [], ◌∷◌, ap, cond, sym, arith}
use Rattle.std.specs.Prelude.{List}
use Rattle.flow_program.specs.flow_rules.declared.place.Column.{Column}
use Rattle.dual_simplex.specs.Rows.{basis}
use Rattle.flow_program.specs.flow_rules.Named.{column_named}
use Rattle.dual_simplex.proofs.NumberLemmas.{outside_more}
use Rattle.dual_simplex.proofs.names.put_nonbasic.Goals as goal

pub loop-k-preserved : goal.loop-k-preserved
loop-k-preserved c =
    let put = c.put_outside-count.ensures in
    let inv = c.loop-k.invariant in
    let few = inv.few in
    let count = put.count in
    record {
      size = put.length ∙ inv.size;
      few = omega (arith, few, count);
      are = put.columns
          ∙ ap
          (λ (xs : List Column). xs
          ++ cond (basis c.args.rows.now c.loop-k.k) []
          (column_named c.args.program.now c.loop-k.k ∷ [])) inv.are
          ∙ sym (outside_more (column_named c.args.program.now) (basis c.args.rows.now) c.loop-k.k);
    }
