use Rattle.tree_text_laws.proofs.Columns.{column_code, row_code, which_code, flow_code}
use Rattle.tree_text_laws.proofs.line_laws.columns_are_read.Goals as goal

pub returns : goal.returns
returns c = λ p valid. let formed = (c.valid_is_well_formed.ensures p).0 valid in
    record {
      columns = column_code p formed;
      rows = row_code p formed;
      entry_numbers =
          which_code;
      flow_steps = flow_code;
    }
