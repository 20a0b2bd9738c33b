use Rattle.tree_text_laws.proofs.Decimals.{number_code, denominator_code, counts, children}
use Rattle.tree_text_laws.proofs.Decimals.{option_counts}
use Rattle.tree_text_laws.proofs.line_laws.numbers_are_read.Goals as goal

pub returns : goal.returns
returns c =
    record {
      numbers = number_code;
      denominators = denominator_code;
      counts = counts;
      children =
          children;
      options = option_counts;
    }
