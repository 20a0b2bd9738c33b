use Rattle.std.proofs.Common.{arith}
use Rattle.std.proofs.lemmas.Str.Pattern.{split_once_first}
use Rattle.studio_words.proofs.NameLists.{cut_none, cut_part, cut_shorter}
use Rattle.studio_words.proofs.unit_names.first_part.Goals as goal

pub returns : goal.returns
returns c =
    let h =
    split_once_first 44 c.args.text.now c.split_once.result c.split_once.ensures.cases
    (omega arith) in
    record {
      none = cut_none c.args.text.now c.split_once.result h;
      part =
          cut_part c.args.text.now c.split_once.result h;
      shorter =
          cut_shorter c.args.text.now c.split_once.result h;
    }
