use Rattle.network_commands.specs.tree_text_rules.Read.{Certificate}
use Rattle.network_commands.specs.tree_text_rules.Spelling.{tree_text}
use Rattle.network_commands.specs.studio_rules.Part.{part_from}
use Rattle.part_commands.proofs.found.reads_back.Goals as goal

pub returns : goal.returns
returns c =
    let p = c.args.problem.now in
    let start = c.args.start.now in
    let found : Certificate = c.args.found.now in
    let valid = c.is_valid.ensures.valid in
    let spelled = c.read_texts_are_spelled.ensures p valid
    (tree_text p found.claim found.tree found.tail) found c.reads_back.ensures in
    c.spelled_parts_read.ensures p valid (part_from start.inside start.outside found)
    (record {
      inside = c.requires.inside;
      outside = c.requires.outside;
      apart =
          c.requires.apart;
      rest = spelled.fits;
    })
