use Rattle.tree_text_laws.proofs.Names.{unit_code, material_code, exclusion_code}
use Rattle.tree_text_laws.proofs.line_laws.names_are_read.Goals as goal

pub returns : goal.returns
returns c = λ p valid. let formed = (c.valid_is_well_formed.ensures p).0 valid in
    record {
      units = unit_code p formed;
      materials = material_code p formed;
      exclusions =
          exclusion_code p formed;
    }
