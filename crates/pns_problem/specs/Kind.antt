-- The kinds of materials, as the rules name them.
use Rattle.text_rules.specs.problem_rules.Problem as rules
use Rattle.pns_problem.specs.declared.material.Kind as kinds
use Rattle.pns_problem.specs.declared.material.Kind.TheVariants.{RawMaterial, Intermediate, Product}

abbrev pub kind_of : kinds.Kind → rules.Kind
kind_of RawMaterial = rules.raw_material
kind_of Intermediate = rules.intermediate
kind_of Product = rules.product
