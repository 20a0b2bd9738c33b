-- What contracts see of a graph: its raw materials and its products, the arcs from input materials
-- to units and from units to output materials, and the units of each exclusion.
use Rattle.std.specs.Prelude.{◌≡◌, ℕ, ◌≤◌, List, [], length, slice_index_or}
use Rattle.flow_rules.specs.number_sets.Sets.{has}
use Rattle.flow_rules.specs.pns_rules.Shape.{Shape, IsProper}
use Rattle.pgraph.specs.Arcs.{Arcs, joins}

pub record Tables : Type 0 where
  pub raws : List ℕ
  pub products : List ℕ
  pub inputs : Arcs
  pub outputs : Arcs
  pub exclusions : List (List ℕ)

-- the units of an exclusion; none if there is no such exclusion
abbrev pub excluded_at : Tables → ℕ → List ℕ
excluded_at t k = slice_index_or t.exclusions k []

-- the graph as the axioms read it
abbrev pub shape : Tables → Shape
shape t = record {
  materials = length t.inputs.units;
  units = length t.inputs.materials;
  raw = has t.raws;
  product = has t.products;
  uses = joins t.inputs;
  makes = joins t.outputs;
  exclusions = length t.exclusions;
  excludes = λ k u. has (excluded_at t k) u;
}

-- the tables are those of some valid problem's graph
pub record IsGraph (t : Tables) : Type 0 where
  pub proper : IsProper (shape t)
  pub few_units : length t.inputs.materials ≤ 128
  pub few_materials : length t.inputs.units ≤ 256
  pub few_exclusions : length t.exclusions ≤ 64
  pub same_units : length t.outputs.materials ≡ length t.inputs.materials
  pub same_materials : length t.outputs.units ≡ length t.inputs.units
