-- Parts that wait for the places of their leaves in one tree, and what it means that the list of
-- them has one more.
use Rattle.std.specs.Prelude.{◌≡◌, ◌<◌, ℕ, List, [], ◌∷◌, ◌++◌, length, map}
use Rattle.tree_text_laws.specs.tree_text_rules.OpenLeaves.{OpenAt, IsAmong}
use Rattle.tree_parts.specs.Splices.{Splice, AllBelow, AllAbove}
use Rattle.tree_parts.specs.declared.waiting.Waiting.{Waiting}
use Rattle.tree_text_laws.specs.tree_text_rules.Part as parts
use Rattle.tree_text_laws.specs.tree_text_rules.Part.{start_of}

abbrev pub splice_of : Waiting → Splice
splice_of w = record { place = w.place; part = w.nodes.items }

abbrev pub splices_of : List Waiting → List Splice
splices_of = map splice_of

-- each place is below n, and each part has a root
abbrev pub AreWithin : ℕ → List Splice → Type 0
AreWithin n [] = Unit {0}
AreWithin n (s ∷ ss) = (s.place < n) × (0 < length s.part) × AreWithin n ss

-- the part waits for an open leaf that has its node, between the parts for leaves before it and
-- those for leaves after it
pub record IsOneMore (leaves : List OpenAt) (part : parts.Part) (old new : List Splice) : Type
    0 where
  pub place : ℕ
  pub front : List Splice
  pub back : List Splice
  pub leaf_is : IsAmong (record { number = place; node = start_of part }) leaves
  pub low : AllBelow place front
  pub high : AllAbove place back
  pub old_is : old ≡ front ++ back
  pub new_is : new ≡ front ++ record { place = place; part = part.tree } ∷ back
