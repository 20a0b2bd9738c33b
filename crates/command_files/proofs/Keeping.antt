-- A shelf that nothing is read from is kept, and so is one over two calls that keep it.
use Rattle.std.proofs.Common.{◌∙◌, refl, arith}
use Rattle.pns_text.specs.text_rules.State.{ShelfState}
use Rattle.studio_words.specs.studio_rules.Keeps.{Keeps}

pub keeps_same : (shelf : ShelfState) → Keeps shelf shelf
keeps_same shelf = record { held = λ name. refl; later = λ name. omega arith }

pub keeps_through : (old mid new : ShelfState) → Keeps old mid → Keeps mid new → Keeps old new
keeps_through old mid new first second = record {
  held = λ name. second.held name ∙ first.held name;
  later = λ name. let a = first.later name in let b = second.later name in omega (arith, a, b);
}
