use Rattle.std.proofs.Common.{ℕ, ℤ, ◌≡◌, ◌++◌, List, take, drop}
use Rattle.integer_laws.specs.Combined.{combined}
use Rattle.integer_laws.specs.Range.{InRange}
use Rattle.std.specs.List.{AllWithin}
use Rattle.exact_numbers.proofs.combination.write_entries.Given as goal

pub record IsWritten (p q : ℤ) (old pivot new : List ℤ) (j : ℕ) : Type 0 where
  pub items : new ≡ combined p q (take j old) (take j pivot) ++ drop j old
  pub in_range : AllWithin InRange new 0 j

abbrev pub invariant-loop-j : goal.invariant-loop-j
invariant-loop-j l = IsWritten l.p l.q l.fn.row l.pivot l.row l.j
