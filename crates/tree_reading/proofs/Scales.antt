-- A scale and multipliers, which are read in one list.
use Rattle.std.proofs.Common.{◌≡◌, ◌<◌, ℕ, ℤ, true, List, [], ◌∷◌, length, Option, Some, None}
use Rattle.std.proofs.Common.{Result, Ok, Err, refl, ap, subst, arith}
use Rattle.std.specs.Borrow.{Bor}
use Rattle.std.specs.Option.{is_some}
use Rattle.text_lines.specs.Tells.{TellsLine}
use Rattle.text_lines.specs.declared.fault.LineFault.{LineFault}
use Rattle.text_lines.specs.declared.fault.LineFault.TheVariants as line
use Rattle.branch_tree.specs.Scaled.{scaled_of}
use Rattle.tree_text_rules.specs.Line.{Token}
use Rattle.tree_text_rules.specs.tree_rules.Leaf.{Leaf, untried}
use Rattle.tree_text_rules.specs.tree_rules.Tree.{End, leaf}
use Rattle.tree_text_rules.specs.LineRead.{one_and_more, open_of}
use Rattle.tree_text_rules.specs.Token.{both, mapped, each, number_of}
use Rattle.tree_text_rules.specs.declared.TreeKind.{TreeKind}
use Rattle.tree_reading.specs.View.{tokens_in}
use Rattle.tree_reading.proofs.Cutting.{tokens_some}

pub some_in : (rest : Option (Bor (List ℕ))) → is_some rest ≡ true → 0 < length (tokens_in rest)
some_in None some = absurd cc
some_in (Some text) some = tokens_some text.now

cut_first : (r : Result (ℤ × List ℤ) TreeKind) (numbers : List ℤ)
    → mapped (λ found. found.0 ∷ found.1) r ≡ Ok numbers → (0 < length numbers)
    × (r ≡ Ok ((scaled_of numbers).d, (scaled_of numbers).ys))
cut_first (Ok found) numbers e =
    let same : found.0 ∷ found.1 ≡ numbers = cc in
    subst (λ (ns : List ℤ). (0 < length ns)
    × (◌≡◌ {A = Result (ℤ × List ℤ) TreeKind} (Ok found)
    (Ok ((scaled_of ns).d, (scaled_of ns).ys)))) same (omega arith, refl)
cut_first (Err kind) numbers e = absurd cc

fails_first : (r : Result (ℤ × List ℤ) TreeKind) (kind : TreeKind)
    → mapped (λ found. found.0 ∷ found.1) r ≡ Err kind → r ≡ Err kind
fails_first (Ok found) kind e = absurd cc
fails_first (Err other) kind e = cc

pub scaled_read : (tokens : List Token) (numbers : List ℤ) → 0 < length tokens
    → each number_of tokens ≡ Ok numbers
    → (0 < length numbers)
    × (one_and_more number_of number_of tokens
    ≡ Ok ((scaled_of numbers).d, (scaled_of numbers).ys))
scaled_read [] numbers some e = absurd (omega arith)
scaled_read (token ∷ tokens) numbers some e =
    cut_first (both (number_of token) (each number_of tokens)) numbers e

pub scaled_told : (tokens : List Token) (fault : LineFault TreeKind) → 0 < length tokens
    → TellsLine (each number_of tokens) fault
    → TellsLine (one_and_more number_of number_of tokens) fault
scaled_told tokens line.Memory some told = tt
scaled_told [] (line.Kind kind) some told = absurd (omega arith)
scaled_told (token ∷ tokens) (line.Kind kind) some told =
    fails_first (both (number_of token) (each number_of tokens)) kind told

pub open_told : (tokens : List Token) (fault : LineFault TreeKind) → 0 < length tokens
    → TellsLine (one_and_more number_of number_of tokens) fault
    → TellsLine (mapped {A = Leaf} {B = End Leaf} (λ l. leaf l) (open_of tokens)) fault
open_told tokens line.Memory some told = tt
open_told [] (line.Kind kind) some told = absurd (omega arith)
open_told (token ∷ tokens) (line.Kind kind) some told =
    ap
    (λ (r : Result (ℤ × List ℤ) TreeKind). mapped {A = Leaf} {B = End Leaf} (λ l. leaf l)
    (mapped {B = Leaf} (λ found. untried (Some (record { d = found.0; ys = found.1 }))) r))
    told
