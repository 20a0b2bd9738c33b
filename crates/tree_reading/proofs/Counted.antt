-- Lines with another number of tokens than their form has.
use Rattle.std.proofs.Common.{◌≡◌, ◌<◌, List, [], ◌∷◌, length, Result, Err, refl, arith}
use Rattle.tree_text_rules.specs.problem_rules.Problem.{Problem}
use Rattle.tree_text_rules.specs.Line.{Token}
use Rattle.tree_text_rules.specs.LineRead.{alone, one, two, entry_of}
use Rattle.tree_text_rules.specs.declared.TreeKind.{TreeKind}
use Rattle.tree_text_rules.specs.declared.TreeKind.TheVariants.{BadLine}

pub not_alone : {A : Type 0} (a : A) (tokens : List Token) → 0 < length tokens
    → alone a tokens ≡ Err BadLine
not_alone a [] some = absurd (omega arith)
not_alone a (token ∷ tokens) some = refl

pub not_one : {A : Type 0} (read : Token → Result A TreeKind) (tokens : List Token)
    → (length tokens ≡ 1 → ⊥) → one read tokens ≡ Err BadLine
not_one read (a ∷ []) other = absurd (other refl)
not_one read tokens other = refl

pub not_two : {A B : Type 0} (read : Token → Result A TreeKind) (read' : Token → Result B TreeKind)
    (tokens : List Token) → (length tokens ≡ 2 → ⊥) → two read read' tokens ≡ Err BadLine
not_two read read' (a ∷ b ∷ []) other = absurd (other refl)
not_two read read' tokens other = refl

pub not_entry : (p : Problem) (tokens : List Token) → (length tokens ≡ 5 → ⊥)
    → entry_of p tokens ≡ Err BadLine
not_entry p (a ∷ b ∷ c ∷ d ∷ e ∷ []) other = absurd (other refl)
not_entry p tokens other = refl
