-- What is read of the first line, and then of the lines after it.
use Rattle.std.proofs.Common.{◌≡◌, ℕ, suc, List, [], ◌∷◌, Result, Ok, Err, refl, sym, ap, ◌∙◌}
use Rattle.std.proofs.Common.{subst}
use Rattle.tree_text_rules.specs.Line.{Line}
use Rattle.tree_text_rules.specs.Read.{Fault, Taken, first_line, on_line, then_read}
use Rattle.tree_text_rules.specs.declared.TreeKind.{TreeKind}
use Rattle.tree_text_rules.specs.declared.TreeKind.TheVariants.{BadLine}
use Rattle.tree_reading.specs.Taken.{line_taken}
use Rattle.text_lines.specs.Tells.{Tells}
use Rattle.text_lines.specs.declared.fault.TextFault.{TextFault}
use Rattle.text_lines.specs.declared.fault.TextFault.TheVariants as faults

numbered : {A : Type 0} (number : ℕ) (r : Result A TreeKind) (behind : List Line) (t : Taken A)
    → on_line number r (λ a. Ok (record { what = a; number = suc number; behind = behind })) ≡ Ok t
    → t.number ≡ suc number
numbered {A} number (Ok a) behind t e =
    let same : ◌≡◌ {A = Taken A} (record { what = a; number = suc number; behind = behind }) t =
    cc in
    ap (λ (x : Taken A). x.number) (sym same)
numbered number (Err kind) behind t e = absurd cc

none_taken : {A : Type 0} (number : ℕ) (t : Taken A)
    → ◌≡◌ {A = Result (Taken A) Fault} (Err (number, BadLine)) (Ok t) → t.number ≡ suc number
none_taken number t e = absurd cc

-- a line counts one
line_number : {A : Type 0} (judge : Line → Result A TreeKind) (number : ℕ) (lines : List Line)
    (t : Taken A) → line_taken judge number lines ≡ Ok t → t.number ≡ suc number
line_number judge number [] t e = none_taken number t e
line_number judge number (line ∷ behind) t e = numbered number (judge line) behind t e

behind_on : {A B : Type 0} (number : ℕ) (r : Result A TreeKind) (behind : List Line)
    (read : A → List Line → Result B Fault)
    → on_line number r (λ a. read a behind)
    ≡ then_read
    (on_line number r (λ a. Ok (record { what = a; number = suc number; behind = behind })))
    (λ a number lines. read a lines)
behind_on number (Ok a) behind read = refl
behind_on number (Err kind) behind read = refl

-- the first line, and then the lines after it
first_then : {A B : Type 0} (judge : Line → Result A TreeKind) (number : ℕ) (lines : List Line)
    (read : A → List Line → Result B Fault)
    → first_line judge number lines read
    ≡ then_read (line_taken judge number lines) (λ a number lines. read a lines)
first_then judge number [] read = refl
first_then judge number (line ∷ behind) read = behind_on number (judge line) behind read

first_ok : {A B : Type 0} (judge : Line → Result A TreeKind) (number : ℕ) (lines : List Line)
    (read : A → List Line → Result B Fault) (t : Taken A)
    → line_taken judge number lines ≡ Ok t
    → first_line judge number lines read ≡ read t.what t.behind
first_ok {A} judge number lines read t e =
    first_then judge number lines read
    ∙ ap (λ (r : Result (Taken A) Fault). then_read r (λ a number lines. read a lines)) e

pub then_tells : {A B : Type 0} (r : Result (Taken A) Fault)
    (read : A → ℕ → List Line → Result B Fault) (fault : TextFault TreeKind) → Tells r fault
    → Tells (then_read r read) fault
then_tells r read faults.Memory h = tt
then_tells {A} {B} r read (faults.At line kind) h =
    ap (λ (r : Result (Taken A) Fault). then_read r read) h

pub first_tells : {A B : Type 0} (judge : Line → Result A TreeKind) (number : ℕ) (lines : List Line)
    (read : A → List Line → Result B Fault) (fault : TextFault TreeKind)
    → Tells (line_taken judge number lines) fault → Tells (first_line judge number lines read) fault
first_tells {A} {B} judge number lines read fault h =
    subst (λ (r : Result B Fault). Tells r fault) (sym (first_then judge number lines read))
    (then_tells (line_taken judge number lines) (λ a number lines. read a lines) fault h)

-- the first line, and then what is read from the next number on
pub first_next : {A B : Type 0} (judge : Line → Result A TreeKind) (number : ℕ) (lines : List Line)
    (next : A → ℕ → List Line → Result B Fault) (t : Taken A)
    → line_taken judge number lines ≡ Ok t
    → first_line judge number lines (λ a lines. next a (suc number) lines)
    ≡ next t.what t.number t.behind
first_next judge number lines next t e =
    first_ok judge number lines (λ a lines. next a (suc number) lines) t e
    ∙ ap (λ n. next t.what n t.behind) (sym (line_number judge number lines t e))
