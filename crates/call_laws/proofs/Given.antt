-- The work of a command whose file gives the problem.
use Rattle.std.proofs.Common.{◌≡◌, ℕ, List, Some, Result, Ok, Err, sym, ◌∙◌, subst}
use Rattle.std.proofs.Common.{arith, inl, inr}
use Rattle.studio.specs.text_rules.Outside.{Told}
use Rattle.studio.specs.problem_rules.Problem.{Problem}
use Rattle.studio.specs.text_rules.Fault.{Fault}
use Rattle.studio.specs.studio_rules.declared.status.Status.{Status}
use Rattle.studio.specs.studio_rules.declared.status.Status.TheVariants.{BadProblem, TooLong}
use Rattle.studio.specs.studio_rules.Reading.{AreHeld, FileFault, GivesProblem, OnFile}

pub is_held : (held : Told) (bytes file : List ℕ) → held ≡ Some (Some bytes) → AreHeld held file
    → file ≡ bytes
is_held held bytes file e is = subst (λ (o : Told). AreHeld o file) e is

no_fault : (name file : List ℕ) (p : Problem) (s : Status) (lines : List (List ℕ))
    → GivesProblem file p → FileFault name file s lines → ⊥
no_fault name file p TooLong lines given fault = let a = given.within in let b = fault.0 in
    absurd (omega (arith, a, b))
no_fault name file p BadProblem lines given fault =
    let e : ◌≡◌ {A = Result Problem Fault} (Ok p) (Err (fault.1.0, fault.1.1)) =
    sym given.reads ∙ fault.1.2 in cc
no_fault name file p s lines given fault = absurd fault

one_problem : (file : List ℕ) (p q : Problem) → GivesProblem file p → GivesProblem file q → q ≡ p
one_problem file p q given other = let e : Ok q ≡ Ok p = sym other.reads ∙ given.reads in cc

pub given_work : (work : Problem → Status → List (List ℕ) → Type 0) (held : List ℕ → Told)
    (name bytes : List ℕ) (p : Problem) (s : Status) (lines : List (List ℕ)) → held name
    ≡ Some (Some bytes) → GivesProblem bytes p → OnFile work held name s lines → work p s lines
given_work work held name bytes p s lines is given (file, there, inl fault) =
    absurd (no_fault name bytes p s lines given
    (subst (λ (b : List ℕ). FileFault name b s lines)
    (is_held (held name) bytes file is there) fault))
given_work work held name bytes p s lines is given (file, there, inr (q, gives, does)) =
    let one : q ≡ p = one_problem bytes p q given
    (subst (λ (b : List ℕ). GivesProblem b q)
    (is_held (held name) bytes file is there) gives) in
    subst (λ (r : Problem). work r s lines) one does
