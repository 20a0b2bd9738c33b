-- What `solve` prints with status 0 is accepted by `check`.
use Rattle.std.proofs.Common.{◌≡◌, ◌≤◌, ℕ, false, List, [], Some, Result, Ok, Err, length, refl}
use Rattle.std.proofs.Common.{sym}
use Rattle.std.proofs.Common.{◌∙◌, subst, arith, inl, inr}
use Rattle.structure_commands.specs.text_rules.Outside.{Told}
use Rattle.structure_commands.specs.problem_rules.Problem.{Problem}
use Rattle.structure_commands.specs.text_rules.Fault.{Fault}
use Rattle.structure_commands.specs.problem_rules.Validity.{IsValid}
use Rattle.structure_commands.specs.tree_rules.Claim.{Claim, claimed_cost}
use Rattle.structure_commands.specs.tree_rules.Accepted.{Tree, first_node, IsAccepted}
use Rattle.structure_commands.specs.tree_laws.Laws.{PassingClaimHasNoFault}
use Rattle.structure_commands.specs.tree_rules.HeadLaws.{PassingHasNoFault}
use Rattle.structure_commands.specs.tree_rules.Head.{known_first}
use Rattle.structure_commands.specs.tree_rules.Headed.{head_node, IsAcceptedBy}
use Rattle.structure_commands.specs.tree_laws.HeadLaws.{EmptyHeadProves, PassingTreeHasNoFaultBy}
use Rattle.part_commands.specs.tree_text_laws.Laws.{PlainTextsAreHeaded}
use Rattle.structure_commands.specs.tree_rules.Tail.{Tail, whole, spent, past}
use Rattle.structure_commands.specs.tree_text_rules.Read as trees
use Rattle.structure_commands.specs.studio_rules.Solve.{Holds, status_of, SolveWork}
use Rattle.structure_commands.specs.studio_rules.Lines.{text_of}
use Rattle.structure_commands.specs.studio_rules.declared.status.Status.{Status}
use Rattle.structure_commands.specs.studio_rules.declared.status.Status.TheVariants.{Done, Refused}
use Rattle.structure_commands.specs.studio_rules.declared.status.Status.TheVariants.{BadProblem}
use Rattle.structure_commands.specs.studio_rules.declared.status.Status.TheVariants.{BadTree}
use Rattle.structure_commands.specs.studio_rules.declared.status.Status.TheVariants.{TooLong}
use Rattle.structure_commands.specs.studio_rules.Reading.{AreHeld, FileFault, GivesProblem}
use Rattle.structure_commands.specs.studio_rules.TreeFile.{tree_limit}
use Rattle.structure_commands.specs.studio_rules.HeadedFile.{HeadedSays}
use Rattle.structure_commands.specs.studio_rules.Check.{CheckWork}
use Rattle.studio.specs.SolveLaws.{IsAcceptedOrLong, SolvedIsAccepted}

pub is_held : (held : Told) (bytes file : List ℕ) → held ≡ Some (Some bytes) → AreHeld held file
    → file ≡ bytes
is_held held bytes file e is = subst (λ (o : Told). AreHeld o file) e is

-- a file that gives a problem has no fault
pub no_fault : (name file : List ℕ) (p : Problem) (s : Status) (lines : List (List ℕ))
    → GivesProblem file p → FileFault name file s lines → ⊥
no_fault name file p TooLong lines given fault = let a = given.within in let b =
    fault.0 in absurd (omega (arith, a, b))
no_fault name file p BadProblem lines given fault =
    let e : ◌≡◌ {A = Result Problem Fault} (Ok p) (Err (fault.1.0, fault.1.1)) =
    sym given.reads ∙ fault.1.2 in cc
no_fault name file p s lines given fault = absurd fault

-- and gives no other
pub one_problem : (file : List ℕ) (p q : Problem) → GivesProblem file p → GivesProblem file q
    → q ≡ p
one_problem file p q given other = let e : Ok q ≡ Ok p = sym other.reads ∙ given.reads in cc

-- the certificate of a plain text with status 0
proves : (budget : ℕ) (p : Problem) (claim : Claim) (tree : Tree) (tail : Tail)
    → Done ≡ status_of tail → Holds budget p claim tree tail → IsAccepted p first_node claim tree
proves budget p claim tree whole e holds = holds.proved.accepted
proves budget p claim tree (spent next options) e holds = cc
proves budget p claim tree (past node nonbasic place) e holds = cc

-- the laws by which a tree without a head is judged as one whose head has no lines
pub record HeadLaws : Type 0 where
  pub no_claim : PassingClaimHasNoFault
  pub no_line : PassingHasNoFault
  pub no_node : PassingTreeHasNoFaultBy
  pub plain : PlainTextsAreHeaded
  pub empty : EmptyHeadProves

module _ (laws : HeadLaws) where
  checked : (p : Problem) (t : trees.HeadedCertificate) (name file : List ℕ) (s : Status)
      (lines : List (List ℕ)) → length file ≤ tree_limit
      → IsAcceptedBy p t.claim t.head t.tree → CheckWork p t s lines
      → IsAcceptedOrLong name file s lines
  checked p t name file Done lines short accepted work = inl (short, refl, work.1)
  checked p t name file Refused lines short accepted (inl (why, fails, told)) =
      absurd (laws.no_claim false p t.claim why accepted.claimed fails)
  checked p t name file Refused lines short accepted
      (inr (passes, inl (number, why, fails, told))) =
      absurd
      (laws.no_line p (claimed_cost t.claim) (known_first p first_node) t.head accepted.lines number
      why fails)
  checked p t name file Refused lines short accepted
      (inr (passes, inr (head_passes, (node, why, fails, told)))) =
      absurd
      (laws.no_node false p (head_node p t.head) t.claim t.head t.tree node why accepted fails)
  checked p t name file s lines short accepted work = absurd work

  -- the same text, as one whose head has no lines
  abbrev without_head : trees.Certificate → trees.HeadedCertificate
  without_head c = record { claim = c.claim; head = []; tree = c.tree; tail = c.tail }

  -- a text that reads as a certificate which is accepted
  read_headed : (p : Problem) (c : trees.HeadedCertificate) (name file : List ℕ) (s : Status)
      (lines : List (List ℕ)) → trees.read_headed_text p file ≡ Ok c
      → IsAcceptedBy p c.claim c.head c.tree → HeadedSays CheckWork name p file s lines
      → IsAcceptedOrLong name file s lines
  read_headed p c name file TooLong lines reads accepted (inl fault) =
      inr (fault.0, refl, fault.1)
  read_headed p c name file BadTree lines reads accepted (inl fault) =
      let e : ◌≡◌ {A = Result trees.HeadedCertificate trees.Fault} (Ok c)
      (Err (fault.1.0, fault.1.1)) = sym reads ∙ fault.1.2 in cc
  read_headed p c name file s lines reads accepted (inl fault) = absurd fault
  read_headed p c name file s lines reads accepted (inr (t, given, work)) =
      let same : ◌≡◌ {A = Result trees.HeadedCertificate trees.Fault} (Ok c) (Ok t) =
      sym reads ∙ given.1 in
      let one : c ≡ t = cc in
      checked p t name file s lines given.0
      (subst (λ (d : trees.HeadedCertificate). IsAcceptedBy p d.claim d.head d.tree) one accepted)
      work

  pub read : (p : Problem) → IsValid p → (c : trees.Certificate) (name file : List ℕ) (s : Status)
      (lines : List (List ℕ)) → trees.read_text p file ≡ Ok c
      → IsAccepted p first_node c.claim c.tree → HeadedSays CheckWork name p file s lines
      → IsAcceptedOrLong name file s lines
  read p valid c name file s lines reads accepted judged =
      read_headed p (without_head c) name file s lines (laws.plain p valid file c reads)
      ((laws.empty false p first_node c.claim c.tree).0 accepted) judged

  -- what `solve` prints with status 0
  read_solved : (budget : ℕ) (p : Problem) → IsValid p → (solved : List (List ℕ)) (name : List ℕ)
      (s : Status) (lines : List (List ℕ)) → SolveWork budget p Done solved
      → HeadedSays CheckWork name p (text_of solved) s lines
      → IsAcceptedOrLong name (text_of solved) s lines
  read_solved budget p valid solved name s lines (inl (c, e, holds, are)) judged =
      read p valid c name (text_of solved) s lines are.reads
      (proves budget p c.claim c.tree c.tail e holds) judged
  read_solved budget p valid solved name s lines (inr (c, e, is_whole, solves, are)) judged =
      read_headed p c name (text_of solved) s lines are.reads solves.proved.accepted judged

  pub solved_is_accepted : SolvedIsAccepted
  solved_is_accepted held file tree bytes budget solved is (f, there, inl fault) text s lines said =
      absurd fault
  solved_is_accepted held file tree bytes budget solved is
      (f, there, inr (p, given, work)) text s lines (g, again, inl fault) =
      let same : g ≡ f = is_held (held file) bytes g is again
      ∙ sym (is_held (held file) bytes f is there) in
      absurd
      (no_fault file f p s lines given
      (subst (λ (b : List ℕ). FileFault file b s lines) same fault))
  solved_is_accepted held file tree bytes budget solved is
      (f, there, inr (p, given, work)) text s lines
      (g, again, inr (q, gives, (t, told, judged))) =
      let same : g ≡ f = is_held (held file) bytes g is again
      ∙ sym (is_held (held file) bytes f is there) in
      let one : q ≡ p =
      one_problem f p q given (subst (λ (b : List ℕ). GivesProblem b q) same gives) in
      let the_text : t ≡ text_of solved = is_held (held tree) (text_of solved) t text told in
      read_solved budget p given.valid solved tree s lines work
      (subst (λ (b : List ℕ). HeadedSays CheckWork tree p b s lines) the_text
      (subst (λ (r : Problem). HeadedSays CheckWork tree r t s lines) one judged))
