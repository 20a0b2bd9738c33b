-- What `rank` and `alternatives` print with status 0 is accepted by `rankcheck`.
use Rattle.std.proofs.Common.{◌≡◌, ◌≤◌, ℕ, false, List, Some, Result, Ok, Err, length, refl}
use Rattle.std.proofs.Common.{sym, ◌∙◌, subst, inl, inr}
use Rattle.structure_commands.specs.problem_rules.Problem.{Problem}
use Rattle.structure_commands.specs.rank_rules.Ranked.{IsRanked}
use Rattle.part_commands.specs.rank_laws.Laws.{PassingNetworksHaveNoFault, PassingTreeHasNoFault}
use Rattle.structure_commands.specs.tree_rules.Tail.{Tail, whole, spent, past}
use Rattle.structure_commands.specs.tree_text_rules.Read.{Fault}
use Rattle.structure_commands.specs.rank_rules.Text.{Text, ranking_of}
use Rattle.structure_commands.specs.rank_rules.Read.{read_text}
use Rattle.structure_commands.specs.studio_rules.Rank.{AreTextOf, Holds}
use Rattle.structure_commands.specs.studio_rules.Alternates.{AlternatesHold}
use Rattle.structure_commands.specs.studio_rules.Command.{RankChecking}
use Rattle.structure_commands.specs.studio_rules.Answers.{CommandAnswers}
use Rattle.structure_commands.specs.text_rules.Outside.{Told}
use Rattle.structure_commands.specs.studio_rules.Rankcheck.{RankcheckSays, RankcheckWork}
use Rattle.structure_commands.specs.studio_rules.Solve.{status_of}
use Rattle.structure_commands.specs.studio_rules.Lines.{text_of}
use Rattle.structure_commands.specs.studio_rules.declared.status.Status.{Status}
use Rattle.structure_commands.specs.studio_rules.declared.status.Status.TheVariants.{Done, Refused}
use Rattle.structure_commands.specs.studio_rules.declared.status.Status.TheVariants.{BadTree}
use Rattle.structure_commands.specs.studio_rules.declared.status.Status.TheVariants.{TooLong}
use Rattle.structure_commands.specs.studio_rules.Reading.{AreHeld, FileFault, GivesProblem}
use Rattle.structure_commands.specs.studio_rules.TreeFile.{tree_limit}
use Rattle.studio.specs.SolveLaws.{IsAcceptedOrLong}
use Rattle.studio.specs.RankLaws.{RankedIsAccepted, AlternativesAreAccepted}
use Rattle.studio.proofs.Accepted.{is_held, no_fault, one_problem}

-- the ranking of a text with status 0
proves : (count budget : ℕ) (p : Problem) (t : Text) (tail : Tail) → Done ≡ status_of tail
    → Holds count budget p t tail → IsRanked p (ranking_of t)
proves count budget p t whole e holds = holds.lists.proves
proves count budget p t (spent next options) e holds = cc
proves count budget p t (past node nonbasic place) e holds = cc

list_proves : (count budget : ℕ) (p : Problem) (t : Text) (tail : Tail) → Done ≡ status_of tail
    → AlternatesHold count budget p t tail → IsRanked p (ranking_of t)
list_proves count budget p t whole e holds = holds.lists.proves
list_proves count budget p t (spent next options) e holds = cc
list_proves count budget p t (past node nonbasic place) e holds = cc

module _ (no_network_fault : PassingNetworksHaveNoFault)
    (no_tree_fault : PassingTreeHasNoFault) where
  checked : (p : Problem) (t : Text) (name file : List ℕ) (s : Status) (lines : List (List ℕ))
      → length file ≤ tree_limit → IsRanked p (ranking_of t) → RankcheckWork p t s lines
      → IsAcceptedOrLong name file s lines
  checked p t name file Done lines short ranked work = inl (short, refl, work.1)
  checked p t name file Refused lines short ranked (inl (number, why, fails, told)) =
      absurd (no_network_fault p (ranking_of t) number why ranked.listed fails)
  checked p t name file Refused lines short ranked (inr (passing, (node, why, fails, told))) =
      absurd (no_tree_fault false p (ranking_of t) node why ranked fails)
  checked p t name file s lines short ranked work = absurd work

  read : (p : Problem) (t : Text) (name file : List ℕ) (s : Status) (lines : List (List ℕ))
      → read_text p file ≡ Ok t → IsRanked p (ranking_of t) → RankcheckSays name p file s lines
      → IsAcceptedOrLong name file s lines
  read p t name file TooLong lines reads ranked (inl fault) = inr (fault.0, refl, fault.1)
  read p t name file BadTree lines reads ranked (inl fault) =
      let e : ◌≡◌ {A = Result Text Fault} (Ok t) (Err (fault.1.0, fault.1.1)) =
      sym reads ∙ fault.1.2 in cc
  read p t name file s lines reads ranked (inl fault) = absurd fault
  read p t name file s lines reads ranked (inr (other, given, work)) =
      let same : Ok t ≡ Ok other = sym reads ∙ given.1 in
      let one : t ≡ other = cc in
      checked p other name file s lines given.0
      (subst (λ (d : Text). IsRanked p (ranking_of d)) one ranked) work

  -- a text that reads as a ranked tree for the problem of the file
  accepted : (held : List ℕ → Told) (file rank bytes : List ℕ) (listed : List (List ℕ))
      → held file ≡ Some (Some bytes) → (f : List ℕ) → AreHeld (held file) f → (p : Problem)
      → GivesProblem f p → (t : Text) → IsRanked p (ranking_of t) → AreTextOf p t listed
      → held rank ≡ Some (Some (text_of listed)) → (s : Status) (lines : List (List ℕ))
      → CommandAnswers held (RankChecking file rank) s lines
      → IsAcceptedOrLong rank (text_of listed) s lines
  accepted held file rank bytes listed is f there p given t ranked are text s lines
      (g, again, inl fault) =
      let same : g ≡ f = is_held (held file) bytes g is again
      ∙ sym (is_held (held file) bytes f is there) in
      absurd
      (no_fault file f p s lines given
      (subst (λ (b : List ℕ). FileFault file b s lines) same fault))
  accepted held file rank bytes listed is f there p given t ranked are text s lines
      (g, again, inr (q, gives, (b, told, judged))) =
      let same : g ≡ f = is_held (held file) bytes g is again
      ∙ sym (is_held (held file) bytes f is there) in
      let one : q ≡ p =
      one_problem f p q given (subst (λ (c : List ℕ). GivesProblem c q) same gives) in
      let the_text : b ≡ text_of listed = is_held (held rank) (text_of listed) b text told in
      read p t rank (text_of listed) s lines are.reads ranked
      (subst (λ (c : List ℕ). RankcheckSays rank p c s lines) the_text
      (subst (λ (r : Problem). RankcheckSays rank r b s lines) one judged))

  pub ranked_is_accepted : RankedIsAccepted
  ranked_is_accepted held file rank bytes count budget ranked is (f, there, inl fault) text s lines
      said = absurd fault
  ranked_is_accepted held file rank bytes count budget ranked is
      (f, there, inr (p, given, (t, e, holds, are))) text s lines said =
      accepted held file rank bytes ranked is f there p given t
      (proves count budget p t t.tail e holds) are text s lines said

  pub alternatives_are_accepted : AlternativesAreAccepted
  alternatives_are_accepted held file rank bytes count budget listed is (f, there, inl fault) text
      s lines said = absurd fault
  alternatives_are_accepted held file rank bytes count budget listed is
      (f, there, inr (p, given, (t, e, holds, are))) text s lines said =
      accepted held file rank bytes listed is f there p given t
      (list_proves count budget p t t.tail e holds) are text s lines said
