-- What `part` put out for an open leaf, `merge` puts back: the three calls.
use Rattle.std.proofs.Common.{◌≡◌, ◌⊎◌, ◌≤◌, ◌<◌, ◌++◌, ◌∷◌, [], ℕ, List, Option, Ok}
use Rattle.std.proofs.Common.{codes, length, refl, sym, ap, subst, ◌∙◌, inl, inr}
use Rattle.studio.specs.problem_rules.Problem.{Problem}
use Rattle.studio.specs.problem_rules.WellFormed.{ValidIsWellFormed}
use Rattle.studio.specs.pns_rules.Laws.{ValidIsProper}
use Rattle.studio.specs.pns_rules.Shape.{shape_of}
use Rattle.studio.specs.pns_rules.Tokens.{token_of}
use Rattle.studio.specs.tree_rules.Claim.{Claim}
use Rattle.studio.specs.tree_rules.Accepted.{Tree, first_node, IsPartial}
use Rattle.studio.specs.tree_laws.Laws.{AcceptedIsPartial, PassingClaimHasNoFault}
use Rattle.studio.specs.tree_laws.Laws.{PassingTreeHasNoFault}
use Rattle.studio.specs.tree_text_rules.OpenLeaves.{OpenAt, open_leaves}
use Rattle.studio.specs.tree_text_rules.Part.{Part, start_of}
use Rattle.studio.specs.tree_text_rules.PartRead.{PartReads}
use Rattle.studio.specs.tree_text_rules.Merge.{IsLeafOf}
use Rattle.studio.specs.tree_parts.Laws.{OpenLeavesStand}
use Rattle.studio.specs.tree_parts.PartLaws.{PartsAreReadOnce}
use Rattle.studio.specs.studio_rules.Answers.{AnswersTo, CommandAnswers, WordsSay}
use Rattle.studio.specs.studio_rules.Command.{Command, Splitting, Parting, PartingAgainst, Merging}
use Rattle.studio.specs.studio_rules.Command.{command_of}
use Rattle.studio.specs.studio_rules.Ending.{Finishes, Writes}
use Rattle.studio.specs.studio_rules.Lines.{line, text_of}
use Rattle.studio.specs.studio_rules.Merge.{MergeWork}
use Rattle.studio.specs.studio_rules.Part.{PartWork, AgainstWork, part_from}
use Rattle.studio.specs.studio_rules.Reading.{GivesProblem, OnFile}
use Rattle.studio.specs.studio_rules.Split.{SplitWork, split_lines}
use Rattle.studio.specs.studio_rules.TreeFile.{GivesTree, OnTree, tree_limit}
use Rattle.studio.specs.studio_rules.declared.status.Status.{Status}
use Rattle.studio.specs.studio_rules.declared.status.Status.TheVariants.{Done, Spent, Past, TooLong}
use Rattle.studio.proofs.command_files.Cited.{one_line, writes_as, IsText, text_out}
use Rattle.studio.specs.Calls.{Call, Calls, Holds, EndsWith, HasFailed}
use Rattle.studio.proofs.Cited.{is_held, Same, calls_same_file as same_file, appended, answered}
use Rattle.studio.proofs.Cited.{ended, given_work, given_tree}
use Rattle.call_laws.specs.Parts.{leaf_line, PartsFrom, Finds, Takes, MergeTakesPart}
use Rattle.call_laws.proofs.Starts.{IsTold, told_leaf, leaf_is_start}
use Rattle.call_laws.proofs.Merges.{IsPrinted, IsFound, found_alone, found_against, found_partial}
use Rattle.call_laws.proofs.Merges.{IsTaken, is_taken}

-- ---- what `part` put out

-- the lines of its answer, which are the text
pub record Printed (c : Call) (command : Command) (text : List ℕ) : Type 0 where
  pub lines : List (List ℕ)
  pub answers : CommandAnswers c.shelf_before.held command c.status lines
  pub text_is : text ≡ text_of lines

abbrev LinesOf : Call → List ℕ → Status → Type 0
LinesOf c text s = (lines : List (List ℕ))
    × AnswersTo c.shelf_before.held (command_of c.words) s lines × (text ≡ text_of lines)

printed : (c : Call) (command : Command) (text : List ℕ) → Calls c command → Finds c text
    → Printed c command text
printed c command text calls finds =
    let told = at c.status finds.status calls.call.ends in
    record {
      lines = told.0;
      answers =
          subst (λ (f : Option Command). AnswersTo c.shelf_before.held f c.status told.0) calls.form
          told.1;
      text_is = told.2;
    }
  where
    is : (s : Status) → IsText s → (other : List ℕ)
        → Writes c.out_before c.out_after s other → text ≡ other
    is s goes other writes =
        appended c.out_before.out.written c.out_after.out.written finds.front text other
        finds.before finds.after (text_out c.out_before c.out_after s other goes writes)

    at : (s : Status) → IsPrinted s
        → Finishes (WordsSay c.shelf_before c.shelf_after c.words) c.out_before c.out_after s
        → LinesOf c text s
    at Done is_printed e = (e.1.0, e.1.1, is Done tt e.0 e.2 ∙ e.1.2)
    at Spent is_printed e = (e.1.0, e.1.1, is Spent tt e.0 e.2 ∙ e.1.2)
    at Past is_printed e = (e.1.0, e.1.1, is Past tt e.0 e.2 ∙ e.1.2)
    at s is_printed e = absurd (elim is_printed [
      | inl q ↦ cc
      | inr h ↦ elim h [
        | inl q ↦ cc
        | inr k ↦ elim k [ inl q ↦ cc | inr none ↦ none ]
      ]
    ])

-- the part that it found, by the words of its node
pub record IsPartOf (p : Problem) (c : Call) (inside outside text : List ℕ) : Type 0 where
  pub lines : List (List ℕ)
  pub found : IsFound p inside outside c.status lines
  pub text_is : text ≡ text_of lines

part_found : (p : Problem) (c : Call) (file bytes inside outside text : List ℕ) → Holds c file bytes
    → GivesProblem bytes p → Finds c text → PartsFrom c file inside outside
    → IsPartOf p c inside outside text
part_found p c file bytes inside outside text holds given finds (inl (budget, calls)) =
    let told = printed c (Parting file inside outside budget) text calls finds in
    let work = given_work (PartWork budget inside outside) c.shelf_before.held file bytes p c.status
    told.lines holds given told.answers in
    record {
      lines = told.lines;
      found =
          found_alone budget p inside outside c.status told.lines work finds.status;
      text_is = told.text_is;
    }
part_found p c file bytes inside outside text holds given finds (inr (budget, known, calls)) =
    let told = printed c (PartingAgainst file inside outside budget known) text calls finds in
    let work = given_work (AgainstWork budget c.shelf_before.held known inside outside)
    c.shelf_before.held file bytes p c.status told.lines holds given told.answers in
    record {
      lines = told.lines;
      found =
          found_against budget c.shelf_before.held known p inside outside c.status told.lines work
          finds.status;
      text_is = told.text_is;
    }

-- ---- what `merge` put out

-- the same of the text of a call
abbrev IsTakenText : List ℕ → List ℕ → Status → List ℕ → Type 0
IsTakenText name text status said =
    ((length text ≤ tree_limit) × (status ≡ Done))
    ⊎ ((tree_limit < length text) × (status ≡ TooLong)
    × (said ≡ line (codes "too long " ++ name)))

taken_text : (name text : List ℕ) (s : Status) (lines : List (List ℕ)) → IsTaken name text s lines
    → IsTakenText name text s (text_of lines)
taken_text name text s lines (inl h) = inl h
taken_text name text s lines (inr h) = inr
    (h.0, h.1, ap text_of h.2 ∙ sym (one_line (codes "too long " ++ name)))

takes : (c : Call) (name text : List ℕ) (status : Status) (said : List ℕ) → EndsWith c status said
    → IsTakenText name text status said → Takes c name text
takes c name text status said ends (inl h) = inl (
  h.0,
  (
    said,
    (ends.0 ∙ h.1, writes_as c.out_before c.out_after status Done said said h.1 refl ends.1),
  ),
)
takes c name text status said ends (inr h) = inr (
  h.0,
  (
    ends.0 ∙ h.1,
    writes_as c.out_before c.out_after status TooLong said _ h.1 h.2 ends.1,
  ),
)

module _ (once : PartsAreReadOnce) (stand : OpenLeavesStand) (whole_too : AcceptedIsPartial)
    (no_claim_fault : PassingClaimHasNoFault) (no_tree_fault : PassingTreeHasNoFault)
    (proper : ValidIsProper) (formed : ValidIsWellFormed) where
  -- the part of a call of `part`, in the tree of a call of `split`
  taken : (p : Problem) (merging parting : Call)
      (bytes trunk file tree part inside outside text : List ℕ) (claim : Claim) (nodes : Tree)
      (before behind : List (List ℕ)) (number : ℕ)
      → GivesProblem bytes p → Holds merging file bytes → GivesTree p trunk claim nodes
      → Holds merging tree trunk → Holds merging part text
      → IsPartial p first_node claim nodes
      → text_of (before ++ leaf_line number inside outside ∷ behind)
      ≡ text_of (split_lines (open_leaves (shape_of p) (first_node ∷ []) nodes 0))
      → IsPartOf p parting inside outside text → Calls merging (Merging file tree (part ∷ []))
      → Takes merging part text ⊎ HasFailed merging
  taken p merging parting bytes trunk file tree part inside outside text claim nodes before behind
      number given holds gives held here partial listed its merges =
      let found = its.found in
      let start = found.start in
      let q : Part = part_from found.inside found.outside found.says.found in
      let reads : PartReads p text (Ok q) =
      subst (λ (t : List ℕ). PartReads p t (Ok q)) (sym its.text_is) found.says.reads in
      let proves : IsPartial p (start_of q) q.claim q.tree =
      found_partial whole_too (start_of q) found.budget p q.claim q.tree q.tail
      found.says.holds in
      let named =
      ap (λ (word : List ℕ). text_of
      (before ++ leaf_line number word (token_of found.outside) ∷ behind))
      (sym start.inside_named)
      ∙ (ap (λ (word : List ℕ). text_of (before ++ leaf_line number inside word ∷ behind))
      (sym start.outside_named) ∙ listed) in
      let leaves : List OpenAt = open_leaves (shape_of p) (first_node ∷ []) nodes 0 in
      let told : IsTold leaves (token_of found.inside) (token_of found.outside) =
      told_leaf leaves before behind number found.inside found.outside named in
      let leaf_is : IsLeafOf p nodes q told.told.number =
      leaf_is_start p (proper p given.valid)
      ((formed p).0 given.valid).few_units stand claim nodes inside outside found.inside
      found.outside partial start told in
      let work = MergeWork merging.shelf_before.held (part ∷ []) in
      let shown : (s : Status) (lines : List (List ℕ))
      → CommandAnswers merging.shelf_before.held (Merging file tree (part ∷ [])) s lines
      → IsTaken part text s lines =
      λ s lines h.
      is_taken once no_claim_fault no_tree_fault p given.valid claim nodes q partial proves
      told.told.number leaf_is merging.shelf_before.held part text here reads s lines
      (given_tree work merging.shelf_before.held tree trunk p claim nodes s lines held gives
      (given_work (OnTree work merging.shelf_before.held tree) merging.shelf_before.held file bytes
      p s lines holds given h)) in
      elim (ended merging (Merging file tree (part ∷ [])) merges (IsTakenText part text)
      (λ s lines h. (
        s,
        text_of lines,
        refl,
        refl,
        taken_text part text s lines
            (shown s lines h),
      ))) [
        | inl h ↦ inl (takes merging part text h.0 h.1 h.2 h.3)
        | inr failed ↦ inr failed
      ]

  pub merge_takes_part : MergeTakesPart
  merge_takes_part splitting parting merging file tree part before behind number inside outside text
      splits puts parts finds keep merges kept trunk here =
      let told = answered splitting (Splitting file tree)
      (text_of (before ++ leaf_line number inside outside ∷ behind)) splits puts in
      at told.lines told.text_is told.answers
    where
      file_kept : Same splitting parting file
      file_kept = same_file splitting parting (Splitting file tree) file splits keep

      file_same : Same splitting merging file
      file_same = same_file splitting merging (Splitting file tree) file splits kept

      tree_same : Same splitting merging tree
      tree_same = same_file splitting merging (Splitting file tree) tree splits trunk

      at : (lines : List (List ℕ)) → text_of (before ++ leaf_line number inside outside ∷ behind)
          ≡ text_of lines → OnFile (OnTree SplitWork splitting.shelf_before.held tree)
          splitting.shelf_before.held file Done lines → Takes merging part text ⊎ HasFailed merging
      at lines is (bytes, there, inl fault) = absurd fault
      at lines is (bytes, there, inr (p, given, (own, its, inl fault))) = absurd fault
      at lines is (bytes, there, inr (p, given, (own, its, inr (claim, nodes, gives, work)))) =
          let for_part : GivesProblem file_kept.0 p =
          subst (λ (b : List ℕ). GivesProblem b p)
          (is_held (splitting.shelf_before.held file) file_kept.0 bytes file_kept.1 there) given in
          let for_merge : GivesProblem file_same.0 p =
          subst (λ (b : List ℕ). GivesProblem b p)
          (is_held (splitting.shelf_before.held file) file_same.0 bytes file_same.1 there) given in
          let tree_for_merge : GivesTree p tree_same.0 claim nodes =
          subst (λ (b : List ℕ). GivesTree p b claim nodes)
          (is_held (splitting.shelf_before.held tree) tree_same.0 own tree_same.1 its) gives in
          taken p merging parting file_same.0 tree_same.0 file tree part inside outside text claim
          nodes
          before behind number for_merge file_same.2 tree_for_merge tree_same.2 here
          work.0 (is ∙ ap text_of work.1)
          (part_found p parting file file_kept.0 inside outside text file_kept.2 for_part finds
          parts)
          merges
