-- What `merge` put out is accepted, if `split` finds no open leaf in it.
use Rattle.std.proofs.Common.{◌≡◌, ◌⊎◌, ◌≤◌, ◌+◌, ◌++◌, ◌∷◌, ◌||◌, ◌*ℤ◌, int_lt, [], Bool, true}
use Rattle.std.proofs.Common.{false, ℕ, zero, suc, List, Option, Some, None, Result, Ok, Err, codes}
use Rattle.std.proofs.Common.{length, get_or, refl, sym, ap, subst, ◌∙◌, arith, inl, inr}
use Rattle.std.proofs.Common.{if◌then◌else◌}
use Rattle.structure_commands.specs.text_rules.Outside.{Told}
use Rattle.structure_commands.specs.problem_rules.Each.{Each}
use Rattle.structure_commands.specs.problem_rules.Problem.{Problem}
use Rattle.structure_commands.specs.problem_rules.Validity.{IsValid}
use Rattle.structure_commands.proofs.text_laws.Cited.{each-append}
use Rattle.structure_commands.specs.pns_rules.Shape.{Shape, shape_of}
use Rattle.structure_commands.specs.pns_rules.Nodes.{Node}
use Rattle.structure_commands.specs.tree_rules.Tree.{End, branch, leaf, TreeNode, Pass, Stands}
use Rattle.structure_commands.specs.tree_rules.Tree.{after_all, below}
use Rattle.structure_commands.specs.tree_rules.Leaf.{Leaf, dead, clash, refuted, bounded, charged}
use Rattle.structure_commands.specs.tree_rules.Leaf.{untried, LeafPasses}
use Rattle.structure_commands.specs.tree_rules.Claim.{Claim, Network, network, infeasible, unknown}
use Rattle.structure_commands.specs.tree_rules.Claim.{claimed_cost}
use Rattle.structure_commands.specs.tree_rules.Accepted.{Tree, first_node, IsPartial, IsAccepted}
use Rattle.structure_commands.specs.tree_laws.Laws.{PartialIsAccepted}
use Rattle.structure_commands.specs.tree_rules.Known.{KnowsStep, KnowsNode, KnowsTree, AreUnits}
use Rattle.structure_commands.specs.tree_rules.Tail.{Tail, whole}
use Rattle.structure_commands.specs.tree_text_rules.Graft.{graft_at, grafted, claim_of_both}
use Rattle.structure_commands.specs.tree_text_rules.Graft.{cheaper, has_open, is_open}
use Rattle.structure_commands.specs.tree_text_rules.OpenLeaves.{OpenAt, IsAmong, open_here}
use Rattle.structure_commands.specs.tree_text_rules.OpenLeaves.{open_leaves}
use Rattle.part_commands.specs.tree_parts.Laws.{OpenLeavesStand, GraftIsTree}
use Rattle.structure_commands.specs.tree_text_rules.Read.{Certificate, Fault, read_text}
use Rattle.structure_commands.specs.tree_text_rules.Spelling.{tree_text, tree_text_lines}
use Rattle.part_commands.specs.tree_text_laws.Fits.{CountsTree, FitsClaim, FitsTree}
use Rattle.part_commands.specs.tree_text_laws.LineFits.{CountsEnd}
use Rattle.part_commands.specs.tree_text_laws.Laws.{SpelledTextsRead, ReadTextsAreSpelled}
use Rattle.structure_commands.specs.tree_text_rules.Part.{Part, start_of}
use Rattle.structure_commands.specs.tree_text_rules.Several.{AreMerged}
use Rattle.part_commands.specs.tree_parts.PartLaws.{ReadPartsAreSpelled}
use Rattle.structure_commands.specs.studio_rules.Reading.{AreHeld, GivesProblem, OnFile}
use Rattle.structure_commands.specs.studio_rules.TreeFile.{TreeFault, GivesTree, OnTree, tree_limit}
use Rattle.structure_commands.specs.studio_rules.HeadedFile.{HeadedSays, OnHeaded}
use Rattle.structure_commands.specs.studio_rules.Check.{CheckWork}
use Rattle.structure_commands.specs.studio_rules.PartFile.{GiveParts, are_several}
use Rattle.structure_commands.specs.studio_rules.Split.{SplitWork, part_line, split_lines}
use Rattle.structure_commands.specs.studio_rules.Merge.{MergeWork}
use Rattle.structure_commands.specs.studio_rules.Command.{Checking, Splitting, Merging}
use Rattle.structure_commands.specs.studio_rules.Lines.{line, text_of}
use Rattle.structure_commands.specs.studio_rules.Printed.{spelled}
use Rattle.structure_commands.proofs.command_files.Cited.{spelled_text}
use Rattle.structure_commands.specs.studio_rules.declared.status.Status.{Status}
use Rattle.structure_commands.specs.studio_rules.declared.status.Status.TheVariants.{Done, Refused}
use Rattle.structure_commands.specs.studio_rules.declared.status.Status.TheVariants.{NoLeaf}
use Rattle.studio.specs.SolveLaws.{IsAcceptedOrLong}
use Rattle.studio.specs.Calls.{Call, Calls, Puts, Holds, Accepts, HasFailed, CheckAcceptsMerged}
use Rattle.studio.proofs.Accepted.{is_held, HeadLaws, read}
use Rattle.studio.proofs.Causes.{not_bad_tree, tree_cause}
use Rattle.studio.proofs.Calls.{Same, same_file, same_through, answered, given_work, judged}
use Rattle.studio.proofs.Statuses.{merge_fault_status}

-- ---- a merged tree fits its text

module _ (p : Problem) where
  graft_known : (k : ℕ) (ts part : Tree) → KnowsTree p ts → KnowsTree p part
      → KnowsTree p (graft_at k ts part)
  graft_known k [] part known other = tt
  graft_known k (t ∷ ts) [] known other = known
  graft_known zero (t ∷ ts) (root ∷ part) known other = (
    record {
      option = known.0.option;
      steps =
          each-append (KnowsStep p) t.steps root.steps known.0.steps other.0.steps;
      end =
          other.0.end;
    },
    each-append (KnowsNode p) part ts other.1 known.1,
  )
  graft_known (suc k) (t ∷ ts) (root ∷ part) known other =
      (known.0, graft_known k ts (root ∷ part) known.1 other)

  graft_counted : (k : ℕ) (ts part : Tree) → CountsTree ts → CountsTree part
      → CountsTree (graft_at k ts part)
  graft_counted k [] part counted other = tt
  graft_counted k (t ∷ ts) [] counted other = counted
  graft_counted zero (t ∷ ts) (root ∷ part) counted other =
      (other.0, each-append (λ (t : TreeNode Leaf). CountsEnd t.end) part ts other.1 counted.1)
  graft_counted (suc k) (t ∷ ts) (root ∷ part) counted other =
      (counted.0, graft_counted k ts (root ∷ part) counted.1 other)

  cheaper_fits : (w v : Network) → FitsClaim p (network w) → FitsClaim p (network v)
      → FitsClaim p (network (cheaper w v))
  cheaper_fits w v one other = at (int_lt (v.cost *ℤ w.d) (w.cost *ℤ v.d))
    where
      at : (b : Bool) → FitsClaim p (network (if b then v else w))
      at true = other
      at false = one

  none_fits : (b : Bool) → FitsClaim p (if b then unknown else infeasible)
  none_fits true = record { known = tt; kept = tt }
  none_fits false = record { known = tt; kept = tt }

  both_fit : (claim other : Claim) (ts : Tree) → FitsClaim p claim → FitsClaim p other
      → FitsClaim p (claim_of_both claim other ts)
  both_fit (network w) (network v) ts one two = cheaper_fits w v one two
  both_fit (network w) infeasible ts one two = one
  both_fit (network w) unknown ts one two = one
  both_fit infeasible (network v) ts one two = two
  both_fit unknown (network v) ts one two = two
  both_fit infeasible infeasible ts one two = none_fits (has_open ts)
  both_fit infeasible unknown ts one two = none_fits (has_open ts)
  both_fit unknown infeasible ts one two = none_fits (has_open ts)
  both_fit unknown unknown ts one two = none_fits (has_open ts)

  abbrev FitsPart : Part → Type 0
  FitsPart part = FitsClaim p part.claim × FitsTree p part.tree

  merged_fits : GraftIsTree
      → (claim : Claim) (tree : Tree) (ps : List Part) (both : Claim) (grown : Tree)
      → AreMerged p claim tree ps both grown → FitsClaim p claim → FitsTree p tree
      → Each FitsPart ps → FitsClaim p both × FitsTree p grown
  merged_fits law claim tree [] both grown are fits of_tree parts =
      (subst (FitsClaim p) (sym are.0) fits, subst (FitsTree p) (sym are.1) of_tree)
  merged_fits law claim tree (part ∷ ps) both grown are fits of_tree parts =
      let is = are.2 in
      let one : FitsTree p (graft_at is.place tree part.tree) =
      record {
        whole =
            law (shape_of p) (first_node ∷ []) is.place (start_of part) tree part.tree is.leaf_is
            of_tree.whole parts.0.1.whole;
        known = graft_known is.place tree part.tree of_tree.known parts.0.1.known;
        counted = graft_counted is.place tree part.tree of_tree.counted parts.0.1.counted;
      } in
      merged_fits law are.0 are.1 ps both grown are.3
      (subst (FitsClaim p) (sym is.claim_is) (both_fit claim part.claim are.1 fits parts.0.0))
      (subst (FitsTree p) (sym is.tree_is) one) parts.1

  -- nothing is claimed while a leaf is open, and else something
  some_open : (b : Bool) → ◌≡◌ {A = Claim} (if b then unknown else infeasible) unknown → b ≡ true
  some_open true e = refl
  some_open false e = cc

  open_if : (claim other : Claim) (ts : Tree) → claim_of_both claim other ts ≡ unknown
      → has_open ts ≡ true
  open_if (network w) (network v) ts e = cc
  open_if (network w) infeasible ts e = cc
  open_if (network w) unknown ts e = cc
  open_if infeasible (network v) ts e = cc
  open_if unknown (network v) ts e = cc
  open_if infeasible infeasible ts e = some_open (has_open ts) e
  open_if infeasible unknown ts e = some_open (has_open ts) e
  open_if unknown infeasible ts e = some_open (has_open ts) e
  open_if unknown unknown ts e = some_open (has_open ts) e

  settled : (claim : Claim) (tree : Tree) (part : Part) (ps : List Part) (both : Claim)
      (grown : Tree) → AreMerged p claim tree (part ∷ ps) both grown → both ≡ unknown
      → has_open grown ≡ true
  settled claim tree part [] both grown are e =
      let is = are.2 in
      subst (λ (ts : Tree). has_open ts ≡ true) (sym are.3.1)
      (open_if claim part.claim are.1 (sym is.claim_is ∙ (sym are.3.0 ∙ e)))
  settled claim tree part (other ∷ ps) both grown are e =
      settled are.0 are.1 other ps both grown are.3 e

-- ---- a tree whose open leaves are none

none_open : (g : Shape) (P : Node → Leaf → Type 0) (ns : List Node) (ts : Tree) (k : ℕ)
    → Pass g P ns ts → open_leaves g ns ts k ≡ [] → has_open ts ≡ true → ⊥
none_open g P [] [] k pass none has = let e : false ≡ true = has in cc
none_open g P [] (t ∷ ts) k pass none has = absurd pass
none_open g P (n ∷ ns) [] k pass none has = absurd pass
none_open g P (n ∷ ns) (t ∷ ts) k pass none has =
    at t.end (λ ms. none_open g P ms ts (k + 1)) pass.2 none has
  where
    at : (end : End Leaf)
        → ((ms : List Node) → Pass g P ms ts → open_leaves g ms ts (k + 1) ≡ [] → has_open ts ≡ true
        → ⊥) → Pass g P (below g (after_all g n t.steps) end ++ ns) ts
        → open_here k (after_all g n t.steps) end
        ++ open_leaves g (below g (after_all g n t.steps) end ++ ns) ts (k + 1) ≡ []
        → (is_open end || has_open ts) ≡ true → ⊥
    at (leaf (untried low)) rest pass none has = cc
    at (leaf (charged h)) rest pass none has = rest ns pass none has
    at (leaf (dead x)) rest pass none has = rest ns pass none has
    at (leaf (clash x)) rest pass none has = rest ns pass none has
    at (leaf (refuted ys)) rest pass none has = rest ns pass none has
    at (leaf (bounded d ys)) rest pass none has = rest ns pass none has
    at (branch w) rest pass none has =
        rest (below {L = Leaf} g (after_all g n t.steps) (branch w) ++ ns) pass none has

-- `end` alone lists none
lists_none : (leaves : List OpenAt) → text_of (split_lines leaves) ≡ line (codes "end")
    → leaves ≡ []
lists_none [] e = refl
lists_none (l ∷ ls) e =
    absurd (let first = ap (λ (t : List ℕ). get_or t 0 0) e in omega (arith, first))

-- ---- the three calls

-- the work on a tree file that is read
pub given_tree : (work : Problem → Claim → Tree → Status → List (List ℕ) → Type 0)
    (held : List ℕ → Told) (name text : List ℕ) (p : Problem) (claim : Claim) (tree : Tree)
    (s : Status) (lines : List (List ℕ)) → held name ≡ Some (Some text)
    → GivesTree p text claim tree → OnTree work held name p s lines → work p claim tree s lines
given_tree work held name text p claim tree s lines is given (file, there, inl fault) =
    absurd
    (not_bad_tree p text claim tree s given
    (tree_cause name p text s lines
    (subst (λ (b : List ℕ). TreeFault name p b s lines) (is_held (held name) text file is there)
    fault)))
given_tree work held name text p claim tree s lines is given
    (file, there, inr (other, its, gives, does)) =
    let here : GivesTree p text other its =
    subst (λ (b : List ℕ). GivesTree p b other its) (is_held (held name) text file is there)
    gives in
    let same : ◌≡◌ {A = Result Certificate Fault}
    (Ok (record { claim = other; tree = its; tail = here.1.0 }))
    (Ok (record { claim = claim; tree = tree; tail = given.1.0 })) = sym here.1.1 ∙ given.1.1 in
    let one : ◌≡◌ {A = Certificate} (record { claim = other; tree = its; tail = here.1.0 })
    (record { claim = claim; tree = tree; tail = given.1.0 }) = cc in
    subst (λ (c : Certificate). work p c.claim c.tree s lines) one does

module _ (spells : SpelledTextsRead) (spelt : ReadTextsAreSpelled)
    (parts_spelt : ReadPartsAreSpelled) (grafts : GraftIsTree) (stand : OpenLeavesStand)
    (decide : PartialIsAccepted) (p : Problem) (valid : IsValid p) where
  parts_fit : (held : List ℕ → Told) (names : List (List ℕ)) (ps : List Part)
      → GiveParts held p names ps → Each (FitsPart p) ps
  parts_fit held [] [] give = tt
  parts_fit held [] (part ∷ ps) give = absurd give
  parts_fit held (name ∷ names) [] give = absurd give
  parts_fit held (name ∷ names) (part ∷ ps) give =
      let fits = (parts_spelt p valid give.0.0 part give.0.2.1).fits in
      ((fits.rest.claim, fits.rest.tree), parts_fit held names ps give.1)

  -- the text of what is merged reads as it
  pub merged_reads : (held : List ℕ → Told) (names : List (List ℕ)) (ps : List Part)
      (bytes : List ℕ) (claim : Claim) (tree : Tree) (both : Claim) (grown : Tree)
      → GivesTree p bytes claim tree → GiveParts held p names ps
      → AreMerged p claim tree ps both grown
      → read_text p (tree_text p both grown whole)
      ≡ Ok (record { claim = both; tree = grown; tail = whole })
  merged_reads held names ps bytes claim tree both grown gives give are =
      let own =
      (spelt p valid bytes (record { claim = claim; tree = tree; tail = gives.1.0 })
      gives.1.1).fits in
      let fit =
      merged_fits p grafts claim tree ps both grown are own.claim own.tree
      (parts_fit held names ps give) in
      spells p valid (record { claim = both; tree = grown; tail = whole })
      (record { claim = fit.0; tree = fit.1; tail = record { known = tt; counted = tt } })

  -- if it is partial and has no open leaf, it is accepted
  closed : (claim : Claim) (tree : Tree) (part : Part) (ps : List Part) (both : Claim)
      (grown : Tree) → AreMerged p claim tree (part ∷ ps) both grown
      → IsPartial p first_node both grown → open_leaves (shape_of p) (first_node ∷ []) grown 0 ≡ []
      → IsAccepted p first_node both grown
  closed claim tree part ps both grown are partial none =
      decide p first_node both grown partial
      (λ e. none_open (shape_of p) (LeafPasses true p (claimed_cost both)) (first_node ∷ []) grown 0
      partial.passes none (settled p claim tree part ps both grown are e))
      (λ k n low stands. subst (λ (ls : List OpenAt). IsAmong (record { number = k; node = n }) ls)
      none
      ((stand (shape_of p) first_node grown (record { number = k; node = n })).1 (low, stands)))

module _ (spells : SpelledTextsRead) (spelt : ReadTextsAreSpelled)
    (parts_spelt : ReadPartsAreSpelled) (grafts : GraftIsTree) (stand : OpenLeavesStand)
    (decide : PartialIsAccepted) (laws : HeadLaws) where
  pub check_accepts_merged : CheckAcceptsMerged
  check_accepts_merged merging splitting checking file tree merged part parts text calls puts splits
      ends between holds checks behind here =
      let said = answered merging (Merging file tree (part ∷ parts)) text calls puts in
      let told = answered splitting (Splitting file merged) (line (codes "end")) splits ends in
      at said.lines said.text_is said.answers told.lines told.text_is told.answers
    where
      kept : Same merging splitting file
      kept = same_file merging splitting (Merging file tree (part ∷ parts)) file calls between

      keep : Same merging checking file
      keep =
          same_through merging splitting checking file kept
          (same_file splitting checking (Splitting file merged) file splits behind)

      at : (lines : List (List ℕ)) → text ≡ text_of lines
          → OnFile
          (OnTree (MergeWork merging.shelf_before.held (part ∷ parts)) merging.shelf_before.held
          tree) merging.shelf_before.held file Done lines → (list : List (List ℕ))
          → line (codes "end") ≡ text_of list
          → OnFile (OnTree SplitWork splitting.shelf_before.held merged) splitting.shelf_before.held
          file Done list → Accepts checking merged text ⊎ HasFailed checking
      at lines is (bytes, there, inl fault) list none splitted = absurd fault
      at lines is (bytes, there, inr (p, given, (own, its, inl fault))) list none splitted =
          absurd fault
      at lines is (bytes, there, inr (p, given, (own, its, inr (claim, nodes, gives, inl fault))))
          list none splitted = absurd fault.fault.2
      at lines is (
        bytes,
        there,
        inr (p, given, (own, its, inr (claim, nodes, gives, inr (ps, give, inr stopped)))),
      ) list
          none splitted =
          elim
          (merge_fault_status (are_several (part ∷ parts))
          (get_or (part ∷ parts) stopped.place []) stopped.fault Done lines stopped.says)
          [ inl q ↦ cc | inr q ↦ cc ]
      at lines is (
        bytes,
        there,
        inr (p, given, (own, its, inr (claim, nodes, gives, inr ([], give, inl done)))),
      ) list none
          splitted = absurd give
      at lines is (
        bytes,
        there,
        inr (p, given, (own, its, inr (claim, nodes, gives, inr (q ∷ ps, give, inl done)))),
      ) list
          none splitted =
          let same : bytes ≡ kept.0 =
          is_held (merging.shelf_before.held file) kept.0 bytes kept.1 there in
          let first : GivesProblem kept.0 p = subst (λ (b : List ℕ). GivesProblem b p) same given in
          let both_same : keep.0 ≡ kept.0 =
          is_held (merging.shelf_before.held file) kept.0 keep.0 kept.1
          (subst (λ (t : Told). AreHeld t keep.0) (sym keep.1) refl) in
          let last : GivesProblem keep.0 p =
          subst (λ (b : List ℕ). GivesProblem b p) (sym both_same) first in
          let spelling : text ≡ tree_text p done.both done.grown whole =
          is ∙ (ap text_of done.text
          ∙ sym (spelled_text (tree_text_lines p done.both done.grown whole))) in
          let reads : read_text p text
          ≡ Ok (record { claim = done.both; tree = done.grown; tail = whole }) =
          ap (read_text p) spelling
          ∙ merged_reads spells spelt parts_spelt grafts stand decide p given.valid
          merging.shelf_before.held (part ∷ parts) (q ∷ ps) own claim nodes done.both done.grown
          gives give done.merged in
          let work =
          given_work (OnTree SplitWork splitting.shelf_before.held merged)
          splitting.shelf_before.held file kept.0 p Done list kept.2 first splitted in
          within p claim nodes q ps done.both done.grown given.valid done.merged reads last list
          none work
        where
          within : (p : Problem) (claim : Claim) (nodes : Tree) (q : Part) (ps : List Part)
              (both : Claim) (grown : Tree) → IsValid p
              → AreMerged p claim nodes (q ∷ ps) both grown
              → read_text p text ≡ Ok (record { claim = both; tree = grown; tail = whole })
              → GivesProblem keep.0 p → (list : List (List ℕ)) → line (codes "end") ≡ text_of list
              → OnTree SplitWork splitting.shelf_before.held merged p Done list
              → Accepts checking merged text ⊎ HasFailed checking
          within p claim nodes q ps both grown valid are reads last list none (b, it, inl fault) =
              absurd fault
          within p claim nodes q ps both grown valid are reads last list none
              (b, it, inr (other, trunk, gives, work)) =
              let short : length text ≤ tree_limit =
              subst (λ (t : List ℕ). length t ≤ tree_limit)
              (is_held (splitting.shelf_before.held merged) text b holds it) gives.0 in
              let given : GivesTree p text both grown = (short, (whole, reads)) in
              let does : SplitWork p both grown Done list =
              given_tree SplitWork splitting.shelf_before.held merged text p both grown Done
              list holds given (b, it, inr (other, trunk, gives, work)) in
              let empty : open_leaves (shape_of p) (first_node ∷ []) grown 0 ≡ [] =
              lists_none (open_leaves (shape_of p) (first_node ∷ []) grown 0)
              (sym (none ∙ ap text_of does.1)) in
              let accepted : IsAccepted p first_node both grown =
              closed spells spelt parts_spelt grafts stand decide p valid claim nodes q ps both
              grown are does.0 empty in
              judged checking (Checking file merged) merged text checks (λ s ls h.
              let judge =
              given_work (OnHeaded CheckWork checking.shelf_before.held merged)
              checking.shelf_before.held file keep.0 p s ls keep.2 last h in
              read laws p valid
              (record { claim = both; tree = grown; tail = whole }) merged text s ls reads
              accepted
              (subst (λ (b : List ℕ). HeadedSays CheckWork merged p b s ls)
              (is_held (checking.shelf_before.held merged) text judge.0 here judge.1) judge.2))
