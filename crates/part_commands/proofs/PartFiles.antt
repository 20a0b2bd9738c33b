-- The files of several parts, one after another.
use Rattle.std.proofs.Common.{◌≡◌, Bool, ◌≤◌, ◌<◌, ◌+◌, ℕ, suc, List, [], ◌∷◌, ◌++◌, length, take}
use Rattle.std.proofs.Common.{get_or, refl, sym, ap, ◌∙◌, subst, inl, inr, ◌⊎◌, add-one}
use Rattle.std.specs.List.{Contains}
use Rattle.std.proofs.Math.Seq.{take-suc, take-length}
use Rattle.network_commands.specs.text_rules.Outside.{Told}
use Rattle.network_commands.specs.text_rules.State.{ShelfState}
use Rattle.network_commands.specs.problem_rules.Problem.{Problem}
use Rattle.network_commands.specs.tree_rules.Claim.{Claim}
use Rattle.network_commands.specs.tree_rules.Accepted.{Tree}
use Rattle.network_commands.specs.tree_text_rules.Part.{Part}
use Rattle.network_commands.specs.studio_rules.Reading.{AreHeld, FileFaults, GivesProblem, OnFile}
use Rattle.network_commands.specs.studio_rules.TreeFile.{GivesTree, OnTree, TreeFaults, TreeSays}
use Rattle.network_commands.specs.studio_rules.Merge.{MergeSays, MergeWork}
use Rattle.network_commands.specs.studio_rules.PartFile.{GivesPart, GiveParts, PartFault}
use Rattle.network_commands.specs.studio_rules.PartFile.{PartFaults, FirstFault}
use Rattle.network_commands.specs.studio_rules.PartFile.{are_several}
use Rattle.network_commands.specs.studio_rules.Ending.{Says, Tells}
use Rattle.network_commands.specs.studio_rules.declared.status.Status.{Status}
use Rattle.network_commands.proofs.command_files.Cited.{Says-map, Says-told, Says-over}

-- ---- parts in order

module _ (held : List ℕ → Told) (p : Problem) where
  one_last : (names : List (List ℕ)) (ps : List Part) (name : List ℕ) (part : Part)
      → GiveParts held p names ps → (file : List ℕ) × AreHeld (held name) file
      × GivesPart p file part → GiveParts held p (names ++ name ∷ []) (ps ++ part ∷ [])
  one_last [] [] name part give one = (one, tt)
  one_last [] (q ∷ qs) name part give one = absurd give
  one_last (n ∷ ns) [] name part give one = absurd give
  one_last (n ∷ ns) (q ∷ qs) name part give one = (give.0, one_last ns qs name part give.1 one)

  pub as_many : (names : List (List ℕ)) (ps : List Part) → GiveParts held p names ps
      → length ps ≡ length names
  as_many [] [] give = refl
  as_many [] (q ∷ qs) give = absurd give
  as_many (n ∷ ns) [] give = absurd give
  as_many (n ∷ ns) (q ∷ qs) give = ap suc (as_many ns qs give.1)

  -- the files before this place give these parts
  pub record GiveBefore (names : List (List ℕ)) (i : ℕ) (ps : List Part) : Type 0 where
    pub give : GiveParts held p (take i names) ps

  pub none_given : (names : List (List ℕ)) → GiveBefore names 0 []
  none_given names = record { give = tt }

  pub one_given : (names : List (List ℕ)) (i : ℕ) (ps : List Part) (name : List ℕ) (part : Part)
      → i < length names → name ≡ get_or names i name → GiveBefore names i ps → (file : List ℕ)
      × AreHeld (held name) file × GivesPart p file part
      → GiveBefore names (i + 1) (ps ++ part ∷ [])
  one_given names i ps name part lt here before one =
      let more : take (i + 1) names ≡ take i names ++ name ∷ [] =
      ap (λ (k : ℕ). take k names) (add-one i) ∙ take-suc names i name lt
      ∙ ap (λ (n : List ℕ). take i names ++ n ∷ []) (sym here) in
      record {
        give =
            subst (λ (ns : List (List ℕ)). GiveParts held p ns (ps ++ part ∷ [])) (sym more)
            (one_last (take i names) ps name part before.give one);
      }

  pub all_given : (names : List (List ℕ)) (i : ℕ) (ps : List Part) → i ≡ length names
      → GiveBefore names i ps → GiveParts held p names ps
  all_given names i ps e before =
      subst (λ (ns : List (List ℕ)). GiveParts held p ns ps)
      (ap (λ (k : ℕ). take k names) e ∙ take-length names) before.give

-- ---- what is printed, over the shelf as it was left

module _ (names : List (List ℕ)) (p : Problem) (old mid new : ShelfState)
    (keeps : (other : List ℕ) → mid.held other ≡ old.held other)
    (later : (other : List ℕ) → old.faults other ≤ mid.faults other) where
  same_held : mid.held ≡ old.held
  same_held = λ i other. keeps other i

  -- of a file that gives no part
  pub fault_told : (several : Bool) (place : ℕ) (name : List ℕ) (ps : List Part)
      → several ≡ are_several names → place < length names → name ≡ get_or names place name
      → GiveBefore old.held p names place ps
      → (s : Status) (t : List ℕ)
      → Says (PartFaults several mid.held name p) (λ other. other ≡ name) mid new s t
      → Says (FirstFault old.held names p) (Contains names) old new s t
  fault_told several place name ps is lt here given =
      Says-over (PartFaults several mid.held name p) (FirstFault old.held names p)
      (λ other. other ≡ name) (Contains names) old mid new
      (λ s lines h. record {
        place = place;
        name = name;
        parts = ps;
        within = lt;
        name_is = here;
        before = given.give;
        fault = (
          h.0,
          subst (λ (o : Told). AreHeld o h.0) (keeps name) h.1,
          subst (λ (b : Bool). PartFault b name p h.0 s lines) is h.2,
        );
      })
      (λ other e. subst (Contains names) (sym e) (place, lt, sym here)) later

  -- of the work that follows the reading of TREE
  pub tree_told : (tree : List ℕ) (claim : Claim) (ts : Tree) → (file : List ℕ)
      × AreHeld (old.held tree) file × GivesTree p file claim ts
      → (s : Status) (t : List ℕ)
      → Says (MergeWork mid.held names p claim ts) (Contains names) mid new s t
      → Says (OnTree (MergeWork old.held names) old.held tree p)
      (λ other. (other ≡ tree) ⊎ Contains names other) old new s t
  tree_told tree claim ts given =
      Says-over (MergeWork mid.held names p claim ts)
      (OnTree (MergeWork old.held names) old.held tree p) (Contains names)
      (λ other. (other ≡ tree) ⊎ Contains names other) old mid new
      (λ s lines h. (
        given.0,
        given.1,
        inr (
          claim,
          ts,
          given.2,
          subst (λ (held : List ℕ → Told). MergeWork held names p claim ts s lines) same_held h,
        ),
      ))
      (λ other h. inr h) later

  -- of the work that follows the reading of FILE
  pub file_told : (file tree : List ℕ) → (bytes : List ℕ) × AreHeld (old.held file) bytes
      × GivesProblem bytes p
      → (s : Status) (t : List ℕ)
      → Says (OnTree (MergeWork mid.held names) mid.held tree p)
      (λ other. (other ≡ tree) ⊎ Contains names other) mid new s t
      → Says (OnFile (OnTree (MergeWork old.held names) old.held tree) old.held file)
      (λ other. (other ≡ file) ⊎ ((other ≡ tree) ⊎ Contains names other)) old new s t
  file_told file tree given =
      Says-over (OnTree (MergeWork mid.held names) mid.held tree p)
      (OnFile (OnTree (MergeWork old.held names) old.held tree) old.held file)
      (λ other. (other ≡ tree) ⊎ Contains names other)
      (λ other. (other ≡ file) ⊎ ((other ≡ tree) ⊎ Contains names other)) old mid new
      (λ s lines h. (
        given.0,
        given.1,
        inr (
          p,
          given.2,
          subst (λ (held : List ℕ → Told). OnTree (MergeWork held names) held tree p s lines)
              same_held h,
        ),
      ))
      (λ other h. inr h) later
