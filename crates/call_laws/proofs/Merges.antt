-- A part that `part` found for an open leaf of a tree is put back in it.
use Rattle.std.proofs.Common.{◌≡◌, ◌⊎◌, ◌≤◌, ◌<◌, ◌++◌, ◌∷◌, [], ℕ, zero, suc, true, List, Option}
use Rattle.std.proofs.Common.{Some, None, Result, Ok, Err, codes, length, get_or, refl}
use Rattle.std.proofs.Common.{subst, arith, inl, inr}
use Rattle.studio.specs.text_rules.Outside.{Told}
use Rattle.studio.specs.problem_rules.Problem.{Problem}
use Rattle.studio.specs.problem_rules.Validity.{IsValid}
use Rattle.studio.specs.pns_rules.Nodes.{Node}
use Rattle.studio.specs.tree_rules.Claim.{Claim, Network, network, infeasible, unknown}
use Rattle.studio.specs.tree_rules.Accepted.{Tree, first_node, IsPartial}
use Rattle.studio.specs.tree_rules.Tail.{Tail, whole, spent, past}
use Rattle.studio.specs.tree_rules.Refusals.{Refuses}
use Rattle.studio.specs.tree_rules.declared.refusal.Refusal.{Refusal}
use Rattle.studio.specs.tree_rules.declared.refusal.Refusal.TheVariants as refusals
use Rattle.studio.specs.tree_laws.Laws.{AcceptedIsPartial, PassingClaimHasNoFault}
use Rattle.studio.specs.tree_laws.Laws.{PassingTreeHasNoFault}
use Rattle.studio.specs.tree_text_rules.Read.{Fault}
use Rattle.studio.specs.tree_text_rules.Part.{Part, start_of}
use Rattle.studio.specs.tree_text_rules.PartRead.{PartReads}
use Rattle.studio.specs.tree_text_rules.Merge.{IsLeafOf, MergeFails}
use Rattle.studio.specs.tree_text_rules.Several.{StopsAt}
use Rattle.studio.specs.tree_text_rules.declared.merge_fault.MergeFault.{MergeFault}
use Rattle.studio.specs.tree_text_rules.declared.merge_fault.MergeFault.TheVariants as faults
use Rattle.studio.specs.studio_rules.Ending.{IsOneOf}
use Rattle.studio.specs.studio_rules.Merge.{FaultSays, MergeSays, MergeWork}
use Rattle.studio.specs.studio_rules.Part.{PartSays, PartWork, ClaimSays, AgainstWork, HoldsFrom}
use Rattle.studio.specs.studio_rules.PartFile.{PartFault, are_several}
use Rattle.studio.specs.studio_rules.Reading.{AreHeld}
use Rattle.studio.specs.studio_rules.Start.{IsStart}
use Rattle.studio.specs.studio_rules.TreeFile.{TreeFault, tree_limit}
use Rattle.studio.specs.studio_rules.declared.status.Status.{Status}
use Rattle.studio.specs.studio_rules.declared.status.Status.TheVariants.{Done, Spent, Past, TooLong}
use Rattle.studio.specs.studio_rules.declared.status.Status.TheVariants.{BadTree, BadNode, BadClaim}
use Rattle.studio.specs.tree_parts.PartLaws.{PartsAreReadOnce}

-- ---- what `part` finds

-- the statuses with which `part` prints a part
abbrev pub IsPrinted : Status → Type 0
IsPrinted = IsOneOf (Done ∷ Spent ∷ Past ∷ [])

-- a node of the two words, and what a search from it finds
pub record IsFound (p : Problem) (word other : List ℕ) (s : Status)
    (lines : List (List ℕ)) : Type 0 where
  pub budget : ℕ
  pub known : Option Network
  pub inside : List ℕ
  pub outside : List ℕ
  pub start : IsStart p word other inside outside
  pub says : PartSays budget known inside outside p s lines

-- no other status is one of these
refused_is_not : IsPrinted BadClaim → ⊥
refused_is_not h = elim h [
  | inl q ↦ cc
  | inr k ↦ elim k [ inl q ↦ cc | inr l ↦ elim l [ inl q ↦ cc | inr none ↦ none ] ]
]

node_is_not : IsPrinted BadNode → ⊥
node_is_not h = elim h [
  | inl q ↦ cc
  | inr k ↦ elim k [ inl q ↦ cc | inr l ↦ elim l [ inl q ↦ cc | inr none ↦ none ] ]
]

long_is_not : IsPrinted TooLong → ⊥
long_is_not h = elim h [
  | inl q ↦ cc
  | inr k ↦ elim k [ inl q ↦ cc | inr l ↦ elim l [ inl q ↦ cc | inr none ↦ none ] ]
]

tree_is_not : IsPrinted BadTree → ⊥
tree_is_not h = elim h [
  | inl q ↦ cc
  | inr k ↦ elim k [ inl q ↦ cc | inr l ↦ elim l [ inl q ↦ cc | inr none ↦ none ] ]
]

no_tree_told : (name : List ℕ) (p : Problem) (file : List ℕ) (s : Status) (lines : List (List ℕ))
    → TreeFault name p file s lines → IsPrinted s → ⊥
no_tree_told name p file TooLong lines fault printed = long_is_not printed
no_tree_told name p file BadTree lines fault printed = tree_is_not printed
no_tree_told name p file s lines fault printed = absurd fault

pub found_alone : (budget : ℕ) (p : Problem) (word other : List ℕ) (s : Status)
    (lines : List (List ℕ)) → PartWork budget word other p s lines → IsPrinted s
    → IsFound p word other s lines
found_alone budget p word other s lines (inl bad) printed =
    absurd (node_is_not (subst IsPrinted bad.0 printed))
found_alone budget p word other s lines (inr (ins, outs, start, says)) printed =
    record {
      budget = budget;
      known = None;
      inside = ins;
      outside = outs;
      start = start;
      says = says;
    }

found_claimed : (budget : ℕ) (p : Problem) (word other ins outs : List ℕ) (claim : Claim)
    (tree : Tree) (s : Status) (lines : List (List ℕ)) → IsStart p word other ins outs
    → ClaimSays budget ins outs p claim tree s lines → IsPrinted s → IsFound p word other s lines
found_claimed budget p word other ins outs (network w) tree s lines start (inl refused) printed =
    absurd (refused_is_not (subst IsPrinted refused.0 printed))
found_claimed budget p word other ins outs (network w) tree s lines start (inr says) printed =
    record {
      budget = budget;
      known = Some w;
      inside = ins;
      outside = outs;
      start = start;
      says = says.1;
    }
found_claimed budget p word other ins outs infeasible tree s lines start says printed =
    record {
      budget = budget;
      known = None;
      inside = ins;
      outside = outs;
      start = start;
      says = says;
    }
found_claimed budget p word other ins outs unknown tree s lines start says printed =
    record {
      budget = budget;
      known = None;
      inside = ins;
      outside = outs;
      start = start;
      says = says;
    }

pub found_against : (budget : ℕ) (held : List ℕ → Told) (known : List ℕ) (p : Problem)
    (word other : List ℕ) (s : Status) (lines : List (List ℕ))
    → AgainstWork budget held known word other p s lines → IsPrinted s
    → IsFound p word other s lines
found_against budget held known p word other s lines (inl bad) printed =
    absurd (node_is_not (subst IsPrinted bad.0 printed))
found_against budget held known p word other s lines
    (inr (ins, outs, start, (file, there, inl fault))) printed =
    absurd (no_tree_told known p file s lines fault printed)
found_against budget held known p word other s lines
    (inr (ins, outs, start, (file, there, inr (claim, tree, gives, says)))) printed =
    found_claimed budget p word other ins outs claim tree s lines start says printed

-- its tree proves its claim from its node, but for its open leaves
pub found_partial : AcceptedIsPartial
    → (start : Node) (budget : ℕ) (p : Problem) (claim : Claim) (tree : Tree) (tail : Tail)
    → HoldsFrom start budget p claim tree tail → IsPartial p start claim tree
found_partial law start budget p claim tree whole holds = law p start claim tree holds.accepted
found_partial law start budget p claim tree (spent next options) holds = holds.0.stopped.partial
found_partial law start budget p claim tree (past node nonbasic place) holds =
    holds.0.stopped.partial

-- ---- what `merge` says of it

module _ (no_claim_fault : PassingClaimHasNoFault) (no_tree_fault : PassingTreeHasNoFault)
    (p : Problem) (claim : Claim) (tree : Tree) (part : Part)
    (own : IsPartial p first_node claim tree)
    (its : IsPartial p (start_of part) part.claim part.tree) (k : ℕ)
    (leaf_is : IsLeafOf p tree part k) where
  not_refused : (start : Node) (c : Claim) (ts : Tree) (refusal : Refusal) → IsPartial p start c ts
      → (refusal ≡ refusals.Memory → ⊥) → Refuses true p start c ts refusal → ⊥
  not_refused start c ts (refusals.Claim why) partial some fails =
      no_claim_fault true p c why partial.claimed fails
  not_refused start c ts (refusals.Node node why) partial some fails =
      no_tree_fault true p start c ts node why partial fails.1
  not_refused start c ts refusals.Memory partial some fails = some refl

  pub no_fault : (fault : MergeFault) (several : _) (name : List ℕ) (s : Status)
      (lines : List (List ℕ))
      → MergeFails p claim tree part fault → FaultSays several name fault s lines → ⊥
  no_fault (faults.Tree refusal) several name s lines fails says =
      not_refused first_node claim tree refusal own fails.1 fails.0
  no_fault (faults.Part refusal) several name s lines fails says =
      not_refused (start_of part) part.claim part.tree refusal its fails.2 fails.1
  no_fault faults.NoLeaf several name s lines fails says = fails.2 k leaf_is
  no_fault faults.Memory several name s lines fails says = says

  fails_here : (place : ℕ) (fault : MergeFault) → StopsAt p claim tree (part ∷ []) place fault
      → MergeFails p claim tree part fault
  fails_here zero fault stops =
      subst (λ (q : Part). MergeFails p claim tree q fault) stops.part_is
      (subst (λ (c : Claim). MergeFails p c tree stops.part fault) stops.before.0
      (subst (λ (ts : Tree). MergeFails p stops.next ts stops.part fault) stops.before.1
      stops.fails))
  fails_here (suc place) fault stops = absurd (let w = stops.within in omega (arith, w))

  pub is_done : (names : List (List ℕ)) (s : Status) (lines : List (List ℕ))
      → MergeSays names p claim tree (part ∷ []) s lines → s ≡ Done
  is_done names s lines (inl merged) = merged.done
  is_done names s lines (inr stopped) =
      absurd (no_fault stopped.fault (are_several names) (get_or names stopped.place []) s lines
      (fails_here stopped.place stopped.fault stopped.stops) stopped.says)

-- its text is above the limit, or it is put back
abbrev pub IsTaken : List ℕ → List ℕ → Status → List (List ℕ) → Type 0
IsTaken name text s lines =
    ((length text ≤ tree_limit) × (s ≡ Done))
    ⊎ ((tree_limit < length text) × (s ≡ TooLong) × (lines ≡ (codes "too long " ++ name) ∷ []))

module _ (once : PartsAreReadOnce) (no_claim_fault : PassingClaimHasNoFault)
    (no_tree_fault : PassingTreeHasNoFault) (p : Problem) (valid : IsValid p) (claim : Claim)
    (tree : Tree) (part : Part)
    (own : IsPartial p first_node claim tree)
    (its : IsPartial p (start_of part) part.claim part.tree) (k : ℕ)
    (leaf_is : IsLeafOf p tree part k)
    (held : List ℕ → Told) (name text : List ℕ) (holds : held name ≡ Some (Some text))
    (reads : PartReads p text (Ok part)) where
  is_text : (file : List ℕ) → AreHeld (held name) file → file ≡ text
  is_text file there = subst (λ (o : Told). AreHeld o file) holds there

  long_only : (several : _) (file : List ℕ) (s : Status) (lines : List (List ℕ)) → file ≡ text
      → PartFault several name p file s lines → IsTaken name text s lines
  long_only several file TooLong lines e fault = inr
      (subst (λ (t : List ℕ). tree_limit < length t) e fault.0, refl, fault.1)
  long_only several file BadTree lines e fault =
      absurd (let both : ◌≡◌ {A = Result Part Fault} (Ok part) (Err (fault.1.0, fault.1.1)) =
      once p valid text (Ok part) (Err (fault.1.0, fault.1.1)) reads
      (subst (λ (t : List ℕ). PartReads p t (Err (fault.1.0, fault.1.1))) e fault.1.2) in cc)
  long_only several file s lines e fault = absurd fault

  first_only : (place : ℕ) (other : List ℕ) → place < 1 → other ≡ get_or (name ∷ []) place other
      → other ≡ name
  first_only zero other less is = is
  first_only (suc place) other less is = absurd (omega (arith, less))

  pub is_taken : (s : Status) (lines : List (List ℕ))
      → MergeWork held (name ∷ []) p claim tree s lines → IsTaken name text s lines
  is_taken s lines (inl first) =
      let is : first.name ≡ name = first_only first.place first.name first.within first.name_is in
      let there : AreHeld (held name) first.fault.0 =
      subst (λ (n : List ℕ). AreHeld (held n) first.fault.0) is first.fault.1 in
      long_only (are_several (name ∷ [])) first.fault.0 s lines (is_text first.fault.0 there)
      (subst (λ (n : List ℕ). PartFault (are_several (name ∷ [])) n p first.fault.0 s lines) is
      first.fault.2)
  is_taken s lines (inr ([], give, says)) = absurd give
  is_taken s lines (inr (q ∷ r ∷ qs, give, says)) = absurd give.1
  is_taken s lines (inr (q ∷ [], give, says)) =
      let e : give.0.0 ≡ text = is_text give.0.0 give.0.1 in
      let both : ◌≡◌ {A = Result Part Fault} (Ok q) (Ok part) =
      once p valid text (Ok q) (Ok part)
      (subst (λ (t : List ℕ). PartReads p t (Ok q)) e give.0.2.1) reads in
      let one : q ≡ part = cc in
      inl (
        subst (λ (t : List ℕ). length t ≤ tree_limit) e give.0.2.0,
        is_done no_claim_fault no_tree_fault p claim tree part own its k leaf_is (name ∷ []) s lines
            (subst (λ (x : Part). MergeSays (name ∷ []) p claim tree (x ∷ []) s lines) one says),
      )
