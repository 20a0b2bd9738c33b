-- What the walk and the marks say of a ranking.
use Rattle.std.proofs.Common.{◌≡◌, ℕ, ◌+◌, Bool, false, List, [], ◌∷◌, length, Result, Ok, Err}
use Rattle.std.proofs.Common.{OnOk}
use Rattle.std.proofs.Common.{IfErr, sym, subst, arith}
use Rattle.std.proofs.lemmas.List.{append-nil}
use Rattle.rank_laws.specs.problem_rules.Problem.{Problem}
use Rattle.rank_laws.specs.pns_rules.Shape.{shape_of}
use Rattle.rank_laws.specs.tree_rules.declared.why.Why.{Why}
use Rattle.rank_laws.specs.tree_rules.Fault.{IsFirstFault}
use Rattle.rank_laws.specs.tree_rules.Claim.{Network}
use Rattle.rank_laws.specs.tree_rules.Accepted.{first_node}
use Rattle.rank_laws.specs.tree_text_rules.OpenLeaves.{OpenAt, open_leaves}
use Rattle.cert_check.specs.Bare.{BarePasses, BareFails}
use Rattle.cert_check.specs.OpenLeaves.{AreThoseBefore}
use Rattle.rank_laws.specs.rank_rules.declared.why.RankWhy.{RankWhy}
use Rattle.rank_laws.specs.rank_rules.declared.why.RankWhy.TheVariants.{Plain}
use Rattle.rank_laws.specs.rank_rules.Networks.{to_undercut, ArePassing}
use Rattle.rank_laws.specs.rank_rules.Leaf.{LeafPasses, LeafFails}
use Rattle.rank_laws.specs.rank_rules.Ranked.{IsRanked, NodeIsFault}
use Rattle.rank_laws.specs.rank_rules.Marked.{Mark}
use Rattle.rank_laws.specs.rank_rules.Text.{Text, ranking_of}
use Rattle.rank_check.specs.Marks.{MarksPass, IsFirstMark, AreKnown, AllMarksPass, MarkIsFault}
use Rattle.rank_check.specs.Refusals.{PlainPasses, OpenPass, OpenFails}
use Rattle.rank_check.proofs.MarkLemmas.{marked_passes, marked_fault, mark_fault, pass_to, fault_to}
use Rattle.rank_check.proofs.MarkLemmas.{all_before, IsFaultAt, KnownBefore, known_if_before}
use Rattle.rank_check.proofs.MarkLemmas.{known_to, first_known}

module _ (p : Problem) (t : Text) where
  abbrev Passes : List OpenAt → Type 0
  Passes found = OpenPass p t found

  abbrev Fails : List OpenAt → ℕ → RankWhy → Type 0
  Fails found k why = OpenFails p t found k why

  abbrev all_open : List OpenAt
  all_open = open_leaves (shape_of p) (first_node ∷ []) t.tree 0

  abbrev Stops : ℕ → Why → Type 0
  Stops k cause =
      IsFirstFault (shape_of p) (BarePasses p (to_undercut t.count t.networks))
      (BareFails p (to_undercut t.count t.networks)) (first_node ∷ []) t.tree k cause

  pub ranked : (found : List OpenAt) → ArePassing t.distinct p [] t.networks → PlainPasses p t
      → found ≡ all_open → Passes found → IsRanked p (ranking_of t)
  ranked found listed walked is marks = record {
    listed = listed;
    passes =
        marked_passes t.distinct p t.networks (to_undercut t.count t.networks)
        (first_node ∷ []) t.tree t.marks
        0 walked (subst (λ (ls : List OpenAt). Passes ls) is marks);
  }

  at_fault : (k d : ℕ) (why : RankWhy) → k ≡ 0 + d
      → IsFaultAt t.distinct p t.networks (to_undercut t.count t.networks)
      (first_node ∷ []) t.tree t.marks d
      why → NodeIsFault false p (ranking_of t) k why
  at_fault k d why e f =
      subst (λ (j : ℕ). NodeIsFault false p (ranking_of t) j why) (let q : d ≡ k = omega arith in q)
      (record { cause = f.cause; first = f.first; told = f.told })

  -- the walk finishes, and a leaf fails by its mark
  pub mark_fails : (found : List OpenAt) (k : ℕ) (why : RankWhy) → PlainPasses p t
      → found ≡ all_open → Fails found k why → NodeIsFault false p (ranking_of t) k why
  mark_fails found k why walked is f =
      let end : ℕ = length t.tree in
      let w =
      mark_fault t.distinct p t.networks (to_undercut t.count t.networks)
      (first_node ∷ []) t.tree t.marks
      0 end end k why all_open [] (omega arith)
      (pass_to t.distinct p t.networks (to_undercut t.count t.networks) end
      (first_node ∷ []) t.tree walked)
      (sym (append-nil all_open))
      (all_before t.distinct p t.networks (to_undercut t.count t.networks)
      (first_node ∷ []) t.tree 0 end
      (omega arith)) tt
      (subst (λ (ls : List OpenAt). Fails ls k why) is f) in
      at_fault k w.0 why w.1 w.2

  -- the walk stopped at a node, and a leaf before it fails by its mark
  pub mark_fails_before : (found : List OpenAt) (j k : ℕ) (cause : Why) (why : RankWhy)
      → Stops j cause → AreThoseBefore (shape_of p) (first_node ∷ []) t.tree j found
      → Fails found k why → NodeIsFault false p (ranking_of t) k why
  mark_fails_before found j k cause why stops are f =
      let w =
      mark_fault t.distinct p t.networks (to_undercut t.count t.networks)
      (first_node ∷ []) t.tree t.marks
      0 j j k why found are.others (omega arith)
      (fault_to t.distinct p t.networks (to_undercut t.count t.networks) j
      (first_node ∷ []) t.tree cause
      stops)
      are.all are.before are.behind f in
      at_fault k w.0 why w.1 w.2

  -- all leaves before it pass by their marks
  pub node_fails_first : (found : List OpenAt) (j : ℕ) (cause : Why) → Stops j cause
      → AreThoseBefore (shape_of p) (first_node ∷ []) t.tree j found → Passes found
      → NodeIsFault false p (ranking_of t) j (Plain cause)
  node_fails_first found j cause stops are marks =
      let w =
      marked_fault t.distinct p t.networks (to_undercut t.count t.networks) (first_node ∷ []) t.tree
      t.marks 0 j j cause found are.others (omega arith) stops are.all are.behind marks in
      record { cause = cause; first = w.0; told = w.1 }

  -- the units that are taken in at the open leaves are those of the problem
  pub all_known : (found : List OpenAt) → PlainPasses p t → found ≡ all_open → AreKnown p found
  all_known found walked is =
      let end : ℕ = length t.tree in
      subst (λ (ls : List OpenAt). AreKnown p ls) (sym is)
      (known_if_before p end all_open []
      (subst (λ (ls : List OpenAt). KnownBefore p end ls) (sym (append-nil all_open))
      (known_to t.distinct p t.networks (to_undercut t.count t.networks) (first_node ∷ []) t.tree
      0 end end (omega arith) (first_known (shape_of p))
      (pass_to t.distinct p t.networks (to_undercut t.count t.networks) end (first_node ∷ []) t.tree
      walked)))
      (all_before t.distinct p t.networks (to_undercut t.count t.networks) (first_node ∷ []) t.tree
      0 end (omega arith)))

  pub known_if_stopped : (found : List OpenAt) (j : ℕ) (cause : Why) → Stops j cause
      → AreThoseBefore (shape_of p) (first_node ∷ []) t.tree j found → AreKnown p found
  known_if_stopped found j cause stops are =
      known_if_before p j found are.others
      (subst (λ (ls : List OpenAt). KnownBefore p j ls) are.all
      (known_to t.distinct p t.networks (to_undercut t.count t.networks) (first_node ∷ []) t.tree
      0 j j (omega arith) (first_known (shape_of p))
      (fault_to t.distinct p t.networks (to_undercut t.count t.networks) j (first_node ∷ []) t.tree
      cause stops)))
      are.before

-- ---- the marks of the text

module _ {A : Type 0} (p : Problem) (t : Text) (ls : List OpenAt) (distinct : Bool)
    (ws : List Network) (ms : List Mark) (distinct_is : distinct ≡ t.distinct)
    (ws_are : ws ≡ t.networks) (ms_are : ms ≡ t.marks) where
  pub pass_as : (r : Result A (ℕ × RankWhy)) → OnOk r (AllMarksPass distinct p ws ls ms)
      → OnOk r (OpenPass p t ls)
  pass_as (Ok x) h =
      subst
      (λ (b : Bool). MarksPass (LeafPasses b false p t.networks (to_undercut t.count t.networks))
      ls t.marks) distinct_is
      (subst
      (λ (vs : List Network). MarksPass
      (LeafPasses distinct false p vs (to_undercut t.count t.networks)) ls t.marks) ws_are
      (subst
      (λ (ns : List Mark). MarksPass
      (LeafPasses distinct false p ws (to_undercut t.count t.networks)) ls ns) ms_are
      (h (to_undercut t.count t.networks))))
  pass_as (Err e) h = tt

  pub fail_as : (r : Result A (ℕ × RankWhy))
      → IfErr r (λ found. MarkIsFault distinct p ws ls ms found.0 found.1)
      → IfErr r (λ found. OpenFails p t ls found.0 found.1)
  fail_as (Ok x) h = tt
  fail_as (Err e) h =
      subst
      (λ (b : Bool). IsFirstMark
      (LeafPasses b false p t.networks (to_undercut t.count t.networks))
      (LeafFails b false p t.networks (to_undercut t.count t.networks)) ls t.marks e.0 e.1)
      distinct_is
      (subst
      (λ (vs : List Network). IsFirstMark
      (LeafPasses distinct false p vs (to_undercut t.count t.networks))
      (LeafFails distinct false p vs (to_undercut t.count t.networks)) ls t.marks e.0 e.1) ws_are
      (subst
      (λ (ns : List Mark). IsFirstMark
      (LeafPasses distinct false p ws (to_undercut t.count t.networks))
      (LeafFails distinct false p ws (to_undercut t.count t.networks)) ls ns e.0 e.1) ms_are
      (h (to_undercut t.count t.networks))))
