-- The open leaves in turn, each with the mark at its place.
use Rattle.std.proofs.Common.{◌≡◌, ℕ, zero, suc, ◌+◌, ◌<◌, ◌≤◌, Bool, false, List, [], ◌∷◌, length}
use Rattle.std.proofs.Common.{drop}
use Rattle.std.proofs.Common.{map, get_or, Option, None, refl, sym, ap, ◌∙◌, subst, inl, inr, arith}
use Rattle.rank_laws.specs.problem_rules.Problem.{Problem}
use Rattle.rank_laws.specs.pns_rules.Nodes.{Node}
use Rattle.rank_laws.specs.tree_rules.declared.why.Why.TheVariants as causes
use Rattle.rank_laws.specs.tree_rules.Claim.{Network, CostOver}
use Rattle.rank_laws.specs.tree_text_rules.OpenLeaves.{OpenAt}
use Rattle.cert_check.proofs.Cited.{step_ahead, none_ahead}
use Rattle.rank_laws.specs.rank_rules.declared.why.RankWhy.{RankWhy}
use Rattle.rank_laws.specs.rank_rules.declared.why.RankWhy.TheVariants.{Plain}
use Rattle.rank_laws.specs.rank_rules.Leaf.{LeafPasses, LeafFails}
use Rattle.rank_laws.specs.rank_rules.Marked.{Mark, marked_leaf, first_mark, other_marks}
use Rattle.rank_check.specs.declared.mark.Mark as code
use Rattle.rank_check.specs.View.{mark_of}
use Rattle.rank_check.specs.Marks.{MarksPass, MarkFails, IsFirstMark, AllMarksPass, MarkIsFault}
use Rattle.rank_check.specs.Marks.{AreKnown}
use Rattle.cert_check.specs.Known.{KnowsInside}
use Rattle.rank_laws.specs.pns_rules.Shape.{shape_of}

pub map_ahead : {X Y : Type 0} (f : X → Y) (xs : List X) (i : ℕ) (x : X) → i < length xs
    → x ≡ get_or xs i x → drop i (map f xs) ≡ f x ∷ drop (i + 1) (map f xs)
map_ahead f xs i x lt e = step_ahead f xs i x lt e
    ∙ ap (λ (k : ℕ). f x ∷ drop k (map f xs)) (let q : suc i ≡ i + 1 = omega arith in q)

others_behind : (ms : List Mark) (i : ℕ) → other_marks (drop i ms) ≡ drop (suc i) ms
others_behind [] zero = refl
others_behind [] (suc i) = refl
others_behind (m ∷ ms) zero = refl
others_behind (m ∷ ms) (suc i) = others_behind ms i

-- the mark at a place, or none after the last
pub mark_here : (marks : List code.Mark) (i : ℕ) (m : code.Mark) → i < length marks
    → m ≡ get_or marks i m → first_mark (drop i (map mark_of marks)) ≡ mark_of m
mark_here marks i m lt e = ap first_mark (map_ahead mark_of marks i m lt e)

pub mark_none : (marks : List code.Mark) (i : ℕ) → length marks ≤ i
    → first_mark (drop i (map mark_of marks)) ≡ None
mark_none marks i le = ap first_mark (none_ahead mark_of marks i le)

-- the units that are taken in at the leaf at a place are known
known_first : (p : Problem) (ls : List OpenAt) (i : ℕ) → AreKnown p ls → AreKnown p (drop i ls)
known_first p ls zero h = h
known_first p [] (suc i) h = tt
known_first p (l ∷ ls) (suc i) h = known_first p ls i h.1

pub known_at : (p : Problem) (ls : List OpenAt) (i : ℕ) (l : OpenAt) (rest : List OpenAt)
    → AreKnown p ls → drop i ls ≡ l ∷ rest → KnowsInside (shape_of p) l.node
known_at p ls i l rest h here =
    (subst (λ (xs : List OpenAt). AreKnown p xs) here (known_first p ls i h)).0

-- a leaf that is open
pub open_fails : (distinct : Bool) (p : Problem) (ws : List Network) (undercut : Option CostOver)
    (n : Node) → MarkFails (LeafFails distinct false p ws undercut) n None (Plain causes.Open)
open_fails distinct p ws undercut n = (causes.Open, inl (refl, (λ e. absurd cc)), refl)

module _ (distinct : Bool) (p : Problem) (ws : List Network) where
  -- the leaves before place i pass, and those that are left decide about the whole
  pub record AreOn (ls : List OpenAt) (ms : List Mark) (i : ℕ) : Type 0 where
    pub passes : (undercut : Option CostOver)
        → MarksPass (LeafPasses distinct false p ws undercut) (drop i ls) (drop i ms)
        → MarksPass (LeafPasses distinct false p ws undercut) ls ms
    pub fails : (undercut : Option CostOver) (k : ℕ) (why : RankWhy)
        → IsFirstMark (LeafPasses distinct false p ws undercut)
        (LeafFails distinct false p ws undercut) (drop i ls) (drop i ms) k why
        → IsFirstMark (LeafPasses distinct false p ws undercut)
        (LeafFails distinct false p ws undercut) ls ms k why

  pub marks_start : (ls : List OpenAt) (ms : List Mark) → AreOn ls ms 0
  marks_start ls ms = record { passes = λ u h. h; fails = λ u k why h. h }

  pub marks_next : (ls : List OpenAt) (ms : List Mark) (i : ℕ) (l : OpenAt)
      → drop i ls ≡ l ∷ drop (i + 1) ls
      → ((undercut : Option CostOver)
      → LeafPasses distinct false p ws undercut l.node (marked_leaf None (first_mark (drop i ms))))
      → AreOn ls ms i → AreOn ls ms (i + 1)
  marks_next ls ms i l here h on =
      let others : other_marks (drop i ms) ≡ drop (i + 1) ms =
      others_behind ms i
      ∙ ap (λ (k : ℕ). drop k ms) (let q : suc i ≡ i + 1 = omega arith in q) in
      record {
        passes =
            λ u rest. on.passes u
            (subst (λ (xs : List OpenAt). MarksPass (LeafPasses distinct false p ws u) xs
            (drop i ms))
            (sym here) (
              h u,
              subst (λ (ns : List Mark). MarksPass (LeafPasses distinct false p ws u) (drop
                  (i + 1) ls) ns)
                  (sym others) rest,
            ));
        fails =
            λ u k why rest. on.fails u k why
            (subst
            (λ (xs : List OpenAt). IsFirstMark (LeafPasses distinct false p ws u)
            (LeafFails distinct false p ws u)
            xs
            (drop i ms) k why) (sym here)
            (inr (
              h u,
              subst
                  (λ (ns : List Mark). IsFirstMark (LeafPasses distinct false p ws u)
                  (LeafFails distinct false p ws u)
                  (drop (i + 1) ls) ns k why) (sym others) rest,
            )));
      }

  pub mark_off : (ls : List OpenAt) (ms : List Mark) (i : ℕ) (l : OpenAt) (why : RankWhy)
      → drop i ls ≡ l ∷ drop (i + 1) ls
      → ((undercut : Option CostOver)
      → MarkFails (LeafFails distinct false p ws undercut) l.node (first_mark (drop i ms)) why)
      → AreOn ls ms i
      → MarkIsFault distinct p ws ls ms l.number why
  mark_off ls ms i l why here h on u =
      on.fails u l.number why
      (subst
      (λ (xs : List OpenAt). IsFirstMark (LeafPasses distinct false p ws u)
      (LeafFails distinct false p ws u) xs
      (drop i ms) l.number why) (sym here) (inl (refl, h u)))

  pub marks_end : (ls : List OpenAt) (ms : List Mark) (i : ℕ) → drop i ls ≡ [] → AreOn ls ms i
      → AllMarksPass distinct p ws ls ms
  marks_end ls ms i none on u =
      on.passes u
      (subst (λ (xs : List OpenAt). MarksPass (LeafPasses distinct false p ws u) xs
      (drop i ms)) (sym none)
      tt)
