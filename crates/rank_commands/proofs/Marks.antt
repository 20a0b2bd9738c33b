-- A ranking with exactly one mark for each open leaf is the same ranked tree, and lines can have
-- its text.
use Rattle.std.proofs.Common.{◌≡◌, ◌+◌, ℕ, Bool, List, [], ◌∷◌, Some, None, length, refl, sym, ap}
use Rattle.std.proofs.Common.{◌∙◌, subst, arith}
use Rattle.rank_text.specs.problem_rules.Each.{Each}
use Rattle.rank_text.specs.tree_rules.Tree.{TreeNode, End, branch, leaf}
use Rattle.rank_text.specs.tree_rules.Leaf as leaves
use Rattle.rank_text.specs.tree_rules.Accepted.{Tree}
use Rattle.rank_text.specs.rank_rules.Ranked as ranked
use Rattle.rank_text.specs.rank_rules.Marked.{Mark, marked, marked_node, marked_end, first_mark}
use Rattle.rank_text.specs.rank_rules.Marked.{other_marks}
use Rattle.rank_text.specs.rank_rules.Marked.{marks_behind}
use Rattle.rank_text.specs.rank_rules.Text.{AreNumbered, FitWays, IsBareAt, AreBare}
use Rattle.rank_text.specs.Fits.{opens, opens_at, FitsMark}
use Rattle.rank_commands.specs.Normal.{with_mark, marks_for, IsMarkInRange}

-- as many marks as there are open leaves
with_mark_length : (ms : List Mark) (e : End leaves.Leaf) (behind : List Mark)
    → length (with_mark ms e behind) ≡ opens_at e + length behind
with_mark_length ms (branch w) behind = omega arith
with_mark_length ms (leaf (leaves.dead x)) behind = omega arith
with_mark_length ms (leaf (leaves.clash k)) behind = omega arith
with_mark_length ms (leaf (leaves.refuted ys)) behind = omega arith
with_mark_length ms (leaf (leaves.bounded d ys)) behind = omega arith
with_mark_length ms (leaf (leaves.charged c)) behind = omega arith
with_mark_length ms (leaf (leaves.untried low)) behind = omega arith

pub marks_for_length : (ts : Tree) (ms : List Mark) → length (marks_for ts ms) ≡ opens ts
marks_for_length [] ms = refl
marks_for_length (t ∷ ts) ms =
    with_mark_length ms t.end (marks_for ts (marks_behind ms t.end))
    ∙ ap (λ (n : ℕ). opens_at t.end + n) (marks_for_length ts (marks_behind ms t.end))

-- the same ends
same_end : (ms : List Mark) (e : End leaves.Leaf) (behind : List Mark)
    → marked_end (with_mark ms e behind) e ≡ marked_end ms e
same_end ms (branch w) behind = refl
same_end ms (leaf (leaves.dead x)) behind = refl
same_end ms (leaf (leaves.clash k)) behind = refl
same_end ms (leaf (leaves.refuted ys)) behind = refl
same_end ms (leaf (leaves.bounded d ys)) behind = refl
same_end ms (leaf (leaves.charged c)) behind = refl
same_end ms (leaf (leaves.untried low)) behind = refl

same_behind : (ms : List Mark) (e : End leaves.Leaf) (behind : List Mark)
    → marks_behind (with_mark ms e behind) e ≡ behind
same_behind ms (branch w) behind = refl
same_behind ms (leaf (leaves.dead x)) behind = refl
same_behind ms (leaf (leaves.clash k)) behind = refl
same_behind ms (leaf (leaves.refuted ys)) behind = refl
same_behind ms (leaf (leaves.bounded d ys)) behind = refl
same_behind ms (leaf (leaves.charged c)) behind = refl
same_behind ms (leaf (leaves.untried low)) behind = refl

-- and so the same ranked tree
pub same_tree : (ts : Tree) (ms : List Mark) → marked (marks_for ts ms) ts ≡ marked ms ts
same_tree [] ms = refl
same_tree (t ∷ ts) ms =
    let rest : List Mark = marks_for ts (marks_behind ms t.end) in
    let ends : marked_end (with_mark ms t.end rest) t.end ≡ marked_end ms t.end =
    same_end ms t.end rest in
    let behind : marked (marks_behind (with_mark ms t.end rest) t.end) ts
    ≡ marked (marks_behind ms t.end) ts =
    ap (λ (ns : List Mark). marked ns ts) (same_behind ms t.end rest)
    ∙ same_tree ts (marks_behind ms t.end) in
    λ i. record { option = t.option; steps = t.steps; end = ends i } ∷ behind i

-- ---- leaves with a bound

bare_here : (ms : List Mark) (e : End leaves.Leaf) (behind : List Mark)
    → IsBareAt (first_mark ms) e → IsBareAt (first_mark (with_mark ms e behind)) e
bare_here ms (branch w) behind h = tt
bare_here ms (leaf (leaves.dead x)) behind h = tt
bare_here ms (leaf (leaves.clash k)) behind h = tt
bare_here ms (leaf (leaves.refuted ys)) behind h = tt
bare_here ms (leaf (leaves.bounded d ys)) behind h = tt
bare_here ms (leaf (leaves.charged c)) behind h = tt
bare_here ms (leaf (leaves.untried None)) behind h = tt
bare_here ms (leaf (leaves.untried (Some low))) behind h = h

pub marks_for_bare : (ts : Tree) (ms : List Mark) → AreBare ms ts → AreBare (marks_for ts ms) ts
marks_for_bare [] ms h = tt
marks_for_bare (t ∷ ts) ms h =
    let rest : List Mark = marks_for ts (marks_behind ms t.end) in (
      bare_here ms t.end rest h.0,
      subst (λ (ns : List Mark). AreBare ns ts) (sym (same_behind ms t.end rest))
          (marks_for_bare ts (marks_behind ms t.end) h.1),
    )

-- ---- numbers

first_numbered : (ms : List Mark) → AreNumbered ms → AreNumbered (first_mark ms ∷ [])
first_numbered [] h = tt
first_numbered (None ∷ ms) h = tt
first_numbered (Some m ∷ ms) h = (h.0, tt)

others_numbered : (ms : List Mark) → AreNumbered ms → AreNumbered (other_marks ms)
others_numbered [] h = tt
others_numbered (None ∷ ms) h = h
others_numbered (Some m ∷ ms) h = h.1

behind_numbered : (ms : List Mark) (e : End leaves.Leaf) → AreNumbered ms
    → AreNumbered (marks_behind ms e)
behind_numbered ms (branch w) h = h
behind_numbered ms (leaf (leaves.dead x)) h = h
behind_numbered ms (leaf (leaves.clash k)) h = h
behind_numbered ms (leaf (leaves.refuted ys)) h = h
behind_numbered ms (leaf (leaves.bounded d ys)) h = h
behind_numbered ms (leaf (leaves.charged c)) h = h
behind_numbered ms (leaf (leaves.untried low)) h = others_numbered ms h

first_way : (distinct : Bool) (ms : List Mark) → FitWays distinct ms
    → FitWays distinct (first_mark ms ∷ [])
first_way distinct [] h = tt
first_way distinct (None ∷ ms) h = tt
first_way distinct (Some m ∷ ms) h = (h.0, tt)

other_ways : (distinct : Bool) (ms : List Mark) → FitWays distinct ms
    → FitWays distinct (other_marks ms)
other_ways distinct [] h = tt
other_ways distinct (None ∷ ms) h = h
other_ways distinct (Some m ∷ ms) h = h.1

behind_ways : (distinct : Bool) (ms : List Mark) (e : End leaves.Leaf) → FitWays distinct ms
    → FitWays distinct (marks_behind ms e)
behind_ways distinct ms (branch w) h = h
behind_ways distinct ms (leaf (leaves.dead x)) h = h
behind_ways distinct ms (leaf (leaves.clash k)) h = h
behind_ways distinct ms (leaf (leaves.refuted ys)) h = h
behind_ways distinct ms (leaf (leaves.bounded d ys)) h = h
behind_ways distinct ms (leaf (leaves.charged c)) h = h
behind_ways distinct ms (leaf (leaves.untried low)) h = other_ways distinct ms h

-- a mark in range that is numbered, and names its network in a way that the list has
mark_fits : (distinct : Bool) (m : Mark) → AreNumbered (m ∷ []) → FitWays distinct (m ∷ [])
    → IsMarkInRange m → FitsMark distinct m
mark_fits distinct None numbered ways kept = tt
mark_fits distinct (Some m) numbered ways kept =
    (ways.0, (numbered.0, kept.0), kept.1, kept.2)

first_fits : (distinct : Bool) (ms : List Mark) → AreNumbered ms → FitWays distinct ms
    → Each IsMarkInRange ms → FitsMark distinct (first_mark ms)
first_fits distinct [] numbered ways kept = tt
first_fits distinct (m ∷ ms) numbered ways kept =
    mark_fits distinct m (first_numbered (m ∷ ms) numbered) (first_way distinct (m ∷ ms) ways)
    kept.0

others_kept : (ms : List Mark) → Each IsMarkInRange ms → Each IsMarkInRange (other_marks ms)
others_kept [] kept = tt
others_kept (m ∷ ms) kept = kept.1

behind_kept : (ms : List Mark) (e : End leaves.Leaf) → Each IsMarkInRange ms
    → Each IsMarkInRange (marks_behind ms e)
behind_kept ms (branch w) h = h
behind_kept ms (leaf (leaves.dead x)) h = h
behind_kept ms (leaf (leaves.clash k)) h = h
behind_kept ms (leaf (leaves.refuted ys)) h = h
behind_kept ms (leaf (leaves.bounded d ys)) h = h
behind_kept ms (leaf (leaves.charged c)) h = h
behind_kept ms (leaf (leaves.untried low)) h = others_kept ms h

with_mark_fits : (distinct : Bool) (ms : List Mark) (e : End leaves.Leaf) (behind : List Mark)
    → AreNumbered ms → FitWays distinct ms → Each IsMarkInRange ms
    → Each (FitsMark distinct) behind → Each (FitsMark distinct) (with_mark ms e behind)
with_mark_fits distinct ms (branch w) behind numbered ways kept fits = fits
with_mark_fits distinct ms (leaf (leaves.dead x)) behind numbered ways kept fits = fits
with_mark_fits distinct ms (leaf (leaves.clash k)) behind numbered ways kept fits = fits
with_mark_fits distinct ms (leaf (leaves.refuted ys)) behind numbered ways kept fits = fits
with_mark_fits distinct ms (leaf (leaves.bounded d ys)) behind numbered ways kept fits = fits
with_mark_fits distinct ms (leaf (leaves.charged c)) behind numbered ways kept fits = fits
with_mark_fits distinct ms (leaf (leaves.untried low)) behind numbered ways kept fits =
    (first_fits distinct ms numbered ways kept, fits)

pub marks_for_fit : (distinct : Bool) (ts : Tree) (ms : List Mark) → AreNumbered ms
    → FitWays distinct ms → Each IsMarkInRange ms → Each (FitsMark distinct) (marks_for ts ms)
marks_for_fit distinct [] ms numbered ways kept = tt
marks_for_fit distinct (t ∷ ts) ms numbered ways kept =
    with_mark_fits distinct ms t.end (marks_for ts (marks_behind ms t.end)) numbered ways kept
    (marks_for_fit distinct ts (marks_behind ms t.end) (behind_numbered ms t.end numbered)
    (behind_ways distinct ms t.end ways) (behind_kept ms t.end kept))
