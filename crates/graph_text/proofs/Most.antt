-- The greatest flow along a walk.
use Rattle.std.proofs.Common.{◌≡◌, ℕ, ◌<◌, ◌+◌, List, [], ◌∷◌, drop, get_or, length, sym, ap, ◌∙◌}
use Rattle.std.proofs.Common.{unsigned_abs}
use Rattle.std.proofs.lemmas.List.{drop_more}
use Rattle.report_amounts.specs.problem_rules.Problem.{Problem, Term}
use Rattle.report_amounts.specs.tree_rules.Claim.{Network}
use Rattle.report_amounts.specs.report_rules.Aligned.{greater}
use Rattle.report_amounts.specs.report_rules.Drawn.{moved, most_of, most_at, most_from}

-- the number so far and the terms that are left give the whole number
pub next_most : (p : Problem) (w : Network) (u most k : ℕ) (ts : List Term) (t : Term)
    (new whole : ℕ) → k < length ts → t ≡ get_or ts k t
    → new ≡ greater most (unsigned_abs (moved p w u t.material))
    → most_of p w u most (drop k ts) ≡ whole → most_of p w u new (drop (k + 1) ts) ≡ whole
next_most p w u most k ts t new whole less is n h =
    ap (λ (m : ℕ). most_of p w u m (drop (k + 1) ts)) n
    ∙ ap (λ (l : List Term). most_of p w u most l)
    (sym (drop_more ts k t less ∙ ap (λ (y : Term). y ∷ drop (k + 1) ts) (sym is)))
    ∙ h

-- the number so far and the units that are left give it
pub next_unit : (p : Problem) (w : Network) (left rest : List ℕ) (i most new whole : ℕ)
    → left ≡ i ∷ rest → new ≡ most_at p w most i → most_from p w most left ≡ whole
    → most_from p w new rest ≡ whole
next_unit p w left rest i most new whole e n h =
    ap (λ (m : ℕ). most_from p w m rest) n ∙ ap (λ (is : List ℕ). most_from p w most is) (sym e) ∙ h

pub last_unit : (p : Problem) (w : Network) (left : List ℕ) (most whole : ℕ) → left ≡ []
    → most_from p w most left ≡ whole → most ≡ whole
last_unit p w left most whole e h = ap (λ (is : List ℕ). most_from p w most is) (sym e) ∙ h
