-- Lines of networks that are counted from 1.
use Rattle.std.proofs.Common.{◌≡◌, ℕ, ◌<◌, ◌+◌, List, [], ◌∷◌, ◌++◌, drop, get_or, length, sym, ap}
use Rattle.std.proofs.Common.{◌∙◌, append_assoc}
use Rattle.std.proofs.lemmas.List.{drop_more}
use Rattle.report_amounts.specs.problem_rules.Problem.{Problem}
use Rattle.report_amounts.specs.tree_rules.Claim.{Network}
use Rattle.report_amounts.specs.pns_problem.Printing.{printed}
use Rattle.report_amounts.proofs.pns_problem.Cited.{after}
use Rattle.report_amounts.specs.report_rules.Graph.{label_line, listed_words, listed_lines}

-- the text so far and the lines of the networks that are left give the whole text
pub next_listed : (p : Problem) (first : Network) (ws : List Network) (k : ℕ) (w : Network)
    (words text t1 t2 whole : List ℕ) → k < length ws → w ≡ get_or ws k w
    → words ≡ listed_words p first (k + 1) w → t1 ≡ text ++ label_line words → t2 ≡ t1 ++ 10 ∷ []
    → text ++ printed (listed_lines p first (k + 1) (drop k ws)) ≡ whole
    → t2 ++ printed (listed_lines p first (k + 1 + 1) (drop (k + 1) ws)) ≡ whole
next_listed p first ws k w words text t1 t2 whole less is said e f h =
    let line : List ℕ = label_line (listed_words p first (k + 1) w) in
    let rest : List ℕ = printed (listed_lines p first (k + 1 + 1) (drop (k + 1) ws)) in
    ap (λ (t : List ℕ). t ++ rest)
    (after text t1 t2 line (10 ∷ []) (e ∙ ap (λ (s : List ℕ). text ++ label_line s) said) f)
    ∙ append_assoc text (line ++ 10 ∷ []) rest
    ∙ ap (λ (vs : List Network). text ++ printed (listed_lines p first (k + 1) vs))
    (sym (drop_more ws k w less ∙ ap (λ (v : Network). v ∷ drop (k + 1) ws) (sym is)))
    ∙ h
