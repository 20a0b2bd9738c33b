-- A sum along a walk.
use Rattle.std.proofs.Common.{◌≡◌, ℕ, List, [], ◌∷◌, sym, ap, ◌∙◌}
use Rattle.report_rules.specs.Number.{Number, plus, sum_from}

-- the sum so far and the numbers that are left give the whole sum
pub next_sum : (f : ℕ → Number) (left rest : List ℕ) (k : ℕ) (sum new whole : Number)
    → left ≡ k ∷ rest → new ≡ plus sum (f k) → sum_from sum f left ≡ whole
    → sum_from new f rest ≡ whole
next_sum f left rest k sum new whole e n h =
    ap (λ (s : Number). sum_from s f rest) n ∙ ap (λ (ks : List ℕ). sum_from sum f ks) (sym e) ∙ h

pub last_sum : (f : ℕ → Number) (left : List ℕ) (sum whole : Number) → left ≡ []
    → sum_from sum f left ≡ whole → sum ≡ whole
last_sum f left sum whole e h = ap (λ (ks : List ℕ). sum_from sum f ks) (sym e) ∙ h
