-- Draws in a row.
use Rattle.std.proofs.Common.{◌≡◌, ℕ, zero, suc, ◌+◌, ◌*◌, ◌<◌, ap, ◌∙◌, arith}
use Rattle.std.proofs.Math.Nat.{mod-lt}
use Rattle.text_rules.specs.problem_rules.Draws.{next_state, state_after, drawn}

pub state_after-add : (m n state : ℕ)
    → state_after (m + n) state ≡ state_after n (state_after m state)
state_after-add m zero state = let e : m + zero ≡ m = omega arith in ap (λ k. state_after k state) e
state_after-add m (suc n) state =
    let e : m + suc n ≡ suc (m + n) = omega arith in
    ap (λ k. state_after k state) e ∙ ap next_state (state_after-add m n state)

-- after the five draws of a unit follow those of the next
pub five_more : (number state : ℕ)
    → state_after (5 * (number + 1)) state ≡ state_after 5 (state_after (5 * number) state)
five_more number state =
    let e : 5 * (number + 1) ≡ 5 * number + 5 = omega arith in
    ap (λ k. state_after k state) e ∙ state_after-add (5 * number) 5 state

pub drawn-lt : (draws state limit : ℕ) → 0 < limit → drawn draws state limit < limit
drawn-lt draws state limit h = mod-lt (next_state (state_after draws state)) h
