-- Numbers drawn one after another. A linear congruence gives the next state, and a draw is the
-- remainder of the new state by a limit.
use Rattle.std.specs.Prelude.{ℕ, zero, suc, ◌+◌, ◌*◌, ◌%◌}

-- the state before the first draw
abbrev pub first_state : ℕ → ℕ
first_state number = number % 65536

unfoldable pub next_state : ℕ → ℕ
next_state state = (75 * state + 74) % 65537

-- the state after so many draws
abbrev pub state_after : ℕ → ℕ → ℕ
state_after zero state = state
state_after (suc draws) state = next_state (state_after draws state)

-- the number below `limit` that is drawn after so many other draws
abbrev pub drawn : ℕ → ℕ → ℕ → ℕ
drawn draws state limit = next_state (state_after draws state) % limit
