-- The draws that choose whose turn it is (this project's choice).
use Rattle.std.specs.Prelude.{ℕ, ◌+◌, ◌*◌, ◌%◌}

-- one more than the greatest draw
abbrev pub draw_end : ℕ
draw_end = 65537

-- what a seed begins with
abbrev pub first_draw : ℕ → ℕ
first_draw seed = seed % draw_end

-- the draw behind a draw. Draws depend on nothing but the seed, and are a sequence that a person can work out: nothing
-- else should rest on it
abbrev pub next_draw : ℕ → ℕ
next_draw x = (75 * x + 74) % draw_end
