-- How traffic is made.
use Rattle.std.specs.Prelude.{◌≡◌, ℕ, zero, suc, ◌*◌, ◌≤◌}
use Rattle.traffic_feed.specs.Turns.{first_draw}
use Rattle.traffic_feed.specs.Made.{draw_of, made_lines}
use Rattle.traffic_feed.specs.inside.Gathering.{Gathered, gathered_lines}

-- one more than the greatest number of a request, counted from 0
abbrev pub request_end : ℕ
request_end = 100000

-- how many rows the table of a request has
abbrev pub row_count : ℕ
row_count = 27

-- the draw before that of the k-th request
abbrev pub drawn_before : ℕ → ℕ → ℕ
drawn_before seed zero = first_draw seed
drawn_before seed (suc k) = draw_of seed k

-- the lines of so many requests were taken, and this was drawn last
pub record IsPartlyMade (seed reclen seg k x : ℕ) (g : Gathered) : Type 0 where
  pub state : g ≡ gathered_lines reclen seg (made_lines k seed)
  pub drawn : x ≡ drawn_before seed k
  pub few_cuts : g.cuts ≤ row_count * k
