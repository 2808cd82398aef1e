-- How far a listing is read.
use Rattle.std.specs.Prelude.{◌≡◌, ℕ, ◌+◌, ◌≤◌, List, ◌++◌, length}
use Rattle.std.specs.List.{AllZip}
use Rattle.std.specs.Str.Lines.{lines}
use Rattle.raw_records.specs.Lines.{Line, IsLine}
use Rattle.traffic_feed.specs.inside.Gathering.{Gathered, gathered_lines}

-- the lines before the rest were read and gathered, and there are so many
pub record IsPartlyRead (bytes rest : List ℕ) (reclen seg line : ℕ) (g : Gathered) : Type 0 where
  pub texts : List (List ℕ)
  pub meant : List Line
  pub parts : lines bytes ≡ texts ++ lines rest
  pub are_lines : AllZip IsLine texts meant
  pub place : line ≡ length texts
  pub state : g ≡ gathered_lines reclen seg meant
  pub short : line + length rest ≤ length bytes
  pub few_cuts : g.cuts ≤ line
