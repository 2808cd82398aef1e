-- No file before the place has the name.
use Rattle.std.proofs.Common.{◌≡◌, take, None}
use Rattle.vio.specs.Sources.{held_in}
use Rattle.vio.proofs.file.find_place.Given as goal

abbrev pub invariant-loop-place : goal.invariant-loop-place
invariant-loop-place l = held_in (take l.place l.files) l.name ≡ None
