-- The parts of a line.
use Rattle.std.proofs.Common.{ℕ, ◌-◌, ◌≡◌, ◌≤◌, List, ◌++◌, length, take, drop, replicate, ◌+◌, sym, append_assoc, arith}
use Rattle.std.specs.Prelude.{min}
use Rattle.std.proofs.lemmas.List.{take-append-drop, take-replicate, drop-append-le, drop-replicate, length-replicate}
use Rattle.vsl_select.specs.RawLine.{at_right}

-- digits written over spaces, up to the place `end`, stand at the right of so many columns
pub at_right_written : (end start more : ℕ) (digits written : List ℕ) → start + length digits ≡ end → drop start written ≡ digits ++ drop end (replicate (end + more) 32)
    → take start written ≡ take start (replicate (end + more) 32) → written ≡ at_right end digits ++ replicate more 32
at_right_written end start more digits written place behind before =
    let start_is : end - length digits ≡ start = omega (arith, place) in
    let more_is : end + more - end ≡ more = omega arith in
    let first = take-replicate {X = ℕ} start (end + more) 32 (omega (arith, place)) in
    rw (← take-append-drop start written, before, behind, first, drop-replicate {X = ℕ} end (end + more) 32, start_is, more_is) (sym (append_assoc (replicate start 32) digits (replicate more 32)))

-- a text at the right of some columns and more before them begins with the columns, or before them where it needs room
pub at_right_cut : (before columns start : ℕ) (digits last written : List ℕ) → start + length digits ≡ before + columns → written ≡ at_right (before + columns) digits ++ last
    → drop (min start before) written ≡ at_right columns digits ++ last
at_right_cut before columns start digits last written place is =
    let blanks : List ℕ = replicate start 32 in
    let wide : before + columns - length digits ≡ start = omega (arith, place) in
    let left : start - min start before ≡ columns - length digits = omega (arith, place) in
    let fits : min start before ≤ length blanks = omega (arith, length-replicate {A = ℕ} start 32) in
    rw (is, wide, append_assoc blanks digits last, drop-append-le (min start before) blanks (digits ++ last) fits, drop-replicate {X = ℕ} (min start before) start 32, left)
    (sym (append_assoc (replicate (columns - length digits) 32) digits last))
