-- A file's units and ending: one content for each list of bytes, and the ending that follows from what was read.
use Rattle.std.proofs.Common.{◌≡◌, ◌≢◌, ℕ, ◌+◌, ◌-◌, ◌<◌, ◌≤◌, Bool, true, false, ◌⊎◌, inl, inr, List, [], ◌∷◌, ◌++◌, length, take, drop, refl, sym, ap, subst, ◌∙◌, append_assoc, arith}
use Rattle.std.specs.List.{AllByRecursion}
use Rattle.std.proofs.lemmas.Bool.{cases_lt, both_ways}
use Rattle.std.proofs.lemmas.List.{append-nil, take_all, take_at, append_cancel_left, take-append-drop, length-append}
use Rattle.bytes.proofs.Ranges.{take-append_past}
use Rattle.vsl_record.specs.Unit.{LogUnit, Log}
use Rattle.vsl_words.specs.declared.version.Version.{Version}
use Rattle.vsl_record.specs.Words.{IsUnitOf}
use Rattle.vsl_file.specs.File.{FileEnding, Whole, NotALog, Damaged, TooLarge, IsFile, HoldsWhole, IsSplit, DiffersFirst, BeginsNoUnit, stops_early, most_bytes, bytes_read, file_header_of, log_bytes_of}
use Rattle.vsl_file.specs.inside.FileReading.{IsReadUp}
use Rattle.vsl_file.specs.inside.ReaderSteps.{IsDamagedRest}
use Rattle.vsl_file.proofs.HeaderLemmas.{one_place, no_other, one_version, length-header}
use Rattle.vsl_file.proofs.UnitLemmas.{short_begins_none, stopped_begins_none, one_log, regroup, unit_bytes_prefix_free}

-- how a log ends, by what is left after its units
abbrev LogEndsSo : Version → List ℕ → List ℕ → FileEnding → Type 0
LogEndsSo ver bytes rest Whole = (length bytes ≤ most_bytes) × (rest ≡ [])
LogEndsSo ver bytes rest (NotALog at) = ⊥
LogEndsSo ver bytes rest (Damaged at) = (rest ≢ []) × (at + length rest ≡ length (bytes_read bytes)) × (most_bytes < length bytes → stops_early ver rest ≡ false)
LogEndsSo ver bytes rest TooLarge = (most_bytes < length bytes) × (stops_early ver rest ≡ true)

-- a file that is a log, with what is left after its units
record IsLogFile (ver : Version) (bytes : List ℕ) (units : Log) (ending : FileEnding) (rest : List ℕ) : Type 0 where
  pub split : IsSplit ver (bytes_read bytes) units rest
  pub no_more : BeginsNoUnit ver rest
  pub ends : LogEndsSo ver bytes rest ending

-- a file that is no log
record IsNoLog (bytes : List ℕ) (units : Log) (ending : FileEnding) (at : ℕ) : Type 0 where
  pub none : units ≡ []
  pub is : ending ≡ NotALog at
  pub differs : DiffersFirst at bytes

-- no bytes begin no unit
nothing_begins_none : (ver : Version) → BeginsNoUnit ver []
nothing_begins_none ver = short_begins_none ver [] (omega arith)

-- a file is a log or none
opened : (bytes : List ℕ) (units : Log) (ending : FileEnding) → IsFile bytes units ending → ((at : ℕ) × IsNoLog bytes units ending at) ⊎ ((ver : Version) × (rest : List ℕ) × IsLogFile ver bytes units ending rest)
opened bytes units Whole file =
    let all : bytes_read bytes ≡ bytes = take_all most_bytes bytes file.0 in
    let ver : Version = file.1.0 in
    inr (ver, [], record { split = subst (λ (x : List ℕ). IsSplit ver x units []) (sym all) file.1.1; no_more = nothing_begins_none ver; ends = (file.0, refl) })
opened bytes units (NotALog at) file = inl (at, record { none = file.0; is = refl; differs = file.1 })
opened bytes units (Damaged at) file = inr (file.0, file.1, record { split = file.4; no_more = file.3; ends = (file.2, file.5, file.6) })
opened bytes units TooLarge file = inr (file.1.0, file.1.1, record { split = file.1.2; no_more = stopped_begins_none file.1.0 file.1.1 file.1.3; ends = (file.0, file.1.3) })

-- what is left determines how a log ends
one_ending : (ver : Version) (bytes rest : List ℕ) (d e : FileEnding) → LogEndsSo ver bytes rest d → LogEndsSo ver bytes rest e → d ≡ e
one_ending ver bytes rest (NotALog at) e p q = absurd p
one_ending ver bytes rest d (NotALog at) p q = absurd q
one_ending ver bytes rest Whole Whole p q = refl
one_ending ver bytes rest Whole (Damaged at) p q = absurd (q.0 p.1)
one_ending ver bytes rest Whole TooLarge p q = absurd (omega (arith, p.0, q.0))
one_ending ver bytes rest (Damaged at) Whole p q = absurd (p.0 q.1)
one_ending ver bytes rest (Damaged at) (Damaged other) p q = ap Damaged (omega (arith, p.1, q.1))
one_ending ver bytes rest (Damaged at) TooLarge p q = absurd (both_ways (stops_early ver rest) (p.2 q.0) q.1)
one_ending ver bytes rest TooLarge Whole p q = absurd (omega (arith, p.0, q.0))
one_ending ver bytes rest TooLarge (Damaged at) p q = absurd (both_ways (stops_early ver rest) (q.2 p.0) p.1)
one_ending ver bytes rest TooLarge TooLarge p q = refl

-- the bytes of a log go on after the header
log_begins : (ver : Version) (bytes : List ℕ) (units : Log) (rest : List ℕ) → IsSplit ver (bytes_read bytes) units rest → bytes ≡ file_header_of ver ++ (log_bytes_of ver units ++ rest ++ drop most_bytes bytes)
log_begins ver bytes units rest split =
    sym (take-append-drop most_bytes bytes) ∙ ap (λ (x : List ℕ). x ++ drop most_bytes bytes) (split.parts ∙ append_assoc (file_header_of ver) (log_bytes_of ver units) rest) ∙ append_assoc (file_header_of ver) (log_bytes_of ver units ++ rest) (drop most_bytes bytes)

-- bytes are not both a log and none
not_both : (ver : Version) (bytes : List ℕ) (units : Log) (rest : List ℕ) (at : ℕ) → IsSplit ver (bytes_read bytes) units rest → DiffersFirst at bytes → ⊥
not_both ver bytes units rest at split differs = no_other ver bytes (log_bytes_of ver units ++ rest ++ drop most_bytes bytes) at (log_begins ver bytes units rest split) differs

-- bytes have one split whose rest begins no unit
same_parts : (ver : Version) (bytes : List ℕ) (us vs : Log) (rest left : List ℕ) → IsSplit ver bytes us rest → IsSplit ver bytes vs left → BeginsNoUnit ver rest → BeginsNoUnit ver left → (us ≡ vs) × (rest ≡ left)
same_parts ver bytes us vs rest left p q none_p none_q =
    let header : List ℕ = file_header_of ver in
    let parts : header ++ (log_bytes_of ver us ++ rest) ≡ header ++ (log_bytes_of ver vs ++ left) =
    sym (append_assoc header (log_bytes_of ver us) rest) ∙ sym p.parts ∙ q.parts ∙ append_assoc header (log_bytes_of ver vs) left in
    one_log ver us vs rest left p.are_units q.are_units none_p none_q (append_cancel_left header (log_bytes_of ver us ++ rest) (log_bytes_of ver vs ++ left) parts)

-- bytes are of one version
same_version : (v w : Version) (bytes : List ℕ) (us vs : Log) (rest left : List ℕ) → IsSplit v bytes us rest → IsSplit w bytes vs left → v ≡ w
same_version v w bytes us vs rest left p q =
    one_version v w (log_bytes_of v us ++ rest) (log_bytes_of w vs ++ left)
    (sym (append_assoc (file_header_of v) (log_bytes_of v us) rest) ∙ sym p.parts ∙ q.parts ∙ append_assoc (file_header_of w) (log_bytes_of w vs) left)

-- the same for logs
logs_of_one : (ver : Version) (bytes : List ℕ) (us vs : Log) (d e : FileEnding) (rest left : List ℕ) → IsLogFile ver bytes us d rest → IsLogFile ver bytes vs e left → (us ≡ vs) × (d ≡ e)
logs_of_one ver bytes us vs d e rest left p q =
    let same = same_parts ver (bytes_read bytes) us vs rest left p.split q.split p.no_more q.no_more in
    (same.0, one_ending ver bytes left d e (subst (λ (x : List ℕ). LogEndsSo ver bytes x d) same.1 p.ends) q.ends)

same_logs : (v w : Version) (bytes : List ℕ) (us vs : Log) (d e : FileEnding) (rest left : List ℕ) → IsLogFile v bytes us d rest → IsLogFile w bytes vs e left → (us ≡ vs) × (d ≡ e)
same_logs v w bytes us vs d e rest left p q =
    let same : v ≡ w = same_version v w (bytes_read bytes) us vs rest left p.split q.split in
    logs_of_one w bytes us vs d e rest left (subst (λ (ver : Version). IsLogFile ver bytes us d rest) same p) q

-- a file's bytes determine its units and its ending
pub one_content_of : (bytes : List ℕ) (us vs : Log) (d e : FileEnding) → IsFile bytes us d → IsFile bytes vs e → (us ≡ vs) × (d ≡ e)
one_content_of bytes us vs d e file other =
    elim (opened bytes us d file) [
      | inl (at, p) ↦ elim (opened bytes vs e other) [
        | inl (place, q) ↦ (p.none ∙ sym q.none, p.is ∙ ap NotALog (one_place bytes at place p.differs q.differs) ∙ sym q.is)
        | inr (w, rest, q) ↦ absurd (not_both w bytes vs rest at q.split p.differs)
      ]
      | inr (v, rest, p) ↦ elim (opened bytes vs e other) [
        | inl (at, q) ↦ absurd (not_both v bytes us rest at p.split q.differs)
        | inr (w, left, q) ↦ same_logs v w bytes us vs d e rest left p q
      ]
    ]

-- the bytes of the header are no fewer than it has
header_within : (ver : Version) (bytes : List ℕ) (units : Log) (rest : List ℕ) → IsSplit ver bytes units rest → length bytes < 8 → ⊥
header_within ver bytes units rest split short = omega (arith, ap length split.parts, length-append (file_header_of ver ++ log_bytes_of ver units) rest, length-append (file_header_of ver) (log_bytes_of ver units), length-header ver)

-- units that lie whole are the same in both
whole_parts : (v w : Version) (bytes : List ℕ) (us vs : Log) (rest left : List ℕ) → IsSplit v bytes us rest → IsSplit w bytes vs left → stops_early v rest ≡ true → stops_early w left ≡ true → us ≡ vs
whole_parts v w bytes us vs rest left p q stops_p stops_q =
    let same : v ≡ w = same_version v w bytes us vs rest left p q in
    let first : IsSplit w bytes us rest = subst (λ (ver : Version). IsSplit ver bytes us rest) same p in
    let stops : stops_early w rest ≡ true = subst (λ (ver : Version). stops_early ver rest ≡ true) same stops_p in
    (same_parts w bytes us vs rest left first q (stopped_begins_none w rest stops) (stopped_begins_none w left stops_q)).0

-- the first bytes of a file determine the units that lie whole in them
pub whole_units_of : (bytes : List ℕ) (us vs : Log) → HoldsWhole bytes us → HoldsWhole bytes vs → us ≡ vs
whole_units_of bytes us vs (inl p) (inl q) = p.1 ∙ sym q.1
whole_units_of bytes us vs (inl p) (inr q) = absurd (header_within q.0 bytes vs q.1 q.2 p.0)
whole_units_of bytes us vs (inr p) (inl q) = absurd (header_within p.0 bytes us p.1 p.2 q.0)
whole_units_of bytes us vs (inr p) (inr q) = whole_parts p.0 q.0 bytes us vs p.1 q.1 p.2 q.2 p.3 q.3

-- units that begin the bytes of others, after which no unit begins, are the first of these
first_log : (ver : Version) (us vs : Log) (a b : List ℕ) → AllByRecursion (IsUnitOf ver) us → AllByRecursion (IsUnitOf ver) vs → BeginsNoUnit ver b → log_bytes_of ver us ++ a ≡ log_bytes_of ver vs ++ b → (others : Log) × (vs ≡ us ++ others)
first_log ver [] vs a b fits_us fits_vs none e = (vs, refl)
first_log ver (u ∷ us) [] a b fits_us fits_vs none e = absurd (none u (log_bytes_of ver us ++ a) fits_us.0 (sym e ∙ regroup ver u us a))
first_log ver (u ∷ us) (v ∷ vs) a b fits_us fits_vs none e =
    let first = unit_bytes_prefix_free ver u v (log_bytes_of ver us ++ a) (log_bytes_of ver vs ++ b) fits_us.0 fits_vs.0 (sym (regroup ver u us a) ∙ e ∙ regroup ver v vs b) in
    let others = first_log ver us vs a b fits_us.1 fits_vs.1 none first.1 in
    (others.0, ap (λ (w : LogUnit). w ∷ vs) (sym first.0) ∙ ap (λ (ws : Log). u ∷ ws) others.1)

-- the bytes that are read of a file begin with all that begins it and is short enough
read_begins : (bytes front rest : List ℕ) → length front ≤ most_bytes → bytes ≡ front ++ rest → bytes_read bytes ≡ front ++ take (most_bytes - length front) rest
read_begins bytes front rest short e = ap (λ (x : List ℕ). bytes_read x) e ∙ take-append_past front rest (most_bytes - length front) most_bytes (omega (arith, short))

-- units that begin a file are its first ones
first_of_log : (v w : Version) (bytes : List ℕ) (units us : Log) (ending : FileEnding) (rest left : List ℕ) → AllByRecursion (IsUnitOf v) units → length (file_header_of v ++ log_bytes_of v units) ≤ most_bytes
    → bytes ≡ file_header_of v ++ log_bytes_of v units ++ rest → IsLogFile w bytes us ending left → (others : Log) × (us ≡ units ++ others)
first_of_log v w bytes units us ending rest left fits short e p =
    let header : List ℕ = file_header_of v in
    let more : List ℕ = take (most_bytes - length (header ++ log_bytes_of v units)) rest in
    let read : bytes_read bytes ≡ header ++ log_bytes_of v units ++ more = read_begins bytes (header ++ log_bytes_of v units) rest short e in
    let same : v ≡ w = same_version v w (bytes_read bytes) units us more left (record { are_units = fits; parts = read }) p.split in
    let log : IsLogFile v bytes us ending left = subst (λ (ver : Version). IsLogFile ver bytes us ending left) (sym same) p in
    let parts : header ++ (log_bytes_of v units ++ more) ≡ header ++ (log_bytes_of v us ++ left) = sym (append_assoc header (log_bytes_of v units) more) ∙ sym read ∙ log.split.parts ∙ append_assoc header (log_bytes_of v us) left in
    first_log v units us more left fits log.split.are_units log.no_more (append_cancel_left header (log_bytes_of v units ++ more) (log_bytes_of v us ++ left) parts)

pub first_units : (ver : Version) (bytes : List ℕ) (units us : Log) (ending : FileEnding) (rest : List ℕ) → AllByRecursion (IsUnitOf ver) units → length (file_header_of ver ++ log_bytes_of ver units) ≤ most_bytes
    → bytes ≡ file_header_of ver ++ log_bytes_of ver units ++ rest → IsFile bytes us ending → (others : Log) × (us ≡ units ++ others)
first_units ver bytes units us ending rest fits short e file =
    elim (opened bytes us ending file) [
      | inl (at, p) ↦ absurd (no_other ver bytes (log_bytes_of ver units ++ rest) at (e ∙ append_assoc (file_header_of ver) (log_bytes_of ver units) rest) p.differs)
      | inr (w, left, p) ↦ first_of_log ver w bytes units us ending rest left fits short e p
    ]

-- the bytes that follow a log's units are no more than all
rest_within : (ver : Version) (bytes : List ℕ) (units : Log) (rest : List ℕ) → IsSplit ver bytes units rest → length rest ≤ length bytes
rest_within ver bytes units rest split = omega (arith, ap length split.parts, length-append (file_header_of ver ++ log_bytes_of ver units) rest)

-- where something is left and the file goes no further, or doesn't stop early, it is damaged
damaged : (ver : Version) (bytes : List ℕ) (units : Log) (rest : List ℕ) → IsSplit ver (bytes_read bytes) units rest → BeginsNoUnit ver rest → rest ≢ [] → (most_bytes < length bytes → stops_early ver rest ≡ false) → (ending : FileEnding) × IsFile bytes units ending
damaged ver bytes units rest split none some stops =
    (Damaged (length (bytes_read bytes) - length rest), (ver, rest, some, none, split, omega (arith, rest_within ver (bytes_read bytes) units rest split), stops))

-- a log of more bytes than are read has an ending
large_log : (ver : Version) (bytes : List ℕ) (units : Log) (rest : List ℕ) (b : Bool) → stops_early ver rest ≡ b → IsSplit ver (bytes_read bytes) units rest → BeginsNoUnit ver rest → most_bytes < length bytes → (ending : FileEnding) × IsFile bytes units ending
large_log ver bytes units rest true e split none large = (TooLarge, (large, (ver, rest, split, e)))
large_log ver bytes units rest false e split none large = damaged ver bytes units rest split none (λ empty. both_ways (stops_early ver rest) e (ap (stops_early ver) empty)) (λ _. e)

-- so has one of no more bytes
small_log : (ver : Version) (bytes : List ℕ) (units : Log) (rest : List ℕ) → IsSplit ver (bytes_read bytes) units rest → BeginsNoUnit ver rest → length bytes ≤ most_bytes → (ending : FileEnding) × IsFile bytes units ending
small_log ver bytes units [] split none small = (Whole, (small, (ver, subst (λ (x : List ℕ). IsSplit ver x units []) (take_all most_bytes bytes small) split)))
small_log ver bytes units (r ∷ rest) split none small = damaged ver bytes units (r ∷ rest) split none (λ e. cc) (λ large. absurd (omega arith))

-- a file that begins with the header, and was read up, has an ending
pub read_ending : (ver : Version) (bytes body : List ℕ) (units : Log) (rest : List ℕ) → bytes_read bytes ≡ file_header_of ver ++ body → IsReadUp ver body units rest → (ending : FileEnding) × IsFile bytes units ending
read_ending ver bytes body units rest is up =
    let parts : bytes_read bytes ≡ file_header_of ver ++ log_bytes_of ver units ++ rest = is ∙ ap (λ (x : List ℕ). file_header_of ver ++ x) up.parts ∙ sym (append_assoc (file_header_of ver) (log_bytes_of ver units) rest) in
    let split : IsSplit ver (bytes_read bytes) units rest = record { are_units = up.are_units; parts = parts } in
    elim (cases_lt most_bytes (length bytes)) [
      | inl large ↦ large_log ver bytes units rest (stops_early ver rest) refl split up.no_more large
      | inr small ↦ small_log ver bytes units rest split up.no_more small
    ]

-- ---- files of which a part was read

-- more bytes than are read, the first of them those that are
read_of : (part more bytes : List ℕ) → bytes ≡ part ++ more → length part ≡ most_bytes → bytes_read bytes ≡ part
read_of part more bytes is full = ap (take most_bytes) is ∙ take_at part more most_bytes full

-- a file that ends where it was read, with nothing left, is whole
pub ends_whole : (ver : Version) (bytes : List ℕ) (units : Log) → AllByRecursion (IsUnitOf ver) units → bytes ≡ file_header_of ver ++ log_bytes_of ver units → length bytes ≤ most_bytes → IsFile bytes units Whole
ends_whole ver bytes units all is small = (small, (ver, record { are_units = all; parts = is ∙ sym (append-nil (file_header_of ver ++ log_bytes_of ver units)) }))

-- a file with a damaged rest is damaged where it begins
pub ends_damaged : (ver : Version) (bytes rest : List ℕ) (units : Log) (at most : ℕ) → AllByRecursion (IsUnitOf ver) units → bytes ≡ file_header_of ver ++ log_bytes_of ver units ++ rest → at ≡ length (file_header_of ver ++ log_bytes_of ver units) → at + most ≡ most_bytes
    → IsDamagedRest ver most rest → IsFile bytes units (Damaged at)
ends_damaged ver bytes rest units at most all is at_is room damaged =
    let part : List ℕ = file_header_of ver ++ log_bytes_of ver units in
    let read : bytes_read bytes ≡ part ++ take most rest = ap (take most_bytes) is ∙ take-append_past part rest most most_bytes (omega (arith, at_is, room)) in (
      ver,
      take most rest,
      damaged.some,
      damaged.none,
      record { are_units = all; parts = read },
      omega (arith, at_is, ap length read, length-append part (take most rest)),
      (λ large. damaged.stays (omega (arith, large, ap length is, length-append part rest, at_is, room))),
    )

-- a file that goes on where as many bytes as are read stop early is too large
pub ends_too_large : (ver : Version) (bytes part rest more : List ℕ) (units : Log) → AllByRecursion (IsUnitOf ver) units → part ≡ file_header_of ver ++ log_bytes_of ver units ++ rest → length part ≡ most_bytes → stops_early ver rest ≡ true
    → bytes ≡ part ++ more → 0 < length more → IsFile bytes units TooLarge
ends_too_large ver bytes part rest more units all is full stops bytes_is some =
    (omega (arith, full, ap length bytes_is, length-append part more), (ver, rest, record { are_units = all; parts = read_of part more bytes bytes_is full ∙ is }, stops))
