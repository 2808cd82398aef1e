-- From a regex to what its text is read as.
use Rattle.std.proofs.Common.{◌≡◌, ◌≢◌, ◌<◌, ◌≤◌, ◌⊎◌, ◌&&◌, ℕ, Bool, true, false, nat_le, List, Option, None, Some, IsSomeAnd, IfSome, is_some, refl, sym, inl, inr, get_or, length, IsUtf8}
use Rattle.std.proofs.lemmas.Bool.{le-leb, lt-leb}
use Rattle.std.proofs.lemmas.Option.{none-some}
use Rattle.std.proofs.lemmas.Str.{is_utf8-from_IsUtf8, IsUtf8-from_is_utf8}
use Rattle.std.proofs.Math.Bool.{Bool-set}
use Rattle.std.proofs.Math.Logic.{∥∥₁_elim}
use Rattle.std.specs.Str.{is_utf8}
use Rattle.regex_hir.specs.Re.{Re}
use Rattle.regex_hir.specs.Find.{find}
use Rattle.regex_syntax.specs.Brackets.{Nested}
use Rattle.regex_syntax.specs.Captures.{SameCaptures}
use Rattle.regex_syntax.specs.Grammar.{Names, group_count}
use Rattle.regex_syntax.specs.Verdict.{Reads, Refuses}
use Rattle.regex_syntax.specs.declared.error.ErrorKind.{ErrorKind}
use Rattle.regex_syntax.specs.declared.error.ErrorKind.TheVariants.{OutOfMemory, NestLimitExceeded}
use Rattle.regex.proofs.ForCallers.{is_match_alike}
use Rattle.regex.specs.Bytes.{regex_source, regex_pattern}
use Rattle.regex.specs.declared.bytes.regex.Regex.{Regex}
use Rattle.vsl_pattern.specs.Options.{options}
use Rattle.vsl_pattern.specs.inside.Reading.{IsReadUnder}
use Rattle.vsl_pattern.specs.Patterns.{is_good_pattern, is_match}

-- what the grammar read, or nothing
abbrev Reading : Type 0
Reading = Option (Nested Re × Names)

-- the reading is not nested too deep
abbrev is_within : ℕ → Reading → Bool
is_within limit o = elim o [ None ↦ false | Some x ↦ nat_le x.0.depth limit ]

-- what was read matches somewhere in these bytes
abbrev is_found : List ℕ → Reading → Bool
is_found hay o = elim o [ None ↦ false | Some x ↦ is_some (find x.0.value hay 0) ]

-- what `Reads` says of a reading
abbrev IsTree : ℕ → Re → Names → Reading → Type 0
IsTree limit re names o = IsSomeAnd o (λ (x, found). (x.depth ≤ limit) × SameCaptures re x.value × (names ≡ found) × (group_count re ≤ length names))

within_of : (limit : ℕ) (re : Re) (names : Names) (o : Reading) → IsTree limit re names o → is_within limit o ≡ true
within_of limit re names None p = absurd p
within_of limit re names (Some x) p = le-leb _ _ p.0

found_alike : (limit : ℕ) (re : Re) (names : Names) (o : Reading) → IsTree limit re names o → (hay : List ℕ) → ((k : ℕ) → get_or hay k 0 < 256) →
    is_some (find re hay 0) ≡ is_found hay o
found_alike limit re names None p hay bytes = absurd p
found_alike limit re names (Some x) p hay bytes = is_match_alike p.1 hay bytes false 0

refused_of : (limit : ℕ) (kind : ErrorKind) (o : Reading) → (o ≡ None) ⊎ ((kind ≡ NestLimitExceeded) × IfSome o (λ (x, _). limit < x.depth)) →
    is_within limit o ≡ false
refused_of limit kind None p = refl
refused_of limit kind (Some x) (inl e) = absurd (none-some _ (sym e))
refused_of limit kind (Some x) (inr p) = lt-leb _ _ p.1

-- a text that the grammar reads is a good pattern
pub good_of_read : (caseless : Bool) (text : List ℕ) (regex : Regex) → IsUtf8 text → regex_source regex ≡ text → IsReadUnder caseless regex →
    is_good_pattern caseless text ≡ true
unfolding Reads
good_of_read caseless text regex utf8 source p =
    let tree : Reads (options caseless) text _ _ = rw (source, p.options) at p.read in
    rw (is_utf8-from_IsUtf8 text utf8, within_of _ _ _ _ tree)

-- what is refused, but for want of memory, is no good pattern
pub not_good_of_refused : (caseless : Bool) (text : List ℕ) (kind : ErrorKind) → kind ≢ OutOfMemory → Refuses (options caseless) text kind →
    is_good_pattern caseless text ≡ false
unfolding Refuses
not_good_of_refused caseless text kind other (inl memory) = absurd (other memory)
not_good_of_refused caseless text kind other (inr refused) = and_false _ _ (refused_of _ kind _ refused)
  where
    and_false : (a b : Bool) → b ≡ false → (a && b) ≡ false
    and_false true b e = e
    and_false false b e = refl

-- bytes that are no UTF-8 are no good pattern
pub not_good_of_bytes : (caseless : Bool) (text : List ℕ) → ¬ (IsUtf8 text) → is_good_pattern caseless text ≡ false
not_good_of_bytes caseless text none = by_test (is_utf8 text) refl
  where
    by_test : (b : Bool) → is_utf8 text ≡ b → is_good_pattern caseless text ≡ false
    by_test true e = absurd (none (IsUtf8-from_is_utf8 text e))
    by_test false e = rw e refl

-- a search by the regex finds what a search by what its text is read as finds
pub is_match_of_regex : (caseless : Bool) (regex : Regex) (hay : List ℕ) → ((k : ℕ) → get_or hay k 0 < 256) → IsReadUnder caseless regex →
    is_some (find (regex_pattern regex) hay 0) ≡ is_match caseless (regex_source regex) hay
unfolding Reads
is_match_of_regex caseless regex hay bytes p =
    let tree : Reads (options caseless) (regex_source regex) _ _ = rw p.options at p.read in
    found_alike _ _ _ _ tree hay bytes

-- the same, of a pattern that is that of the regex
pub is_match_of_pattern : (caseless : Bool) (regex : Regex) (re : Re) (hay : List ℕ) → ((k : ℕ) → get_or hay k 0 < 256) →
    ∥ IsReadUnder caseless regex ∥₁ → ∥ re ≡ regex_pattern regex ∥₁ → is_some (find re hay 0) ≡ is_match caseless (regex_source regex) hay
is_match_of_pattern caseless regex re hay bytes p e =
    ∥∥₁_elim p (Bool-set _ _) (λ q. ∥∥₁_elim e (Bool-set _ _) (λ same. rw same (is_match_of_regex caseless regex hay bytes q)))
