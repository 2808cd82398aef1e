-- Reading the first bytes of a log.
use Rattle.std.proofs.Common.{◌≡◌, ℕ, ◌+◌, ◌<◌, ◌≤◌, List, [], ◌∷◌, ◌++◌, length, take, drop, inl, inr, Ok, refl, sym, subst, ◌∙◌, arith}
use Rattle.std.proofs.lemmas.List.{length-take-le}
use Rattle.vio.specs.World.{Seen, Reading, Read, OnlyCounts, FaultsRose, IsAtEnd}
use Rattle.vio.specs.Calls.{Went, MetEnd, FailedEach, Call, Called, Take}
use Rattle.vio.proofs.CallLemmas.{did_take, did_then}
use Rattle.vio.proofs.WholeLemmas.{FaultsRose-later, Read-counts, Read-nothing, Read-then}
use Rattle.varnish_log.specs.declared.form.Asked.{Asked}
use Rattle.varnish_log.specs.declared.form.How.{How}
use Rattle.varnish_log.specs.declared.form.LogForm.{LogForm}
use Rattle.varnish_log.specs.First.{IsFirst, IsUnread, form_of, kept_of}
use Rattle.varnish_log.specs.Copied.{IsLog}
use Rattle.varnish_log.specs.inside.Copying.{HasRead}
use Rattle.varnish_log.proofs.CopyingLemmas.{piece_bytes}

module _ (input size : ℕ) (first : List ℕ) (s t u : Seen) (has : HasRead input size first s t) where
  -- more bytes were read behind them
  pub more_read : (n : ℕ) (new : List ℕ) → take size new ≡ take size first → length new ≡ length first → size + n ≤ length first → Read input (take n (drop size new)) t u → HasRead input (size + n) new s u
  more_read n new kept long fits read = record {
    read = subst (λ (x : List ℕ). Read input x s u) (sym (piece_bytes first new size n kept)) (Read-then (take size first) (take n (drop size new)) has.read read);
    within = omega (arith, fits, has.four);
    four = long ∙ has.four;
  }

  -- the end came before the fourth
  pub few_read : (new : List ℕ) → take size new ≡ take size first → size < 4 → Read input [] t u → IsAtEnd input u → Called (IsFirst input (take size new)) s u
  few_read new kept few read end =
      let long : length (take size first) ≡ size = length-take-le size first (omega (arith, has.within, has.four)) in
      subst (λ (x : List ℕ). Called (IsFirst input x) s u) (sym kept) (record {
        calls = Take input (take size first) MetEnd ∷ [];
        did = did_take input (take size first) MetEnd s u (Read-nothing (take size first) has.read read) end;
        is = inr (omega (arith, long, few), refl);
      })

  -- a read failed
  pub none_read : size < 4 → OnlyCounts t u → FaultsRose Reading input t u → Called (IsUnread input) s u
  none_read few only rose =
      let long : length (take size first) ≡ size = length-take-le size first (omega (arith, has.within, has.four)) in
      record {
        calls = Take input (take size first) FailedEach ∷ [];
        did = did_take input (take size first) FailedEach s u (Read-nothing (take size first) has.read (Read-counts input t u only)) (FaultsRose-later Reading input s t u has.read.counts has.read.names rose);
        is = record { part = take size first; short = omega (arith, long, few); are = refl };
      }

-- four were read
pub all_read : (input size : ℕ) (first : List ℕ) (s t : Seen) → HasRead input size first s t → 4 ≤ size → Called (IsFirst input (take size first)) s t
all_read input size first s t has many = record {
  calls = Take input (take size first) Went ∷ [];
  did = did_take input (take size first) Went s t has.read tt;
  is = inl (length-take-le size first (omega (arith, has.within, has.four)) ∙ omega (arith, has.within, many), refl);
}

-- the first bytes of a log were read, and then these calls were made
pub log_then : (asked : Asked) (input : ℕ) (bytes kept : List ℕ) (form : LogForm) (IsRest : How → List ℕ → List Call → Type 0) (s t u : Seen) → Called (IsFirst input bytes) s t → form_of asked.text bytes ≡ Ok form → kept ≡ kept_of form bytes
    → Called (IsRest (record { form = form; strict = asked.strict }) kept) t u → Called (IsLog asked input IsRest) s u
log_then asked input bytes kept form IsRest s t u first log is rest = record {
  calls = first.calls ++ rest.calls;
  did = did_then first.calls rest.calls s t u first.did rest.did;
  is = record {
    first = bytes;
    form = form;
    begin = first.calls;
    rest = rest.calls;
    are = refl;
    came = first.is;
    is_log = log;
    is = subst (λ (x : List ℕ). IsRest (record { form = form; strict = asked.strict }) x rest.calls) is rest.is;
  };
}
