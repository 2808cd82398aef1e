-- Copying a piece: what was read, taken and written.
use Rattle.std.proofs.Common.{◌≡◌, ℕ, ◌+◌, ◌<◌, ◌≤◌, List, [], ◌∷◌, ◌++◌, length, take, drop, inl, inr, refl, sym, ap, subst, arith, ◌∙◌, Result, Ok, Err}
use Rattle.std.specs.List.{flat_map}
use Rattle.std.proofs.Math.Seq.{take-add}
use Rattle.std.proofs.lemmas.List.{append-nil, length-drop, length-take-le, nil_from_length}
use Rattle.std.proofs.lemmas.List.Concat.{flat_map-append}
use Rattle.std.proofs.lemmas.List.Sums.{sum_by_push}
use Rattle.log_model.specs.declared.fault.Halt.{Halt}
use Rattle.log_model.specs.declared.fault.Halt.TheVariants as halts
use Rattle.log_model.specs.Halts.{IfFault, OnShort}
use Rattle.log_model.specs.Prefix.{IsProperPrefix}
use Rattle.vio.specs.World.{Seen, Reading, Writing, Read, Wrote, FaultsRose, IsAtEnd}
use Rattle.vio.specs.Writes.{WroteOn}
use Rattle.vio.specs.Calls.{Went, FailedEach, Call, Called, Did, Marks, Take, Write}
use Rattle.vio.proofs.CallLemmas.{did_take, did_then, did_write}
use Rattle.varnish_log.specs.declared.copying.Copied.{Copied}
use Rattle.varnish_log.specs.declared.copying.CopyFault.TheVariants.{Damaged, Lost, WriteFault}
use Rattle.varnish_log.specs.declared.copying.Ends.{Ends}
use Rattle.varnish_log.specs.declared.form.How.{How}
use Rattle.varnish_log.specs.declared.loss.Counts.{Counts}
use Rattle.varnish_log.specs.declared.loss.Loss.{Loss}
use Rattle.varnish_log.specs.declared.taking.Stop.{Stop}
use Rattle.varnish_log.specs.declared.taking.Stop.TheVariants as stops
use Rattle.varnish_log.specs.Counting.{none_counted}
use Rattle.varnish_log.specs.Taken.{AreTaken}
use Rattle.varnish_log.specs.Copied.{ArePieces, CopiedThen, IsPiece, IsPlace, IsStarved, IsEnd, IsStopped, Piece, SoFar, StopsAt, piece_calls, read_mark}
use Rattle.varnish_log.specs.inside.Copying.{IsCopiedPiece, IsSoFar}

-- what holds is said of want of memory
pub short_of : {A F : Type 0} (P : Type 0) (r : Result A (Halt F)) → P → OnShort r P
short_of P (Ok x) p = tt
short_of P (Err (halts.Fault fault)) p = tt
short_of P (Err halts.NoMemory) p = p

-- what holds of a fault, or where there was no memory, is said of what came to it
pub each_fault : (A B : Type 0) {F : Type 0} {P Q : F → Type 0} (halt : Halt F) → ((fault : F) → P fault → Q fault) → IfFault {A = A} (Err halt) P → IfFault {A = B} (Err halt) Q
each_fault A B (halts.Fault fault) so p = so fault p
each_fault A B halts.NoMemory so p = tt

pub each_short : (A B : Type 0) {F P Q : Type 0} (halt : Halt F) → (P → Q) → OnShort {A = A} (Err halt) P → OnShort {A = B} (Err halt) Q
each_short A B (halts.Fault fault) so p = tt
each_short A B halts.NoMemory so p = so p

-- what is held and what came behind it
pub piece_bytes : (old new : List ℕ) (held n : ℕ) → take held new ≡ take held old → take (held + n) new ≡ take held old ++ take n (drop held new)
piece_bytes old new held n kept = take-add held n new ∙ ap (λ (x : List ℕ). x ++ take n (drop held new)) kept

-- what a read that gave these bytes is marked as: it met the end where they are none
marked : (h : ℕ) (came : List ℕ) (s t : Seen) → (length came ≡ 0 → IsAtEnd h t) → Marks Reading h (read_mark came) s t
marked h [] s t ended = ended refl
marked h (b ∷ came) s t ended = tt

-- a read behind what is held met the end where it gave nothing
pub at_end : (h held n : ℕ) (old bytes : List ℕ) (t : Seen) → (n ≡ 0 → held < length old → IsAtEnd h t) → held < length old → held + n ≤ length bytes → length (take n (drop held bytes)) ≡ 0 → IsAtEnd h t
at_end h held n old bytes t ended room fits none = ended (omega (arith, none, length-take-le n (drop held bytes) (omega (arith, length-drop held bytes, fits)))) room

module _ (how : How) (ends : Ends) (at : SoFar) (came : List ℕ) (s t : Seen) (read : Read ends.input came s t) (ended : length came ≡ 0 → IsAtEnd ends.input t) where
  took : Did (Take ends.input came (read_mark came) ∷ []) s t
  took = did_take ends.input came (read_mark came) s t read (marked ends.input came s t ended)

  -- a piece came, and no more
  pub only_came : Called (IsStarved how ends.input ends.output at) s t
  only_came = record { calls = Take ends.input came (read_mark came) ∷ []; did = took; is = inr (inl (came, refl)) }

  module _ (u : Seen) (stop : Stop) (bytes old added text rest : List ℕ) (after : Counts) (all : bytes ≡ at.held ++ came) (none : old ≡ []) (whole : text ≡ added) (taken : AreTaken how stop bytes rest old added at.counts after) where
    is_piece : IsPiece how stop (record { came = came; text = text }) at.held rest at.counts after
    is_piece = rw (whole, ← all, ← none) taken

    both : Wrote ends.output text t u → (is : List Call → Type 0) → is (Take ends.input came (read_mark came) ∷ Write ends.output text Went ∷ []) → Called is s u
    both wrote is so = record {
      calls = Take ends.input came (read_mark came) ∷ Write ends.output text Went ∷ [];
      did = did_then (Take ends.input came (read_mark came) ∷ []) (Write ends.output text Went ∷ []) s t u took (did_write ends.output text Went t u wrote tt);
      is = so;
    }

    -- it was written
    pub all_written : (now : ℕ) → Wrote ends.output text t u → stop ≡ stops.GoesOn → now ≡ at.came + length came → Called (IsCopiedPiece how ends at (record { came = now; held = rest; counts = after })) s u
    all_written now wrote goes size = both wrote _ (record { piece = record { came = came; text = text }; came = size; are = refl; is = rw (← goes) is_piece })

    -- it was written, and taking parts stopped for good
    stops_at : (place : ℕ) → IsPlace how.form place (at.came + length came) rest after → StopsAt how stop place at (record { came = came; text = text })
    stops_at place is = record { rest = rest; after = after; is = is_piece; is_place = is }

    pub damaged_behind : (place : ℕ) → Wrote ends.output text t u → stop ≡ stops.Damaged → IsPlace how.form place (at.came + length came) rest after → Called (IsStopped how ends.input ends.output (Damaged place) at) s u
    damaged_behind place wrote damaged is = both wrote _ (record { came = came; text = text }, rw damaged at stops_at place is, refl)

    pub lost_behind : (loss : Loss) (place : ℕ) → Wrote ends.output text t u → stop ≡ stops.Lost loss → IsPlace how.form place (at.came + length came) rest after → Called (IsStopped how ends.input ends.output (Lost loss place) at) s u
    lost_behind loss place wrote lost is = both wrote _ (record { came = came; text = text }, rw lost at stops_at place is, refl)

    -- a part of it was written, and then the write failed, or there was no memory
    pub failed_write : WroteOn ends.output [] (λ part. IsProperPrefix part text) t u → FaultsRose Writing ends.output t u → Called (IsStopped how ends.input ends.output WriteFault at) s u
    failed_write w rose = record {
      calls = Take ends.input came (read_mark came) ∷ Write ends.output w.added FailedEach ∷ [];
      did = did_then (Take ends.input came (read_mark came) ∷ []) (Write ends.output w.added FailedEach ∷ []) s t u took (did_write ends.output w.added FailedEach t u w.wrote rose);
      is = (record { came = came; text = text }, w.added, record { stop = stop; rest = rest; after = after; is = is_piece; proper = w.is }, refl);
    }

    pub starved_write : WroteOn ends.output [] (λ part. IsProperPrefix part text) t u → Called (IsStarved how ends.input ends.output at) s u
    starved_write w = record {
      calls = Take ends.input came (read_mark came) ∷ Write ends.output w.added Went ∷ [];
      did = did_then (Take ends.input came (read_mark came) ∷ []) (Write ends.output w.added Went ∷ []) s t u took (did_write ends.output w.added Went t u w.wrote tt);
      is = inr (inr (record { came = came; text = text }, w.added, record { stop = stop; rest = rest; after = after; is = is_piece; proper = w.is }, refl));
    }

-- ---- several pieces

-- one piece more
more_pieces : (how : How) (held : List ℕ) (before : Counts) (ps : List Piece) (rest : List ℕ) (after : Counts) (p : Piece) (next : List ℕ) (last : Counts) → 0 < length p.came → ArePieces how held before ps rest after → IsPiece how stops.GoesOn p rest next after last → ArePieces how held before (ps ++ p ∷ []) next last
more_pieces how held before [] rest after p next last some are is = (some, next, last, rw (← are.0, ← are.1) is, (refl, refl))
more_pieces how held before (q ∷ ps) rest after p next last some are is = (are.0, are.1, are.2, are.3, more_pieces how are.1 are.2 ps rest after p next last some are.4 is)

module _ (how : How) (ends : Ends) (first : List ℕ) (at : SoFar) (start now : Seen) (so_far : Called (CopiedThen how ends.input ends.output first (IsSoFar at)) start now) where
  -- and then other calls
  pub copied_then : (IsLast : SoFar → List Call → Type 0) (next : Seen) → Called (IsLast at) now next → Called (CopiedThen how ends.input ends.output first IsLast) start next
  copied_then IsLast next more =
      let c = so_far.is in
      record {
        calls = so_far.calls ++ more.calls;
        did = did_then so_far.calls more.calls start now next so_far.did more.did;
        is = record {
          pieces = c.pieces;
          held = c.held;
          counts = c.counts;
          last = more.calls;
          are = ap (λ (x : List Call). x ++ more.calls) (c.are ∙ ap (λ (x : List Call). flat_map (piece_calls ends.input ends.output) c.pieces ++ x) c.is.0 ∙ append-nil (flat_map (piece_calls ends.input ends.output) c.pieces));
          copied = c.copied;
          is = subst (λ (x : SoFar). IsLast x more.calls) (sym c.is.1) more.is;
        };
      }

  -- and then a piece
  pub copied_more : (then : SoFar) (next : Seen) → at.came < then.came → Called (IsCopiedPiece how ends at then) now next → Called (CopiedThen how ends.input ends.output first (IsSoFar then)) start next
  copied_more then next some more =
      let c = so_far.is in
      let p = more.is in
      record {
        calls = so_far.calls ++ more.calls;
        did = did_then so_far.calls more.calls start now next so_far.did more.did;
        is = record {
          pieces = c.pieces ++ p.piece ∷ [];
          held = then.held;
          counts = then.counts;
          last = [];
          are = ap (λ (x : List Call). x ++ more.calls) (c.are ∙ ap (λ (x : List Call). flat_map (piece_calls ends.input ends.output) c.pieces ++ x) c.is.0 ∙ append-nil (flat_map (piece_calls ends.input ends.output) c.pieces))
              ∙ ap (λ (x : List Call). flat_map (piece_calls ends.input ends.output) c.pieces ++ x) p.are ∙ sym (flat_map-append (piece_calls ends.input ends.output) c.pieces (p.piece ∷ [])) ∙ sym (append-nil (flat_map (piece_calls ends.input ends.output) (c.pieces ++ p.piece ∷ [])));
          copied = more_pieces how first none_counted c.pieces c.held c.counts p.piece then.held then.counts (omega (arith, some, p.came)) c.copied (rw (ap (λ (x : SoFar). x.held) c.is.1, ap (λ (x : SoFar). x.counts) c.is.1) p.is);
          is = (refl, ap (λ (n : ℕ). record { came = n; held = then.held; counts = then.counts }) (omega (arith, sum_by_push (λ (q : Piece). length q.came) c.pieces p.piece, ap (λ (x : SoFar). x.came) c.is.1, p.came)));
        };
      }

-- a piece of no bytes is the end
pub ended_at : (how : How) (ends : Ends) (at then : SoFar) (copied : Copied) (s t : Seen) → then.came ≡ at.came → copied.counts ≡ then.counts → copied.left ≡ length then.held → Called (IsCopiedPiece how ends at then) s t → Called (IsEnd how ends.input ends.output copied at) s t
ended_at how ends at then copied s t same counts left c = record {
  calls = c.calls;
  did = c.did;
  is = record { piece = c.is.piece; rest = then.held; ended = nil_from_length c.is.piece.came (omega (arith, same, c.is.came)); is = rw counts c.is.is; left = left; are = c.is.are };
}

-- before the first
pub none_copied : (how : How) (ends : Ends) (first : List ℕ) (at : SoFar) (s : Seen) → at ≡ record { came = length first; held = first; counts = none_counted } → Called (CopiedThen how ends.input ends.output first (IsSoFar at)) s s
none_copied how ends first at s is = record {
  calls = [];
  did = refl;
  is = record { pieces = []; held = first; counts = none_counted; last = []; are = refl; copied = (refl, refl); is = (refl, ap (λ (n : ℕ). record { came = n; held = first; counts = none_counted }) (omega arith) ∙ sym is) };
}
