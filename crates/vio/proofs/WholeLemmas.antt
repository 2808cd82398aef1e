-- What several reads or writes of one handle come to: for `write_all` and `read_whole`, and for callers with loops of their own.
use Rattle.std.proofs.Common.{◌≡◌, ℕ, ◌<◌, length, length-append, List, [], ◌++◌, take, drop, refl, sym, ◌∙◌, ap, subst, arith, rules, Some, append_assoc, Result, OnOk, OnErr, Ok, Err}
use Rattle.std.proofs.lemmas.List.{append-nil, take-append-drop}
use Rattle.log_model.specs.Prefix.{IsProperPrefix}
use Rattle.vio.specs.Writes.{WroteOn}
use Rattle.vio.specs.World.{Seen, CallKind, NoCountFalls, FaultsRose, Writing, Gains, Loses, Read, Wrote, OnlyCounts, ReadSome}

-- what a call leaves where it has no value
pub OnErr-always : {T E P : Type 0} (r : Result T E) → P → OnErr r P
OnErr-always (Ok x) p = Prim.search rules
OnErr-always (Err e) p = p

-- what two clauses come to
pub OnOk-both : {T E P Q R : Type 0} (r : Result T E) → (P → Q → R) → OnOk r P → OnOk r Q → OnOk r R
OnOk-both (Ok x) f p q = f p q
OnOk-both (Err e) f p q = Prim.search rules

pub OnErr-both : {T E P Q R : Type 0} (r : Result T E) → (P → Q → R) → OnErr r P → OnErr r Q → OnErr r R
OnErr-both (Ok x) f p q = Prim.search rules
OnErr-both (Err e) f p q = f p q

-- counts of faults

-- no count fell where nothing was called
pub NoCountFalls-none : (s : Seen) → NoCountFalls s s
NoCountFalls-none s = record { each = λ k name. omega arith }

-- and nothing changed
pub OnlyCounts-none : (s : Seen) → OnlyCounts s s
OnlyCounts-none s = record { counts = NoCountFalls-none s; held = λ n. refl; lacks = λ n. refl; left = λ i. refl; written = λ i. refl; names = λ k i n. refl; given = λ i. refl }

-- no count fell in two calls, one after the other
pub NoCountFalls-then : {s t u : Seen} → NoCountFalls s t → NoCountFalls t u → NoCountFalls s u
NoCountFalls-then p q = record { each = λ k name. omega (arith, p.each k name, q.each k name) }

-- a fault after calls that leave the handle's names
pub FaultsRose-later : (k : CallKind) (h : ℕ) (s t u : Seen)
    → NoCountFalls s t → ((kind : CallKind) (i : ℕ) (n : List ℕ) → t.names kind i n ≡ s.names kind i n)
    → FaultsRose k h t u → FaultsRose k h s u
FaultsRose-later k h s t u p names q =
    record { each = λ name is_named. omega (arith, p.each k name, q.each name (rw (names k h name) is_named)) }

-- writes

-- a call that changes counts alone writes no bytes
Wrote-counts : (h : ℕ) (s t : Seen) → OnlyCounts s t → Wrote h [] s t
Wrote-counts h s t p = record {
  counts = p.counts;
  gains = λ a told. p.written h ∙ rw append-nil told;
  file = λ n no_stream named a told. p.held n ∙ rw append-nil told;
  other_held = λ n bytes other told. p.held n ∙ told;
  lacks = p.lacks;
  left = p.left;
  other_written = λ i other. p.written i;
  names = p.names;
  given = p.given;
}

-- where nothing was called, no bytes were written
pub Wrote-none : (h : ℕ) (s : Seen) → Wrote h [] s s
Wrote-none h s = Wrote-counts h s s (OnlyCounts-none s)

-- what was gained in two steps, one after the other
pub Gains-then : (x y z : _) (a b : List ℕ) → Gains x y a → Gains y z b → Gains x z (a ++ b)
Gains-then x y z a b p q whole told = q (whole ++ a) (p whole told) ∙ ap Some (append_assoc whole a b)

-- two writes of a handle are one of both pieces
pub Wrote-then : {h : ℕ} {s t u : Seen} (a b : List ℕ) → Wrote h a s t → Wrote h b t u → Wrote h (a ++ b) s u
Wrote-then a b p q = record {
  counts = NoCountFalls-then p.counts q.counts;
  gains = Gains-then _ _ _ a b p.gains q.gains;
  file = λ n no_stream named. Gains-then _ _ _ a b (p.file n no_stream named) (q.file n no_stream (p.names Writing _ n ∙ named));
  other_held = λ n bytes other told. q.other_held n bytes (p.names Writing _ n ∙ other) (p.other_held n bytes other told);
  lacks = λ n. q.lacks n ∙ p.lacks n;
  left = λ i. q.left i ∙ p.left i;
  other_written = λ i other. q.other_written i other ∙ p.other_written i other;
  names = λ k i n. q.names k i n ∙ p.names k i n;
  given = λ i. q.given i ∙ p.given i;
}

-- a refused call after a write adds nothing to it
pub Wrote-fault : {h : ℕ} {bytes : List ℕ} {s t u : Seen} → Wrote h bytes s t → OnlyCounts t u → Wrote h bytes s u
Wrote-fault {h = h} {bytes = bytes} {s = s} {t = t} {u = u} p q = subst (λ (ys : List ℕ). Wrote h ys s u) (append-nil bytes) (Wrote-then bytes [] p (Wrote-counts h t u q))

-- a prefix of the piece was written, and the rest was not
pub record IsPartlyWritten (h : ℕ) (piece rest : List ℕ) (before now : Seen) : Type 0 where
  pub done : List ℕ
  pub whole : piece ≡ done ++ rest
  pub wrote : Wrote h done before now

-- a refused write leaves something of the piece
pub IsPartlyWritten-fault : {h : ℕ} {piece rest : List ℕ} {s t u : Seen} → 0 < length rest → IsPartlyWritten h piece rest s t → OnlyCounts t u → WroteOn h [] (λ text. IsProperPrefix text piece) s u
IsPartlyWritten-fault {rest = rest} some p q = record {
  added = p.done;
  is = record { prefix = record { rest = rest; is = p.whole }; shorter = omega (arith, some, ap length p.whole, length-append p.done rest) };
  wrote = Wrote-fault p.wrote q;
}

-- a further write takes a prefix of the rest
pub IsPartlyWritten-then : {h : ℕ} {piece : List ℕ} {s t u : Seen} (n : ℕ) (rest : List ℕ)
    → IsPartlyWritten h piece rest s t → Wrote h (take n rest) t u → IsPartlyWritten h piece (drop n rest) s u
IsPartlyWritten-then n rest p q = record {
  done = p.done ++ take n rest;
  whole = p.whole ∙ ap (λ ys. p.done ++ ys) (sym (take-append-drop n rest)) ∙ sym (append_assoc p.done (take n rest) (drop n rest));
  wrote = Wrote-then p.done (take n rest) p.wrote q;
}

-- reads

-- a call that changes counts alone reads no bytes
pub Read-counts : (h : ℕ) (s t : Seen) → OnlyCounts s t → Read h [] s t
Read-counts h s t p = record {
  counts = p.counts;
  loses = λ a told. (a, refl, p.left h ∙ told);
  held = p.held;
  lacks = p.lacks;
  written = p.written;
  other_left = λ i other. p.left i;
  names = p.names;
  given = p.given;
}

-- where nothing was called, no bytes were read
pub Read-none : (h : ℕ) (s : Seen) → Read h [] s s
Read-none h s = Read-counts h s s (OnlyCounts-none s)

-- what was lost in two steps, one after the other
pub Loses-then : (x y z : _) (a b : List ℕ) → Loses x y a → Loses y z b → Loses x z (a ++ b)
Loses-then x y z a b p q whole told =
    let first = p whole told in
    let second = q first.0 first.2 in
    (second.0, first.1 ∙ ap (λ ys. a ++ ys) second.1 ∙ sym (append_assoc a b second.0), second.2)

-- two reads of a handle are one of both pieces
pub Read-then : {h : ℕ} {s t u : Seen} (a b : List ℕ) → Read h a s t → Read h b t u → Read h (a ++ b) s u
Read-then a b p q = record {
  counts = NoCountFalls-then p.counts q.counts;
  loses = Loses-then _ _ _ a b p.loses q.loses;
  held = λ n. q.held n ∙ p.held n;
  lacks = λ n. q.lacks n ∙ p.lacks n;
  written = λ i. q.written i ∙ p.written i;
  other_left = λ i other. q.other_left i other ∙ p.other_left i other;
  names = λ k i n. q.names k i n ∙ p.names k i n;
  given = λ i. q.given i ∙ p.given i;
}

-- a read that gave nothing adds nothing
pub Read-nothing : {h : ℕ} {s t u : Seen} (bytes : List ℕ) → Read h bytes s t → Read h [] t u → Read h bytes s u
Read-nothing {h = h} {s = s} {u = u} bytes p q = subst (λ (ys : List ℕ). Read h ys s u) (append-nil bytes) (Read-then bytes [] p q)

-- two reads of a handle read some bytes
pub ReadSome-then : {h : ℕ} {s t u : Seen} (a b : List ℕ) → Read h a s t → Read h b t u → ReadSome h s u
ReadSome-then a b p q = record { bytes = a ++ b; read = Read-then a b p q }

-- a refused call after a read adds nothing to it
pub Read-fault : {h : ℕ} {s t u : Seen} (bytes : List ℕ) → Read h bytes s t → OnlyCounts t u → ReadSome h s u
Read-fault {h = h} {t = t} {u = u} bytes p q = record { bytes = bytes; read = Read-nothing bytes p (Read-counts h t u q) }
