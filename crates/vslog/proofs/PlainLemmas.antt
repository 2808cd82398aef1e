-- The plain case: what the calls over a file whose bytes are told come to.
use Rattle.std.proofs.Common.{◌≡◌, ◌≢◌, ◌⊎◌, ◌<◌, ◌≤◌, ◌+◌, ℕ, Bool, true, false, ◌&&◌, ◌||◌, if◌then◌else◌, List, [], ◌∷◌, ◌++◌, length, take, drop, Some, Result, Ok, nat_lt, refl, sym, ap, subst, ◌∙◌, inl, inr, codes, arith}
use Rattle.std.specs.Bool.{MatchBool}
use Rattle.std.specs.Str.{bytes_eq}
use Rattle.std.specs.List.{flat_map}
use Rattle.std.proofs.lemmas.Bool.{cases_Bool}
use Rattle.std.proofs.lemmas.List.{append_assoc, append-nil, append_cancel_left, drop_all, length-append, take_all}
use Rattle.std.proofs.lemmas.List.Concat.{length-flat_map}
use Rattle.std.proofs.lemmas.List.Folds.{list_any-append}
use Rattle.std.proofs.lemmas.Slice.Eq.{bytes_eq-Decides}
use Rattle.vio.specs.declared.world.TheConstants.{ERRORS, INPUT, OUTPUT}
use Rattle.vio.specs.World.{Gains, Seen}
use Rattle.vio.specs.Calls.{Call, Called, Create, Did, Mark, Open, Take, Write, Went, MetEnd, has_read, is_end, is_read, taken_by, written_by}
use Rattle.vio.specs.Streams.{IsMadeBy, IsOpenedBy}
use Rattle.vio.proofs.CallLaws.{did_end, did_gain, did_lose}
use Rattle.vio.proofs.CallLemmas.{did_apart, read_first, read_last, taken_append, taken_here, written_append, written_here}
use Rattle.vsl_file.specs.File.{file_header, log_bytes}
use Rattle.one_command.specs.Promise.{Says}
use Rattle.one_command.proofs.PromiseLemmas.{said_other}
use Rattle.varnish_log.specs.declared.copying.Copied.{Copied}
use Rattle.varnish_log.specs.declared.copying.CopyFault.{CopyFault}
use Rattle.varnish_log.specs.declared.copying.CopyFault.TheVariants.{ReadFault, WriteFault, Damaged, Lost}
use Rattle.varnish_log.specs.declared.copying.LogFault.TheVariants.{NotALog, Unread}
use Rattle.varnish_log.specs.declared.copying.LogFault.TheVariants as logs
use Rattle.varnish_log.specs.declared.first.Looks.{Looks}
use Rattle.varnish_log.specs.declared.form.How.{How}
use Rattle.varnish_log.specs.declared.form.LogForm.{LogForm}
use Rattle.varnish_log.specs.declared.form.LogForm.TheVariants.{Binary, Text}
use Rattle.varnish_log.specs.declared.loss.Counts.{Counts}
use Rattle.varnish_log.specs.Counting.{none_counted}
use Rattle.varnish_log.specs.Copied.{CopiedThen, IsEnd, IsLog, IsPlace, IsStopped, Piece, SoFar, came_by, piece_calls, read_mark}
use Rattle.varnish_log.specs.First.{IsFirst, form_of, kept_of}
use Rattle.varnish_log.specs.Parts.{Splits}
use Rattle.varnish_log.specs.Taken.{BeginsWithLoss}
use Rattle.vslog.specs.declared.ended.Ended.{Ended}
use Rattle.vslog.specs.declared.ended.Ended.TheVariants.{Refused, Stopped, Done}
use Rattle.vslog.specs.declared.ended.RunFault.{RunFault}
use Rattle.vslog.specs.declared.ended.RunFault.TheVariants.{NoInput, NoOutput, NoHeader, Log as OfLog, CutShort}
use Rattle.vslog.specs.declared.words.UsageFault.{UsageFault}
use Rattle.vslog.specs.Messages.{text_due}
use Rattle.vslog.specs.Plain.{BeginsNone, CopiesAll, CopiesBefore, CopiesLog, CopiesParts, CopiesPlain, CopiesStopped, PrintsPlain, parts_bytes}
use Rattle.vslog.specs.Theorem.{Begun, Copies, Runs, StopsWith, Works, settled}
use Rattle.vslog.specs.Words.{Job, job_of}
use Rattle.vslog.proofs.PartLemmas.{AreParsed, all_came, all_text, parsed_piece, parsed_pieces, parsed_then, splits_on}

-- ---- what calls move

-- calls took these bytes from a handle, and wrote this text to standard output
record Moves (h : ℕ) (came text : List ℕ) (calls : List Call) : Type 0 where
  took : taken_by h calls ≡ came
  wrote : written_by OUTPUT calls ≡ text

moves_then : (h : ℕ) (a b t u : List ℕ) (xs ys : List Call) → Moves h a t xs → Moves h b u ys → Moves h (a ++ b) (t ++ u) (xs ++ ys)
moves_then h a b t u xs ys p q = record {
  took = taken_append h xs ys ∙ ap (λ (x : List ℕ). x ++ taken_by h ys) p.took ∙ ap (λ (x : List ℕ). a ++ x) q.took;
  wrote = written_append OUTPUT xs ys ∙ ap (λ (x : List ℕ). x ++ written_by OUTPUT ys) p.wrote ∙ ap (λ (x : List ℕ). t ++ x) q.wrote;
}

moves_take : (h : ℕ) (bytes : List ℕ) (mark : Mark) → Moves h bytes [] (Take h bytes mark ∷ [])
moves_take h bytes mark = record { took = taken_here h bytes mark; wrote = refl }

moves_write : (h : ℕ) (text : List ℕ) (mark : Mark) → Moves h [] text (Write OUTPUT text mark ∷ [])
moves_write h text mark = record { took = refl; wrote = written_here OUTPUT text mark }

moves_piece : (h : ℕ) (p : Piece) → Moves h p.came p.text (piece_calls h OUTPUT p)
moves_piece h p = subst (λ (x : List ℕ). Moves h x p.text (piece_calls h OUTPUT p)) (append-nil p.came)
    (moves_then h p.came [] [] p.text (Take h p.came (read_mark p.came) ∷ []) (Write OUTPUT p.text Went ∷ []) (moves_take h p.came (read_mark p.came)) (moves_write h p.text Went))

moves_pieces : (h : ℕ) (pieces : List Piece) → Moves h (all_came pieces) (all_text pieces) (flat_map (piece_calls h OUTPUT) pieces)
moves_pieces h [] = record { took = refl; wrote = refl }
moves_pieces h (p ∷ ps) = moves_then h p.came (all_came ps) p.text (all_text ps) (piece_calls h OUTPUT p) (flat_map (piece_calls h OUTPUT) ps) (moves_piece h p) (moves_pieces h ps)

moves_first : (h : ℕ) (first : List ℕ) (begin : List Call) → IsFirst h first begin → Moves h first [] begin
moves_first h first begin (inl four) = subst (Moves h first []) (sym four.1) (moves_take h first Went)
moves_first h first begin (inr few) = subst (Moves h first []) (sym few.1) (moves_take h first MetEnd)

out_no_errors : OUTPUT ≢ ERRORS
out_no_errors same = absurd cc

moves_said : (h : ℕ) (message : List ℕ) (said : List Call) → Says message said → Moves h [] [] said
moves_said h message said says = record { took = none says; wrote = said_other OUTPUT message said out_no_errors says }
  where
    none : Says message said → taken_by h said ≡ []
    none (inl empty) = ap (taken_by h) empty.1
    none (inr (inl whole)) = ap (taken_by h) whole
    none (inr (inr part)) = ap (taken_by h) part.2

-- ---- the first bytes

take_front : (xs ys : List ℕ) → take (length xs) (xs ++ ys) ≡ xs
take_front [] ys = refl
take_front (x ∷ xs) ys = ap (λ (zs : List ℕ). x ∷ zs) (take_front xs ys)

drop_front : (xs ys : List ℕ) → drop (length xs) (xs ++ ys) ≡ ys
drop_front [] ys = refl
drop_front (x ∷ xs) ys = drop_front xs ys

-- a file's first four bytes, and what is behind them
first_four : (first more : List ℕ) → (length first ≡ 4) ⊎ ((more ≡ []) × (length first < 4)) → (take 4 (first ++ more) ≡ first) × (drop 4 (first ++ more) ≡ more)
first_four first more (inl four) = (subst (λ (n : ℕ). take n (first ++ more) ≡ first) four (take_front first more), subst (λ (n : ℕ). drop n (first ++ more) ≡ more) four (drop_front first more))
first_four first more (inr few) =
    let le : length first ≤ 4 = omega (arith, few.1) in
    let same : first ++ more ≡ first = ap (λ (x : List ℕ). first ++ x) few.0 ∙ append-nil first in
    (ap (take 4) same ∙ take_all 4 first le, ap (drop 4) same ∙ drop_all 4 first le ∙ sym few.0)

or_true : (a : Bool) → (a || true) ≡ true
or_true true = refl
or_true false = refl

read_behind : (h : ℕ) (xs ys : List Call) → has_read is_end h ys ≡ true → has_read is_end h (xs ++ ys) ≡ true
read_behind h xs ys p = list_any-append (is_read is_end h) xs ys ∙ ap (λ (b : Bool). has_read is_end h xs || b) p ∙ or_true (has_read is_end h xs)

-- ---- what a file came to

-- its first four bytes were these, behind them these came, and others did not; and standard output gained the header and this text
record Moved (bytes first came text : List ℕ) (IsAll : Type 0) (s t : Seen) : Type 0 where
  unread : List ℕ
  heads : take 4 bytes ≡ first
  behind : drop 4 bytes ≡ came ++ unread
  output : Gains (s.written OUTPUT) (t.written OUTPUT) (file_header ++ text)
  whole : IsAll → unread ≡ []

module _ (name bytes : List ℕ) (h : ℕ) (first came text : List ℕ) (begin rest : List Call) (s t : Seen) (held : s.held name ≡ Some bytes) (begins : IsFirst h first begin) (moves : Moves h came text rest) where
  abbrev behind_open : List Call
  behind_open = Write OUTPUT file_header Went ∷ (begin ++ rest)

  moves_all : Moves h (first ++ came) (file_header ++ text) behind_open
  moves_all = moves_then h [] (first ++ came) file_header text (Write OUTPUT file_header Went ∷ []) (begin ++ rest) (moves_write h file_header Went)
      (moves_then h first came [] text begin rest (moves_first h first begin begins) moves)

  module _ (mid : Seen) (given : mid.given h ≡ true) (left : mid.left h ≡ Some bytes) (did : Did behind_open mid t) where
    -- where fewer than four bytes came, that is all
    few_first : (unread : List ℕ) → bytes ≡ first ++ (came ++ unread) → IsFirst h first begin → (length first ≡ 4) ⊎ ((came ++ unread ≡ []) × (length first < 4))
    few_first unread are (inl four) = inl four.0
    few_first unread are (inr few) =
        let parts = did_apart (Write OUTPUT file_header Went ∷ begin) rest mid t did in
        let met : has_read is_end h begin ≡ true = subst (λ (cs : List Call). has_read is_end h cs ≡ true) (sym few.1) (read_last is_end h [] first MetEnd refl) in
        let all : bytes ≡ first = did_end h (Write OUTPUT file_header Went ∷ begin) mid parts.0 bytes given parts.1 met left ∙ (moves_first h first begin begins).took in
        inr (sym (append_cancel_left first [] (came ++ unread) (append-nil first ∙ sym all ∙ are)), few.0)

    file_moved : Gains (s.written OUTPUT) (t.written OUTPUT) (written_by OUTPUT behind_open) → Moved bytes first came text (has_read is_end h rest ≡ true) s t
    file_moved gains =
        let lost = did_lose h behind_open mid t given did bytes left in
        let apart : bytes ≡ (first ++ came) ++ lost.0 = lost.1 ∙ ap (λ (x : List ℕ). x ++ lost.0) moves_all.took in
        let are : bytes ≡ first ++ (came ++ lost.0) = apart ∙ append_assoc first came lost.0 in
        let four = first_four first (came ++ lost.0) (few_first lost.0 are begins) in
        record {
          unread = lost.0;
          heads = ap (take 4) are ∙ four.0;
          behind = ap (drop 4) are ∙ four.1;
          output = subst (λ (x : List ℕ). Gains (s.written OUTPUT) (t.written OUTPUT) x) moves_all.wrote gains;
          whole = λ end.
              let all : bytes ≡ first ++ came = did_end h behind_open mid t bytes given did (read_behind h begin rest end) left ∙ moves_all.took in
              sym (append_cancel_left (first ++ came) [] lost.0 (append-nil (first ++ came) ∙ sym all ∙ apart));
        }

  moved : Did (Open name h ∷ behind_open) s t → Moved bytes first came text (has_read is_end h rest ≡ true) s t
  moved did = file_moved did.0 did.1.given (did.1.left ∙ held) did.2 (did_gain OUTPUT (Open name h ∷ behind_open) s t did)

-- ---- how a job begins

opened_file : (name : List ℕ) (h : ℕ) (calls : List Call) → name ≢ codes "-" → IsOpenedBy name h calls → calls ≡ Open name h ∷ []
opened_file name h calls other is = elim (cases_Bool (bytes_eq name (codes "-"))) [
  | inl same ↦ absurd (other ((bytes_eq-Decides name (codes "-")).0 same))
  | inr differs ↦ subst (λ (b : Bool). MatchBool b ((h ≡ INPUT) × (calls ≡ [])) (calls ≡ Open name h ∷ [])) differs is
]

made_out : (append : Bool) (name : List ℕ) (h : ℕ) (empty : Bool) (calls : List Call) → name ≡ codes "-" → IsMadeBy append name h empty calls → (h ≡ OUTPUT) × (empty ≡ true) × (calls ≡ [])
made_out append name h empty calls out is = subst (λ (x : List ℕ). MatchBool (bytes_eq x (codes "-")) ((h ≡ OUTPUT) × (empty ≡ true) × (calls ≡ [])) (calls ≡ Create append x h empty ∷ [])) out is

begun_calls : (job : Job) (IsRest : ℕ → ℕ → List Call → Type 0) (calls : List Call) → job.input ≢ codes "-" → job.output ≡ codes "-" → (b : Begun job IsRest calls) → calls ≡ Open job.input b.input ∷ Write OUTPUT file_header Went ∷ b.rest
begun_calls job IsRest calls file out b =
    let made = made_out job.append job.output b.output b.empty b.made out b.makes in
    b.are ∙ rw (opened_file job.input b.input b.opened file b.opens, made.2, made.1, made.0) refl

-- ---- what was copied

-- the last piece that was copied: its calls, the parts that were taken, and the rest, which is so
record LastPiece (how : How) (input output : ℕ) (IsSo : LogForm → List ℕ → Type 0) (IsAt : LogForm → ℕ → List ℕ → Counts → List ℕ → Type 0) (at : SoFar) (calls : List Call) : Type 0 where
  piece : Piece
  rest : List ℕ
  after : Counts
  parsed : AreParsed how at.held piece.came piece.text rest at.counts after
  so : IsSo how.form rest
  is_at : IsAt how.form (at.came + length piece.came) rest after piece.came
  are : calls ≡ piece_calls input output piece

-- pieces, a last one, and a message
abbrev ending_calls : ℕ → List Piece → Piece → List Call → List Call
ending_calls h pieces last said = (flat_map (piece_calls h OUTPUT) pieces ++ piece_calls h OUTPUT last) ++ said

moves_ending : (h : ℕ) (pieces : List Piece) (last : Piece) (message : List ℕ) (said : List Call) → Says message said → Moves h (all_came pieces ++ last.came) (all_text pieces ++ last.text) (ending_calls h pieces last said)
moves_ending h pieces last message said says =
    let came = all_came pieces ++ last.came in
    let text = all_text pieces ++ last.text in
    let calls = flat_map (piece_calls h OUTPUT) pieces ++ piece_calls h OUTPUT last in
    let both = moves_then h (all_came pieces) last.came (all_text pieces) last.text (flat_map (piece_calls h OUTPUT) pieces) (piece_calls h OUTPUT last) (moves_pieces h pieces) (moves_piece h last) in
    let all = moves_then h came [] text [] calls said both (moves_said h message said says) in
    record { took = all.took ∙ append-nil came; wrote = all.wrote ∙ append-nil text }

-- a piece of no bytes met the end
end_met : (h : ℕ) (pieces : List Piece) (last : Piece) (said : List Call) → last.came ≡ [] → has_read is_end h (ending_calls h pieces last said) ≡ true
end_met h pieces last said none =
    let one : has_read is_end h (piece_calls h OUTPUT last) ≡ true =
    subst (λ (x : List ℕ). has_read is_end h (Take h x (read_mark x) ∷ Write OUTPUT last.text Went ∷ []) ≡ true) (sym none)
    (read_first is_end h (Take h [] MetEnd ∷ []) (Write OUTPUT last.text Went ∷ []) (read_last is_end h [] [] MetEnd refl)) in
    read_first is_end h (flat_map (piece_calls h OUTPUT) pieces ++ piece_calls h OUTPUT last) said (read_behind h (flat_map (piece_calls h OUTPUT) pieces) (piece_calls h OUTPUT last) one)

-- the bytes of a file that belong to its parts
parts_are : (bytes first came text : List ℕ) (form : LogForm) (IsAll : Type 0) (s t : Seen) → (m : Moved bytes first came text IsAll s t) → parts_bytes form bytes ≡ (kept_of form first ++ came) ++ m.unread
parts_are bytes first came text form IsAll s t m =
    ap (λ (x : List ℕ). kept_of form x ++ drop 4 bytes) m.heads ∙ ap (λ (x : List ℕ). kept_of form first ++ x) m.behind ∙ sym (append_assoc (kept_of form first) came m.unread)

-- how many there are
parts_long : (parts kept unread : List ℕ) (pieces : List Piece) (last : Piece) → parts ≡ (kept ++ (all_came pieces ++ last.came)) ++ unread → length parts ≡ (length kept + came_by pieces + length last.came) + length unread
parts_long parts kept unread pieces last are = omega (
  arith,
  ap length are,
  length-append (kept ++ (all_came pieces ++ last.came)) unread,
  length-append kept (all_came pieces ++ last.came),
  length-append (all_came pieces) last.came,
  length-flat_map (λ (p : Piece). p.came) pieces,
)

-- a place in bytes that were read is one in all
place_on : (form : LogForm) (place total long : ℕ) (rest unread : List ℕ) (counts : Counts) → IsPlace form place total rest counts → long ≡ total + length unread → IsPlace form place long (rest ++ unread) counts
place_on (Binary form) place total long rest unread counts at are = omega (arith, at, are, length-append rest unread)
place_on Text place total long rest unread counts at are = at

-- what was parsed, over the bytes of the file
copies_parts : (job : Job) (bytes first came text rest : List ℕ) (form : LogForm) (after : Counts) (IsSo : LogForm → List ℕ → Type 0) (IsAll : Type 0) (s t : Seen) → (m : Moved bytes first came text IsAll s t) → form_of job.asked.text first ≡ Ok form
    → AreParsed (record { form = form; strict = job.asked.strict }) (kept_of form first) came text rest none_counted after → IsSo form rest → CopiesParts job IsSo bytes rest m.unread after s t
copies_parts job bytes first came text rest form after IsSo IsAll s t m is_log p so = record {
  form = form;
  is_log = ap (form_of job.asked.text) m.heads ∙ is_log;
  said = p.said;
  splits = subst (λ (x : List ℕ). Splits form x p.said (rest ++ m.unread)) (sym (parts_are bytes first came text form IsAll s t m)) (splits_on form (kept_of form first ++ came) m.unread p.said rest p.splits);
  is_so = so;
  none_lost = p.none_lost;
  counts_are = p.counts;
  units = p.units;
  correct = p.correct;
  records = p.records;
  output = subst (λ (x : List ℕ). Gains (s.written OUTPUT) (t.written OUTPUT) (file_header ++ x)) p.text_is m.output;
}

-- an end that cuts a part left so many bytes
cut_left : (b : Bool) (all : Copied) (left : ℕ) → (if b then Stopped (CutShort all.left) else Done all) ≡ Stopped (CutShort left) → all.left ≡ left
cut_left true all left same = cc
cut_left false all left same = absurd cc

-- what was copied, up to a rest
record CopiedSo (job : Job) (bytes : List ℕ) (IsSo : LogForm → List ℕ → Type 0) (IsAt : LogForm → ℕ → List ℕ → Counts → List ℕ → Type 0) (s t : Seen) : Type 0 where
  rest : List ℕ
  unread : List ℕ
  counts : Counts
  came : List ℕ
  copies : CopiesParts job IsSo bytes rest unread counts s t
  total : ℕ
  is_at : IsAt copies.form total rest counts came
  long : length (parts_bytes copies.form bytes) ≡ total + length unread
  whole : came ≡ [] → unread ≡ []

module _ (job : Job) (bytes : List ℕ) (s t : Seen) (file : job.input ≢ codes "-") (held : s.held job.input ≡ Some bytes) (out : job.output ≡ codes "-") (message : List ℕ) (said : List Call) (says : Says message said) where
  module _ (IsSo : LogForm → List ℕ → Type 0) (IsAt : LogForm → ℕ → List ℕ → Counts → List ℕ → Type 0) (IsLast : How → ℕ → ℕ → SoFar → List Call → Type 0)
      (last_of : (how : How) (input output : ℕ) (at : SoFar) (calls : List Call) → IsLast how input output at calls → LastPiece how input output IsSo IsAt at calls) where
    copied : (work : List Call) → Begun job (λ input output rest. IsLog job.asked input (λ how first. CopiedThen how input output first (IsLast how input output)) rest) work → Did (work ++ said) s t → CopiedSo job bytes IsSo IsAt s t
    unfolding copies_parts
    copied work b did =
        let l = b.is in
        let c = l.is in
        let how : How = record { form = l.form; strict = job.asked.strict } in
        let kept = kept_of l.form l.first in
        let last = last_of how b.input b.output (record { came = length kept + came_by c.pieces; held = c.held; counts = c.counts }) c.last c.is in
        let to_out : b.output ≡ OUTPUT = (made_out job.append job.output b.output b.empty b.made out b.makes).0 in
        let pieces : l.rest ≡ flat_map (piece_calls b.input OUTPUT) c.pieces ++ piece_calls b.input OUTPUT last.piece =
        c.are ∙ ap (λ (x : List Call). flat_map (piece_calls b.input b.output) c.pieces ++ x) last.are ∙ ap (λ (o : ℕ). flat_map (piece_calls b.input o) c.pieces ++ piece_calls b.input o last.piece) to_out in
        let rest = ending_calls b.input c.pieces last.piece said in
        let calls : work ++ said ≡ Open job.input b.input ∷ Write OUTPUT file_header Went ∷ (l.begin ++ rest) =
        ap (λ (x : List Call). x ++ said) (begun_calls job _ work file out b)
        ∙ ap (λ (x : List Call). Open job.input b.input ∷ Write OUTPUT file_header Went ∷ (x ++ said)) (l.are ∙ ap (λ (x : List Call). l.begin ++ x) pieces)
        ∙ ap (λ (x : List Call). Open job.input b.input ∷ Write OUTPUT file_header Went ∷ x) (append_assoc l.begin (flat_map (piece_calls b.input OUTPUT) c.pieces ++ piece_calls b.input OUTPUT last.piece) said) in
        let came = all_came c.pieces ++ last.piece.came in
        let text = all_text c.pieces ++ last.piece.text in
        let m = moved job.input bytes b.input l.first came text l.begin rest s t held l.came (moves_ending b.input c.pieces last.piece message said says) (subst (λ (cs : List Call). Did cs s t) calls did) in
        let parsed = parsed_then how kept (all_came c.pieces) last.piece.came (all_text c.pieces) last.piece.text c.held last.rest none_counted c.counts last.after
        (parsed_pieces how c.pieces kept c.held none_counted c.counts c.copied) last.parsed in
        record {
          rest = last.rest;
          unread = m.unread;
          counts = last.after;
          came = last.piece.came;
          copies = copies_parts job bytes l.first came text last.rest l.form last.after IsSo _ s t m l.is_log parsed last.so;
          total = length kept + came_by c.pieces + length last.piece.came;
          is_at = last.is_at;
          long = parts_long (parts_bytes l.form bytes) kept m.unread c.pieces last.piece (parts_are bytes l.first came text l.form _ s t m);
          whole = λ none. m.whole (end_met b.input c.pieces last.piece said none);
        }

  -- all of the log was copied
  all_copied : (copied_all : Copied) (work : List Call) → Copies job copied_all work → Did (work ++ said) s t → CopiesAll job bytes copied_all.left copied_all.counts s t
  all_copied all work copies did =
      let q = copied (BeginsNone true) (λ form total rest counts came. (came ≡ []) × (all.left ≡ length rest) × (all.counts ≡ counts)) (λ how input output. IsEnd how input output all)
      (λ how input output at calls e. record { piece = e.piece; rest = e.rest; after = all.counts; parsed = parsed_piece how _ e.piece at.held e.rest at.counts all.counts e.is; so = e.is.stops; is_at = (e.ended, e.left, refl); are = e.are })
      work copies did in (
        q.rest,
        q.is_at.1,
        subst (λ (x : List ℕ). CopiesParts job (BeginsNone true) bytes q.rest x all.counts s t) (q.whole q.is_at.0)
            (subst (λ (x : Counts). CopiesParts job (BeginsNone true) bytes q.rest q.unread x s t) (sym q.is_at.2) q.copies),
      )

  -- copying stopped at a part, or where none is
  before_stop : (fault : CopyFault) (work : List Call) → StopsWith job (OfLog (logs.Stopped fault)) work → Did (work ++ said) s t → CopiesBefore job bytes fault s t
  before_stop ReadFault work stops did = tt
  before_stop WriteFault work stops did = tt
  before_stop (Damaged place) work stops did =
      let q = copied (BeginsNone false) (λ form total rest counts came. IsPlace form place total rest counts) (λ how input output. IsStopped how input output (Damaged place))
      (λ how input output at calls e. record { piece = e.0; rest = e.1.rest; after = e.1.after; parsed = parsed_piece how _ e.0 at.held e.1.rest at.counts e.1.after e.1.is; so = e.1.is.stops; is_at = e.1.is_place; are = e.2 })
      work stops did in
      (q.rest, q.unread, q.counts, q.copies, place_on q.copies.form place q.total (length (parts_bytes q.copies.form bytes)) q.rest q.unread q.counts q.is_at q.long)
  before_stop (Lost loss place) work stops did =
      let q = copied (λ form rest. BeginsWithLoss form rest loss) (λ form total rest counts came. IsPlace form place total rest counts) (λ how input output. IsStopped how input output (Lost loss place))
      (λ how input output at calls e. record { piece = e.0; rest = e.1.rest; after = e.1.after; parsed = parsed_piece how _ e.0 at.held e.1.rest at.counts e.1.after e.1.is; so = e.1.is.stops.1; is_at = e.1.is_place; are = e.2 })
      work stops did in
      (q.rest, q.unread, q.counts, q.copies, place_on q.copies.form place q.total (length (parts_bytes q.copies.form bytes)) q.rest q.unread q.counts q.is_at q.long)

  no_log : (looks : Looks) (work : List Call) → StopsWith job (OfLog (NotALog looks)) work → Did (work ++ said) s t → CopiesLog job bytes (NotALog looks) s t
  no_log looks work b did =
      let e = b.is in
      let calls : work ++ said ≡ Open job.input b.input ∷ Write OUTPUT file_header Went ∷ (b.rest ++ said) = ap (λ (x : List Call). x ++ said) (begun_calls job _ work file out b) in
      let m = moved job.input bytes b.input e.0 [] [] b.rest said s t held e.1 (moves_said b.input message said says) (subst (λ (cs : List Call). Did cs s t) calls did) in
      (ap (form_of job.asked.text) m.heads ∙ e.2, subst (λ (x : List ℕ). Gains (s.written OUTPUT) (t.written OUTPUT) x) (append-nil file_header) m.output)

  stopped_so : (fault : RunFault) (work : List Call) → StopsWith job fault work → Did (work ++ said) s t → CopiesStopped job bytes fault s t
  stopped_so NoInput work stops did = tt
  stopped_so NoOutput work stops did = tt
  stopped_so NoHeader work stops did = tt
  stopped_so (OfLog (NotALog looks)) work stops did = no_log looks work stops did
  stopped_so (OfLog Unread) work stops did = tt
  stopped_so (OfLog (logs.Stopped fault)) work stops did = before_stop fault work stops did
  stopped_so (CutShort left) work (all, copies, settles) did =
      (all.counts, subst (λ (n : ℕ). CopiesAll job bytes n all.counts s t) (cut_left (job.asked.strict && nat_lt 0 all.left) all left settles) (all_copied all work copies did))

  ended_so : (ended : Ended) (work : List Call) → Works job ended work → Did (work ++ said) s t → CopiesPlain job bytes ended s t
  ended_so (Refused fault) work works did = works
  ended_so (Stopped fault) work works did = stopped_so fault work works did
  ended_so (Done all) work works did = all_copied all work works.0 did

-- the theorem's plain case
pub plain_runs : (words : List (List ℕ)) (ended : Ended) (s t : Seen) → Called (Runs words (job_of words) ended) s t → PrintsPlain words ended s t
plain_runs words ended s t p job bytes names =
    let r = subst (λ (stated : Result Job UsageFault). Runs words stated ended p.calls) names.states p.is in
    ended_so job bytes s t names.is_file names.held names.no_out (text_due job ended) r.said r.says ended r.work r.works (subst (λ (cs : List Call). Did cs s t) r.are p.did)
