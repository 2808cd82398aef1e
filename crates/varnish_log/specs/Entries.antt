-- The records of Varnish's own binary log, as its varnishlog writes them behind a log's first four bytes (varnishlog(1),
-- "-w"; the layouts of Varnish 7.1 and 7.7). A word has four bytes, the lowest first.
use Rattle.std.specs.Prelude.{◌≡◌, ℕ, ◌+◌, ◌-◌, ◌*◌, ◌/◌, ◌%◌, ◌<◌, ◌==◌, ◌&&◌, ◌||◌, nat_lt, Bool, List, ◌++◌, length, drop}
use Rattle.std.specs.Int.{w32, byte_len, to_le_bytes, from_le_bytes}
use Rattle.vsl_record.specs.declared.mark.Mark.{Mark}
use Rattle.vsl_record.specs.declared.mark.Mark.TheVariants.{Client, Backend, Plain}
use Rattle.varnish_log.specs.declared.form.BinaryForm.{BinaryForm}
use Rattle.varnish_log.specs.Forms.{layout}

-- a record: the number of its tag there, its VXID and mark, its bytes, and those that fill its last word, which mean
-- nothing
pub record Entry : Type 0 where
  pub number : ℕ
  pub vxid : ℕ
  pub mark : Mark
  pub bytes : List ℕ
  pub filling : List ℕ

-- one more than the most bytes of a record
abbrev pub bytes_end : ℕ
bytes_end = 65536

-- the bytes that fill the last word of so many
abbrev pub filling_of : ℕ → ℕ
filling_of size = (4 - size % 4) % 4

-- what a record must meet in a log of this form
pub record IsEntry (form : BinaryForm) (e : Entry) : Type 0 where
  pub number : e.number < 256
  pub vxid : e.vxid < (layout form).vxid_end
  pub short : length e.bytes < bytes_end
  pub filled : length e.filling ≡ filling_of (length e.bytes)

-- what a mark adds to the number of a VXID
abbrev pub mark_bits : BinaryForm → Mark → ℕ
mark_bits form Client = (layout form).client
mark_bits form Backend = 2 * (layout form).client
mark_bits form Plain = 0

-- the first word of a record: the number of its tag, the form's version, and how many bytes it has
abbrev pub first_word : BinaryForm → Entry → ℕ
first_word form e = 16777216 * e.number + 65536 * (layout form).version + length e.bytes

-- a record as it is written: its first word, the number of its VXID and mark, its bytes, and the filling
abbrev pub entry_bytes : BinaryForm → Entry → List ℕ
entry_bytes form e =
    to_le_bytes w32 (first_word form e) ++ to_le_bytes (layout form).width (e.vxid + mark_bits form e.mark)
    ++ e.bytes ++ e.filling

-- how many bytes a record has before those of its own
abbrev pub head_size : BinaryForm → ℕ
head_size form = 4 + byte_len (layout form).width

-- whether a first word and a number of VXID and mark can begin a record: the word has the form's version, and the number
-- at most one mark and a VXID in range
abbrev pub can_begin : BinaryForm → ℕ → ℕ → Bool
can_begin form word id =
    (word / 65536 % 256 == (layout form).version) && nat_lt id (3 * (layout form).client)
    && nat_lt (id % (layout form).client) (layout form).vxid_end

-- how many bytes a record has behind its head, as its first word says
abbrev pub size_said : ℕ → ℕ
size_said word = word % 65536 + filling_of (word % 65536)

-- the bytes stop early: before the end of a head, or before the end of a record whose head can begin one
abbrev pub stops_early : BinaryForm → List ℕ → Bool
stops_early form bytes =
    let word = from_le_bytes w32 bytes in
    let id = from_le_bytes (layout form).width (drop 4 bytes) in
    nat_lt (length bytes) (head_size form)
    || (can_begin form word id && nat_lt (length bytes) (head_size form + size_said word))
