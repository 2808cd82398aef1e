-- How Varnish's own binary log begins, and what other files look like that are given in the place of a log
-- (varnishlog(1), "-w"; what is told of others is this project's choice).
use Rattle.std.specs.Prelude.{◌≡◌, ◌⊎◌, ℕ, ◌<◌, ◌==◌, ◌&&◌, ◌||◌, not, nat_le, if◌then◌else◌, is_some, Bool, List, [], ◌∷◌, take, length, Option, Some, None, Result, Ok, Err, codes}
use Rattle.std.specs.List.{list_all}
use Rattle.std.specs.Str.{bytes_eq}
use Rattle.vio.specs.Calls.{Went, MetEnd, FailedEach, Call, Take}
use Rattle.varnish_log.specs.declared.first.Looks.{Looks}
use Rattle.varnish_log.specs.declared.first.Looks.TheVariants.{Empty, LogFile, VarnishLog, OtherVersion, Gzip, Text, Unknown}
use Rattle.varnish_log.specs.declared.form.BinaryForm.{BinaryForm}
use Rattle.varnish_log.specs.declared.form.BinaryForm.TheVariants.{Narrow, Wide}
use Rattle.varnish_log.specs.declared.form.LogForm.{LogForm}
use Rattle.varnish_log.specs.declared.form.LogForm.TheVariants as forms
use Rattle.varnish_log.specs.Forms.{layout}

-- whether a byte is one of a text: printable, a blank, or not of ASCII
abbrev pub is_text : ℕ → Bool
is_text b = (nat_le 32 b && not (b == 127)) || (b == 9) || (b == 10) || (b == 13)

-- the form of the binary log that begins so, if one does
abbrev pub form_marked : List ℕ → Option BinaryForm
form_marked first =
    if bytes_eq first (layout Narrow).file_mark then Some Narrow else
    (if bytes_eq first (layout Wide).file_mark then Some Wide else None)

-- what a file looks like that begins with these bytes, at most four
abbrev pub looks_of : List ℕ → Looks
looks_of first =
    if bytes_eq first [] then Empty else
    (if is_some (form_marked first) then VarnishLog else
    (if bytes_eq first (codes "VSLO") then LogFile else
    (if bytes_eq (take 3 first) (codes "VSL") then OtherVersion else
    (if bytes_eq (take 2 first) (31 ∷ 139 ∷ []) then Gzip else
    (if list_all is_text first then Text else Unknown)))))

-- a file is a binary log of the form that its first bytes tell, if they tell one, or looks like something else
abbrev pub as_binary : Option BinaryForm → Looks → Result LogForm Looks
as_binary (Some form) looks = Ok (forms.Binary form)
as_binary None looks = Err looks

-- a file is a text, unless it looks like what is none
abbrev pub as_text : Looks → Result LogForm Looks
as_text LogFile = Err LogFile
as_text VarnishLog = Err VarnishLog
as_text OtherVersion = Err OtherVersion
as_text Gzip = Err Gzip
as_text looks = Ok forms.Text

-- the form of a log that begins so, or what it looks like that makes it none. Whether it is a text has to be said, since
-- nothing in a text says so
abbrev pub form_of : Bool → List ℕ → Result LogForm Looks
form_of text first = if text then as_text (looks_of first) else as_binary (form_marked first) (looks_of first)

-- of its first bytes these belong to its parts
abbrev pub kept_of : LogForm → List ℕ → List ℕ
kept_of (forms.Binary form) first = []
kept_of forms.Text first = first

-- the first bytes were read: four, or as many as there are
abbrev pub IsFirst : ℕ → List ℕ → List Call → Type 0
IsFirst input first calls =
    ((length first ≡ 4) × (calls ≡ Take input first Went ∷ []))
    ⊎ ((length first < 4) × (calls ≡ Take input first MetEnd ∷ []))

-- fewer than four bytes were read when a read failed
pub record IsUnread (input : ℕ) (calls : List Call) : Type 0 where
  pub part : List ℕ
  pub short : length part < 4
  pub are : calls ≡ Take input part FailedEach ∷ []
