-- Worked examples of Varnish's binary logs, computed from the definitions.
use Rattle.std.proofs.Common.{◌≡◌, ◌∷◌, ◌++◌, [], List, Some, None, Ok, Err, true, false, map, replicate, refl, ℕ, ◌+◌, ◌^◌}
use Rattle.std.specs.Prelude.{codes}
use Rattle.vsl_tags.specs.Tags.{tag_name}
use Rattle.vsl_record.specs.declared.mark.Mark.TheVariants.{Client, Backend}
use Rattle.varnish_log.specs.Counting.{none_counted}
use Rattle.varnish_log.specs.Entries.{Entry, entry_bytes, stops_early}
use Rattle.raw_records.specs.declared.line.LineFault.TheVariants.{OtherForm}
use Rattle.varnish_log.specs.Forms.{layout}
use Rattle.varnish_log.specs.First.{form_of, looks_of}
use Rattle.varnish_log.specs.declared.first.Looks.TheVariants.{Empty, LogFile, VarnishLog, OtherVersion, Gzip, Text, Unknown}
use Rattle.varnish_log.specs.declared.form.BinaryForm.TheVariants.{Narrow, Wide}
use Rattle.varnish_log.specs.declared.form.LogForm.TheVariants as forms
use Rattle.varnish_log.specs.declared.loss.Loss.TheVariants as losses
use Rattle.varnish_log.specs.Parts.{Said, loss_for, said_of}
use Rattle.varnish_log.specs.Tags.{tag_at}
use Rattle.varnish_log.specs.Taken.{counted, taken}

abbrev entry : ℕ → List ℕ → List ℕ → Entry
entry number bytes filling = record { number = number; vxid = 1; mark = Client; bytes = bytes; filling = filling }

abbrev begin : Entry
begin = entry 76 (codes "sess 0 HTTP/1" ++ 0 ∷ []) (170 ∷ 170 ∷ [])

abbrev backend : Entry
backend = entry 12 (codes "22 a b" ++ 0 ∷ []) (170 ∷ [])

abbrev frame : Entry
frame = entry 87 (0 ∷ 0 ∷ 0 ∷ []) (170 ∷ [])

begin_is : entry_bytes Narrow begin ≡ 14 ∷ 0 ∷ 0 ∷ 76 ∷ 1 ∷ 0 ∷ 0 ∷ 64 ∷ codes "sess 0 HTTP/1" ++ 0 ∷ 170 ∷ 170 ∷ []
begin_is = refl

-- the same record in a wide log, where its tag has the number 74; and the end of a fetch with the VXID 2^32 + 5
wide_begin_is : entry_bytes Wide (record begin { number = 74 }) ≡ 14 ∷ 0 ∷ 1 ∷ 74 ∷ 1 ∷ 0 ∷ 0 ∷ 0 ∷ 0 ∷ 0 ∷ 0 ∷ 64 ∷ codes "sess 0 HTTP/1" ++ 0 ∷ 170 ∷ 170 ∷ []
wide_begin_is = refl

wide_end_is : entry_bytes Wide (record { number = 75; vxid = 2 ^ 32 + 5; mark = Backend; bytes = 0 ∷ []; filling = 170 ∷ 170 ∷ 170 ∷ [] }) ≡ 1 ∷ 0 ∷ 1 ∷ 75 ∷ 5 ∷ 0 ∷ 0 ∷ 0 ∷ 1 ∷ 0 ∷ 0 ∷ 128 ∷ 0 ∷ 170 ∷ 170 ∷ 170 ∷ []
wide_end_is = refl

-- the first and the last number, the four that this project has no tag for, zero, and a number behind the last
tags : map (tag_at Narrow) (1 ∷ 95 ∷ 7 ∷ 12 ∷ 86 ∷ 96 ∷ 0 ∷ 97 ∷ []) ≡ Some 1 ∷ Some 48 ∷ replicate 6 None
unfolding tag_at
tags = refl

-- in a wide log the numbers behind BackendOpen are smaller: BackendClose, Length, Begin and H2RxHdr stand where
-- BackendReuse, ProxyGarbage, VCL_Error and Witness did, and VdpAcct is the last
wide_tags : map (tag_at Wide) (1 ∷ 6 ∷ 7 ∷ 11 ∷ 74 ∷ 84 ∷ 92 ∷ 93 ∷ 0 ∷ 94 ∷ []) ≡ Some 1 ∷ Some 7 ∷ Some 8 ∷ Some 13 ∷ Some 42 ∷ Some 49 ∷ Some 48 ∷ replicate 3 None
unfolding tag_at
wide_tags = refl

-- the tags whose records have no text
without_text : map tag_name (49 ∷ 50 ∷ 51 ∷ 52 ∷ []) ≡ codes "H2RxHdr" ∷ codes "H2RxBody" ∷ codes "H2TxHdr" ∷ codes "H2TxBody" ∷ []
without_text = refl

-- a Backend is left out and counted; a text has no zero byte at its end, and the bytes of a frame have all
abbrev three : List Said
three = map (said_of Narrow) (begin ∷ backend ∷ frame ∷ [])

three_taken : taken three ≡ record { vxid = 1; rec = record { tag = 42; mark = Client; payload = codes "sess 0 HTTP/1" } } ∷ record { vxid = 1; rec = record { tag = 49; mark = Client; payload = 0 ∷ 0 ∷ 0 ∷ [] } } ∷ []
unfolding tag_at
three_taken = refl

three_counted : counted none_counted three ≡ record none_counted { parts = 3; unknown_tags = 1 }
unfolding tag_at
three_counted = refl

-- lines of another grouping, and of another form
left_out : loss_for (codes "*   << Session  >> 1") OtherForm ∷ loss_for (codes "-   Begin          sess 0") OtherForm ∷ loss_for (codes "and more") OtherForm ∷ loss_for [] OtherForm ∷ []
    ≡ losses.OtherGrouping ∷ losses.OtherGrouping ∷ losses.OtherForm ∷ losses.OtherForm ∷ []
left_out = refl

-- a record that is cut stops early, and one with bit 16 of its first word or with two marks doesn't
cut : map (stops_early Narrow) ((14 ∷ 0 ∷ 0 ∷ 76 ∷ 1 ∷ 0 ∷ 0 ∷ 64 ∷ codes "sess") ∷ (14 ∷ 0 ∷ 1 ∷ 76 ∷ 1 ∷ 0 ∷ 0 ∷ 64 ∷ []) ∷ (14 ∷ 0 ∷ 0 ∷ 76 ∷ 1 ∷ 0 ∷ 0 ∷ 192 ∷ []) ∷ []) ≡ true ∷ false ∷ false ∷ []
cut = refl

-- a record of a wide log that is cut in its head or behind it stops early, and one without that bit, with two marks, or
-- with a VXID of more than 51 bits doesn't
wide_cut : map (stops_early Wide) ((14 ∷ 0 ∷ 1 ∷ 74 ∷ 1 ∷ 0 ∷ 0 ∷ 0 ∷ 0 ∷ 0 ∷ 0 ∷ []) ∷ (14 ∷ 0 ∷ 1 ∷ 74 ∷ 1 ∷ 0 ∷ 0 ∷ 0 ∷ 0 ∷ 0 ∷ 0 ∷ 64 ∷ codes "sess")
    ∷ (14 ∷ 0 ∷ 0 ∷ 74 ∷ 1 ∷ 0 ∷ 0 ∷ 0 ∷ 0 ∷ 0 ∷ 0 ∷ 64 ∷ []) ∷ (14 ∷ 0 ∷ 1 ∷ 74 ∷ 1 ∷ 0 ∷ 0 ∷ 0 ∷ 0 ∷ 0 ∷ 0 ∷ 192 ∷ []) ∷ (14 ∷ 0 ∷ 1 ∷ 74 ∷ 1 ∷ 0 ∷ 0 ∷ 0 ∷ 0 ∷ 0 ∷ 8 ∷ 64 ∷ []) ∷ []) ≡ true ∷ true ∷ false ∷ false ∷ false ∷ []
wide_cut = refl

-- the first bytes of no file, of Varnish's logs, of a log file, of another version's log, of a packed file, of a text, and of others
abbrev firsts : List (List ℕ)
firsts = [] ∷ (layout Narrow).file_mark ∷ (layout Wide).file_mark ∷ codes "VSLO" ∷ codes "VSL3" ∷ (31 ∷ 139 ∷ 8 ∷ 0 ∷ []) ∷ codes "    " ∷ (0 ∷ 0 ∷ 0 ∷ 0 ∷ []) ∷ []

looks : map looks_of firsts ≡ Empty ∷ VarnishLog ∷ VarnishLog ∷ LogFile ∷ OtherVersion ∷ Gzip ∷ Text ∷ Unknown ∷ []
looks = refl

-- as a binary log all but two are refused, as a text five
refused : (map (form_of false) firsts ≡ Err Empty ∷ Ok (forms.Binary Narrow) ∷ Ok (forms.Binary Wide) ∷ Err LogFile ∷ Err OtherVersion ∷ Err Gzip ∷ Err Text ∷ Err Unknown ∷ [])
    × (map (form_of true) firsts ≡ Ok forms.Text ∷ Err VarnishLog ∷ Err VarnishLog ∷ Err LogFile ∷ Err OtherVersion ∷ Err Gzip ∷ Ok forms.Text ∷ Ok forms.Text ∷ [])
refused = (refl, refl)
