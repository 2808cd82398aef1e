-- The forms of Varnish's binary log, and what tells one from another (varnishlog(1), "-w"; the layouts of Varnish 7.1
-- and 7.7).
use Rattle.std.specs.Prelude.{ℕ, ◌^◌, List, [], ◌∷◌, ◌++◌, codes}
use Rattle.std.specs.Int.{Width, w32, w64}
use Rattle.varnish_log.specs.declared.form.BinaryForm.{BinaryForm}
use Rattle.varnish_log.specs.declared.form.BinaryForm.TheVariants.{Narrow, Wide}

-- what tells a form: the four bytes with which a log begins; what stands in bits 16 to 23 of a record's first word; how
-- wide the number is that tells VXID and mark; one more than the greatest VXID; the bit of that number that is a client's
-- mark, above which a backend's is the next; and the names of Varnish 7.1's tags that it lacks
pub record Layout : Type 0 where
  pub file_mark : List ℕ
  pub version : ℕ
  pub width : Width
  pub vxid_end : ℕ
  pub client : ℕ
  pub lacks : List (List ℕ)

-- the forms: that of Varnish 7.0 to 7.2, and that of 7.3 and later
abbrev pub layout : BinaryForm → Layout
layout Narrow = record {
  file_mark = codes "VSL" ++ 0 ∷ [];
  version = 0;
  width = w32;
  vxid_end = 2 ^ 30;
  client = 2 ^ 30;
  lacks = [];
}
layout Wide = record {
  file_mark = codes "VSL2";
  version = 1;
  width = w64;
  vxid_end = 2 ^ 51;
  client = 2 ^ 62;
  lacks = codes "BackendReuse" ∷ codes "Backend" ∷ codes "BackendStart" ∷ [];
}
