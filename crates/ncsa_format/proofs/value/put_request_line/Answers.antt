use Rattle.std.proofs.Common.{append_assoc}
use Rattle.std.proofs.lemmas.Result.{IfOk-equal}
use Rattle.std.proofs.lemmas.List.Concat.{flat_map-append}
use Rattle.ncsa_format.specs.Line.{quoted_byte}
use Rattle.log_model.proofs.PrefixLemmas.{prefix_then}
use Rattle.ncsa_format.proofs.value.put_request_line.Goals as goal

pub returns : goal.returns
returns c = record {
  ok = IfOk-equal _ _ _ _ c.put_quoted-3.ensures.ok
      (simp (c.in_ok-put_plain-2.ensures.ok, c.in_ok-put_quoted-2.ensures.ok, c.in_ok-put_host.ensures.ok, c.in_ok-put_plain.ensures.ok, c.in_ok-put_quoted.ensures.ok, flat_map-append quoted_byte, append_assoc) cc);
  keeps = prefix_then c.in_ok-put_quoted.ensures.keeps (prefix_then c.in_ok-put_plain.ensures.keeps (prefix_then c.in_ok-put_host.ensures.keeps
      (prefix_then c.in_ok-put_quoted-2.ensures.keeps (prefix_then c.in_ok-put_plain-2.ensures.keeps c.put_quoted-3.ensures.keeps))));
}
