use Rattle.std.proofs.Common.{◌≡◌, ◌++◌, length}
use Rattle.std.specs.List.{flat_map}
use Rattle.vsl_record.specs.Unit.{LogUnit}
use Rattle.vsl_record.specs.Words.{unit_words}
use Rattle.vsl_file.specs.File.{record_bytes, unit_bytes}
use Rattle.varnish_log.specs.inside.Writers.{known}
use Rattle.varnish_log.proofs.WrittenLemmas.{all_units, all_written, last_units, last_written}
use Rattle.varnish_log.proofs.units.UnitWriter.close.Goals as goal

pub returns-clause-written : goal.returns-clause-written
returns-clause-written c = λ before ls w.
    let wrote : (u : LogUnit) → c.in-Some.begun.words ≡ length (unit_words u) → c.args.self.now.body ≡ flat_map (record_bytes u.vxid) u.records → c.put_unit_of.new.out.items ≡ c.args.out.now.items ++ unit_bytes u =
    λ u words body. (c.in_ok-put_unit_of.ensures u words cc).ok in
    last_written c.args.self.now c.args.out.now.items before ls (known c.in-Some.begun) c.put_unit_of.new.out.items w (cc) wrote

pub returns-in_default-clause-written : goal.returns-in_default-clause-written
returns-in_default-clause-written c = λ before ls w. all_written c.args.self.now c.args.out.now.items before ls w cc

pub returns-clause-units : goal.returns-clause-units
returns-clause-units c = λ before ls w. last_units c.args.self.now c.args.out.now.items before ls (known c.in-Some.begun) w (cc) c.requires

pub returns-in_default-clause-units : goal.returns-in_default-clause-units
returns-in_default-clause-units c = λ before ls w. all_units c.args.self.now c.args.out.now.items before ls w cc
