use Rattle.std.proofs.Common.{◌≡◌, ◌+◌, ◌*◌, ◌-◌, ◌%◌, length, take, ap, arith}
use Rattle.vsl_record.specs.Words.{record_words}
use Rattle.vsl_record.proofs.WroteLemmas.{no_more, wrote_size, four_pieces, wrote_as, record_bytes, record_size}
use Rattle.vsl_record.proofs.lent.RecordView.write_bytes.Goals as goal

pub write_at-requires-3 : goal.write_at-requires-3
write_at-requires-3 c =
    let all : 12 + length c.payload-payload.result.now + length (take ((4 - length c.payload-payload.result.now % 4) % 4) no_more) ≡ 4 * length (record_words c.args.vxid c.args.self.now) = rw c.payload-payload.ensures.bytes (record_size c.args.vxid c.args.self.now) in
    let one = wrote_size _ _ _ _ _ c.write_at.ensures (omega (arith, c.requires.room, all, ap length c.to_le_bytes.ensures)) in
    let two = wrote_size _ _ _ _ _ c.write_at-2.ensures (omega (arith, c.requires.room, all, one, ap length c.to_le_bytes-2.ensures)) in
    omega (arith, c.requires.room, all, one, two)

pub write_at-requires-4 : goal.write_at-requires-4
write_at-requires-4 c =
    let all : 12 + length c.payload-payload.result.now + length (take ((4 - length c.payload-payload.result.now % 4) % 4) no_more) ≡ 4 * length (record_words c.args.vxid c.args.self.now) = rw c.payload-payload.ensures.bytes (record_size c.args.vxid c.args.self.now) in
    let one = wrote_size _ _ _ _ _ c.write_at.ensures (omega (arith, c.requires.room, all, ap length c.to_le_bytes.ensures)) in
    let two = wrote_size _ _ _ _ _ c.write_at-2.ensures (omega (arith, c.requires.room, all, one, ap length c.to_le_bytes-2.ensures)) in
    let three = wrote_size _ _ _ _ _ c.write_at-3.ensures (omega (arith, c.requires.room, all, one, two)) in
    omega (arith, c.requires.room, all, one, two, three)

pub returns-clause-written : goal.returns-clause-written
returns-clause-written c =
    let all : 12 + length c.payload-payload.result.now + length (take ((4 - length c.payload-payload.result.now % 4) % 4) no_more) ≡ 4 * length (record_words c.args.vxid c.args.self.now) = rw c.payload-payload.ensures.bytes (record_size c.args.vxid c.args.self.now) in
    let pieces = four_pieces c.args.at _ _ _ _ _ _ _ _ _ (ap length c.to_le_bytes.ensures) (ap length c.to_le_bytes-2.ensures) (omega (arith, c.requires.room, all)) c.write_at.ensures c.write_at-2.ensures c.write_at-3.ensures c.write_at-4.ensures in
    wrote_as _ _ _ _ _ _ _ pieces (omega (arith, all)) (rw (c.to_le_bytes.ensures, c.head_word.ensures, c.to_le_bytes-2.ensures, c.id.ensures, c.mark.ensures, c.payload-payload.ensures.bytes) (record_bytes c.args.vxid c.args.self.now c.payload-payload.ensures.payload.bytes))

pub returns-clause-size : goal.returns-clause-size
returns-clause-size c = rw c.payload-payload.ensures.bytes (record_size c.args.vxid c.args.self.now)
