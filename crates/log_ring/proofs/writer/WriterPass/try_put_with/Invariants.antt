use Rattle.log_ring.proofs.writer.WriterPass.try_put_with.Given as goal

-- the unit is the call's
abbrev pub ghosts-put_as : goal.ghosts-put_as
ghosts-put_as g a = record { unit = a.unit.now }
