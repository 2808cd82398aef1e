use Rattle.traffic_feed.proofs.RawLemmas.{read_back}
use Rattle.traffic_feed.proofs.laws.raw_lines_read_back.Goals as goal

pub returns : goal.returns
returns c = λ log reclen seg all are. read_back reclen seg log all are
