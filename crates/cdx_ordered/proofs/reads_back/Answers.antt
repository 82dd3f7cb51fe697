use Rattle.cdx_ordered.proofs.ReadBack.{read_text}
use Rattle.cdx_ordered.proofs.reads_back.Goals as goal

pub returns : goal.returns
returns c = read_text
