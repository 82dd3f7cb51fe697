use Rattle.cdx_nest.proofs.ReadMetadata.{metadata_begins}
use Rattle.cdx_nest.proofs.frames.metadata.begin_metadata.Goals as goal

pub returns : goal.returns
returns c = λ name attributes v place. metadata_begins attributes v name place
