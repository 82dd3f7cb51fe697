use Rattle.cdx_component.proofs.Begun.{pedigree_begins}
use Rattle.cdx_component.proofs.xml.reading.begin.begin_pedigree.Goals as goal

pub returns : goal.returns
returns c = λ name attributes v place. pedigree_begins attributes v name place
