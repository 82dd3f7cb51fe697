use Rattle.cdx_bom.proofs.Documents.{same_doc}
use Rattle.cdx_bom.proofs.roads.one_document.Goals as goal

pub returns : goal.returns
returns c = λ d x y p q. same_doc d x y p q
