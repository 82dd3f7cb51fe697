use Rattle.cdx_canon.proofs.KeptText.{keeps_text}
use Rattle.cdx_canon.proofs.laws.keeps_text.Goals as goal

pub returns : goal.returns
returns c = keeps_text
