use Rattle.cdx_canon.proofs.PlainBill.{text_reads_back}
use Rattle.cdx_canon.proofs.SpelledOrder.{texts_read}
use Rattle.cdx_canon.proofs.laws.text_reads_back.Goals as goal

pub returns : goal.returns
returns c = text_reads_back texts_read
