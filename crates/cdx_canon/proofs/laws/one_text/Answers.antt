use Rattle.cdx_canon.proofs.PlainBill.{one_text}
use Rattle.cdx_canon.proofs.SpelledOrder.{texts_read}
use Rattle.cdx_canon.proofs.laws.one_text.Goals as goal

pub returns : goal.returns
returns c = one_text texts_read
