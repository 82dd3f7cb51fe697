use Rattle.cdx_request.proofs.RepliesOwed.{reply_law}
use Rattle.cdx_request.proofs.laws.reply_law.Goals as goal

pub returns : goal.returns
returns c = reply_law
