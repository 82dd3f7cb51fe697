use Rattle.cdx_trips.proofs.Untouched.{comes_back}
use Rattle.cdx_trips.proofs.laws.survivors_come_back.Goals as goal

pub returns : goal.returns
returns c = comes_back
