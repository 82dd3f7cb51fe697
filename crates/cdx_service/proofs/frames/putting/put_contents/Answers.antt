use Rattle.std.proofs.Common.{refl}
use Rattle.cdx_machine.proofs.OnRows.{on_rows}
use Rattle.cdx_service.proofs.frames.putting.put_contents.Goals as goal

pub returns-in-2-Signature : goal.returns-in-2-Signature
unfolding on_rows
returns-in-2-Signature c = rw (c.in-2-Signature.is-0, c.in-2-Signature.is-1) refl
