use Rattle.std.proofs.Common.{inl, inr, refl}
use Rattle.cdx_schema.specs.Table.{rows}
use Rattle.cdx_whole.proofs.licenses.LicenseIdentifierTellsKind.tell.Goals as goal

pub returns-in-SpdxId : goal.returns-in-SpdxId
unfolding rows
returns-in-SpdxId c = rw c.in-SpdxId.is (inl refl, (inr c.tell.ensures, tt))

pub returns-in-Name : goal.returns-in-Name
unfolding rows
returns-in-Name c = rw c.in-Name.is (inr refl, (inr c.tell-in-Name.ensures, tt))
