use Rattle.std.proofs.Common.{inl, inr, refl}
use Rattle.cdx_whole.proofs.licenses.LicenseChoiceTellsKind.tell.Goals as goal

pub returns-in-License : goal.returns-in-License
returns-in-License c = rw c.in-License.is (inl refl, c.tell.ensures.1)

pub returns-in-Expression : goal.returns-in-Expression
returns-in-Expression c = rw c.in-Expression.is (inr refl, c.tell-in-Expression.ensures.1)
