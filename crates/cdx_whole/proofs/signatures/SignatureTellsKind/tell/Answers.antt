use Rattle.std.proofs.Common.{inl, inr, refl}
use Rattle.cdx_schema.specs.Table.{rows, list}
use Rattle.cdx_whole.proofs.signatures.SignatureTellsKind.tell.Goals as goal

pub returns-in-Signers : goal.returns-in-Signers
unfolding rows list
returns-in-Signers c = rw c.in-Signers.is (inl refl, (inr (tt, c.tell_list.ensures), tt))

pub returns-in-Chain : goal.returns-in-Chain
unfolding rows list
returns-in-Chain c = rw c.in-Chain.is (inr (inl refl), (inr (tt, c.tell_list-in-Chain.ensures), tt))

pub returns-in-Single : goal.returns-in-Single
returns-in-Single c = rw c.in-Single.is (inr (inr refl), c.tell.ensures.1)
