-- The fields of signatures while they are read.
use Rattle.std.specs.Prelude.{[], ◌∷◌}
use Rattle.cdx_models.specs.Trees.{text, trees, Trees, more, present}
use Rattle.cdx_signature.specs.Records.{signature_tree}
use Rattle.cdx_signature.specs.declared.parts.SignerPart.{SignerPart}
use Rattle.cdx_signature.specs.declared.parts.SignaturePart.{SignaturePart}

abbrev pub signer_part : SignerPart → Trees
signer_part x = trees (present text x.algorithm ∷ present text x.value ∷ [])

-- The signers or the chain that was read last, and the parts of a single signer.
abbrev pub signature_part : SignaturePart → Trees
signature_part x = more (present signature_tree x.list) (signer_part x.signer)
