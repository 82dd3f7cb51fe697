-- The trees of signatures, a field for each row of the schema and in its order.
use Rattle.std.specs.Prelude.{◌≡◌, refl, false, [], ◌∷◌}
use Rattle.cdx_models.specs.Trees.{signer, signers, chain, Tree, text, fields, trees, one, list_tree, is_absent}
use Rattle.cdx_signature.specs.Signatures.{algorithm_name}
use Rattle.cdx_signature.specs.declared.signature.Algorithm.{Algorithm}
use Rattle.cdx_signature.specs.declared.signature.Signer.{Signer}
use Rattle.cdx_signature.specs.declared.signature.Signature.{Signature}
use Rattle.cdx_signature.specs.declared.signature.Signature.TheVariants as signature

abbrev pub algorithm_tree : Algorithm → Tree
algorithm_tree x = text (algorithm_name x)

abbrev pub signer_tree : Signer → Tree
signer_tree x = fields signer (trees (algorithm_tree x.algorithm ∷ text x.value ∷ []))

abbrev pub signature_tree : Signature → Tree
signature_tree (signature.Signers xs) = fields signers (one (list_tree signer_tree xs))
signature_tree (signature.Chain xs) = fields chain (one (list_tree signer_tree xs))
signature_tree (signature.Single x) = signer_tree x

pub signature_there : (x : Signature) → is_absent (signature_tree x) ≡ false
signature_there (signature.Signers xs) = refl
signature_there (signature.Chain xs) = refl
signature_there (signature.Single x) = refl
