use Rattle.std.proofs.Common.{◌∙◌}
use Rattle.cdx_models.specs.Trees.{signer, each, fields_of}
use Rattle.cdx_signature.specs.Records.{signer_tree}
use Rattle.cdx_json.proofs.Spelled.{if_ok}
use Rattle.cdx_signature.proofs.Signed.{signers_spelled, chain_spelled, single_spelled}
use Rattle.cdx_signature.proofs.json.SignatureToJson.spelling.Goals as goal

pub returns-in-Signers : goal.returns-in-Signers
returns-in-Signers c = rw c.in-Signers.is (if_ok c.signers_spelling.result (λ v e. e ∙ signers_spelled c.args.version (each signer_tree c.in-Signers.signers)) c.signers_spelling.ensures)

pub returns-in-Chain : goal.returns-in-Chain
returns-in-Chain c = rw c.in-Chain.is (if_ok c.signers_spelling-in-Chain.result (λ v e. e ∙ chain_spelled c.args.version (each signer_tree c.in-Chain.chain)) c.signers_spelling-in-Chain.ensures)

pub returns-in-Single : goal.returns-in-Single
returns-in-Single c = rw c.in-Single.is (if_ok c.spelling.result (λ v e. e ∙ single_spelled c.args.version signer (fields_of (signer_tree c.in-Single.signer))) c.spelling.ensures)
