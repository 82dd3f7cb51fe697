use Rattle.std.proofs.Common.{ap, ◌∙◌, refl}
use Rattle.cdx_models.specs.Trees.{signer, signers, chain, fields, one, list_tree, fields_of}
use Rattle.cdx_signature.specs.Records.{signer_tree}
use Rattle.cdx_schema.specs.Kinds.{signer_list, chain_list}
use Rattle.cdx_schema.specs.Table.{list}
use Rattle.cdx_signature.proofs.Signed.{signers_kept, chain_kept, single_kept}
use Rattle.cdx_signature.proofs.json.SignatureKept.kept_as.Goals as goal

pub returns-in_ok-keep_list-in-Signers : goal.returns-in_ok-keep_list-in-Signers
unfolding list
returns-in_ok-keep_list-in-Signers c = rw c.in-Signers.is (ap (λ t. fields signers (one t)) (c.in_ok-keep_list-in-Signers.ensures signer_list refl) ∙ signers_kept c.args.keeping.version c.args.keeping.label (list_tree signer_tree c.in-Signers.held))

pub returns-in_ok-keep_list-in-Chain : goal.returns-in_ok-keep_list-in-Chain
unfolding list
returns-in_ok-keep_list-in-Chain c = rw c.in-Chain.is (ap (λ t. fields chain (one t)) (c.in_ok-keep_list-in-Chain.ensures chain_list refl) ∙ chain_kept c.args.keeping.version c.args.keeping.label (list_tree signer_tree c.in-Chain.held))

pub returns-in_ok-kept_as-in-Single : goal.returns-in_ok-kept_as-in-Single
returns-in_ok-kept_as-in-Single c = rw c.in-Single.is (c.in_ok-kept_as-in-Single.ensures ∙ single_kept c.args.keeping.version c.args.keeping.label signer (fields_of (signer_tree c.in-Single.held)))
