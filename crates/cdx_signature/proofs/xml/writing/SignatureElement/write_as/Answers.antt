use Rattle.std.proofs.Common.{refl}
use Rattle.cdx_models.specs.Trees.{each, fields_of}
use Rattle.cdx_signature.specs.Records.{signer_tree}
use Rattle.cdx_schema.specs.Kinds.{signer_list, chain_list}
use Rattle.cdx_schema.specs.Table.{list}
use Rattle.cdx_write.proofs.RowWords.{appends_same}
use Rattle.cdx_signature.proofs.Written.{signers_signature, chain_signature, single_signature}
use Rattle.cdx_signature.proofs.xml.writing.SignatureElement.write_as.Goals as goal

pub returns-in-Signers : goal.returns-in-Signers
unfolding list
returns-in-Signers c =
    rw c.in-Signers.is (appends_same c.args.writer.now c.write_signers.new.writer _ _ c.write_signers.result (signers_signature (each signer_tree c.in-Signers.held) c.args.target.version c.args.tag.now) (c.write_signers.ensures signer_list (refl, refl)))

pub returns-in-Chain : goal.returns-in-Chain
unfolding list
returns-in-Chain c =
    rw c.in-Chain.is (appends_same c.args.writer.now c.write_signers-in-Chain.new.writer _ _ c.write_signers-in-Chain.result (chain_signature (each signer_tree c.in-Chain.held) c.args.target.version c.args.tag.now) (c.write_signers-in-Chain.ensures chain_list (refl, refl)))

pub returns-in-Single : goal.returns-in-Single
returns-in-Single c =
    rw c.in-Single.is (appends_same c.args.writer.now c.write_record.new.writer _ _ c.write_record.result (single_signature (fields_of (signer_tree c.in-Single.held)) c.args.target.version c.args.tag.now) c.write_record.ensures)
