use Rattle.std.proofs.Common.{ap, ◌∙◌, refl}
use Rattle.std.proofs.lemmas.Result.{err_from_is_err_and}
use Rattle.cdx_json.specs.SeenOf.{seen_of}
use Rattle.cdx_models.specs.Trees.{signers, chain}
use Rattle.cdx_schema.specs.Kinds.{signer_list, chain_list}
use Rattle.cdx_schema.specs.Table.{list}
use Rattle.cdx_schema.specs.Results.{◌>>=◌}
use Rattle.cdx_schema.specs.JsonReading.{seen}
use Rattle.cdx_schema.specs.Depths.{depth_of}
use Rattle.cdx_json.proofs.Rows.{fails_then}
use Rattle.cdx_signature.proofs.Signed.{reads_signers, reads_chain, reads_single, as_signers}
use Rattle.cdx_signature.proofs.json.signature_from_members.Goals as goal

pub returns-in_err-list_row : goal.returns-in_err-list_row
unfolding list
returns-in_err-list_row c =
    let p = err_from_is_err_and c.from_residual.result c.from_residual.ensures.1 in
    rw (p.1, p.2, reads_signers (seen (seen_of c.args.map.now.members.items)) c.has_value.result c.args.context.version (depth_of c.args.context.depth) c.has_value.ensures c.if-has_value.true) (fails_then (as_signers signers) _ _ (c.in_err-list_row.ensures signer_list refl))

pub returns-in_err-list_row-2 : goal.returns-in_err-list_row-2
unfolding list
returns-in_err-list_row-2 c =
    let p = err_from_is_err_and c.from_residual-in_err-list_row-2.result c.from_residual-in_err-list_row-2.ensures.1 in
    rw (p.1, p.2, reads_chain (seen (seen_of c.args.map.now.members.items)) c.has_value.result c.has_value-else-has_value.result c.args.context.version (depth_of c.args.context.depth) c.has_value.ensures c.if-has_value.false c.has_value-else-has_value.ensures c.if-has_value-2.true) (fails_then (as_signers chain) _ _ (c.in_err-list_row-2.ensures chain_list refl))

pub returns-in_ok-list_row : goal.returns-in_ok-list_row
unfolding list
returns-in_ok-list_row c =
    reads_signers (seen (seen_of c.args.map.now.members.items)) c.has_value.result c.args.context.version (depth_of c.args.context.depth) c.has_value.ensures c.if-has_value.true
    ∙ ap (λ r. r >>= as_signers signers) (c.in_ok-list_row.ensures signer_list refl)

pub returns-in_ok-list_row-2 : goal.returns-in_ok-list_row-2
unfolding list
returns-in_ok-list_row-2 c =
    reads_chain (seen (seen_of c.args.map.now.members.items)) c.has_value.result c.has_value-else-has_value.result c.args.context.version (depth_of c.args.context.depth) c.has_value.ensures c.if-has_value.false c.has_value-else-has_value.ensures c.if-has_value-2.true
    ∙ ap (λ r. r >>= as_signers chain) (c.in_ok-list_row-2.ensures chain_list refl)

pub returns-in_err-from_members : goal.returns-in_err-from_members
returns-in_err-from_members c =
    let p = err_from_is_err_and c.from_residual-in_err-from_members.result c.from_residual-in_err-from_members.ensures.1 in
    rw (p.1, p.2, reads_single (seen (seen_of c.args.map.now.members.items)) c.has_value.result c.has_value-else-has_value.result c.args.context.version (depth_of c.args.context.depth) c.has_value.ensures c.if-has_value.false c.has_value-else-has_value.ensures c.if-has_value-2.false) c.in_err-from_members.ensures

pub returns-in_ok-from_members : goal.returns-in_ok-from_members
returns-in_ok-from_members c =
    reads_single (seen (seen_of c.args.map.now.members.items)) c.has_value.result c.has_value-else-has_value.result c.args.context.version (depth_of c.args.context.depth) c.has_value.ensures c.if-has_value.false c.has_value-else-has_value.ensures c.if-has_value-2.false
    ∙ c.in_ok-from_members.ensures
