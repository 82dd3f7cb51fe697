use Rattle.std.proofs.Common.{Some, ap, ◌∙◌}
use Rattle.std.proofs.lemmas.Result.{err_from_is_err_and}
use Rattle.serde_json.specs.View.{view, items_view}
use Rattle.cdx_json.specs.SeenOf.{seen_of}
use Rattle.cdx_models.specs.Trees.{list_tree}
use Rattle.cdx_signature.specs.Records.{signature_tree, signer_tree}
use Rattle.cdx_schema.specs.Depths.{depth_of}
use Rattle.cdx_json.proofs.Values.{signers_ok, signers_err, signature_err, signature_gives}
use Rattle.cdx_signature.proofs.json.SignatureFromJson.from_json_at.Goals as goal

pub returns-in_err-list_from_items-in-Some : goal.returns-in_err-list_from_items-in-Some
returns-in_err-list_from_items-in-Some c =
    let p = err_from_is_err_and c.from_residual.result c.from_residual.ensures.1 in
    rw (p.1, p.2) (signers_err c.in_err-list_from_items-in-Some.field-0.0 (view c.args.value.now) (items_view c.in-Some.items.now.items) c.args.context.version (depth_of c.args.context.depth) c.in-Some.ensures c.in_err-list_from_items-in-Some.ensures)

pub returns-in_ok-list_from_items-in-Some : goal.returns-in_ok-list_from_items-in-Some
returns-in_ok-list_from_items-in-Some c =
    signers_ok (view c.args.value.now) (items_view c.in-Some.items.now.items) (list_tree signer_tree c.in_ok-list_from_items-in-Some.field-0) c.args.context.version (depth_of c.args.context.depth) c.in-Some.ensures c.in_ok-list_from_items-in-Some.ensures

pub returns-in-None-as_object : goal.returns-in-None-as_object
returns-in-None-as_object c = signature_err c.here.result (view c.args.value.now) c.args.context.version (depth_of c.args.context.depth) c.in-None.ensures c.in-None-as_object.ensures c.here.ensures

pub returns-in_ok-members-in-Some-as_object : goal.returns-in_ok-members-in-Some-as_object
returns-in_ok-members-in-Some-as_object c =
    signature_gives signature_tree c.signature_from_members.result (view c.args.value.now) (seen_of c.in_ok-members-in-Some-as_object.members.members.items) c.args.context.version (depth_of c.args.context.depth) (ap Some c.in_ok-members-in-Some-as_object.ensures ∙ c.in-Some-as_object.ensures) c.signature_from_members.ensures
