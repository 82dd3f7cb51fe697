use Rattle.std.proofs.Common.{ap, ◌∙◌, refl}
use Rattle.serde_json.specs.Data.{object}
use Rattle.cdx_json.specs.Spellings.{spelling_members}
use Rattle.cdx_json.proofs.Setting.{spelling_data-Object}
use Rattle.cdx_signature.specs.Records.{signer_tree}
use Rattle.cdx_models.specs.Trees.{list_tree}
use Rattle.cdx_schema.specs.Kinds.{a_list, signer_list}
use Rattle.cdx_schema.specs.Table.{list}
use Rattle.cdx_json.specs.KeptRows.{put_kept}
use Rattle.cdx_signature.proofs.json.signers_spelling.Goals as goal

pub returns : goal.returns
unfolding list
returns c =
    spelling_data-Object c.put_required_list.new.map ∙ ap object (c.in_ok-put_required_list.ensures signer_list refl ∙ ap (λ es. put_kept c.args.name.now (a_list signer_list) (list_tree signer_tree c.args.held.now) c.args.version (spelling_members es)) c.new-map.ensures.items)
