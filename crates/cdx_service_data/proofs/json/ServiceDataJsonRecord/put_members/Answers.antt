use Rattle.std.proofs.Common.{codes, ap, ◌∙◌}
use Rattle.cdx_json.specs.Spellings.{spelling_members}
use Rattle.cdx_models.specs.Trees.{text, present, classification, fields_of}
use Rattle.cdx_schema.specs.Kinds.{a_text, a_record}
use Rattle.cdx_schema.specs.Table.{rows}
use Rattle.cdx_json.specs.KeptRows.{put_kept, put_own, rows_put}
use Rattle.cdx_json.proofs.Spelled.{on_ok}
use Rattle.cdx_service_data.specs.Records.{classification_tree}
use Rattle.cdx_service_data.proofs.DataEntries.{own_put}
use Rattle.cdx_service_data.proofs.json.ServiceDataJsonRecord.put_members.Goals as goal

pub returns : goal.returns
unfolding rows_put rows
returns c =
    let held = classification_tree c.args.self.now.classification in
    let w = c.args.target.version in
    on_ok c.put_members.result
    (λ e. e ∙ own_put w (fields_of held) (spelling_members c.put_row-2.new.map.items) ∙ ap (λ ms. put_own (a_record classification) held w ms) (c.in_ok-put_row-2.ensures ∙ ap (λ ms. put_kept (codes "description") a_text (present text c.args.self.now.description) w ms) c.in_ok-put_row.ensures))
    c.put_members.ensures
