use Rattle.std.specs.Prelude.{filter}
use Rattle.std.proofs.Common.{ap, ◌∙◌, rules}
use Rattle.std.proofs.lemmas.Fn.{filter_same}
use Rattle.cdx_inventory.specs.Entries.{told, all_told, has_license}
use Rattle.cdx_inventory.proofs.Walks.{licensed_told}
use Rattle.cdx_inventory.proofs.listing.keep_licensed.Goals as goal

pub returns : goal.returns
returns c =
    ap all_told c.from_vec.ensures
    ∙ (ap all_told (filter_same _ (λ e. has_license c.args.license.now (told e)) _ (λ x b f' k. search rules) _ _ c.retain.ensures.filtered)
    ∙ (licensed_told c.args.license.now c.into_vec-kept.result.items ∙ ap (λ es. filter (has_license c.args.license.now) (all_told es)) c.into_vec-kept.ensures))
