use Rattle.std.proofs.Common.{sym, ◌∙◌}
use Rattle.cdx_bom.specs.Docs.{hop_of}
use Rattle.cdx_bom.specs.Trees.{bom_tree}
use Rattle.cdx_bom.specs.declared.doc.Hop.{Hop}
use Rattle.cdx_bom.proofs.Carried.{one_hop}
use Rattle.cdx_bom.proofs.roads.recode.Goals as goal

pub returns : goal.returns
returns c = λ x is.
    let hop : Hop = record { form = c.args.to; version = c.args.new_version } in
    one_hop c.in_ok-spell_freed.field-0 x c.args.version (hop_of hop) (bom_tree c.in_ok-read.read) (c.in_ok-read.ensures x is) (sym c.fits.ensures ∙ c.if-not-fits.false) c.in_ok-spell_freed.ensures
