use Rattle.std.proofs.Common.{ap₂, codes, ◌∙◌}
use Rattle.cdx_canon.specs.Plain.{with_part}
use Rattle.cdx_canon.proofs.HeldBill.{metadata_spelled}
use Rattle.cdx_canon.proofs.Values.{made_so, empty_object}
use Rattle.cdx_canon.proofs.text.settled_metadata.Goals as goal

pub returns : goal.returns
returns c =
    made_so c.set_part.result _ _ c.set_part.ensures
    (ap₂ (with_part (codes "tools")) (empty_object c.new.result c.new.ensures.empty) c.in_ok-value.ensures ∙ metadata_spelled c.args.held.now c.requires)
