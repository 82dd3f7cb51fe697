use Rattle.std.proofs.Common.{length, sym, ap, ◌∙◌}
use Rattle.cdx_models.specs.Entries.{entry_of}
use Rattle.cdx_service_data.specs.Records.{service_entry}
use Rattle.cdx_service_data.proofs.Entries.{equal_each-lengths}
use Rattle.cdx_service_data.proofs.service.equal_entries.Goals as goal

pub returns-then-one-other : goal.returns-then-one-other
returns-then-one-other g c =
    sym (equal_each-lengths (λ x. entry_of (g.T.HasTree.tree x)) service_entry c.args.one.now c.args.other.now (λ e. c.if-one-other.true (ap length c.as_slice-one.ensures ∙ e ∙ sym (ap length c.as_slice-other.ensures))))
