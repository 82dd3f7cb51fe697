use Rattle.std.proofs.Common.{Some, sym, ap, ◌∙◌}
use Rattle.cdx_trips.proofs.Records.{contacts_there}
use Rattle.cdx_trips.proofs.organization.contacts_row_survives.Goals as goal

pub returns-then-not-is_empty : goal.returns-then-not-is_empty
returns-then-not-is_empty c =
    contacts_there c.args.held.now c.as_slice-contacts.result.now c.contacts_survive.result (c.in-Some.is ∙ ap Some (sym c.as_slice-contacts.ensures)) (sym c.is_empty.ensures ∙ c.if-not-is_empty.true) c.contacts_survive.ensures
