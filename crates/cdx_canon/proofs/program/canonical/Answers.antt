use Rattle.std.proofs.Common.{is_some, inl, ap, ◌∙◌}
use Rattle.cdx_canon.proofs.Replied.{text_served, equal_served}
use Rattle.cdx_canon.proofs.program.canonical.Goals as goal

pub returns-clause-text : goal.returns-clause-text
returns-clause-text g c =
    λ is zero_is.
    let command = c.read_command-command.ensures in
    let t = rw (c.as_ref.ensures.value ∙ command) at c.respond.ensures.table in
    text_served _ _ _ _ _ t.0 _ _ is zero_is t.1 (c.respond.ensures.end (c.as_ref.ensures.variant ∙ ap is_some (command ∙ is)) (inl zero_is)) t.2

pub returns-clause-equal : goal.returns-clause-equal
returns-clause-equal g c =
    λ is zero_is.
    let command = c.read_command-command.ensures in
    let t = rw (c.as_ref.ensures.value ∙ command) at c.respond.ensures.table in
    equal_served _ _ _ _ _ t.0 _ _ is zero_is t.1 (c.respond.ensures.end (c.as_ref.ensures.variant ∙ ap is_some (command ∙ is)) (inl zero_is)) t.2

pub returns-clause-table : goal.returns-clause-table
returns-clause-table g c = rw (c.as_ref.ensures.value ∙ c.read_command-command.ensures) at c.respond.ensures.table

pub returns-clause-served : goal.returns-clause-served
returns-clause-served g c = rw (c.as_ref.ensures.value ∙ c.read_command-command.ensures) at c.respond.ensures.served
