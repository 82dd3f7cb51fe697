use Rattle.std.proofs.Common.{is_some, inl, ap, ◌∙◌}
use Rattle.cdx_losses.specs.declared.serving.Command.TheVariants.{Losses}
use Rattle.cdx_losses.proofs.Reported.{served, valid}
use Rattle.cdx_losses.proofs.serving.report.Goals as goal

pub returns-clause-table : goal.returns-clause-table
returns-clause-table g c = rw (c.as_ref.ensures.value ∙ c.read_command-command.ensures) at c.respond.ensures.table

pub returns-clause-served : goal.returns-clause-served
returns-clause-served g c = rw (c.as_ref.ensures.value ∙ c.read_command-command.ensures) at c.respond.ensures.served

pub returns-clause-headline : goal.returns-clause-headline
returns-clause-headline g c =
    λ is zero_is.
    let t = returns-clause-table g c in
    served _ _ _ _ _ Losses t.0 _ _ is zero_is t.1 (c.respond.ensures.end (c.as_ref.ensures.variant ∙ ap is_some (c.read_command-command.ensures ∙ is)) (inl zero_is)) t.2

pub returns-clause-valid : goal.returns-clause-valid
returns-clause-valid g c =
    λ bytes request is told le asks v source sink. valid _ Losses bytes request _ is le asks v (returns-clause-served g c bytes told source sink)
