use Rattle.std.proofs.lemmas.Result.{err_from_is_err_and}
use Rattle.cdx_nest.specs.Trees.{metadata_tree}
use Rattle.cdx_nest.proofs.ReadMetadata.{metadata_ends}
use Rattle.cdx_nest.proofs.frames.NestFrameNested.finish.Goals as goal

pub returns-in-Component-clause-sort : goal.returns-in-Component-clause-sort
returns-in-Component-clause-sort c = rw c.in-Component.is c.finish_in_components.ensures.sort

pub returns-in-Component-clause-gives : goal.returns-in-Component-clause-gives
returns-in-Component-clause-gives c = rw c.in-Component.is c.finish_in_components.ensures.gives

pub returns-in-Service-clause-sort : goal.returns-in-Service-clause-sort
returns-in-Service-clause-sort c = rw c.in-Service.is c.finish_in_services.ensures.sort

pub returns-in-Service-clause-gives : goal.returns-in-Service-clause-gives
returns-in-Service-clause-gives c = rw c.in-Service.is c.finish_in_services.ensures.gives

pub returns-in_err-finish_tools-in-Tools-clause-gives : goal.returns-in_err-finish_tools-in-Tools-clause-gives
returns-in_err-finish_tools-in-Tools-clause-gives c =
    let q = err_from_is_err_and c.from_residual.result c.from_residual.ensures.1 in
    rw (q.1, q.2) (rw c.in-Tools.is c.in_err-finish_tools-in-Tools.ensures)

pub returns-in_ok-finish_tools-in-Tools-clause-gives : goal.returns-in_ok-finish_tools-in-Tools-clause-gives
returns-in_ok-finish_tools-in-Tools-clause-gives c = rw c.in-Tools.is c.in_ok-finish_tools-in-Tools.ensures

pub returns-in-Metadata-clause-gives : goal.returns-in-Metadata-clause-gives
returns-in-Metadata-clause-gives c =
    rw c.in-Metadata.is (metadata_ends c.in-Metadata.part (metadata_tree c.finish_metadata.result) c.args.closed.now.version c.args.closed.now.element.now.local_name c.args.closed.now.place c.finish_metadata.ensures)
