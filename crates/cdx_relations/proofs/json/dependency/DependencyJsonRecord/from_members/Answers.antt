use Rattle.std.proofs.Common.{refl}
use Rattle.std.proofs.lemmas.Result.{err_from_is_err_and}
use Rattle.cdx_schema.specs.Kinds.{depended}
use Rattle.cdx_schema.specs.Table.{rows, list}
use Rattle.cdx_json.specs.ByRows.{rows_made}
use Rattle.cdx_json.proofs.Rows.{fails_then}
use Rattle.cdx_relations.proofs.json.dependency.DependencyJsonRecord.from_members.Goals as goal

pub returns-in_err-depends_on : goal.returns-in_err-depends_on
unfolding rows_made rows list
returns-in_err-depends_on c =
    let p = err_from_is_err_and c.from_residual-in_err-depends_on.result c.from_residual-in_err-depends_on.ensures.1 in
    rw (p.1, p.2, c.in_ok-dependency_ref.ensures) (fails_then _ _ _ (c.in_err-depends_on.ensures depended refl))

pub returns : goal.returns
unfolding rows_made rows list
returns c = rw (c.in_ok-dependency_ref.ensures, (c.in_ok-depends_on.ensures depended refl)) refl
