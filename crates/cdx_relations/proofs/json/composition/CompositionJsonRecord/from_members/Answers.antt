use Rattle.std.proofs.Common.{refl, sym}
use Rattle.std.proofs.lemmas.Result.{err_from_is_err_and}
use Rattle.cdx_schema.specs.Kinds.{assemblies, composed, vulnerabilities}
use Rattle.cdx_schema.specs.Table.{rows, list}
use Rattle.cdx_json.specs.ByRows.{rows_made}
use Rattle.cdx_json.proofs.Rows.{fails_then}
use Rattle.cdx_relations.proofs.json.composition.CompositionJsonRecord.from_members.Goals as goal

pub returns-in_err-bom_ref : goal.returns-in_err-bom_ref
unfolding rows_made rows list
returns-in_err-bom_ref c =
    let p = err_from_is_err_and c.from_residual.result c.from_residual.ensures.1 in
    rw (p.1, p.2, sym c.first_or_old-reference.ensures) (fails_then _ _ _ c.in_err-bom_ref.ensures)

pub returns-in_err-aggregate : goal.returns-in_err-aggregate
unfolding rows_made rows list
returns-in_err-aggregate c =
    let p = err_from_is_err_and c.from_residual-in_err-aggregate.result c.from_residual-in_err-aggregate.ensures.1 in
    rw (p.1, p.2, sym c.first_or_old-reference.ensures, c.in_ok-bom_ref.ensures) (fails_then _ _ _ c.in_err-aggregate.ensures)

pub returns-in_err-assemblies : goal.returns-in_err-assemblies
unfolding rows_made rows list
returns-in_err-assemblies c =
    let p = err_from_is_err_and c.from_residual-in_err-assemblies.result c.from_residual-in_err-assemblies.ensures.1 in
    rw (p.1, p.2, sym c.first_or_old-reference.ensures, c.in_ok-bom_ref.ensures, c.in_ok-aggregate.ensures) (fails_then _ _ _ (c.in_err-assemblies.ensures assemblies refl))

pub returns-in_err-dependencies : goal.returns-in_err-dependencies
unfolding rows_made rows list
returns-in_err-dependencies c =
    let p = err_from_is_err_and c.from_residual-in_err-dependencies.result c.from_residual-in_err-dependencies.ensures.1 in
    rw (p.1, p.2, sym c.first_or_old-reference.ensures, c.in_ok-bom_ref.ensures, c.in_ok-aggregate.ensures, (c.in_ok-assemblies.ensures assemblies refl)) (fails_then _ _ _ (c.in_err-dependencies.ensures composed refl))

pub returns-in_err-vulnerabilities : goal.returns-in_err-vulnerabilities
unfolding rows_made rows list
returns-in_err-vulnerabilities c =
    let p = err_from_is_err_and c.from_residual-in_err-vulnerabilities.result c.from_residual-in_err-vulnerabilities.ensures.1 in
    rw (p.1, p.2, sym c.first_or_old-reference.ensures, c.in_ok-bom_ref.ensures, c.in_ok-aggregate.ensures, (c.in_ok-assemblies.ensures assemblies refl), (c.in_ok-dependencies.ensures composed refl)) (fails_then _ _ _ (c.in_err-vulnerabilities.ensures vulnerabilities refl))

pub returns-in_err-signature : goal.returns-in_err-signature
unfolding rows_made rows list
returns-in_err-signature c =
    let p = err_from_is_err_and c.from_residual-in_err-signature.result c.from_residual-in_err-signature.ensures.1 in
    rw (p.1, p.2, sym c.first_or_old-reference.ensures, c.in_ok-bom_ref.ensures, c.in_ok-aggregate.ensures, (c.in_ok-assemblies.ensures assemblies refl), (c.in_ok-dependencies.ensures composed refl), (c.in_ok-vulnerabilities.ensures vulnerabilities refl)) (fails_then _ _ _ c.in_err-signature.ensures)

pub returns : goal.returns
unfolding rows_made rows list
returns c = rw (sym c.first_or_old-reference.ensures, c.in_ok-bom_ref.ensures, c.in_ok-aggregate.ensures, (c.in_ok-assemblies.ensures assemblies refl), (c.in_ok-dependencies.ensures composed refl), (c.in_ok-vulnerabilities.ensures vulnerabilities refl), c.in_ok-signature.ensures) refl
