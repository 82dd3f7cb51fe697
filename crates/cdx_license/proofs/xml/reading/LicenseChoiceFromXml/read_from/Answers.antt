use Rattle.std.proofs.Common.{sym, subst}
use Rattle.std.specs.Prelude.{codes}
use Rattle.std.proofs.lemmas.Result.{err_from_is_err_and}
use Rattle.cdx_license.specs.Records.{choice_tree}
use Rattle.cdx_schema.specs.Faults.{lacking}
use Rattle.cdx_leaf.specs.Fault.{Refused}
use Rattle.cdx_leaf.specs.Reading.{behind_end}
use Rattle.cdx_license.proofs.Identifiers.{choice_license, choice_expression, choice_none}
use Rattle.cdx_leaf.proofs.Loop.{refused_near}
use Rattle.cdx_leaf.proofs.Whole.{start_is, start_near}
use Rattle.cdx_license.proofs.xml.reading.LicenseChoiceFromXml.read_from.Goals as goal

pub returns-in_err-license : goal.returns-in_err-license
returns-in_err-license c = λ d ns p nodes rest st.
    let q = err_from_is_err_and c.from_residual.result c.from_residual.ensures.1 in
    rw (q.1, q.2, choice_license c.args.opened.now.version c.args.opened.now.element.now c.args.opened.now.attributes.now ns d p nodes c.if-is.ensures) (c.in_err-license.ensures d ns p nodes rest st)

pub returns-then-is : goal.returns-then-is
returns-then-is c = λ d ns p nodes rest st.
    rw (choice_license c.args.opened.now.version c.args.opened.now.element.now c.args.opened.now.attributes.now ns d p nodes c.if-is.ensures) (c.in_ok-license.ensures d ns p nodes rest st)

pub returns-in_err-expression : goal.returns-in_err-expression
returns-in_err-expression c = λ d ns p nodes rest st.
    let q = err_from_is_err_and c.from_residual-in_err-expression.result c.from_residual-in_err-expression.ensures.1 in
    rw (q.1, q.2, choice_expression c.args.opened.now.version c.args.opened.now.element.now c.args.opened.now.attributes.now ns d p nodes c.if-is.ensures c.if-is-2.ensures) (c.in_err-expression.ensures d ns p nodes rest st)

pub returns-then-is-2 : goal.returns-then-is-2
returns-then-is-2 c = λ d ns p nodes rest st.
    rw (choice_expression c.args.opened.now.version c.args.opened.now.element.now c.args.opened.now.attributes.now ns d p nodes c.if-is.ensures c.if-is-2.ensures) (c.in_ok-expression.ensures d ns p nodes rest st)

pub returns : goal.returns
returns c = λ d ns p nodes rest st.
    let near = start_near c.args.reader.now.place p st.place in
    let fault = lacking p c.args.opened.now.element.now.local_name (codes "license or expression") in
    refused_near choice_tree c.args.reader.now c.args.reader.now (behind_end c.args.reader.now nodes rest) _ c.refuse_missing.result fault
    (subst (λ x. Refused c.refuse_missing.result (lacking x c.args.opened.now.element.now.local_name (codes "license or expression"))) (start_is c.args.reader.now.place c.place.result p (sym c.place.ensures) st.place) c.refuse_missing.ensures) near.0 near.1 (choice_none c.args.opened.now.version c.args.opened.now.element.now c.args.opened.now.attributes.now ns d p nodes c.if-is.ensures c.if-is-2.ensures)
