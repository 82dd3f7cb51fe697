use Rattle.std.proofs.Common.{Ok, Err, refl}
use Rattle.std.specs.Prelude.{codes}
use Rattle.std.proofs.lemmas.Result.{err_from_is_err_and}
use Rattle.cdx_models.specs.Trees.{commit}
use Rattle.cdx_schema.specs.Kinds.{a_record, commits}
use Rattle.cdx_schema.specs.Table.{list}
use Rattle.cdx_leaf.specs.declared.rule.Rule.TheVariants.{Lax}
use Rattle.cdx_leaf.proofs.Parts.{whole_list}
use Rattle.cdx_code.specs.Records.{commit_tree}
use Rattle.cdx_code.proofs.xml.reading.CommitsFromXml.read_from.Goals as goal

pub returns-in_err-read_items : goal.returns-in_err-read_items
unfolding list
returns-in_err-read_items c = λ d ns p nodes rest st.
    let q = err_from_is_err_and c.from_residual.result c.from_residual.ensures.1 in
    rw (q.1, q.2) (whole_list commit_tree commits (a_record commit) (λ d. d) (codes "commit") Lax c.args.opened.now.version c.args.opened.now.element.now c.args.opened.now.attributes.now c.args.reader.now c.read_items.new.reader (Err c.in_err-read_items.field-0.0) refl c.in_err-read_items.ensures d ns p nodes rest st)

pub returns : goal.returns
unfolding list
returns c = whole_list commit_tree commits (a_record commit) (λ d. d) (codes "commit") Lax c.args.opened.now.version c.args.opened.now.element.now c.args.opened.now.attributes.now c.args.reader.now c.read_items.new.reader (Ok c.in_ok-read_items.field-0) refl c.in_ok-read_items.ensures
