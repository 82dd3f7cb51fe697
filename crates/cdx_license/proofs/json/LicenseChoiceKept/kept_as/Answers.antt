use Rattle.std.proofs.Common.{◌∙◌}
use Rattle.cdx_models.specs.Trees.{license, expression, fields_of}
use Rattle.cdx_license.specs.Records.{license_tree, expression_tree}
use Rattle.cdx_license.proofs.Licensed.{choice_kept}
use Rattle.cdx_license.proofs.json.LicenseChoiceKept.kept_as.Goals as goal

pub returns-in_ok-kept_as-in-License : goal.returns-in_ok-kept_as-in-License
returns-in_ok-kept_as-in-License c = rw c.in-License.is (c.in_ok-kept_as-in-License.ensures ∙ choice_kept c.args.keeping.version c.args.keeping.label license (fields_of (license_tree c.in-License.held)))

pub returns-in_ok-kept_as-in-Expression : goal.returns-in_ok-kept_as-in-Expression
returns-in_ok-kept_as-in-Expression c = rw c.in-Expression.is (c.in_ok-kept_as-in-Expression.ensures ∙ choice_kept c.args.keeping.version c.args.keeping.label expression (fields_of (expression_tree c.in-Expression.held)))
