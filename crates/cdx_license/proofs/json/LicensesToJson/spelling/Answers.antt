use Rattle.std.proofs.Common.{refl}
use Rattle.cdx_schema.specs.Kinds.{licenses}
use Rattle.cdx_schema.specs.Table.{list}
use Rattle.cdx_license.proofs.json.LicensesToJson.spelling.Goals as goal

pub returns : goal.returns
unfolding list
returns c = c.list_spelling.ensures licenses refl
