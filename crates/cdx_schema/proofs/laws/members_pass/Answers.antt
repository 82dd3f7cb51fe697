use Rattle.cdx_schema.proofs.Passed.{passes_members, passes_put}
use Rattle.cdx_schema.proofs.laws.members_pass.Goals as goal

pub returns-clause-alike : goal.returns-clause-alike
returns-clause-alike c = passes_members

pub returns-clause-put : goal.returns-clause-put
returns-clause-put c = passes_put
