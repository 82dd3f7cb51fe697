use Rattle.cdx_schema.proofs.Groups.{reads_rows, reads_groups, spells_rows, spells_groups, sets_members, writes_rows, writes_groups, keeps_rows, keeps_groups}
use Rattle.cdx_schema.proofs.laws.rows_in_groups.Goals as goal

pub returns-clause-read_rows : goal.returns-clause-read_rows
returns-clause-read_rows c = reads_rows

pub returns-clause-read_groups : goal.returns-clause-read_groups
returns-clause-read_groups c = reads_groups

pub returns-clause-spelled_rows : goal.returns-clause-spelled_rows
returns-clause-spelled_rows c = spells_rows

pub returns-clause-spelled_groups : goal.returns-clause-spelled_groups
returns-clause-spelled_groups c = spells_groups

pub returns-clause-members : goal.returns-clause-members
returns-clause-members c = sets_members

pub returns-clause-written_rows : goal.returns-clause-written_rows
returns-clause-written_rows c = writes_rows

pub returns-clause-written_groups : goal.returns-clause-written_groups
returns-clause-written_groups c = writes_groups

pub returns-clause-kept_rows : goal.returns-clause-kept_rows
returns-clause-kept_rows c = keeps_rows

pub returns-clause-kept_groups : goal.returns-clause-kept_groups
returns-clause-kept_groups c = keeps_groups
