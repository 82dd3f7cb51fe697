use Rattle.cdx_schema.proofs.Groups.{reads_list, list_one_more, reads_record, record_one_more}
use Rattle.cdx_schema.proofs.laws.one_node_more.Goals as goal

pub returns-clause-list : goal.returns-clause-list
returns-clause-list c = reads_list

pub returns-clause-list_more : goal.returns-clause-list_more
returns-clause-list_more c = list_one_more

pub returns-clause-record_whole : goal.returns-clause-record_whole
returns-clause-record_whole c = reads_record

pub returns-clause-record_more : goal.returns-clause-record_more
returns-clause-record_more c = record_one_more
