use Rattle.cdx_bom.proofs.EmptyTexts.{reads_as_whole, misses_text}
use Rattle.cdx_bom.proofs.laws.reads_without_empty_texts.Goals as goal

pub returns-clause-whole : goal.returns-clause-whole
returns-clause-whole c = reads_as_whole

pub returns-clause-missing : goal.returns-clause-missing
returns-clause-missing c = misses_text
