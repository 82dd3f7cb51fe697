use Rattle.std.proofs.Common.{subst}
use Rattle.std.specs.Str.{IsUtf8}
use Rattle.cdx_whole.proofs.signatures.AlgorithmTellsKind.tell.Goals as goal

pub returns : goal.returns
returns c = subst IsUtf8 c.as_str-name.ensures c.as_str-name.utf8
