use Rattle.std.proofs.Common.{subst}
use Rattle.std.specs.Str.{IsUtf8}
use Rattle.cdx_whole.proofs.leaves.UriTellsKind.tell.Goals as goal

pub returns : goal.returns
returns c = subst IsUtf8 c.as_str-text.ensures c.as_str-text.utf8
