use Rattle.std.proofs.Common.{◌≡◌, ◌++◌}
use Rattle.std.specs.Prelude.{string_bytes, encode_utf8_all}
use Rattle.cdx_models.specs.Path.{escaped}
use Rattle.cdx_models.proofs.path.push_escaped.Given as goal

-- the characters so far were written, escaped
abbrev pub invariant-loop-ch : goal.invariant-loop-ch
invariant-loop-ch l = string_bytes l.text ≡ string_bytes l.initial.text ++ escaped (encode_utf8_all l.yielded)
