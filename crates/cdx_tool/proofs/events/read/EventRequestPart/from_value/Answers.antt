use Rattle.std.proofs.Common.{◌∙◌, ap, sym}
use Rattle.std.specs.Prelude.{string_bytes}
use Rattle.serde_json.specs.View.{view}
use Rattle.cdx_request.specs.EventReading.{event_of}
use Rattle.cdx_tool.proofs.LoneMember.{is_lone, is_text, no_text}
use Rattle.cdx_tool.proofs.events.read.EventRequestPart.from_value.Goals as goal

pub returns-in-None-as_str : goal.returns-in-None-as_str
returns-in-None-as_str c =
    let s = c.in-Some in
    no_text (string_bytes s.name.now) (view s.member.now) c.in-None-as_str.ensures ∙ ap event_of (sym (is_lone (view c.args.value.now) (string_bytes s.name.now) (view s.member.now) s.ensures))

pub returns-in-Some-as_str : goal.returns-in-Some-as_str
returns-in-Some-as_str c =
    let s = c.in-Some in
    rw (is_lone (view c.args.value.now) (string_bytes s.name.now) (view s.member.now) s.ensures, is_text (view s.member.now) c.in-Some-as_str.text.now c.in-Some-as_str.ensures, sym c.as_str-in-Some-as_str.ensures.value) c.read_lone_text.ensures
