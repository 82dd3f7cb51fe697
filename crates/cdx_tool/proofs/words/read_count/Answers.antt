use Rattle.std.proofs.Common.{sym, ap, ◌∙◌}
use Rattle.cdx_tool.specs.Words.{is_led}
use Rattle.cdx_tool.proofs.Counting.{found, none_led, counts}
use Rattle.cdx_tool.proofs.words.read_count.Goals as goal

pub returns-then-not-is_led : goal.returns-then-not-is_led
returns-then-not-is_led c = none_led c.args.word.now (ap is_led (sym c.as_bytes.ensures.value) ∙ sym c.is_led.ensures ∙ c.if-not-is_led.true)

pub returns-in-Ok : goal.returns-in-Ok
returns-in-Ok c =
    let led = ap is_led (sym c.as_bytes.ensures.value) ∙ sym c.is_led.ensures ∙ c.if-not-is_led.false in
    c.if_count.ensures ∙ ap found (sym c.in-Ok.is) ∙ counts c.args.word.now c.parse.result led c.parse.ensures.value.0

pub returns-in-Err : goal.returns-in-Err
returns-in-Err c =
    let led = ap is_led (sym c.as_bytes.ensures.value) ∙ sym c.is_led.ensures ∙ c.if-not-is_led.false in
    ap found (sym c.in-Err.is) ∙ counts c.args.word.now c.parse.result led c.parse.ensures.value.0
