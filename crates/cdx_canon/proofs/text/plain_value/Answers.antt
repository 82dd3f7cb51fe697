use Rattle.std.proofs.Common.{sym, ap₂, codes, ◌∙◌}
use Rattle.cdx_canon.specs.Plain.{with_part}
use Rattle.cdx_canon.proofs.HeldBill.{spelled_none, spelled_as_is, spelled_anew}
use Rattle.cdx_canon.proofs.Values.{made_so}
use Rattle.cdx_canon.proofs.text.plain_value.Goals as goal

pub returns-in-None : goal.returns-in-None
returns-in-None c = c.in_ok-value.ensures ∙ spelled_none c.args.bill.now c.in-None.is

pub returns-then-not-names_no_tool : goal.returns-then-not-names_no_tool
returns-then-not-names_no_tool c =
    c.in_ok-value.ensures ∙ spelled_as_is c.args.bill.now c.in-Some.metadata c.in-Some.is (sym c.names_no_tool.ensures ∙ c.if-not-names_no_tool.true)

pub returns-in_ok-settled-in-Some : goal.returns-in_ok-settled-in-Some
returns-in_ok-settled-in-Some c =
    made_so c.set_part.result _ _ c.set_part.ensures
    (ap₂ (with_part (codes "metadata")) c.in_ok-settled-in-Some.ensures c.in_ok-value.ensures ∙ spelled_anew c.args.bill.now c.in-Some.metadata c.in-Some.is)
