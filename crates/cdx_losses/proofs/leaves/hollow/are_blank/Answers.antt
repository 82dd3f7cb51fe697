use Rattle.std.proofs.Common.{sym, ◌∙◌, arith}
use Rattle.cdx_losses.proofs.Gone.{blank_next, blank_not, blank_all}
use Rattle.cdx_losses.proofs.leaves.hollow.are_blank.Goals as goal

pub returns-then-not-is_hollow_contact : goal.returns-then-not-is_hollow_contact
returns-then-not-is_hollow_contact c =
    blank_not c.args.contacts.now c.loop-contact.contact-index c.contact-item.result c.loop-contact-test.true c.contact-item.is (sym c.is_hollow_contact.ensures ∙ c.if-not-is_hollow_contact.true) c.loop-contact.invariant

pub loop-contact-preserved : goal.loop-contact-preserved
loop-contact-preserved c =
    blank_next c.args.contacts.now c.loop-contact.contact-index c.contact-item.result c.loop-contact-test.true c.contact-item.is (sym c.is_hollow_contact.ensures ∙ c.if-not-is_hollow_contact.false) c.loop-contact.invariant

pub returns : goal.returns
returns c = blank_all c.args.contacts.now c.loop-contact.contact-index (omega arith) c.loop-contact.invariant
