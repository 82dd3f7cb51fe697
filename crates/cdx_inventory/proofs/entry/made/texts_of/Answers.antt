use Rattle.std.proofs.Common.{map, sym, ap, ◌∙◌, arith}
use Rattle.std.proofs.lemmas.List.{take_all}
use Rattle.cdx_license.specs.Records.{choice_tree}
use Rattle.cdx_inventory.specs.Entries.{license_text}
use Rattle.cdx_inventory.proofs.Made.{texts_mapped}
use Rattle.cdx_inventory.proofs.entry.made.texts_of.Goals as goal

pub returns : goal.returns
returns c = c.loop-choice.invariant ∙ (ap (map (λ x. license_text (choice_tree x))) (take_all c.loop-choice.choice-index c.args.choices.now (omega arith)) ∙ sym (texts_mapped c.args.choices.now))
