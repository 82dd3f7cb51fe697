use Rattle.std.proofs.Common.{◌≡◌, map, take}
use Rattle.cdx_license.specs.Records.{choice_tree}
use Rattle.cdx_inventory.specs.Entries.{license_text}
use Rattle.cdx_inventory.proofs.entry.made.texts_of.Given as goal

abbrev pub invariant-loop-choice : goal.invariant-loop-choice
invariant-loop-choice l = l.texts ≡ map (λ x. license_text (choice_tree x)) (take l.choice-index l.choices)
