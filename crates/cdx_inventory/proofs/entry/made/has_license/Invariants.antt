use Rattle.std.proofs.Common.{◌≡◌, drop}
use Rattle.std.specs.List.{list_any}
use Rattle.std.specs.Str.{bytes_eq}
use Rattle.cdx_inventory.proofs.entry.made.has_license.Given as goal

-- none of the texts so far
abbrev pub invariant-loop-item : goal.invariant-loop-item
invariant-loop-item l = list_any (λ t. bytes_eq t l.license) (drop l.item-index l.item-items) ≡ list_any (λ t. bytes_eq t l.license) l.entry.licenses
