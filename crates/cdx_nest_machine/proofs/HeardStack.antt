-- What the machine promises of each event, promised of all events so far.
use Rattle.std.proofs.Common.{ℕ, List, [], ◌∷◌, Result}
use Rattle.cdx_events.specs.declared.name.OwnedName.{OwnedName}
use Rattle.cdx_events.specs.declared.name.OwnedAttribute.{OwnedAttribute}
use Rattle.cdx_events.specs.declared.name.Namespace.{Namespace}
use Rattle.cdx_events.specs.declared.event.XmlEvent.TheVariants.{StartElement}
use Rattle.cdx_models.specs.declared.bom.SpecVersion.{SpecVersion}
use Rattle.cdx_models.specs.declared.errors.XmlReadError.{XmlReadError}
use Rattle.cdx_schema.specs.Depth.{Depth}
use Rattle.cdx_schema.specs.Kinds.{Kind}
use Rattle.cdx_machine.specs.Machines.{Holding}
use Rattle.cdx_machine.specs.Heard.{Hears, OpensAs}
use Rattle.cdx_machine.proofs.Heard.{answers_open}
use Rattle.cdx_nest_machine.specs.Stacks.{StartsStack}

-- `start`: the answer by the soonest fault of the start alone
pub stack_opens : {M : Type 0} (holds : Holding M) (k : Kind) (v : SpecVersion) (p : ℕ) (d : Depth) (n : OwnedName) (a : List OwnedAttribute) (s : Namespace) (r : Result M XmlReadError) → StartsStack holds k v p d n a r
    → OpensAs (λ m es. Hears (λ o. holds m v p d o) es) v k p d (StartElement n a s ∷ []) r
stack_opens holds k v p d n a s r h = answers_open holds k v p d n a s r (h s)
