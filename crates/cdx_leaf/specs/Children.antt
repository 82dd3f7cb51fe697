-- What a record makes of a child element.
use Rattle.std.specs.Prelude.{◌≡◌, ℕ, ◌≤◌, List, Option, Some, None, Result, Ok, Err, if◌then◌else◌}
use Rattle.cdx_events.specs.declared.name.OwnedName.{OwnedName}
use Rattle.cdx_events.specs.declared.name.OwnedAttribute.{OwnedAttribute}
use Rattle.cdx_events.specs.declared.name.Namespace.{Namespace}
use Rattle.cdx_events.specs.declared.event.XmlEvent.{XmlEvent}
use Rattle.cdx_events.specs.Nodes.{Nodes, element}
use Rattle.cdx_events.specs.Cursor.{Cursor}
use Rattle.cdx_models.specs.declared.errors.XmlReadError.{XmlReadError}
use Rattle.cdx_models.specs.declared.bom.SpecVersion.{SpecVersion}
use Rattle.cdx_models.specs.Trees.{Tree, Trees, field}
use Rattle.cdx_schema.specs.Results.{◌>>=◌}
use Rattle.cdx_schema.specs.Kinds.{Kind}
use Rattle.cdx_schema.specs.Depth.{Depth}
use Rattle.cdx_schema.specs.XmlReading.{Plan, Child, find_child, stored, is_second, appended, xread}
use Rattle.cdx_leaf.specs.declared.taken.Taken.{Taken}
use Rattle.cdx_leaf.specs.declared.taken.Taken.TheVariants as answers
use Rattle.cdx_leaf.specs.Fault.{FailsAt}
use Rattle.cdx_leaf.specs.Reading.{Stands, behind_end}

-- No child of the plan has the name; it is a second one where one may stand; or it is read, and these are the fields after it.
pub data Met : Type 0 where
  nothing second : Met
  found : Result Trees XmlReadError → Met

abbrev pub meet : Option Child → (Kind → Result Tree XmlReadError) → Trees → Met
meet None read ts = nothing
meet (Some c) read ts = if is_second c.place (field c.field ts) then second else found (read c.kind >>= λ t. Ok (stored c.place c.field t ts))

-- what a plan makes of a child element at place p
abbrev pub met : Plan → SpecVersion → Depth → OwnedName → List OwnedAttribute → Namespace → ℕ → Nodes → Trees → Met
met plan v d n a ns p nodes ts = meet (find_child v n.local_name plan.children) (λ k. xread (element n a ns nodes) v k p d) ts

-- A refused child.
pub record RefusesChild (old new : Cursor) (e : XmlReadError) (child : Met) : Type 0 where
  pub read : Result Trees XmlReadError
  pub met_is : child ≡ found read
  pub grown : old.place ≤ new.place
  pub fails : FailsAt e new.place read

-- Read; or else nothing was read, since no child has the name or since it is a second one.
abbrev pub ReadsChild : Trees → Trees → Cursor → Cursor → Cursor → Met → Result Taken XmlReadError → Type 0
ReadsChild before now old new end child (Ok answers.Read) = (child ≡ found (Ok now)) × (new ≡ end)
ReadsChild before now old new end child (Ok answers.Unknown) = (child ≡ nothing) × (now ≡ before) × (new ≡ old)
ReadsChild before now old new end child (Ok answers.Second) = (child ≡ second) × (now ≡ before) × (new ≡ old)
ReadsChild before now old new end child (Err e) = RefusesChild old new e child

abbrev pub TakesChild : Trees → Trees → Cursor → Cursor → SpecVersion → Plan → (Depth → Depth) → OwnedName → List OwnedAttribute → Result Taken XmlReadError → Type 0
TakesChild before now old new v plan depth n a result =
    (d : Depth) (ns : Namespace) (p : ℕ) (nodes : Nodes) (rest : List XmlEvent) → Stands old n p nodes rest → ReadsChild before now old new (behind_end old nodes rest) (met plan v (depth d) n a ns p nodes before) result

-- A child was read, and what it denotes is in its field now. The answer is always Read.
abbrev pub Took : Tree → Cursor → Cursor → Cursor → Result Tree XmlReadError → Result Taken XmlReadError → Type 0
Took now old new end denoted (Ok b) = (b ≡ answers.Read) × (denoted ≡ Ok now) × (new ≡ end)
Took now old new end denoted (Err e) = (old.place ≤ new.place) × FailsAt e new.place denoted

abbrev pub TakesOne : Tree → Cursor → Cursor → SpecVersion → Kind → (Depth → Depth) → OwnedName → List OwnedAttribute → Result Taken XmlReadError → Type 0
TakesOne now old new v K depth n a result =
    (d : Depth) (ns : Namespace) (p : ℕ) (nodes : Nodes) (rest : List XmlEvent) → Stands old n p nodes rest → Took now old new (behind_end old nodes rest) (xread (element n a ns nodes) v K p (depth d)) result

-- The same, where the field grows by what the child denotes.
abbrev pub TakesMore : Tree → Tree → Cursor → Cursor → SpecVersion → Kind → (Depth → Depth) → OwnedName → List OwnedAttribute → Result Taken XmlReadError → Type 0
TakesMore before now old new v K depth n a result =
    (d : Depth) (ns : Namespace) (p : ℕ) (nodes : Nodes) (rest : List XmlEvent) → Stands old n p nodes rest → Took now old new (behind_end old nodes rest) (xread (element n a ns nodes) v K p (depth d) >>= λ t. Ok (appended before t)) result
