-- What an element's attributes begin.
use Rattle.std.specs.Prelude.{◌≡◌, ℕ, suc, ◌+◌, List, Result, Ok, Err}
use Rattle.cdx_events.specs.Nodes.{Nodes}
use Rattle.cdx_events.specs.declared.event.XmlEvent.{XmlEvent}
use Rattle.cdx_events.specs.declared.name.OwnedName.{OwnedName}
use Rattle.cdx_events.specs.Cursor.{Cursor}
use Rattle.cdx_models.specs.declared.errors.XmlReadError.{XmlReadError}
use Rattle.cdx_models.specs.declared.bom.SpecVersion.{SpecVersion}
use Rattle.cdx_models.specs.Trees.{Trees}
use Rattle.cdx_schema.specs.Depth.{Depth}
use Rattle.cdx_schema.specs.XmlReading.{Plan}
use Rattle.cdx_schema.specs.Results.{◌>>=◌}
use Rattle.cdx_leaf.specs.Each.{each_node, plan_step}
use Rattle.cdx_leaf.specs.Reading.{Stands, Reads, behind_end}
use Rattle.cdx_leaf.specs.Fault.{FailsAt}

-- The fields are those that the attributes give, for an element whose start stands at place p, and the plan and the depth are these.
abbrev pub Begins : {R : Type 0} → (R → Trees) → (R → Plan) → (R → Depth → Depth) → SpecVersion → (Depth → Depth) → Plan → ℕ → Result Trees XmlReadError → Result R XmlReadError → Type 0
Begins slots plan_of depth_of v depth plan p first (Ok r) = (first ≡ Ok (slots r)) × (plan_of r ≡ plan) × (depth_of r ≡ depth)
Begins slots plan_of depth_of v depth plan p first (Err e) = FailsAt e (p + 1) first

-- the fields after the nodes of an element of this name, whose start stands at place p
abbrev pub read_on : Result Trees XmlReadError → Plan → SpecVersion → Depth → List ℕ → ℕ → Nodes → Result Trees XmlReadError
read_on first plan v d el p nodes = first >>= λ ts. each_node (plan_step plan v d el) nodes (suc p) ts

-- What was begun is read to the element's end.
abbrev pub ReadsBegun : {R : Type 0} → (R → Trees) → (R → Plan) → (R → Depth → Depth) → Cursor → Cursor → SpecVersion → OwnedName → Result R XmlReadError → Result R XmlReadError → Type 0
ReadsBegun slots plan_of depth_of old new v n begun result =
    (d : Depth) (depth : Depth → Depth) (plan : Plan) (first : Result Trees XmlReadError) (p : ℕ) (nodes : Nodes) (rest : List XmlEvent) → Stands old n p nodes rest
    → Begins slots plan_of depth_of v depth plan p first begun
    → Reads slots old new (behind_end old nodes rest) (read_on first plan v (depth d) n.local_name p nodes) result
